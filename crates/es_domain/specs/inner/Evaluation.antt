-- When the assignments of fields may be evaluated, and what their evaluation answers.
use Rattle.std.specs.Prelude.{◌≡◌, IsTrue, List, [], ◌∷◌, ◌++◌, Option, None, Some, Result, Ok, Err}
use Rattle.es_model.specs.Rising.{IsRising, comes_last, item_of}
use Rattle.es_model.specs.Values.{Name, Record, are_of_kinds}
use Rattle.es_model.specs.declared.expr.Expr.{Expr}
use Rattle.es_model.specs.declared.value.Kind.{Kind}
use Rattle.es_model.specs.declared.value.Value.{Value}
use Rattle.es_expr.specs.Outcome.{Outcome, is, over}
use Rattle.es_expr.specs.Sound.{IsCheckedAs}
use Rattle.es_domain.specs.declared.aggregate.TriggerFault.{TriggerFault}
use Rattle.es_domain.specs.declared.aggregate.TriggerFault.TheVariants.{Overflow, NoMemory}

-- expressions have exactly these names, each with its kind
abbrev pub AreChecked : List (Name × Kind) → List (Name × Expr) → Record → Type 0
AreChecked [] [] env = Unit {0}
AreChecked [] (x ∷ xs) env = ⊥
AreChecked (w ∷ wanted) [] env = ⊥
AreChecked (w ∷ wanted) (x ∷ xs) env = (x.0 ≡ w.0) × IsCheckedAs w.1 x.1 env × AreChecked wanted xs env

abbrev pub CanBeChecked : List (Name × Expr) → Record → Type 0
CanBeChecked assigns env = (wanted : List (Name × Kind)) × AreChecked wanted assigns env

-- where a field is assigned to, the expression is of its kind
abbrev pub AreAssignable : List (Name × Kind) → List (Name × Expr) → Record → Type 0
AreAssignable [] assigns env = Unit {0}
AreAssignable (w ∷ wanted) assigns env = ((e : Expr) → item_of assigns w.0 ≡ Some e → IsCheckedAs w.1 e env) × AreAssignable wanted assigns env

-- fields of some kinds may be assigned to
abbrev pub CanBeAssigned : Record → List (Name × Expr) → Record → Type 0
CanBeAssigned fields assigns env = (wanted : List (Name × Kind)) × IsTrue (are_of_kinds fields wanted) × AreAssignable wanted assigns env

-- rising names that come after those of a record
abbrev pub MayFollow : {A : Type 0} → Record → List (Name × A) → Type 0
MayFollow fields [] = Unit {0}
MayFollow fields (x ∷ xs) = IsTrue (comes_last fields x.0) × IsRising (x ∷ xs)

-- some values behind others
abbrev pub behind : Record → Option Record → Option Record
behind front None = None
behind front (Some r) = Some (front ++ r)

-- the answer is this value, or that a limit is passed, or that there was no memory
abbrev pub GivesValue : Outcome → Result Value TriggerFault → Type 0
GivesValue m (Ok v) = m ≡ is v
GivesValue m (Err Overflow) = m ≡ over
GivesValue m (Err NoMemory) = Unit {0}

-- the same of values
abbrev pub GivesValues : Option Record → Result Record TriggerFault → Type 0
GivesValues values (Ok r) = values ≡ Some r
GivesValues values (Err Overflow) = values ≡ None
GivesValues values (Err NoMemory) = Unit {0}

-- the same where they were added
abbrev pub AddsValues : Option Record → Record → Result (Unit {0}) TriggerFault → Type 0
AddsValues values new (Ok done) = values ≡ Some new
AddsValues values new (Err Overflow) = values ≡ None
AddsValues values new (Err NoMemory) = Unit {0}
