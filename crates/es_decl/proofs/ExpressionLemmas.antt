-- Laws of expressions as trees.
use Rattle.std.proofs.Common.{◌≡◌, ◌∙◌, ◌≤◌, ◌+◌, ◌-◌, ℕ, List, [], ◌∷◌, length, refl, sym, ap, subst, arith, Vec, BTreeMap, String, Global}
use Rattle.serde_json.specs.Data.{Data}
use Rattle.serde_json.specs.View.{view, items_view, members_view}
use Rattle.serde_json.specs.declared.value.Value.{Value, Array, Object}
use Rattle.serde_json.proofs.Views.{Entry, view-Array, view-Object}
use Rattle.es_model.specs.Values.{Name}
use Rattle.es_model.specs.declared.declaration.Code.TheVariants as code
use Rattle.es_model.specs.declared.expr.Expr.{Expr}
use Rattle.es_model.specs.declared.operators.Binary.{Binary}
use Rattle.es_model.specs.declared.operators.Operator.TheVariants.{One, Two, Choice}
use Rattle.es_model.specs.declared.operators.Unary.{Unary}
use Rattle.es_decl.specs.Expressions.{folded, only, operands, each, operation, children, greatest, total}
use Rattle.es_decl.specs.Readings.{Reading, here}

-- an object that has not one member
not-only : {A : Type 0} (odd : A) (node : Name → Data → List A → A) (es : List Entry) → (length es ≡ 1 → ⊥) → only odd node (members_view es) ≡ odd
not-only odd node [] none = refl
not-only odd node (e ∷ []) none = absurd (none refl)
not-only odd node (e ∷ f ∷ es) none = refl

pub folded-none : {A : Type 0} (odd : A) (node : Name → Data → List A → A) (tree : Value) (m : BTreeMap (String Global) Value) → tree ≡ Object m → (length m.entries ≡ 1 → ⊥) → folded odd node (view tree) ≡ odd
folded-none odd node tree m is none = ap (λ v. folded odd node (view v)) is ∙ ap (folded odd node) (view-Object m) ∙ not-only odd node m.entries none

-- the operands in an array
pub in-array : {A : Type 0} (odd : A) (node : Name → Data → List A → A) (tree : Value) (v : Vec Value Global) (vs : List Value) → tree ≡ Array v → vs ≡ v.items → operands odd node (view tree) ≡ each odd node (items_view vs)
in-array odd node tree v vs is same = ap (λ t. operands odd node (view t)) is ∙ ap (operands odd node) (view-Array v) ∙ ap (λ us. each odd node (items_view us)) (sym same)

module _ (node : Name → Data → List (Reading Expr) → Reading Expr) (w : Name) where
  pub not-one : (odd : Reading Expr) (o : Unary) (vs : List Value) → (length vs ≡ 1 → ⊥) → operation (One o) w (each odd node (items_view vs)) ≡ here code.Form
  not-one odd o [] none = refl
  not-one odd o (t ∷ []) none = absurd (none refl)
  not-one odd o (t ∷ u ∷ vs) none = refl

  pub not-two : (odd : Reading Expr) (o : Binary) (vs : List Value) → (length vs ≡ 2 → ⊥) → operation (Two o) w (each odd node (items_view vs)) ≡ here code.Form
  not-two odd o [] none = refl
  not-two odd o (t ∷ []) none = refl
  not-two odd o (t ∷ u ∷ []) none = absurd (none refl)
  not-two odd o (t ∷ u ∷ v ∷ vs) none = refl

  pub not-three : (odd : Reading Expr) (vs : List Value) → (length vs ≡ 3 → ⊥) → operation Choice w (each odd node (items_view vs)) ≡ here code.Form
  not-three odd [] none = refl
  not-three odd (t ∷ []) none = refl
  not-three odd (t ∷ u ∷ []) none = refl
  not-three odd (t ∷ u ∷ v ∷ []) none = absurd (none refl)
  not-three odd (t ∷ u ∷ v ∷ x ∷ vs) none = refl

module _ {A : Type 0} (odd : A) (node : Name → Data → List A → A) where
  pub no-child : (o : Unary) (vs : List Value) → (length vs ≡ 1 → ⊥) → children (One o) (each odd node (items_view vs)) ≡ []
  no-child o [] none = refl
  no-child o (t ∷ []) none = absurd (none refl)
  no-child o (t ∷ u ∷ vs) none = refl

  pub no-children : (o : Binary) (vs : List Value) → (length vs ≡ 2 → ⊥) → children (Two o) (each odd node (items_view vs)) ≡ []
  no-children o [] none = refl
  no-children o (t ∷ []) none = refl
  no-children o (t ∷ u ∷ []) none = absurd (none refl)
  no-children o (t ∷ u ∷ v ∷ vs) none = refl

  pub no-three : (vs : List Value) → (length vs ≡ 3 → ⊥) → children Choice (each odd node (items_view vs)) ≡ []
  no-three [] none = refl
  no-three (t ∷ []) none = refl
  no-three (t ∷ u ∷ []) none = refl
  no-three (t ∷ u ∷ v ∷ []) none = absurd (none refl)
  no-three (t ∷ u ∷ v ∷ x ∷ vs) none = refl

pub leaf-spent : (d n levels budget : ℕ) → d ≡ 1 → n ≡ 1 → (levels ≡ 0 → ⊥) → (budget ≡ 0 → ⊥) → (d ≤ levels) × (budget - 1 + n ≡ budget)
leaf-spent d n levels budget one alone some left = (omega (arith, one, some), omega (arith, alone, left))

pub none-spent : (ds ns : List ℕ) (levels budget : ℕ) → ds ≡ [] → ns ≡ [] → (greatest ds ≤ levels) × (budget + total ns ≡ budget)
none-spent ds ns levels budget none nothing = (subst (λ xs. greatest xs ≤ levels) (sym none) (omega arith), ap (λ xs. budget + total xs) nothing ∙ omega arith)
