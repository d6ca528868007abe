-- What a command makes of an aggregate is what its new events make of it, and so is what a rule leaves.
use Rattle.std.proofs.Common.{ℤ, ℕ, ◌≡◌, ◌∙◌, ◌+◌, ◌==◌, Bool, true, false, List, [], ◌∷◌, ◌++◌, Option, None, Some, Result, Ok, Err, IfSome, refl, sym, ap, subst, if◌then◌else◌, append-nil}
use Rattle.std.specs.Str.{bytes_eq}
use Rattle.std.proofs.lemmas.Slice.Eq.{bytes_eq-Decides}
use Rattle.es_model.specs.Declaration.{class_named, is_creating}
use Rattle.es_model.specs.Names.{topic_of}
use Rattle.es_model.specs.Values.{Name, Id, Record}
use Rattle.es_model.specs.declared.declaration.Class.{Class}
use Rattle.es_model.specs.declared.declaration.CommandDef.{CommandDef}
use Rattle.es_model.specs.declared.declaration.EventClass.{EventClass}
use Rattle.es_model.specs.declared.declaration.Otherwise.{Otherwise}
use Rattle.es_model.specs.declared.declaration.Otherwise.TheVariants.{Skip, Refuse}
use Rattle.es_model.specs.declared.declaration.Rule.{Rule}
use Rattle.es_model.specs.declared.declaration.System.{System}
use Rattle.es_model.specs.declared.declaration.Trigger.{Trigger}
use Rattle.es_model.specs.declared.domain_event.DomainEvent.{DomainEvent}
use Rattle.es_domain.specs.Decision.{Decided, Notice, asked, after_asked, after_change, after_effect, after_reading, joined, rules_from}
use Rattle.es_domain.specs.Effect.{misplaced, seen, guarded, opened_with, opened, fired_with, fired, all_fired, triggered, effect_of, unless_refused, effect_declared, command_named, effect, overflow_code}
use Rattle.es_domain.specs.Fold.{advanced, and_then, begun, fold_from, stepped, stepped_by, later_in, changed_to, fields_then, values_of}
use Rattle.es_domain.specs.Readings.{Reading, Readings, folded, unreadable}
use Rattle.es_domain.specs.Steps.{first_event, next_event, collected}
use Rattle.es_domain.specs.declared.aggregate.Aggregate.{Aggregate}
use Rattle.es_domain.specs.declared.aggregate.ApplyFault.{ApplyFault}
use Rattle.es_domain.specs.declared.aggregate.ApplyFault.TheVariants.{OriginatorId, OriginatorVersion}
use Rattle.es_domain.specs.declared.command.Command.{Command}
use Rattle.es_domain.specs.declared.command.Decision.TheVariants as decision
use Rattle.es_domain.specs.declared.effect.Effect.{Effect}
use Rattle.es_domain.specs.declared.effect.Effect.TheVariants.{Changed, Refused}
use Rattle.es_domain.specs.declared.find.FindFault.TheVariants.{Unreadable}
use Rattle.es_domain.specs.declared.policy.Asked.{Asked}
use Rattle.es_domain.specs.declared.policy.Asked.TheVariants.{Nothing, Overflows, Asks}
use Rattle.es_domain.proofs.NextLemmas.{IsMade, made-by, pended, unless-changed, changed-of}

-- events of an originator
abbrev pub AreOf : Id → List DomainEvent → Type 0
AreOf id [] = Unit {0}
AreOf id (e ∷ es) = (e.originator_id ≡ id) × AreOf id es

of-push : (id : Id) (es : List DomainEvent) (e : DomainEvent) → AreOf id es → e.originator_id ≡ id → AreOf id (es ++ e ∷ [])
of-push id [] e are is = (is, tt)
of-push id (x ∷ es) e are is = (are.0, of-push id es e are.1 is)

-- an aggregate as a decision reads it: of the id asked for, with nothing pending
abbrev pub IsIdle : Id → Aggregate → Type 0
IsIdle id a = (a.id ≡ id) × (a.pending ≡ [])

-- each aggregate that is read is one that a decision may have
abbrev pub AreIdle : Readings → Type 0
AreIdle readings = (id : Id) (a : Aggregate) → readings id ≡ folded (Some a) → IsIdle id a

-- a decision that gives no events
abbrev pub IsStop : Decided → Type 0
IsStop (Ok (decision.Events es)) = ⊥
IsStop (Ok (decision.Refused code rule)) = Unit {0}
IsStop (Err fault) = Unit {0}

module _ (sys : System) where
  -- ---- an aggregate's pending events change no step

  abbrev collected-by : Result Aggregate ApplyFault → Result Aggregate ApplyFault
  collected-by (Ok a) = Ok (collected a)
  collected-by (Err fault) = Err fault

  steps-by : (a : Aggregate) (o : Option EventClass) (e : DomainEvent) → stepped_by (collected a) o e ≡ collected-by (stepped_by a o e)
  steps-by a None e = refl
  steps-by a (Some k) e = by-tests (bytes_eq e.originator_id a.id) (e.originator_version == a.version + 1) (fields_then a k e.fields e.timestamp)
    where
      by-tests : (p q : Bool) (r : Option Record)
          → (if p then (if q then changed_to (collected a) e r else Err (OriginatorVersion (a.version + 1) e.originator_version)) else Err OriginatorId)
          ≡ collected-by (if p then (if q then changed_to a e r else Err (OriginatorVersion (a.version + 1) e.originator_version)) else Err OriginatorId)
      by-tests true true None = refl
      by-tests true true (Some fields) = refl
      by-tests true false r = refl
      by-tests false q r = refl

  steps-collected : (a : Aggregate) (e : DomainEvent) → stepped sys (collected a) e ≡ collected-by (stepped sys a e)
  steps-collected a e = steps-by a (later_in (class_named sys.classes a.class) e.topic) e

  -- one event more
  fold-step : (es : List DomainEvent) (now : Option Aggregate) (e : DomainEvent) (r : Result Aggregate ApplyFault) → ((a : Aggregate) → fold_from sys (Some a) es ≡ Ok now → fold_from sys (Some a) (es ++ e ∷ []) ≡ and_then (advanced sys now e) (λ b. Ok (Some b)))
      → and_then r (λ a. fold_from sys (Some a) es) ≡ Ok now → and_then r (λ a. fold_from sys (Some a) (es ++ e ∷ [])) ≡ and_then (advanced sys now e) (λ a. Ok (Some a))
  fold-step es now e (Ok a) rest h = rest a h
  fold-step es now e (Err f) rest h = absurd (cc h)

  fold-then : (found : Option Aggregate) (es : List DomainEvent) (now : Option Aggregate) (e : DomainEvent) → fold_from sys found es ≡ Ok now → fold_from sys found (es ++ e ∷ []) ≡ and_then (advanced sys now e) (λ a. Ok (Some a))
  fold-then found [] now e is = let same : found ≡ now = cc in ap (λ o. and_then (advanced sys o e) (λ a. Ok (Some a))) same
  fold-then found (x ∷ es) now e is = fold-step es now e (advanced sys found x) (λ a. fold-then (Some a) es now e) is

  pushed : (found before : Option Aggregate) (es : List DomainEvent) (e : DomainEvent) (x : Aggregate) → fold_from sys found es ≡ Ok before → advanced sys before e ≡ Ok x → fold_from sys found (es ++ e ∷ []) ≡ Ok (Some x)
  pushed found before es e x folds makes = fold-then found es before e folds ∙ ap (λ r. and_then r (λ a. Ok (Some a))) makes

  -- ---- what triggers add

  -- an aggregate of an id is what its new events make of what was found
  pub record Refolds (found : Option Aggregate) (id : Id) (b : Aggregate) : Type 0 where
    pub id_is : b.id ≡ id
    pub of : AreOf id b.pending
    pub folds : fold_from sys found b.pending ≡ Ok (Some (collected b))

  fired-refolds : (found : Option Aggregate) (topic : Name) (at : ℤ) (id : Id) (a : Aggregate) (o : Option Record) (b : Aggregate) → Refolds found id a → fired_with sys topic at a o ≡ Some b → Refolds found id b
  fired-refolds found topic at id a None b before is = absurd (cc is)
  fired-refolds found topic at id a (Some fields) b before is =
      let e = next_event a topic fields at in
      let p = pended e (stepped sys a e) b is in
      let x = p.0 in
      let m : IsMade (Some a) e x = made-by sys (Some a) e x p.1 in
      let events : x.pending ≡ a.pending = m.pending in
      let makes : advanced sys (Some (collected a)) e ≡ Ok (collected x) = steps-collected a e ∙ ap collected-by p.1 in
      subst (Refolds found id) p.2 (record {
        id_is = m.id_is ∙ before.id_is;
        of = of-push id x.pending e (subst (AreOf id) (sym events) before.of) before.id_is;
        folds = ap (λ es. fold_from sys found (es ++ e ∷ [])) events ∙ pushed found (Some (collected a)) a.pending e (collected x) before.folds makes;
      })

  idle-is : (x : Aggregate) → x.pending ≡ [] → x ≡ collected x
  idle-is x is = λ i. record x { pending = is i }

  opened-refolds : (c : Command) (at : ℤ) (o : Option Record) (b : Aggregate) → opened_with sys c at o ≡ Some b → Refolds None c.id b
  opened-refolds c at None b is = absurd (cc is)
  opened-refolds c at (Some fields) b is =
      let e = first_event sys c.class c.id fields at in
      let p = pended e (begun sys e) b is in
      let x = p.0 in
      let m : IsMade None e x = made-by sys None e x p.1 in
      let events : x.pending ≡ [] = m.pending in
      let makes : advanced sys None e ≡ Ok (collected x) = p.1 ∙ ap Ok (idle-is x events) in
      subst (Refolds None c.id) p.2 (record {
        id_is = m.id_is;
        of = of-push c.id x.pending e (subst (AreOf c.id) (sym events) tt) refl;
        folds = ap (λ es. fold_from sys None (es ++ e ∷ [])) events ∙ pushed None None [] e (collected x) refl makes;
      })

  module _ (k : Class) (c : Command) (at : ℤ) where
    all-refold : (found : Option Aggregate) (ts : List Trigger) (o : Option Aggregate) (b : Aggregate) → IfSome o (Refolds found c.id) → all_fired sys k c at ts o ≡ Some b → Refolds found c.id b
    all-refold found [] None b before is = absurd (cc is)
    all-refold found [] (Some a) b before is = let same : a ≡ b = cc in subst (Refolds found c.id) same before
    all-refold found (t ∷ ts) None b before is = absurd (cc is)
    all-refold found (t ∷ ts) (Some a) b before is =
        all-refold found ts (fired sys k c at t a) b (fired-some (fired sys k c at t a) (λ x. fired-refolds found (topic_of k.name t.event) at c.id a (values_of t.fields (seen c at (Some a))) x before)) is
      where
        fired-some : (o : Option Aggregate) → ((x : Aggregate) → o ≡ Some x → Refolds found c.id x) → IfSome o (Refolds found c.id)
        fired-some None all = tt
        fired-some (Some x) all = all x refl

    opened-some : (o : Option Aggregate) → ((x : Aggregate) → o ≡ Some x → Refolds None c.id x) → IfSome o (Refolds None c.id)
    opened-some None all = tt
    opened-some (Some x) all = all x refl

    -- an aggregate that was found
    idle-refolds : (a : Aggregate) → IsIdle c.id a → Refolds (Some a) c.id a
    idle-refolds a idle = record {
      id_is = idle.0;
      of = subst (AreOf c.id) (sym idle.1) tt;
      folds = ap (fold_from sys (Some a)) idle.1 ∙ ap (λ x. Ok (Some x)) (idle-is a idle.1);
    }

    triggered-refolds : (ts : List Trigger) (found : Option Aggregate) (b : Aggregate) → IfSome found (IsIdle c.id) → triggered sys k c at ts found ≡ Some b → Refolds found c.id b
    triggered-refolds ts (Some a) b idle is = all-refold (Some a) ts (Some a) b (idle-refolds a idle) is
    triggered-refolds [] None b idle is = absurd (cc is)
    triggered-refolds (t ∷ ts) None b idle is = all-refold None ts (opened sys c at t) b (opened-some (opened sys c at t) (opened-refolds c at (values_of t.fields (seen c at None)))) is

  declared-refolds : (o : Option (Class × CommandDef)) (c : Command) (at : ℤ) (found : Option Aggregate) (b : Aggregate) → IfSome found (IsIdle c.id) → effect_declared sys o c at found ≡ Changed b → Refolds found c.id b
  declared-refolds None c at found b idle is = absurd (cc is)
  declared-refolds (Some p) c at found b idle is =
      let ts = p.1.triggers in
      let run = effect_of (triggered sys p.0 c at ts found) in
      let last = unless-changed (misplaced (is_creating p.0 ts) p.0 found) (unless_refused (guarded p.1.guards (seen c at found)) run) b is in
      triggered-refolds p.0 c at ts found b idle (changed-of (triggered sys p.0 c at ts found) b (unless-changed (guarded p.1.guards (seen c at found)) run b last))

  -- what a command makes of an aggregate, or of none, is what its new events make of it
  effect-refolds : (c : Command) (at : ℤ) (found : Option Aggregate) (b : Aggregate) → IfSome found (IsIdle c.id) → effect sys c at found ≡ Changed b → Refolds found c.id b
  effect-refolds c at found b = declared-refolds (command_named sys c.class c.name) c at found b

  -- ---- a rule

  -- the new events are of one aggregate, and what is read of it afterwards is what they make of it
  pub record IsChange (readings : Readings) (more : List DomainEvent) (now : Readings) : Type 0 where
    pub id : Id
    pub found : Option Aggregate
    pub aggregate : Aggregate
    pub read : readings id ≡ folded found
    pub id_is : aggregate.id ≡ id
    pub of : AreOf id more
    pub folds : fold_from sys found more ≡ Ok (Some (collected aggregate))
    pub now_is : now ≡ after_change readings aggregate

  -- what follows of a rule, by what it decides alone and by what it and some more rules decide
  pub record Follows (X : Type 0) (readings : Readings) (rest : Readings → Decided) (alone whole : Decided) : Type 0 where
    pub goes : alone ≡ Ok (decision.Events []) → whole ≡ rest readings → X
    pub changes : (more : List DomainEvent) (now : Readings) → alone ≡ Ok (decision.Events more) → IsChange readings more now → whole ≡ joined more (rest now) → X
    pub stops : (d : Decided) → IsStop d → alone ≡ d → whole ≡ d → X

  module _ (X : Type 0) (at : ℤ) (otherwise : Otherwise) (rule : ℕ) (readings : Readings) (idle : AreIdle readings) (rest : Readings → Decided) where
    abbrev last : Readings → Decided
    last r = Ok (decision.Events [])

    by-refused : (o : Otherwise) (code : Name) → Follows X readings rest (after_effect o rule readings (Refused code) last) (after_effect o rule readings (Refused code) rest) → X
    by-refused Skip code f = f.goes refl refl
    by-refused Refuse code f = f.stops (Ok (decision.Refused code rule)) tt refl refl

    found-idle : (c : Command) (found : Option Aggregate) → readings c.id ≡ folded found → IfSome found (IsIdle c.id)
    found-idle c None is = tt
    found-idle c (Some a) is = idle c.id a is

    by-effect : (c : Command) (found : Option Aggregate) (e : Effect) → readings c.id ≡ folded found → effect sys c at found ≡ e → Follows X readings rest (after_effect otherwise rule readings e last) (after_effect otherwise rule readings e rest) → X
    by-effect c found (Changed b) read is f =
        let r = effect-refolds c at found b (found-idle c found read) is in
        f.changes b.pending (after_change readings b) (ap (λ es. Ok (decision.Events es)) (append-nil b.pending))
        (record { id = c.id; found = found; aggregate = b; read = read; id_is = r.id_is; of = r.of; folds = r.folds; now_is = refl }) refl
    by-effect c found (Refused code) read is f = by-refused otherwise code f

    by-reading : (c : Command) (r : Reading) → readings c.id ≡ r → Follows X readings rest (after_reading sys c at otherwise rule readings r last) (after_reading sys c at otherwise rule readings r rest) → X
    by-reading c (folded found) is f = by-effect c found (effect sys c at found) is refl f
    by-reading c (unreadable id) is f = f.stops (Err (Unreadable id)) tt refl refl

    by-asked : (a : Asked) → Follows X readings rest (after_asked sys at otherwise rule readings a last) (after_asked sys at otherwise rule readings a rest) → X
    by-asked Nothing f = f.goes refl refl
    by-asked Overflows f = by-refused otherwise overflow_code f
    by-asked (Asks c) f = by-reading c (readings c.id) refl f

  -- by what a rule decides alone: no event, the events of one aggregate, or none that follow
  pub by-rule : (X : Type 0) (n : Notice) (at : ℤ) (rule : ℕ) (r : Rule) (rules : List Rule) (readings : Readings) → AreIdle readings
      → Follows X readings (rules_from sys n at (rule + 1) rules) (rules_from sys n at rule (r ∷ []) readings) (rules_from sys n at rule (r ∷ rules) readings) → X
  by-rule X n at rule r rules readings idle f = by-asked X at r.otherwise rule readings idle (rules_from sys n at (rule + 1) rules) (asked r n) f

  -- what is read after a change is what a decision may have
  changed-idle : (readings : Readings) (b : Aggregate) → AreIdle readings → AreIdle (after_change readings b)
  changed-idle readings b idle = λ id a is. by-test id a (bytes_eq b.id id) refl is
    where
      by-test : (id : Id) (a : Aggregate) (t : Bool) → bytes_eq b.id id ≡ t → (if t then folded (Some (collected b)) else readings id) ≡ folded (Some a) → IsIdle id a
      by-test id a true same h =
          let one : collected b ≡ a = cc in
          subst (IsIdle id) one ((bytes_eq-Decides b.id id).0 same, refl)
      by-test id a false same h = idle id a h

  pub change-idle : (readings : Readings) (more : List DomainEvent) (now : Readings) → AreIdle readings → IsChange readings more now → AreIdle now
  change-idle readings more now idle change = subst AreIdle (sym change.now_is) (changed-idle readings change.aggregate idle)
