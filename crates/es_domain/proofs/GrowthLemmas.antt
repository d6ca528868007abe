-- A command adds at most eight events.
use Rattle.std.proofs.Common.{ℤ, ℕ, ◌≡◌, ◌<◌, ◌≤◌, ◌+◌, ◌^◌, length, List, [], ◌∷◌, Option, None, Some, IfSome, refl, sym, ap, ◌∙◌, arith}
use Rattle.es_model.specs.Declaration.{class_named, command_in, is_creating}
use Rattle.es_model.specs.Values.{Name, Record}
use Rattle.es_model.specs.declared.declaration.Class.{Class}
use Rattle.es_model.specs.declared.declaration.CommandDef.{CommandDef}
use Rattle.es_model.specs.declared.declaration.System.{System}
use Rattle.es_model.specs.declared.declaration.Trigger.{Trigger}
use Rattle.es_model.specs.declared.domain_event.DomainEvent.{DomainEvent}
use Rattle.es_expr.specs.Checked.{IsCheckedSystem}
use Rattle.es_model.specs.Names.{topic_of}
use Rattle.es_domain.specs.Decision.{IsOfCommand}
use Rattle.es_domain.specs.Effect.{all_fired, declared_in, effect, effect_declared, effect_in, effect_of, fired, fired_with, guarded, misplaced, opened, opened_with, seen, triggered, unless_refused, with_def}
use Rattle.es_domain.specs.inner.Firing.{IsNewEffect}
use Rattle.es_domain.specs.Fold.{begun, stepped, values_of}
use Rattle.es_domain.specs.inner.Overlay.{IsBelow, IsEffectBelow}
use Rattle.es_domain.specs.Steps.{first_event, next_event}
use Rattle.es_domain.specs.declared.aggregate.Aggregate.{Aggregate}
use Rattle.es_domain.specs.declared.command.Command.{Command}
use Rattle.es_domain.specs.declared.effect.Effect.{Effect}
use Rattle.es_domain.specs.declared.effect.Effect.TheVariants.{Changed, Refused}
use Rattle.es_domain.proofs.FiringLemmas.{none_fired}
use Rattle.es_domain.proofs.NextLemmas.{made-by, pended, unless-changed, changed-of}
use Rattle.es_domain.proofs.Projections.{triggers_few}

-- ---- one trigger

fired-one : (sys : System) (topic : Name) (at : ℤ) (a : Aggregate) (o : Option Record) (b : Aggregate) → fired_with sys topic at a o ≡ Some b → b.version ≡ a.version + 1
fired-one sys topic at a None b is = absurd (cc is)
fired-one sys topic at a (Some fields) b is =
    let e : DomainEvent = next_event a topic fields at in
    let p = pended e (stepped sys a e) b is in
    sym (ap (λ (x : Aggregate). x.version) p.2) ∙ (made-by sys (Some a) e p.0 p.1).version_is

opened-one : (sys : System) (c : Command) (at : ℤ) (o : Option Record) (b : Aggregate) → opened_with sys c at o ≡ Some b → b.version ≡ 1
opened-one sys c at None b is = absurd (cc is)
opened-one sys c at (Some fields) b is =
    let e : DomainEvent = first_event sys c.class c.id fields at in
    let p = pended e (begun sys e) b is in
    sym (ap (λ (x : Aggregate). x.version) p.2) ∙ (made-by sys None e p.0 p.1).version_is

-- ---- all triggers

module _ (sys : System) (k : Class) (c : Command) (at : ℤ) where
  all-grown : (ts : List Trigger) (a b : Aggregate) → all_fired sys k c at ts (Some a) ≡ Some b → b.version ≡ a.version + length ts
  all-grown [] a b is = let same : a ≡ b = cc in let v = ap (λ (x : Aggregate). x.version) same in omega (arith, v)
  all-grown (t ∷ ts) a b is = elim (fired sys k c at t a) as (λ o. fired sys k c at t a ≡ o → all_fired sys k c at ts o ≡ Some b → b.version ≡ a.version + length (t ∷ ts)) [
    | None ↦ λ one h. absurd (cc (sym (none_fired sys k c at ts) ∙ h))
    | Some x ↦ λ one h.
        let first = fired-one sys (topic_of k.name t.event) at a (values_of t.fields (seen c at (Some a))) x one in
        let more = all-grown ts x b h in
        omega (arith, first, more)
  ] refl is

  first-grown : (t : Trigger) (ts : List Trigger) (b : Aggregate) → all_fired sys k c at ts (opened sys c at t) ≡ Some b → b.version ≡ 1 + length ts
  first-grown t ts b is = elim (opened sys c at t) as (λ o. opened sys c at t ≡ o → all_fired sys k c at ts o ≡ Some b → b.version ≡ 1 + length ts) [
    | None ↦ λ one h. absurd (cc (sym (none_fired sys k c at ts) ∙ h))
    | Some x ↦ λ one h.
        let first = opened-one sys c at (values_of t.fields (seen c at None)) x one in
        let more = all-grown ts x b h in
        omega (arith, first, more)
  ] refl is

  run-grown : (limit : ℕ) (ts : List Trigger) (found : Option Aggregate) (b : Aggregate) → length ts ≤ 8 → 2 ^ 62 ≤ limit → IfSome found (IsBelow sys limit) → triggered sys k c at ts found ≡ Some b → b.version < limit + 8
  run-grown limit ts (Some a) b few large below is = let v = all-grown ts a b is in let small = below.version in omega (arith, v, small, few)
  run-grown limit [] None b few large below is = absurd (cc is)
  run-grown limit (t ∷ ts) None b few large below is = let v = first-grown t ts b is in omega (arith, v, few, large)

-- ---- an effect

module _ (sys : System) (c : Command) (at : ℤ) (found : Option Aggregate) (limit : ℕ) (checked : IsCheckedSystem sys) (large : 2 ^ 62 ≤ limit) (below : IfSome found (IsBelow sys limit)) where
  in-grown : (k : Class) (d : CommandDef) (b : Aggregate) → length d.triggers ≤ 8 → effect_in sys k d c at found ≡ Changed b → b.version < limit + 8
  in-grown k d b few is =
      let run : Effect = effect_of (triggered sys k c at d.triggers found) in
      let guards = unless-changed (misplaced (is_creating k d.triggers) k found) (unless_refused (guarded d.guards (seen c at found)) run) b is in
      run-grown sys k c at limit d.triggers found b few large below (changed-of (triggered sys k c at d.triggers found) b (unless-changed (guarded d.guards (seen c at found)) run b guards))

  by-grown : (k : Class) (o : Option CommandDef) (b : Aggregate) → class_named sys.classes c.class ≡ Some k → command_in k c.name ≡ o → IsOfCommand (with_def k o) c.args → effect_declared sys (with_def k o) c at found ≡ Changed b → b.version < limit + 8
  by-grown k None b is declared of e = absurd of
  by-grown k (Some d) b is declared of e = in-grown k d b (triggers_few sys k d c checked (record { class = is; command = declared; args = of })) e

  named-grown : (o : Option Class) (b : Aggregate) → class_named sys.classes c.class ≡ o → IsOfCommand (declared_in o c.name) c.args → effect_declared sys (declared_in o c.name) c at found ≡ Changed b → b.version < limit + 8
  named-grown None b is of e = absurd of
  named-grown (Some k) b is of e = by-grown k (command_in k c.name) b is refl of e

  pub effect_below : (e : Effect) → IsOfCommand (declared_in (class_named sys.classes c.class) c.name) c.args → e ≡ effect sys c at found → IsNewEffect sys e → IsEffectBelow sys (limit + 8) (Some e)
  effect_below (Refused code) of is new = tt
  effect_below (Changed b) of is new =
      record { fields = new.fields; version = named-grown (class_named sys.classes c.class) b refl of (sym is); pending = new.pending }
