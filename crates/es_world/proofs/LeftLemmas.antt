-- Outcomes that are the same leave the same.
use Rattle.std.proofs.Common.{◌≡◌, ◌<◌, ◌≤◌, ℤ, ℕ, ◌+◌, ◌-◌, nat_le, nat_lt, Bool, true, false, List, slice_get, Option, Some, Result, if◌then◌else◌, refl, sym, ap, ◌∙◌, subst, arith, leb-true, ltb-true}
use Rattle.es_model.specs.declared.declaration.System.{System}
use Rattle.es_model.specs.declared.domain_event.DomainEvent.{DomainEvent}
use Rattle.es_model.specs.declared.event.Cause.{Cause}
use Rattle.es_model.specs.declared.event.Cause.TheVariants.{Command, Notification}
use Rattle.es_model.specs.declared.event.Recording.{Recording}
use Rattle.es_model.specs.declared.event.StoredEvent.{StoredEvent}
use Rattle.es_model.specs.declared.memory.NoMemory.{NoMemory}
use Rattle.es_model.specs.History.{log, latest}
use Rattle.es_model.specs.Tracking.{tracked_in}
use Rattle.es_model.specs.Values.{Name}
use Rattle.es_mapper.specs.Mapped.{event_of}
use Rattle.es_domain.specs.declared.command.Command.{Command as CommandOf}
use Rattle.es_repo.specs.Verdicts.{command_verdict}
use Rattle.es_repo.specs.declared.verdict.Verdict.{Verdict}
use Rattle.es_process.specs.Answer.{differs}
use Rattle.es_world.specs.Answers.{only, decided, commanded, followed_event, followed, come_to}
use Rattle.es_world.specs.declared.steps.StepAnswer.{StepAnswer}
use Rattle.es_world.specs.declared.steps.StepAnswer.TheVariants as answer
use Rattle.es_world.specs.inner.Left.{Leaves}

-- what is decided, by an equal verdict
pub left_decided : (app : Name) (cause : Cause) (at : ℤ) (v known : Verdict) (h : List Recording) (result : Result StepAnswer NoMemory) (new : Option (List Recording)) → v ≡ known
    → Leaves (decided app cause at known) h result new → Leaves (decided app cause at v) h result new
left_decided app cause at v known h result new is so = subst (λ u. Leaves (decided app cause at u) h result new) (sym is) so

-- what comes of a command that doesn't expect another version
pub left_commanded : (sys : System) (app : Name) (h : List Recording) (text : List ℕ) (at : ℤ) (c : CommandOf) (v : Verdict) (result : Result StepAnswer NoMemory) (new : Option (List Recording))
    → differs h c.id c.expect ≡ false → v ≡ command_verdict sys c at h → Leaves (decided app (Command text) at v) h result new → Leaves (commanded sys app h text at c) h result new
left_commanded sys app h text at c v result new agrees is so = subst (λ o. Leaves o h result new) (sym whole) so
  where
    whole : commanded sys app h text at c ≡ decided app (Command text) at v
    whole = λ i. if agrees i then only (answer.Conflict (latest (log h) c.id)) else decided app (Command text) at (sym is i)

-- what comes of a leader's event, by a copy of its name
pub left_followed : (app leader copy : Name) (id : ℕ) (at : ℤ) (v known : Verdict) (h : List Recording) (result : Result StepAnswer NoMemory) (new : Option (List Recording)) → copy ≡ leader → v ≡ known
    → Leaves (decided app (Notification copy id) at known) h result new → Leaves (decided app (Notification leader id) at v) h result new
left_followed app leader copy id at v known h result new same is so =
    left_decided app (Notification leader id) at v known h result new is (subst (λ n. Leaves (decided app (Notification n id) at known) h result new) same so)

pub not_le : (a b : ℕ) → b < a → nat_le a b ≡ false
not_le a b less = here (nat_le a b) refl
  where
    here : (t : Bool) → nat_le a b ≡ t → t ≡ false
    here true is = absurd (omega (arith, leb-true a b is))
    here false is = refl

not_lt : (a b : ℕ) → b ≤ a → nat_lt a b ≡ false
not_lt a b le = here (nat_lt a b) refl
  where
    here : (t : Bool) → nat_lt a b ≡ t → t ≡ false
    here true is = absurd (omega (arith, ltb-true a b is))
    here false is = refl

-- what comes of a leader's notification that is the next one and has a meaning
pub left_come : (sys : System) (app : Name) (h : List Recording) (entries : List StoredEvent) (leader : Name) (id : ℕ) (at : ℤ) (tracked : ℕ) (e : StoredEvent) (d : DomainEvent) (result : Result StepAnswer NoMemory) (new : Option (List Recording))
    → tracked ≡ tracked_in h leader → tracked < id → id ≤ tracked + 1 → slice_get entries (id - 1) ≡ Some e → event_of sys e ≡ Some d
    → Leaves (followed_event sys app h leader id at (Some d)) h result new → Leaves (come_to sys app h entries leader id at) h result new
left_come sys app h entries leader id at tracked e d result new is above next there means so = subst (λ o. Leaves o h result new) (sym whole) so
  where
    whole : come_to sys app h entries leader id at ≡ followed_event sys app h leader id at (Some d)
    whole =
        (λ i. if (ap (nat_le id) (sym is) ∙ not_le id tracked above) i then only (answer.Skipped (tracked_in h leader)) else
        if (ap (λ n. nat_lt (n + 1) id) (sym is) ∙ not_lt (tracked + 1) id next) i then only (answer.Gap (tracked_in h leader)) else followed sys app h leader id at (there i))
        ∙ (λ i. followed_event sys app h leader id at (means i))
