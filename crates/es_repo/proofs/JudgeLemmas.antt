-- What is judged is what is decided over the history.
use Rattle.std.proofs.Common.{◌≡◌, ◌<◌, ◌^◌, ℕ, List, [], ◌∷◌, map, Result, Ok, Err, IfOk, sym, ap, subst}
use Rattle.std.specs.Prelude.{All}
use Rattle.std.proofs.lemmas.List.Elements.{All-nil, All-cons, All-head, All-tail}
use Rattle.es_model.specs.Causes.{CallHasCause}
use Rattle.es_model.specs.declared.domain_event.DomainEvent.{DomainEvent}
use Rattle.es_model.specs.declared.declaration.System.{System}
use Rattle.es_model.specs.declared.event.StoredEvent.{StoredEvent}
use Rattle.es_model.specs.declared.memory.CallFault.{CallFault}
use Rattle.es_model.specs.declared.memory.CallFault.TheVariants as call
use Rattle.es_mapper.specs.Mapping.{stored}
use Rattle.es_domain.specs.Decision.{IsNewEvent, AreNewEvents}
use Rattle.es_domain.specs.Readings.{FindHasCause}
use Rattle.es_domain.specs.declared.command.Decision.{Decision}
use Rattle.es_domain.specs.declared.command.Decision.TheVariants as decision
use Rattle.es_domain.specs.declared.find.FindFault.{FindFault}
use Rattle.es_domain.specs.declared.find.FindFault.TheVariants as find
use Rattle.es_repo.specs.Verdicts.{IsSmallVerdict}
use Rattle.es_repo.specs.declared.verdict.Verdict.TheVariants.{Events}

small-stored : (sys : System) (es : List DomainEvent) → All (IsNewEvent sys) es → All (λ e. e.originator_version < 2 ^ 63) (map (stored sys) es)
small-stored sys [] all = All-nil (λ e. e.originator_version < 2 ^ 63)
small-stored sys (e ∷ es) all =
    All-cons (λ x. x.originator_version < 2 ^ 63) (stored sys e) (map (stored sys) es) (All-head (IsNewEvent sys) e es all).version (small-stored sys es (All-tail (IsNewEvent sys) e es all))

-- new events are small ones
pub small-verdict : (sys : System) (d : Decision) (es : List DomainEvent) (all : List StoredEvent) → d ≡ decision.Events es → all ≡ map (stored sys) es → AreNewEvents sys d → IsSmallVerdict (Events all)
small-verdict sys d es all is are new = subst IsSmallVerdict (ap Events (sym are)) (small-stored sys es (subst (AreNewEvents sys) is new))

-- what is known of an answer is carried on
pub if-ok : {T E : Type 0} (P Q : T → Type 0) (r : Result T E) → ((x : T) → P x → Q x) → IfOk r P → IfOk r Q
if-ok P Q (Ok x) more is = more x is
if-ok P Q (Err e) more is = tt

pub both-ok : {T E : Type 0} (P Q : T → Type 0) (r : Result T E) → IfOk r P → IfOk r Q → IfOk r (λ x. P x × Q x)
both-ok P Q (Ok x) p q = (p, q)
both-ok P Q (Err e) p q = tt

-- a failure of the reader is one of the recorder
pub cause-of : {T S : Type 0} (before now : ℕ) (decided : Result T FindFault) (result : Result S CallFault) → FindHasCause before now decided → (result ≡ Err call.Failed → decided ≡ Err find.Failed) → CallHasCause before now result
cause-of before now decided result cause failed = record { later = cause.later; failed = λ is. cause.failed (failed is) }
