-- What a step leaves, by what came of it and who was put among those that are down.
use Rattle.std.proofs.Common.{◌≡◌, ◌-◌, ◌+◌, ℤ, ℕ, nat_le, nat_lt, Bool, true, false, ◌||◌, List, [], ◌∷◌, ◌++◌, length, length-append, take, slice_get, if◌then◌else◌, Option, Some, None, Result, Ok, Err, refl, sym, ap, ◌∙◌, subst, arith}
use Rattle.std.proofs.Math.Seq.{take-append_seam}
use Rattle.std.proofs.lemmas.List.Folds.{list_any-append}
use Rattle.std.specs.Str.{bytes_eq}
use Rattle.es_model.specs.declared.declaration.System.{System}
use Rattle.es_model.specs.declared.domain_event.DomainEvent.{DomainEvent}
use Rattle.es_model.specs.declared.event.Cause.{Cause}
use Rattle.es_model.specs.declared.event.Cause.TheVariants.{Command, Notification}
use Rattle.es_model.specs.declared.event.Recording.{Recording}
use Rattle.es_model.specs.declared.event.StoredEvent.{StoredEvent}
use Rattle.es_model.specs.declared.memory.NoMemory.{NoMemory}
use Rattle.es_model.specs.History.{log, latest}
use Rattle.es_model.specs.Tracking.{tracked_in}
use Rattle.es_model.specs.Values.{Name}
use Rattle.es_mapper.specs.Mapped.{event_of}
use Rattle.es_domain.specs.Decision.{notice}
use Rattle.es_domain.specs.declared.command.Command.{Command as CommandOf}
use Rattle.es_recorder.specs.Held.{put}
use Rattle.es_repo.specs.Verdicts.{command_verdict, policy_verdict}
use Rattle.es_repo.specs.declared.verdict.Verdict.{Verdict}
use Rattle.es_repo.specs.declared.verdict.Verdict.TheVariants as verdict
use Rattle.es_process.specs.Answer.{differs}
use Rattle.es_process.specs.SingleThread.{is_among}
use Rattle.es_process.proofs.AmongLemmas.{same-name, is-same}
use Rattle.es_world.specs.Answers.{Outcome, adds, only, decided, commanded, followed_event, followed, come_to, made_by}
use Rattle.es_world.specs.Steps.{IsMade, world_over}
use Rattle.es_world.specs.Told.{histories_in}
use Rattle.es_world.specs.World.{with_added}
use Rattle.es_world.specs.declared.steps.AppHistory.{AppHistory}
use Rattle.es_world.specs.declared.steps.StepAnswer.{StepAnswer}
use Rattle.es_world.specs.declared.steps.StepAnswer.TheVariants as answer
use Rattle.es_world.specs.inner.Left.{LeavesAt, with_doubt, was_recorded, Concludes, ConcludesBy}

-- where nothing is added, that isn't answered as a recording
abbrev pub IsReasoned : Outcome → Type 0
IsReasoned (adds r) = Unit {0}
IsReasoned (only a) = was_recorded (Ok a) ≡ false

either : (b : Bool) (x y : Outcome) → IsReasoned x → IsReasoned y → IsReasoned (if b then x else y)
either true x y one other = one
either false x y one other = other

decided-reasoned : (app : Name) (cause : Cause) (at : ℤ) (v : Verdict) → IsReasoned (decided app cause at v)
decided-reasoned app cause at (verdict.Events es) = tt
decided-reasoned app cause at (verdict.Refused code rule) = refl
decided-reasoned app cause at (verdict.Unreadable id) = refl

pub commanded-reasoned : (sys : System) (app : Name) (h : List Recording) (text : List ℕ) (at : ℤ) (c : CommandOf) → IsReasoned (commanded sys app h text at c)
commanded-reasoned sys app h text at c =
    either (differs h c.id c.expect) (only (answer.Conflict (latest (log h) c.id))) (decided app (Command text) at (command_verdict sys c at h)) refl (decided-reasoned app (Command text) at (command_verdict sys c at h))

event-reasoned : (sys : System) (app : Name) (h : List Recording) (leader : Name) (id : ℕ) (at : ℤ) (e : Option DomainEvent) → IsReasoned (followed_event sys app h leader id at e)
event-reasoned sys app h leader id at None = refl
event-reasoned sys app h leader id at (Some e) = decided-reasoned app (Notification leader id) at (policy_verdict sys app (notice leader id e) at h)

entry-reasoned : (sys : System) (app : Name) (h : List Recording) (leader : Name) (id : ℕ) (at : ℤ) (e : Option StoredEvent) → IsReasoned (followed sys app h leader id at e)
entry-reasoned sys app h leader id at None = refl
entry-reasoned sys app h leader id at (Some e) = event-reasoned sys app h leader id at (event_of sys e)

pub come-reasoned : (sys : System) (app : Name) (h : List Recording) (entries : List StoredEvent) (leader : Name) (id : ℕ) (at : ℤ) → IsReasoned (come_to sys app h entries leader id at)
come-reasoned sys app h entries leader id at =
    let next = followed sys app h leader id at (slice_get entries (id - 1)) in
    let gap = only (answer.Gap (tracked_in h leader)) in
    either (nat_le id (tracked_in h leader)) (only (answer.Skipped (tracked_in h leader))) (if nat_lt (tracked_in h leader + 1) id then gap else next) refl
    (either (nat_lt (tracked_in h leader + 1) id) gap next refl (entry-reasoned sys app h leader id at (slice_get entries (id - 1))))

flip : (a b : Name) → bytes_eq a b ≡ bytes_eq b a
flip a b = both (bytes_eq a b) (bytes_eq b a) refl refl
  where
    both : (p q : Bool) → bytes_eq a b ≡ p → bytes_eq b a ≡ q → p ≡ q
    both true true one other = refl
    both false false one other = refl
    both true false one other = let clash : true ≡ false = sym (is-same b a (sym (same-name a b one))) ∙ other in absurd (cc clash)
    both false true one other = let clash : true ≡ false = sym (is-same a b (sym (same-name b a other))) ∙ one in absurd (cc clash)

or_if : (a b : Bool) → (a || (b || false)) ≡ (if b then true else a)
or_if true true = refl
or_if true false = refl
or_if false true = refl
or_if false false = refl

-- who is down with one more
among-last : (down : List Name) (app : Name) → (λ n. is_among n (down ++ app ∷ [])) ≡ put (λ n. is_among n down) app true
among-last down app = λ i n. (list_any-append (λ m. bytes_eq m n) down (app ∷ []) ∙ ap (λ b. is_among n down || (b || false)) (flip app n) ∙ or_if (is_among n down) (bytes_eq n app)) i

last_out : (down : List Name) (app : Name) → take (length (down ++ app ∷ []) - 1) (down ++ app ∷ []) ≡ down
last_out down app = ap (λ n. take n (down ++ app ∷ [])) (let long = length-append down (app ∷ []) in omega (arith, long)) ∙ take-append_seam down (app ∷ [])

module _ (apps new : List AppHistory) (down : List Name) (app : Name) where
  added_sure : (r : Recording) (a : StepAnswer) (later : List Name) → histories_in new ≡ put (histories_in apps) app (histories_in apps app ++ r ∷ []) → later ≡ down → world_over new later ≡ with_added (world_over apps down) app r true
  added_sure r a later is stays = λ i. record { histories = is i; down = λ n. is_among n (stays i) }

  added_doubtful : (r : Recording) (later : List Name) → histories_in new ≡ put (histories_in apps) app (histories_in apps app ++ r ∷ []) → later ≡ down ++ app ∷ [] → world_over new later ≡ with_added (world_over apps down) app r false
  added_doubtful r later is grows = λ i. record { histories = is i; down = (ap (λ ns n. is_among n ns) grows ∙ among-last down app) i }

  unchanged : (later : List Name) → histories_in new ≡ histories_in apps → later ≡ down → world_over new later ≡ world_over apps down
  unchanged later is stays = λ i. record { histories = is i; down = λ n. is_among n (stays i) }

  taken : (doubted : List Name) → doubted ≡ down ++ app ∷ [] → take (length doubted - 1) doubted ≡ down
  taken doubted is = ap (λ ns. take (length ns - 1) ns) is ∙ last_out down app

  -- what is left among all histories, and who is down then, is what the outcome makes
  pub made-concluded : (doubted later : List Name) (sure : Bool) (o : Outcome) (came result : Result StepAnswer NoMemory) → IsReasoned o → doubted ≡ with_doubt down app sure → LeavesAt app o (histories_in apps) came (histories_in new)
      → Concludes came sure doubted result later → IsMade (made_by (world_over apps down) app sure o) (world_over apps down) result (world_over new later)
  made-concluded doubted later true (adds r) (Ok a) result reasoned is left ends =
      subst (λ x. IsMade (made_by (world_over apps down) app true (adds r)) (world_over apps down) x (world_over new later)) (sym ends.0) (left.0, added_sure r a later left.1 (ends.1 ∙ is))
  made-concluded doubted later true (only reason) (Ok a) result reasoned is left ends =
      subst (λ x. IsMade (made_by (world_over apps down) app true (only reason)) (world_over apps down) x (world_over new later)) (sym ends.0) (left.0, unchanged later left.1 (ends.1 ∙ is))
  made-concluded doubted later true (adds r) (Err e) result reasoned is left ends =
      subst (λ x. IsMade (made_by (world_over apps down) app true (adds r)) (world_over apps down) x (world_over new later)) (sym ends.0) (unchanged later left (ends.1 ∙ is))
  made-concluded doubted later true (only reason) (Err e) result reasoned is left ends =
      subst (λ x. IsMade (made_by (world_over apps down) app true (only reason)) (world_over apps down) x (world_over new later)) (sym ends.0) (unchanged later left (ends.1 ∙ is))
  made-concluded doubted later false (adds r) (Ok a) result reasoned is left ends =
      let done : Concludes (Ok answer.Recorded) false doubted result later = subst (λ x. Concludes (Ok x) false doubted result later) left.0 ends in
      subst (λ x. IsMade (made_by (world_over apps down) app false (adds r)) (world_over apps down) x (world_over new later)) (sym done.0) (refl, added_doubtful r later left.1 (done.1 ∙ is))
  made-concluded doubted later false (only reason) (Ok a) result reasoned is left ends =
      let quiet : was_recorded (Ok a) ≡ false = ap (λ x. was_recorded (Ok x)) left.0 ∙ reasoned in
      let done : ConcludesBy false false (Ok a) doubted result later = subst (λ b. ConcludesBy false b (Ok a) doubted result later) quiet ends in
      subst (λ x. IsMade (made_by (world_over apps down) app false (only reason)) (world_over apps down) x (world_over new later)) (sym done.0) (left.0, unchanged later left.1 (done.1 ∙ taken doubted is))
  made-concluded doubted later false (adds r) (Err e) result reasoned is left ends =
      subst (λ x. IsMade (made_by (world_over apps down) app false (adds r)) (world_over apps down) x (world_over new later)) (sym ends.0) (unchanged later left (ends.1 ∙ taken doubted is))
  made-concluded doubted later false (only reason) (Err e) result reasoned is left ends =
      subst (λ x. IsMade (made_by (world_over apps down) app false (only reason)) (world_over apps down) x (world_over new later)) (sym ends.0) (unchanged later left (ends.1 ∙ taken doubted is))
