use Rattle.std.proofs.Common.{rules, ◌≡◌, Some, ◌<◌, ◌≤◌, ◌+◌, Ok, Err, length, slice_set, sym, subst}
use Rattle.es_process.specs.declared.application.Processed.TheVariants.{Skipped, Gap}
use Rattle.es_process.specs.declared.faults.RunFault.TheVariants as fault
use Rattle.es_process.specs.Decision.{logs_of}
use Rattle.es_process.specs.inner.Following.{CameTo, FollowsOne, trying}
use Rattle.es_process.specs.Leaves.{IsRecorded}
use Rattle.es_process.specs.Standing.{Holds, HoldContents, names_in}
use Rattle.es_process.specs.SystemRules.{rules_of}
use Rattle.es_process.specs.Terms.{terms}
use Rattle.es_process.proofs.HoldsLemmas.{all-set, rose-set}
use Rattle.es_process.proofs.PairLemmas.{history_in, snapshots_in, one_faulted, not_skipped, not_gap, one-longer}
use Rattle.es_process.proofs.PlaceLemmas.{place-within, at_follower, follower-declared, entry-means, follower-told, follower-kept, processed-told, recorded-came, recorded-starved, follower-still, follower-more, left-fewer}
use Rattle.es_process.proofs.draining.process_event.Goals as goal

pub offset_bounds-apps-pair : goal.offset_bounds-apps-pair
offset_bounds-apps-pair g c = let within : c.args.pair.now.follower < length c.args.apps.now = place-within c.args.apps.now c.args.pair.now.follower _ c.requires.pair.placed.follower in search rules

pub bounds-apps-pair : goal.bounds-apps-pair
bounds-apps-pair g c = place-within c.args.apps.now c.args.pair.now.follower _ c.requires.pair.placed.follower

pub process-requires-clause-app : goal.process-requires-clause-app
process-requires-clause-app g c = follower-declared c.args.sys.now c.args.apps.now c.args.pair.now c.requires.pair c.index-apps-pair.result

pub returns-in_ok-prompt_after-in-Ok-Recorded-clause-followed : goal.returns-in_ok-prompt_after-in-Ok-Recorded-clause-followed
returns-in_ok-prompt_after-in-Ok-Recorded-clause-followed g c = λ after may.
    let x = (c.in-Ok-Recorded.ensures {u = tt}).processed after may in (
      x.0,
      x.1,
      λ base options s prompted rest u held are next.
          subst (λ q. CameTo (terms (rules_of c.args.sys.now) options) (trying s c.args.pair.now prompted rest) (Holds g.R.AggregateRecorder.history g.R.AggregateRecorder.settled g.R.AggregateRecorder.snapshots g.R.AggregateRecorder.capacity base options (slice_set c.args.apps.now c.args.pair.now.follower c.process.new.self) (Some after)) (names_in c.args.apps.now) q u (λ place later. trying place c.args.pair.now later rest)) (sym (c.in_ok-prompt_after-in-Ok-Recorded.ensures {u = tt}))
          (recorded-came c.args.sys.now c.args.apps.now c.args.pair.now c.requires.pair c.index-apps-pair.result g.R.AggregateRecorder.history g.R.AggregateRecorder.stable g.R.AggregateRecorder.settled g.met.R.AggregateRecorder.settled_is_whole g.R.AggregateRecorder.snapshots g.R.AggregateRecorder.capacity base options _ s held c.args.notification.now next c.process.new.self c.process.ensures.same (c.in-Ok-Recorded.ensures {u = tt}).settles.whole _ _ _
          (rw c.in-Ok-Recorded.field-0-is at (x.2 (logs_of s.contents.histories) (history_in s c.args.pair.now) (snapshots_in s c.args.pair.now) s.readings (entry-means c.args.sys.now c.args.apps.now c.args.pair.now c.requires.pair c.index-apps-pair.result g.R.AggregateRecorder.history g.R.AggregateRecorder.stable g.R.AggregateRecorder.settled g.met.R.AggregateRecorder.settled_is_whole g.R.AggregateRecorder.snapshots g.R.AggregateRecorder.capacity base options _ s held c.args.notification.now next c.args.event.now c.requires.means)
          (follower-told c.args.sys.now c.args.apps.now c.args.pair.now c.requires.pair c.index-apps-pair.result g.R.AggregateRecorder.history g.R.AggregateRecorder.stable g.R.AggregateRecorder.settled g.met.R.AggregateRecorder.settled_is_whole g.R.AggregateRecorder.snapshots g.R.AggregateRecorder.capacity base options _ s held c.args.notification.now next) (follower-kept c.args.sys.now c.args.apps.now c.args.pair.now c.requires.pair c.index-apps-pair.result g.R.AggregateRecorder.history g.R.AggregateRecorder.stable g.R.AggregateRecorder.settled g.met.R.AggregateRecorder.settled_is_whole g.R.AggregateRecorder.snapshots g.R.AggregateRecorder.capacity base options _ s held c.args.notification.now next) held.clock))
          prompted rest u c.args.queue.now.items are),
    )

pub returns-in_err-prompt_after-in-Ok-Recorded-clause-followed : goal.returns-in_err-prompt_after-in-Ok-Recorded-clause-followed
returns-in_err-prompt_after-in-Ok-Recorded-clause-followed g c = λ after may.
    let x = (c.in-Ok-Recorded.ensures {u = tt}).processed after may in (
      x.0,
      x.1,
      λ base options s prompted rest u held are next.
          let fails : c.from_residual.result ≡ Err fault.NoMemory = search rules in
          subst (λ r. FollowsOne (terms (rules_of c.args.sys.now) options) s c.args.pair.now (Holds g.R.AggregateRecorder.history g.R.AggregateRecorder.settled g.R.AggregateRecorder.snapshots g.R.AggregateRecorder.capacity base options (slice_set c.args.apps.now c.args.pair.now.follower c.process.new.self) (Some after)) (HoldContents g.R.AggregateRecorder.history g.R.AggregateRecorder.stable g.R.AggregateRecorder.snapshots base (slice_set c.args.apps.now c.args.pair.now.follower c.process.new.self)) (names_in c.args.apps.now) prompted c.prompt_after.new.queue.items rest u r) (sym fails)
          (recorded-starved c.args.sys.now c.args.apps.now c.args.pair.now c.requires.pair c.index-apps-pair.result g.R.AggregateRecorder.history g.R.AggregateRecorder.stable g.R.AggregateRecorder.settled g.met.R.AggregateRecorder.settled_is_whole g.R.AggregateRecorder.snapshots g.R.AggregateRecorder.capacity base options _ s held c.args.notification.now next c.process.new.self c.process.ensures.same (c.in-Ok-Recorded.ensures {u = tt}).settles.whole _ _ _
          (rw c.in-Ok-Recorded.field-0-is at (x.2 (logs_of s.contents.histories) (history_in s c.args.pair.now) (snapshots_in s c.args.pair.now) s.readings (entry-means c.args.sys.now c.args.apps.now c.args.pair.now c.requires.pair c.index-apps-pair.result g.R.AggregateRecorder.history g.R.AggregateRecorder.stable g.R.AggregateRecorder.settled g.met.R.AggregateRecorder.settled_is_whole g.R.AggregateRecorder.snapshots g.R.AggregateRecorder.capacity base options _ s held c.args.notification.now next c.args.event.now c.requires.means)
          (follower-told c.args.sys.now c.args.apps.now c.args.pair.now c.requires.pair c.index-apps-pair.result g.R.AggregateRecorder.history g.R.AggregateRecorder.stable g.R.AggregateRecorder.settled g.met.R.AggregateRecorder.settled_is_whole g.R.AggregateRecorder.snapshots g.R.AggregateRecorder.capacity base options _ s held c.args.notification.now next) (follower-kept c.args.sys.now c.args.apps.now c.args.pair.now c.requires.pair c.index-apps-pair.result g.R.AggregateRecorder.history g.R.AggregateRecorder.stable g.R.AggregateRecorder.settled g.met.R.AggregateRecorder.settled_is_whole g.R.AggregateRecorder.snapshots g.R.AggregateRecorder.capacity base options _ s held c.args.notification.now next) held.clock))
          prompted rest u),
    )

pub returns-in_ok-prompt_after-in-Ok-Recorded-clause-spent : goal.returns-in_ok-prompt_after-in-Ok-Recorded-clause-spent
returns-in_ok-prompt_after-in-Ok-Recorded-clause-spent g c =
    let recorded = subst (λ x. IsRecorded (Ok x)) (sym c.in-Ok-Recorded.field-0-is) tt in (
      left-fewer c.args.apps.now c.args.pair.now.follower _ c.process.new.self (at_follower c.args.sys.now c.args.apps.now c.args.pair.now c.requires.pair c.index-apps-pair.result) c.process.ensures.same.turns ((c.in-Ok-Recorded.ensures {u = tt}).counted recorded) ((c.in-Ok-Recorded.ensures {u = tt}).free recorded),
      subst (λ q. length q ≤ length c.args.queue.now.items + 1) (sym (c.in_ok-prompt_after-in-Ok-Recorded.ensures {u = tt})) (one-longer c.args.pair.now c.args.queue.now.items _ _),
    )

pub returns-in-Ok-Skipped-clause-followed : goal.returns-in-Ok-Skipped-clause-followed
returns-in-Ok-Skipped-clause-followed g c = λ after may.
    let x = (c.in-Ok-Skipped.ensures {u = tt}).processed after may in (
      x.0,
      x.1,
      λ base options s prompted rest u held are next.
          let so = processed-told c.args.sys.now c.args.apps.now c.args.pair.now c.requires.pair c.index-apps-pair.result g.R.AggregateRecorder.history g.R.AggregateRecorder.stable g.R.AggregateRecorder.settled g.met.R.AggregateRecorder.settled_is_whole g.R.AggregateRecorder.snapshots g.R.AggregateRecorder.capacity base options _ s held c.args.notification.now next (Ok (Skipped c.in-Ok-Skipped.field-0-0)) _ _ _ _
          (rw c.in-Ok-Skipped.field-0-is at (x.2 (logs_of s.contents.histories) (history_in s c.args.pair.now) (snapshots_in s c.args.pair.now) s.readings (entry-means c.args.sys.now c.args.apps.now c.args.pair.now c.requires.pair c.index-apps-pair.result g.R.AggregateRecorder.history g.R.AggregateRecorder.stable g.R.AggregateRecorder.settled g.met.R.AggregateRecorder.settled_is_whole g.R.AggregateRecorder.snapshots g.R.AggregateRecorder.capacity base options _ s held c.args.notification.now next c.args.event.now c.requires.means)
          (follower-told c.args.sys.now c.args.apps.now c.args.pair.now c.requires.pair c.index-apps-pair.result g.R.AggregateRecorder.history g.R.AggregateRecorder.stable g.R.AggregateRecorder.settled g.met.R.AggregateRecorder.settled_is_whole g.R.AggregateRecorder.snapshots g.R.AggregateRecorder.capacity base options _ s held c.args.notification.now next) (follower-kept c.args.sys.now c.args.apps.now c.args.pair.now c.requires.pair c.index-apps-pair.result g.R.AggregateRecorder.history g.R.AggregateRecorder.stable g.R.AggregateRecorder.settled g.met.R.AggregateRecorder.settled_is_whole g.R.AggregateRecorder.snapshots g.R.AggregateRecorder.capacity base options _ s held c.args.notification.now next) held.clock)) in
          absurd (not_skipped (terms (rules_of c.args.sys.now) options) s c.args.pair.now _ _ _ _ _ so),
    )

pub returns-in-Ok-Gap-clause-followed : goal.returns-in-Ok-Gap-clause-followed
returns-in-Ok-Gap-clause-followed g c = λ after may.
    let x = (c.in-Ok-Gap.ensures {u = tt}).processed after may in (
      x.0,
      x.1,
      λ base options s prompted rest u held are next.
          let so = processed-told c.args.sys.now c.args.apps.now c.args.pair.now c.requires.pair c.index-apps-pair.result g.R.AggregateRecorder.history g.R.AggregateRecorder.stable g.R.AggregateRecorder.settled g.met.R.AggregateRecorder.settled_is_whole g.R.AggregateRecorder.snapshots g.R.AggregateRecorder.capacity base options _ s held c.args.notification.now next (Ok (Gap c.in-Ok-Gap.field-0-0)) _ _ _ _
          (rw c.in-Ok-Gap.field-0-is at (x.2 (logs_of s.contents.histories) (history_in s c.args.pair.now) (snapshots_in s c.args.pair.now) s.readings (entry-means c.args.sys.now c.args.apps.now c.args.pair.now c.requires.pair c.index-apps-pair.result g.R.AggregateRecorder.history g.R.AggregateRecorder.stable g.R.AggregateRecorder.settled g.met.R.AggregateRecorder.settled_is_whole g.R.AggregateRecorder.snapshots g.R.AggregateRecorder.capacity base options _ s held c.args.notification.now next c.args.event.now c.requires.means)
          (follower-told c.args.sys.now c.args.apps.now c.args.pair.now c.requires.pair c.index-apps-pair.result g.R.AggregateRecorder.history g.R.AggregateRecorder.stable g.R.AggregateRecorder.settled g.met.R.AggregateRecorder.settled_is_whole g.R.AggregateRecorder.snapshots g.R.AggregateRecorder.capacity base options _ s held c.args.notification.now next) (follower-kept c.args.sys.now c.args.apps.now c.args.pair.now c.requires.pair c.index-apps-pair.result g.R.AggregateRecorder.history g.R.AggregateRecorder.stable g.R.AggregateRecorder.settled g.met.R.AggregateRecorder.settled_is_whole g.R.AggregateRecorder.snapshots g.R.AggregateRecorder.capacity base options _ s held c.args.notification.now next) held.clock)) in
          absurd (not_gap (terms (rules_of c.args.sys.now) options) s c.args.pair.now _ _ _ _ _ so),
    )

pub returns-in-Err-clause-followed : goal.returns-in-Err-clause-followed
returns-in-Err-clause-followed g c = λ after may.
    let x = (c.in-Err.ensures {u = tt}).processed after may in (
      x.0,
      x.1,
      λ base options s prompted rest u held are next.
          one_faulted (terms (rules_of c.args.sys.now) options) s c.args.pair.now prompted rest u _ _ _ _ next.0
          (λ same. follower-still c.args.apps.now c.requires.pair.apps.distinct c.args.pair.now _ c.process.new.self c.requires.pair.placed.follower (at_follower c.args.sys.now c.args.apps.now c.args.pair.now c.requires.pair c.index-apps-pair.result) c.process.ensures.same.name
          g.R.AggregateRecorder.history g.R.AggregateRecorder.stable g.R.AggregateRecorder.settled g.met.R.AggregateRecorder.settled_is_whole g.R.AggregateRecorder.snapshots g.R.AggregateRecorder.capacity base options _ s held c.process.ensures.settles.grows same)
          (λ r ss all follows one. follower-more c.args.apps.now c.requires.pair.apps.distinct c.args.pair.now _ c.process.new.self c.requires.pair.placed.follower (at_follower c.args.sys.now c.args.apps.now c.args.pair.now c.requires.pair c.index-apps-pair.result) c.process.ensures.same.name
          g.R.AggregateRecorder.history g.R.AggregateRecorder.stable g.R.AggregateRecorder.settled g.met.R.AggregateRecorder.settled_is_whole g.R.AggregateRecorder.snapshots g.R.AggregateRecorder.capacity base options _ s held
          (terms (rules_of c.args.sys.now) options) c.args.notification.now.event next.0 r all follows ss c.process.ensures.settles.grows one)
          c.in-Err.fault c.process.new.self.used (Some after)
          (processed-told c.args.sys.now c.args.apps.now c.args.pair.now c.requires.pair c.index-apps-pair.result g.R.AggregateRecorder.history g.R.AggregateRecorder.stable g.R.AggregateRecorder.settled g.met.R.AggregateRecorder.settled_is_whole g.R.AggregateRecorder.snapshots g.R.AggregateRecorder.capacity base options _ s held c.args.notification.now next (Err c.in-Err.fault) _ _ c.process.new.self.used (Some after)
          (x.2 (logs_of s.contents.histories) (history_in s c.args.pair.now) (snapshots_in s c.args.pair.now) s.readings (entry-means c.args.sys.now c.args.apps.now c.args.pair.now c.requires.pair c.index-apps-pair.result g.R.AggregateRecorder.history g.R.AggregateRecorder.stable g.R.AggregateRecorder.settled g.met.R.AggregateRecorder.settled_is_whole g.R.AggregateRecorder.snapshots g.R.AggregateRecorder.capacity base options _ s held c.args.notification.now next c.args.event.now c.requires.means)
          (follower-told c.args.sys.now c.args.apps.now c.args.pair.now c.requires.pair c.index-apps-pair.result g.R.AggregateRecorder.history g.R.AggregateRecorder.stable g.R.AggregateRecorder.settled g.met.R.AggregateRecorder.settled_is_whole g.R.AggregateRecorder.snapshots g.R.AggregateRecorder.capacity base options _ s held c.args.notification.now next) (follower-kept c.args.sys.now c.args.apps.now c.args.pair.now c.requires.pair c.index-apps-pair.result g.R.AggregateRecorder.history g.R.AggregateRecorder.stable g.R.AggregateRecorder.settled g.met.R.AggregateRecorder.settled_is_whole g.R.AggregateRecorder.snapshots g.R.AggregateRecorder.capacity base options _ s held c.args.notification.now next) held.clock)),
    )

pub returns-in_ok-prompt_after-in-Ok-Recorded-clause-same : goal.returns-in_ok-prompt_after-in-Ok-Recorded-clause-same
returns-in_ok-prompt_after-in-Ok-Recorded-clause-same g c =
    all-set c.args.apps.now c.requires.pair.apps.distinct c.args.pair.now.follower _ c.process.new.self (at_follower c.args.sys.now c.args.apps.now c.args.pair.now c.requires.pair c.index-apps-pair.result) c.process.ensures.same

pub returns-in_err-prompt_after-in-Ok-Recorded-clause-same : goal.returns-in_err-prompt_after-in-Ok-Recorded-clause-same
returns-in_err-prompt_after-in-Ok-Recorded-clause-same g c =
    all-set c.args.apps.now c.requires.pair.apps.distinct c.args.pair.now.follower _ c.process.new.self (at_follower c.args.sys.now c.args.apps.now c.args.pair.now c.requires.pair c.index-apps-pair.result) c.process.ensures.same

pub returns-in-Ok-Skipped-clause-same : goal.returns-in-Ok-Skipped-clause-same
returns-in-Ok-Skipped-clause-same g c =
    all-set c.args.apps.now c.requires.pair.apps.distinct c.args.pair.now.follower _ c.process.new.self (at_follower c.args.sys.now c.args.apps.now c.args.pair.now c.requires.pair c.index-apps-pair.result) c.process.ensures.same

pub returns-in-Ok-Gap-clause-same : goal.returns-in-Ok-Gap-clause-same
returns-in-Ok-Gap-clause-same g c =
    all-set c.args.apps.now c.requires.pair.apps.distinct c.args.pair.now.follower _ c.process.new.self (at_follower c.args.sys.now c.args.apps.now c.args.pair.now c.requires.pair c.index-apps-pair.result) c.process.ensures.same

pub returns-in-Err-clause-same : goal.returns-in-Err-clause-same
returns-in-Err-clause-same g c =
    all-set c.args.apps.now c.requires.pair.apps.distinct c.args.pair.now.follower _ c.process.new.self (at_follower c.args.sys.now c.args.apps.now c.args.pair.now c.requires.pair c.index-apps-pair.result) c.process.ensures.same

pub returns-in-Err-clause-failed : goal.returns-in-Err-clause-failed
returns-in-Err-clause-failed g c = λ is.
    rose-set g.R.AggregateRecorder.faults c.args.apps.now c.args.pair.now.follower _ c.process.new.self (at_follower c.args.sys.now c.args.apps.now c.args.pair.now c.requires.pair c.index-apps-pair.result) ((c.in-Err.ensures {u = tt}).failed (cc is))
