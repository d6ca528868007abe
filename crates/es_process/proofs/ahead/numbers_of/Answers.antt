use Rattle.std.proofs.Common.{rules, ◌<◌, ◌∙◌, subst, ap, Err, ◌≡◌, IfSome, length, slice_set}
use Rattle.es_model.specs.declared.memory.CallFault.TheVariants.{Failed}
use Rattle.es_model.specs.History.{log}
use Rattle.es_model.specs.Tracking.{tracked_in}
use Rattle.es_process.proofs.HoldsLemmas.{holds-same, all-set, rose-set}
use Rattle.es_process.proofs.PlaceLemmas.{place-within, place-read, first-told, second-told, second-within, both-hold, both-stay, second-rose}
use Rattle.es_process.proofs.ahead.numbers_of.Goals as goal

pub offset_bounds-apps-pair : goal.offset_bounds-apps-pair
offset_bounds-apps-pair g c = let within : c.args.pair.now.follower < length c.args.apps.now = place-within c.args.apps.now c.args.pair.now.follower _ c.requires.placed.follower in search rules

pub bounds-apps-pair : goal.bounds-apps-pair
bounds-apps-pair g c = place-within c.args.apps.now c.args.pair.now.follower _ c.requires.placed.follower

pub returns-in-Err-clause-holds : goal.returns-in-Err-clause-holds
returns-in-Err-clause-holds g c = λ base options readings s held.
    let at = place-read c.args.apps.now c.args.pair.now.follower c.args.pair.now.follower_name c.index-apps-pair.result c.requires.placed.follower in
    holds-same c.args.apps.now c.requires.apps.distinct c.args.pair.now.follower _ c.tracked.new.self at _ _ _ _ c.tracked.ensures.same base options readings s held

pub returns-in-Err-clause-same : goal.returns-in-Err-clause-same
returns-in-Err-clause-same g c =
    let at = place-read c.args.apps.now c.args.pair.now.follower c.args.pair.now.follower_name c.index-apps-pair.result c.requires.placed.follower in
    all-set c.args.apps.now c.requires.apps.distinct c.args.pair.now.follower _ c.tracked.new.self at c.tracked.ensures.same.stays

pub returns-in-Err-clause-failed : goal.returns-in-Err-clause-failed
returns-in-Err-clause-failed g c = λ is.
    let at = place-read c.args.apps.now c.args.pair.now.follower c.args.pair.now.follower_name c.index-apps-pair.result c.requires.placed.follower in
    rose-set g.R.AggregateRecorder.faults c.args.apps.now c.args.pair.now.follower _ c.tracked.new.self at (c.tracked.ensures.cause.failed (c.in-Err.is ∙ ap (λ f. Err f) (let e : c.in-Err.fault ≡ Failed = cc is in e)))

pub offset_bounds-apps-pair-2 : goal.offset_bounds-apps-pair-2
offset_bounds-apps-pair-2 g c =
    let within : c.args.pair.now.leader < length (slice_set c.args.apps.now c.args.pair.now.follower c.tracked.new.self) =
    second-within g.R.AggregateRecorder.history g.R.AggregateRecorder.settled g.R.AggregateRecorder.capacity g.R.AggregateRecorder.snapshots g.R.AggregateRecorder.faults c.args.apps.now c.requires.apps.distinct c.args.pair.now.follower c.args.pair.now.leader c.args.pair.now.follower_name c.args.pair.now.leader_name c.index-apps-pair.result c.index-apps-pair.result c.tracked.new.self c.tracked.new.self
    c.requires.placed.follower c.requires.placed.leader c.tracked.ensures.same in
    search rules

pub bounds-apps-pair-2 : goal.bounds-apps-pair-2
bounds-apps-pair-2 g c =
    second-within g.R.AggregateRecorder.history g.R.AggregateRecorder.settled g.R.AggregateRecorder.capacity g.R.AggregateRecorder.snapshots g.R.AggregateRecorder.faults c.args.apps.now c.requires.apps.distinct c.args.pair.now.follower c.args.pair.now.leader c.args.pair.now.follower_name c.args.pair.now.leader_name c.index-apps-pair.result c.index-apps-pair.result c.tracked.new.self c.tracked.new.self
    c.requires.placed.follower c.requires.placed.leader c.tracked.ensures.same

pub returns-in-Ok-last_notification-clause-told : goal.returns-in-Ok-last_notification-clause-told
returns-in-Ok-last_notification-clause-told g c = λ base options readings s held. (
  subst (λ o. IfSome o (λ h. c.in-Ok.tracked ≡ tracked_in h c.args.pair.now.leader_name)) (first-told g.R.AggregateRecorder.history g.R.AggregateRecorder.settled g.R.AggregateRecorder.capacity g.R.AggregateRecorder.snapshots g.R.AggregateRecorder.faults c.args.apps.now c.requires.apps.distinct c.args.pair.now.follower c.args.pair.now.leader c.args.pair.now.follower_name c.args.pair.now.leader_name c.index-apps-pair.result c.index-apps-pair-2.result c.tracked.new.self c.last_notification.new.self
      c.requires.placed.follower c.requires.placed.leader c.tracked.ensures.same base options readings s held)
      (c.in-Ok.ensures {u = tt}).value,
  subst (λ o. IfSome o (λ h. c.in-Ok-last_notification.last ≡ length (log h))) (second-told g.R.AggregateRecorder.history g.R.AggregateRecorder.settled g.R.AggregateRecorder.capacity g.R.AggregateRecorder.snapshots g.R.AggregateRecorder.faults c.args.apps.now c.requires.apps.distinct c.args.pair.now.follower c.args.pair.now.leader c.args.pair.now.follower_name c.args.pair.now.leader_name c.index-apps-pair.result c.index-apps-pair-2.result c.tracked.new.self c.last_notification.new.self
      c.requires.placed.follower c.requires.placed.leader c.tracked.ensures.same base options readings s held)
      (c.in-Ok-last_notification.ensures {u = tt}).value,
)

pub returns-in-Ok-last_notification-clause-holds : goal.returns-in-Ok-last_notification-clause-holds
returns-in-Ok-last_notification-clause-holds g c = λ base options readings s held.
    both-hold g.R.AggregateRecorder.history g.R.AggregateRecorder.settled g.R.AggregateRecorder.capacity g.R.AggregateRecorder.snapshots g.R.AggregateRecorder.faults c.args.apps.now c.requires.apps.distinct c.args.pair.now.follower c.args.pair.now.leader c.args.pair.now.follower_name c.args.pair.now.leader_name c.index-apps-pair.result c.index-apps-pair-2.result c.tracked.new.self c.last_notification.new.self
    c.requires.placed.follower c.requires.placed.leader c.tracked.ensures.same c.last_notification.ensures.same base options readings s held

pub returns-in-Err-last_notification-clause-holds : goal.returns-in-Err-last_notification-clause-holds
returns-in-Err-last_notification-clause-holds g c = λ base options readings s held.
    both-hold g.R.AggregateRecorder.history g.R.AggregateRecorder.settled g.R.AggregateRecorder.capacity g.R.AggregateRecorder.snapshots g.R.AggregateRecorder.faults c.args.apps.now c.requires.apps.distinct c.args.pair.now.follower c.args.pair.now.leader c.args.pair.now.follower_name c.args.pair.now.leader_name c.index-apps-pair.result c.index-apps-pair-2.result c.tracked.new.self c.last_notification.new.self
    c.requires.placed.follower c.requires.placed.leader c.tracked.ensures.same c.last_notification.ensures.same base options readings s held

pub returns-in-Ok-last_notification-clause-same : goal.returns-in-Ok-last_notification-clause-same
returns-in-Ok-last_notification-clause-same g c =
    both-stay g.R.AggregateRecorder.history g.R.AggregateRecorder.settled g.R.AggregateRecorder.capacity g.R.AggregateRecorder.snapshots g.R.AggregateRecorder.faults c.args.apps.now c.requires.apps.distinct c.args.pair.now.follower c.args.pair.now.leader c.args.pair.now.follower_name c.args.pair.now.leader_name c.index-apps-pair.result c.index-apps-pair-2.result c.tracked.new.self c.last_notification.new.self
    c.requires.placed.follower c.requires.placed.leader c.tracked.ensures.same c.last_notification.ensures.same

pub returns-in-Err-last_notification-clause-same : goal.returns-in-Err-last_notification-clause-same
returns-in-Err-last_notification-clause-same g c =
    both-stay g.R.AggregateRecorder.history g.R.AggregateRecorder.settled g.R.AggregateRecorder.capacity g.R.AggregateRecorder.snapshots g.R.AggregateRecorder.faults c.args.apps.now c.requires.apps.distinct c.args.pair.now.follower c.args.pair.now.leader c.args.pair.now.follower_name c.args.pair.now.leader_name c.index-apps-pair.result c.index-apps-pair-2.result c.tracked.new.self c.last_notification.new.self
    c.requires.placed.follower c.requires.placed.leader c.tracked.ensures.same c.last_notification.ensures.same

pub returns-in-Err-last_notification-clause-failed : goal.returns-in-Err-last_notification-clause-failed
returns-in-Err-last_notification-clause-failed g c = λ is.
    second-rose g.R.AggregateRecorder.history g.R.AggregateRecorder.settled g.R.AggregateRecorder.capacity g.R.AggregateRecorder.snapshots g.R.AggregateRecorder.faults c.args.apps.now c.requires.apps.distinct c.args.pair.now.follower c.args.pair.now.leader c.args.pair.now.follower_name c.args.pair.now.leader_name c.index-apps-pair.result c.index-apps-pair-2.result c.tracked.new.self c.last_notification.new.self
    c.requires.placed.follower c.requires.placed.leader c.tracked.ensures.same (c.last_notification.ensures.cause.failed (c.in-Err-last_notification.is ∙ ap (λ f. Err f) (let e : c.in-Err-last_notification.fault ≡ Failed = cc is in e)))
