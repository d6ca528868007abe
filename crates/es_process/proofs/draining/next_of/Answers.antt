use Rattle.std.proofs.Common.{rules, ◌<◌, ◌∙◌, ap, Err, length, slice_set}
use Rattle.es_process.proofs.HoldsLemmas.{call-failed, holds-same, all-set, rose-set}
use Rattle.es_process.proofs.PlaceLemmas.{place-within, place-read, left-same, finds_pair, first-told, second-told, second-within, both-hold, both-stay, both-left, second-rose}
use Rattle.es_process.proofs.draining.next_of.Goals as goal

pub offset_bounds-apps-pair : goal.offset_bounds-apps-pair
offset_bounds-apps-pair g c = let within : c.args.pair.now.follower < length c.args.apps.now = place-within c.args.apps.now c.args.pair.now.follower _ c.requires.pair.placed.follower in search rules

pub bounds-apps-pair : goal.bounds-apps-pair
bounds-apps-pair g c = place-within c.args.apps.now c.args.pair.now.follower _ c.requires.pair.placed.follower

pub returns-in-Err-clause-holds : goal.returns-in-Err-clause-holds
returns-in-Err-clause-holds g c = λ base options readings s held.
    let at = place-read c.args.apps.now c.args.pair.now.follower c.args.pair.now.follower_name c.index-apps-pair.result c.requires.pair.placed.follower in
    holds-same c.args.apps.now c.requires.pair.apps.distinct c.args.pair.now.follower _ c.tracked.new.self at _ _ _ _ c.tracked.ensures.same base options readings s held

pub returns-in-Err-clause-same_turns : goal.returns-in-Err-clause-same_turns
returns-in-Err-clause-same_turns g c =
    let at = place-read c.args.apps.now c.args.pair.now.follower c.args.pair.now.follower_name c.index-apps-pair.result c.requires.pair.placed.follower in
    left-same c.args.apps.now c.args.pair.now.follower _ c.tracked.new.self at c.tracked.ensures.same.stays.turns c.tracked.ensures.same.used

pub returns-in-Err-clause-same : goal.returns-in-Err-clause-same
returns-in-Err-clause-same g c =
    let at = place-read c.args.apps.now c.args.pair.now.follower c.args.pair.now.follower_name c.index-apps-pair.result c.requires.pair.placed.follower in
    all-set c.args.apps.now c.requires.pair.apps.distinct c.args.pair.now.follower _ c.tracked.new.self at c.tracked.ensures.same.stays

pub returns-in-Err-clause-failed : goal.returns-in-Err-clause-failed
returns-in-Err-clause-failed g c = λ is.
    let at = place-read c.args.apps.now c.args.pair.now.follower c.args.pair.now.follower_name c.index-apps-pair.result c.requires.pair.placed.follower in
    rose-set g.R.AggregateRecorder.faults c.args.apps.now c.args.pair.now.follower _ c.tracked.new.self at (c.tracked.ensures.cause.failed (c.in-Err.is ∙ ap (λ f. Err f) (call-failed c.in-Err.fault c.from.result c.from.ensures (cc is))))

pub offset_bounds-apps-pair-2 : goal.offset_bounds-apps-pair-2
offset_bounds-apps-pair-2 g c =
    let within : c.args.pair.now.leader < length (slice_set c.args.apps.now c.args.pair.now.follower c.tracked.new.self) =
    second-within g.R.AggregateRecorder.history g.R.AggregateRecorder.settled g.R.AggregateRecorder.capacity g.R.AggregateRecorder.snapshots g.R.AggregateRecorder.faults c.args.apps.now c.requires.pair.apps.distinct c.args.pair.now.follower c.args.pair.now.leader c.args.pair.now.follower_name c.args.pair.now.leader_name c.index-apps-pair.result c.index-apps-pair.result c.tracked.new.self c.tracked.new.self
    c.requires.pair.placed.follower c.requires.pair.placed.leader c.tracked.ensures.same in
    search rules

pub bounds-apps-pair-2 : goal.bounds-apps-pair-2
bounds-apps-pair-2 g c =
    second-within g.R.AggregateRecorder.history g.R.AggregateRecorder.settled g.R.AggregateRecorder.capacity g.R.AggregateRecorder.snapshots g.R.AggregateRecorder.faults c.args.apps.now c.requires.pair.apps.distinct c.args.pair.now.follower c.args.pair.now.leader c.args.pair.now.follower_name c.args.pair.now.leader_name c.index-apps-pair.result c.index-apps-pair.result c.tracked.new.self c.tracked.new.self
    c.requires.pair.placed.follower c.requires.pair.placed.leader c.tracked.ensures.same

pub returns-clause-found : goal.returns-clause-found
returns-clause-found g c = λ base options readings s held.
    finds_pair s c.args.pair.now c.in-Ok.tracked c.next_after.result _ _
    (first-told g.R.AggregateRecorder.history g.R.AggregateRecorder.settled g.R.AggregateRecorder.capacity g.R.AggregateRecorder.snapshots g.R.AggregateRecorder.faults c.args.apps.now c.requires.pair.apps.distinct c.args.pair.now.follower c.args.pair.now.leader c.args.pair.now.follower_name c.args.pair.now.leader_name c.index-apps-pair.result c.index-apps-pair-2.result c.tracked.new.self c.next_after.new.self
    c.requires.pair.placed.follower c.requires.pair.placed.leader c.tracked.ensures.same base options readings s held)
    (second-told g.R.AggregateRecorder.history g.R.AggregateRecorder.settled g.R.AggregateRecorder.capacity g.R.AggregateRecorder.snapshots g.R.AggregateRecorder.faults c.args.apps.now c.requires.pair.apps.distinct c.args.pair.now.follower c.args.pair.now.leader c.args.pair.now.follower_name c.args.pair.now.leader_name c.index-apps-pair.result c.index-apps-pair-2.result c.tracked.new.self c.next_after.new.self
    c.requires.pair.placed.follower c.requires.pair.placed.leader c.tracked.ensures.same base options readings s held)
    (c.in-Ok.ensures {u = tt}).value c.next_after.ensures.found

pub returns-clause-holds : goal.returns-clause-holds
returns-clause-holds g c = λ base options readings s held.
    both-hold g.R.AggregateRecorder.history g.R.AggregateRecorder.settled g.R.AggregateRecorder.capacity g.R.AggregateRecorder.snapshots g.R.AggregateRecorder.faults c.args.apps.now c.requires.pair.apps.distinct c.args.pair.now.follower c.args.pair.now.leader c.args.pair.now.follower_name c.args.pair.now.leader_name c.index-apps-pair.result c.index-apps-pair-2.result c.tracked.new.self c.next_after.new.self
    c.requires.pair.placed.follower c.requires.pair.placed.leader c.tracked.ensures.same c.next_after.ensures.same base options readings s held

pub returns-clause-same_turns : goal.returns-clause-same_turns
returns-clause-same_turns g c =
    both-left g.R.AggregateRecorder.history g.R.AggregateRecorder.settled g.R.AggregateRecorder.capacity g.R.AggregateRecorder.snapshots g.R.AggregateRecorder.faults c.args.apps.now c.requires.pair.apps.distinct c.args.pair.now.follower c.args.pair.now.leader c.args.pair.now.follower_name c.args.pair.now.leader_name c.index-apps-pair.result c.index-apps-pair-2.result c.tracked.new.self c.next_after.new.self
    c.requires.pair.placed.follower c.requires.pair.placed.leader c.tracked.ensures.same c.next_after.ensures.same

pub returns-clause-same : goal.returns-clause-same
returns-clause-same g c =
    both-stay g.R.AggregateRecorder.history g.R.AggregateRecorder.settled g.R.AggregateRecorder.capacity g.R.AggregateRecorder.snapshots g.R.AggregateRecorder.faults c.args.apps.now c.requires.pair.apps.distinct c.args.pair.now.follower c.args.pair.now.leader c.args.pair.now.follower_name c.args.pair.now.leader_name c.index-apps-pair.result c.index-apps-pair-2.result c.tracked.new.self c.next_after.new.self
    c.requires.pair.placed.follower c.requires.pair.placed.leader c.tracked.ensures.same c.next_after.ensures.same

pub returns-clause-failed : goal.returns-clause-failed
returns-clause-failed g c = λ is.
    second-rose g.R.AggregateRecorder.history g.R.AggregateRecorder.settled g.R.AggregateRecorder.capacity g.R.AggregateRecorder.snapshots g.R.AggregateRecorder.faults c.args.apps.now c.requires.pair.apps.distinct c.args.pair.now.follower c.args.pair.now.leader c.args.pair.now.follower_name c.args.pair.now.leader_name c.index-apps-pair.result c.index-apps-pair-2.result c.tracked.new.self c.next_after.new.self
    c.requires.pair.placed.follower c.requires.pair.placed.leader c.tracked.ensures.same (c.next_after.ensures.failed is)
