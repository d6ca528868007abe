use Rattle.std.proofs.Common.{rules, ◌<◌, length}
use Rattle.es_process.proofs.PlaceLemmas.{place-within, leader-declared, no-turn, not-converted}
use Rattle.es_process.proofs.draining.process_next.Goals as goal

pub offset_bounds-apps-pair : goal.offset_bounds-apps-pair
offset_bounds-apps-pair g c = let within : c.args.pair.now.follower < length c.args.apps.now = place-within c.args.apps.now c.args.pair.now.follower _ c.requires.pair.placed.follower in search rules

pub bounds-apps-pair : goal.bounds-apps-pair
bounds-apps-pair g c = place-within c.args.apps.now c.args.pair.now.follower _ c.requires.pair.placed.follower

pub returns-in-Err-clause-followed : goal.returns-in-Err-clause-followed
returns-in-Err-clause-followed g c = λ after may. (
  after,
  may,
  λ base options s prompted rest u held are next.
      no-turn c.args.sys.now c.args.apps.now c.args.pair.now c.requires.pair c.index-apps-pair.result g.R.AggregateRecorder.history g.R.AggregateRecorder.stable g.R.AggregateRecorder.settled g.met.R.AggregateRecorder.settled_is_whole g.R.AggregateRecorder.snapshots g.R.AggregateRecorder.capacity base options _ s held c.args.notification.now next prompted rest u c.in-Err.fault
      (c.in-Err.ensures {u = tt}).used,
)

pub returns-in-Err-convert-clause-followed : goal.returns-in-Err-convert-clause-followed
returns-in-Err-convert-clause-followed g c = λ after may. (
  after,
  may,
  λ base options s prompted rest u held are next.
      not-converted c.args.sys.now c.args.apps.now c.args.pair.now c.requires.pair c.index-apps-pair.result g.R.AggregateRecorder.history g.R.AggregateRecorder.stable g.R.AggregateRecorder.settled g.met.R.AggregateRecorder.settled_is_whole g.R.AggregateRecorder.snapshots g.R.AggregateRecorder.capacity base options _ s held c.args.notification.now next prompted rest u
      (c.in-Ok.ensures {u = tt}).left c.in-Err-convert.fault (c.in-Err-convert.ensures {u = tt}).converts,
)

pub process_event-requires-clause-notice : goal.process_event-requires-clause-notice
process_event-requires-clause-notice g c =
    (c.in-Ok-convert.ensures {u = tt}).notice c.requires.small.id c.requires.small.version (leader-declared c.args.sys.now c.args.apps.now c.args.pair.now c.requires.pair c.index-apps-pair.result)
