use Rattle.es_model.proofs.SnapshotLemmas.{AreSnapshots-after}
use Rattle.es_model.proofs.snapshot.Snapshots.put.Goals as goal

pub invariant_of-self : goal.invariant_of-self
invariant_of-self c = record {
  once = AreSnapshots-after c.put_last.result c.args.self.now.items c.args.snapshot c.put_last.new.list c.args.self.now.once c.requires c.put_last.ensures.ok c.put_last.ensures.err;
}
