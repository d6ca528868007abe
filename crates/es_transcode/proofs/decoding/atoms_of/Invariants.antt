use Rattle.std.proofs.Common.{take}
use Rattle.serde_json.specs.View.{items_view}
use Rattle.es_transcode.specs.RecordText.{AreAtomTrees}
use Rattle.es_transcode.proofs.decoding.atoms_of.Given as goal

abbrev pub invariant-loop-tree : goal.invariant-loop-tree
invariant-loop-tree l = AreAtomTrees l.atoms (items_view (take l.tree-index l.trees))
