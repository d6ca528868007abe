use Rattle.serde_json.specs.View.{view, items_view}
use Rattle.es_transcode.specs.RecordText.{AreAtomTrees, IsAtomTree}
use Rattle.es_transcode.specs.Decoding.{IsAtomFault, IsItemsFault}
use Rattle.es_transcode.proofs.DecodingLemmas.{items-fault, items-step, still}
use Rattle.es_transcode.proofs.decoding.atoms_of.Goals as goal

pub returns-in-Err : goal.returns-in-Err
returns-in-Err c =
    still (λ a. IsAtomTree a (view c.tree-item.result)) (λ items. AreAtomTrees items (items_view c.args.trees.now)) (IsAtomFault (view c.tree-item.result)) (IsItemsFault (items_view c.args.trees.now))
    (items-fault c.loop-tree.atoms c.args.trees.now c.loop-tree.tree-index c.tree-item.result c.loop-tree-test.true c.tree-item.is c.loop-tree.invariant) c.in-Err.fault c.in-Err.ensures

pub loop-tree-preserved : goal.loop-tree-preserved
loop-tree-preserved c = items-step c.loop-tree.atoms c.push.new.self c.args.trees.now c.loop-tree.tree-index c.tree-item.result c.in-Ok.atom c.loop-tree-test.true c.tree-item.is c.loop-tree.invariant c.in-Ok.ensures c.in_ok-push-in-Ok.ensures.ok
