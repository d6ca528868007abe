use Rattle.std.proofs.Common.{◌≡◌, ◌++◌, drop}
use Rattle.json.specs.Tree.{items_tokens}
use Rattle.serde_json.specs.Written.{items_outline}
use Rattle.es_transcode.specs.CanonicalText.{item_trees}
use Rattle.es_transcode.specs.RecordText.{AreAtomTrees}
use Rattle.es_transcode.proofs.encoding.write_atoms.Given as goal

abbrev pub invariant-loop-atom : goal.invariant-loop-atom
invariant-loop-atom l =
    (l.out.before ≡ l.initial.out.before)
    × (l.out.tokens ++ items_tokens (items_outline (item_trees (drop l.atom-index l.atoms))) ≡ l.initial.out.tokens ++ items_tokens (items_outline (item_trees l.atoms)))
    × (AreAtomTrees (drop l.atom-index l.atoms) (item_trees (drop l.atom-index l.atoms)) → AreAtomTrees l.atoms (item_trees l.atoms))
