use Rattle.es_decl.proofs.PartLemmas.{item-fails}
use Rattle.serde_json.specs.View.{view}
use Rattle.es_decl.proofs.parts.each_item.Goals as goal

pub returns-in-Err : goal.returns-in-Err
returns-in-Err g c =
    let m = g.P.Part.meaning c.args.part.now in
    item-fails m c.args.trees.now c.loop-place.place c.index-trees-place.result c.loop-place.all c.in-Err.fault c.loop-place-test.true c.index-trees-place.is c.loop-place.invariant
    (c.in-Err.ensures (m (view c.index-trees-place.result)) c.read.ensures)
