use Rattle.std.proofs.Common.{◌≡◌, drop}
use Rattle.serde_json.specs.View.{items_view}
use Rattle.es_decl.specs.Parts.{each_item}
use Rattle.es_decl.proofs.ReadingLemmas.{after}
use Rattle.es_decl.proofs.parts.each_item.Given as goal

abbrev pub invariant-loop-place : goal.invariant-loop-place
invariant-loop-place g l =
    each_item (g.P.Part.meaning l.part) 0 (items_view l.trees) ≡ after l.all (each_item (g.P.Part.meaning l.part) l.place (items_view (drop l.place l.trees)))
