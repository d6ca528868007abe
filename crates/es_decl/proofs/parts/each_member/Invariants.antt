use Rattle.std.proofs.Common.{◌≡◌, List, ◌++◌}
use Rattle.serde_json.specs.View.{members_view}
use Rattle.serde_json.proofs.Views.{Entry}
use Rattle.es_decl.specs.Parts.{each_member}
use Rattle.es_decl.proofs.PartLemmas.{AreNames}
use Rattle.es_decl.proofs.ReadingLemmas.{after}
use Rattle.es_decl.proofs.parts.each_member.Given as goal

abbrev pub invariant-loop-name : goal.invariant-loop-name
invariant-loop-name g l =
    let m = g.P.Part.meaning l.part in
    ((done : List Entry) × (l.members.entries ≡ done ++ l.name-iterator) × AreNames l.all done)
    × (each_member l.form m (members_view l.members.entries) ≡ after l.all (each_member l.form m (members_view l.name-iterator)))
