use Rattle.std.proofs.Common.{◌≡◌, List, ◌++◌}
use Rattle.serde_json.specs.View.{members_view}
use Rattle.serde_json.proofs.Views.{Entry}
use Rattle.es_transcode.specs.RecordText.{AreMembers}
use Rattle.es_transcode.proofs.decoding.fields_of.Given as goal

abbrev pub invariant-loop-name : goal.invariant-loop-name
invariant-loop-name l = (done : List Entry) × (l.members.entries ≡ done ++ l.name-iterator) × AreMembers l.fields (members_view done)
