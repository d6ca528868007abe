use Rattle.std.proofs.Common.{◌≡◌, ◌++◌, drop}
use Rattle.json.specs.Tree.{members_tokens}
use Rattle.serde_json.specs.Written.{members_outline}
use Rattle.es_transcode.specs.CanonicalText.{member_trees}
use Rattle.es_transcode.specs.RecordText.{AreMembers}
use Rattle.es_transcode.proofs.encoding.write_members.Given as goal

abbrev pub invariant-loop-name : goal.invariant-loop-name
invariant-loop-name l =
    (l.out.before ≡ l.initial.out.before)
    × (l.out.tokens ++ members_tokens (members_outline (member_trees (drop l.name-index l.fields))) ≡ l.initial.out.tokens ++ members_tokens (members_outline (member_trees l.fields)))
    × (AreMembers (drop l.name-index l.fields) (member_trees (drop l.name-index l.fields)) → AreMembers l.fields (member_trees l.fields))
