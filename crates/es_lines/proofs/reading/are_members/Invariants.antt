use Rattle.std.proofs.Common.{◌≡◌, map}
use Rattle.serde_json.specs.View.{members_view}
use Rattle.es_lines.specs.Requests.{are_members}
use Rattle.es_lines.proofs.reading.are_members.Given as goal

abbrev pub invariant-loop-name : goal.invariant-loop-name
invariant-loop-name l = are_members (map (λ n. n.now) l.names) (members_view l.members.entries) ≡ are_members (map (λ n. n.now) l.names) (members_view l.name-iterator)
