use Rattle.std.proofs.Common.{◌≡◌}
use Rattle.serde_json.specs.View.{members_view}
use Rattle.es_decl.specs.Objects.{unknown}
use Rattle.es_decl.proofs.objects.first_unknown.Given as goal

abbrev pub invariant-loop-name : goal.invariant-loop-name
invariant-loop-name l = unknown l.object (members_view l.members.entries) ≡ unknown l.object (members_view l.name-iterator)
