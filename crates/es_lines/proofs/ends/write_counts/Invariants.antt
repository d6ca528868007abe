use Rattle.std.proofs.Common.{◌≡◌, ◌++◌, drop}
use Rattle.json.specs.Tree.{members_tokens}
use Rattle.serde_json.specs.Written.{members_outline}
use Rattle.es_lines.specs.Texts.{counts}
use Rattle.es_lines.proofs.ends.write_counts.Given as goal

abbrev pub invariant-loop-count : goal.invariant-loop-count
invariant-loop-count l =
    (l.out.before ≡ l.initial.out.before)
    × (l.out.tokens ++ members_tokens (members_outline (counts (drop l.count-index l.counts))) ≡ l.initial.out.tokens ++ members_tokens (members_outline (counts l.counts)))
