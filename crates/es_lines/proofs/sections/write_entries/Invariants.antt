use Rattle.std.proofs.Common.{◌≡◌, ◌++◌, drop}
use Rattle.json.specs.Tree.{items_tokens}
use Rattle.serde_json.specs.Written.{items_outline}
use Rattle.es_lines.specs.Texts.{entry_trees}
use Rattle.es_lines.proofs.sections.write_entries.Given as goal

abbrev pub invariant-loop-entry : goal.invariant-loop-entry
invariant-loop-entry l =
    (l.out.before ≡ l.initial.out.before)
    × (l.out.tokens ++ items_tokens (items_outline (entry_trees (drop l.entry-index l.entries))) ≡ l.initial.out.tokens ++ items_tokens (items_outline (entry_trees l.entries)))
