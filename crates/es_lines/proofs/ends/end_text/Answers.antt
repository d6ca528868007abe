use Rattle.std.proofs.Common.{◌∙◌}
use Rattle.es_transcode.proofs.WritingLemmas.{text-of}
use Rattle.es_lines.specs.Texts.{end_tree}
use Rattle.es_lines.proofs.ends.end_text.Goals as goal

pub returns : goal.returns
returns c =
    c.from_vec.ensures ∙ c.into_inner.ensures.items
    ∙ text-of c.write_end.new.out (end_tree c.args.end.now) c.new-out.result (c.new-out.ensures.before ∙ c.in_ok-with_capacity.ensures.items) c.new-out.ensures.tokens c.in_ok-write_end.ensures
