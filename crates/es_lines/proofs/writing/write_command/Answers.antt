use Rattle.std.proofs.Common.{◌∙◌}
use Rattle.es_model.specs.Names.{topic_of}
use Rattle.es_transcode.proofs.WritingLemmas.{one, both}
use Rattle.es_lines.proofs.ObjectLemmas.{text}
use Rattle.es_lines.proofs.TreeLemmas.{tokens-tree}
use Rattle.es_lines.proofs.writing.write_command.Goals as goal

pub returns-clause-tokens : goal.returns-clause-tokens
returns-clause-tokens c =
    tokens-tree c.args.app.now c.args.command.now
    (both (one c.in_ok-begin_object.ensures) (both (text c.as_str-3.ensures c.in_ok-put_text.ensures) (both (one c.in_ok-key.ensures) (both c.in_ok-write_record.ensures.tokens
    (both (text (c.as_str-4.ensures ∙ c.in_ok-name.ensures ∙ (λ i. topic_of (c.as_str.ensures i) (c.as_str-2.ensures i))) c.in_ok-put_text-2.ensures) (both c.in_ok-put_expected.ensures
    (both (text (c.as_str-5.ensures ∙ c.in_ok-id.ensures.0) c.in_ok-put_text-3.ensures) (one c.in_ok-end_object.ensures))))))))
