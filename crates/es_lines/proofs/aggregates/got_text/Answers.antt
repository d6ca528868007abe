use Rattle.std.proofs.Common.{◌∙◌}
use Rattle.es_lines.specs.Texts.{reply_tree}
use Rattle.es_lines.specs.declared.replies.Reply.TheVariants.{Got}
use Rattle.es_transcode.proofs.WritingLemmas.{one, both}
use Rattle.es_lines.proofs.AggregateLemmas.{got-whole}
use Rattle.es_lines.proofs.ObjectLemmas.{text, whole}
use Rattle.es_lines.proofs.aggregates.got_text.Goals as goal

pub returns : goal.returns
returns c =
    let class = c.args.class.now in
    let fields = c.args.fields.now in
    whole c.ended.result (reply_tree (Got c.args.id.now c.args.version class c.args.created_on c.args.modified_on fields)) c.in_ok-out.ensures
    (both (text c.as_str.ensures c.in_ok-put_text.ensures) (both (text (c.as_str-2.ensures ∙ c.in_ok-created.ensures) c.in_ok-put_text-2.ensures) (both (one c.in_ok-key.ensures) (both c.in_ok-write_record.ensures.tokens
    (both (text (c.as_str-3.ensures ∙ c.in_ok-id.ensures.0) c.in_ok-put_text-3.ensures) (both (text (c.as_str-4.ensures ∙ c.in_ok-modified.ensures) c.in_ok-put_text-4.ensures)
    (both c.in_ok-put_text-5.ensures c.in_ok-put_number.ensures)))))))
    (got-whole c.args.id.now c.args.version class c.args.created_on c.args.modified_on fields) c.ended.ensures
