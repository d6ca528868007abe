use Rattle.es_transcode.proofs.WritingLemmas.{one, both}
use Rattle.es_lines.specs.Texts.{reply_tree}
use Rattle.es_lines.specs.declared.replies.Reply.TheVariants.{Log}
use Rattle.es_lines.proofs.ObjectLemmas.{whole}
use Rattle.es_lines.proofs.SectionLemmas.{entries, log-whole}
use Rattle.es_lines.proofs.sections.log_text.Goals as goal

pub returns : goal.returns
returns c =
    let items = c.args.items.now in
    whole c.ended.result (reply_tree (Log c.args.id items c.args.next)) c.in_ok-out.ensures
    (both (one c.in_ok-key.ensures) (both c.in_ok-write_span.ensures (both (one c.in_ok-key-2.ensures) (both (one c.in_ok-begin_array.ensures)
    (both (entries c.as_slice.ensures c.in_ok-write_entries.ensures) (both (one c.in_ok-key-3.ensures) (both c.in_ok-write_span-2.ensures c.in_ok-put_text.ensures)))))))
    (log-whole c.args.id items c.args.next) c.ended.ensures
