use Rattle.std.proofs.Common.{refl}
use Rattle.es_transcode.proofs.WritingLemmas.{both}
use Rattle.es_lines.specs.Texts.{reply_tree}
use Rattle.es_lines.specs.declared.replies.Reply.TheVariants as reply
use Rattle.es_lines.proofs.ObjectLemmas.{whole}
use Rattle.es_lines.proofs.replies.tracking_text.Goals as goal

pub returns : goal.returns
returns c = whole c.ended.result (reply_tree (reply.Tracking c.args.position)) c.in_ok-out.ensures (both c.in_ok-put_text.ensures c.in_ok-put_number.ensures) refl c.ended.ensures
