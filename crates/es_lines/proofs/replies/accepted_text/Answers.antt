use Rattle.std.proofs.Common.{refl}
use Rattle.es_transcode.proofs.WritingLemmas.{both}
use Rattle.es_lines.specs.Texts.{reply_tree}
use Rattle.es_lines.specs.declared.replies.Reply.TheVariants as reply
use Rattle.es_lines.proofs.ObjectLemmas.{whole}
use Rattle.es_lines.proofs.replies.accepted_text.Goals as goal

pub returns : goal.returns
returns c = whole c.ended.result (reply_tree (reply.Accepted c.args.recording c.args.first c.args.last c.args.version)) c.in_ok-out.ensures (both (both (both (both c.in_ok-put_number.ensures c.in_ok-put_number-2.ensures) c.in_ok-put_text.ensures) c.in_ok-put_number-3.ensures) c.in_ok-put_number-4.ensures) refl c.ended.ensures
