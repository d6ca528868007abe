use Rattle.std.proofs.Common.{refl}
use Rattle.es_lines.specs.Texts.{lone}
use Rattle.es_lines.proofs.ObjectLemmas.{whole}
use Rattle.es_lines.proofs.replies.lone_text.Goals as goal

pub returns : goal.returns
returns c = whole c.ended.result (lone c.args.name.now c.args.word.now) c.in_ok-out.ensures c.in_ok-put_text.ensures refl c.ended.ensures
