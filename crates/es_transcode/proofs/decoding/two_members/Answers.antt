use Rattle.std.proofs.Common.{◌∙◌}
use Rattle.es_transcode.proofs.DecodingLemmas.{two-long}
use Rattle.es_transcode.proofs.decoding.two_members.Goals as goal

pub returns-then-len-ne2 : goal.returns-then-len-ne2
returns-then-len-ne2 c = λ k l d e is. c.if-len-ne2.true (c.len.ensures.len ∙ two-long c.args.members.now.entries k l d e is)
