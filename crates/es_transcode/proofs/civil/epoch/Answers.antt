use Rattle.std.proofs.Common.{arith}
use Rattle.std.proofs.lemmas.Int.{ints}
use Rattle.es_transcode.proofs.DateLemmas.{epoch_day-first}
use Rattle.es_transcode.proofs.civil.epoch.Goals as goal

pub returns : goal.returns
returns c = epoch_day-first c.date.result c.date.ensures.0 (omega (arith, ints, c.date.ensures.1)) (omega (arith, ints, c.date.ensures.2))
