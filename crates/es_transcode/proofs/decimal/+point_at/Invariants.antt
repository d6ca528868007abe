use Rattle.std.proofs.Common.{length}
use Rattle.es_transcode.proofs.decimal.+point_at.Given as goal

abbrev pub decreases-point_at : goal.decreases-point_at
decreases-point_at l = length l.text.now
