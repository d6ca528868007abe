use Rattle.std.proofs.Common.{length}
use Rattle.es_decl.proofs.pipes.+add_neighbours.Given as goal

abbrev pub decreases-add_neighbours : goal.decreases-add_neighbours
decreases-add_neighbours l = length l.names.now
