use Rattle.std.proofs.Common.{map}
use Rattle.es_ties.proofs.ties.Ties.new.Given as goal

abbrev pub ghosts-begun : goal.ghosts-begun
ghosts-begun g a = record { starts = map g.L.Logged.items a.starts.now }
