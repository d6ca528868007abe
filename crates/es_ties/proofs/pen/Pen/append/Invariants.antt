use Rattle.es_ties.proofs.pen.Pen.append.Given as goal

abbrev pub ghosts-grow : goal.ghosts-grow
ghosts-grow g a = record { items = g.E.Logged.items a.entry.now }
