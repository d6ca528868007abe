use Rattle.es_io.proofs.KnownLemmas.{prepend-nothing}
use Rattle.es_io.proofs.lines.Ahead.new.Goals as goal

pub returns-clause-unread : goal.returns-clause-unread
returns-clause-unread g c = prepend-nothing (g.S.Source.left c.args.source.now)
