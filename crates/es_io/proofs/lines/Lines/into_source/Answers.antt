use Rattle.es_io.proofs.RemainsLemmas.{something_left}
use Rattle.es_io.proofs.lines.Lines.into_source.Goals as goal

pub returns-clause-left : goal.returns-clause-left
returns-clause-left g c = something_left g.S.Source.left c.args.self
