use Rattle.es_lines.proofs.AggregateLemmas.{text-of}
use Rattle.es_lines.proofs.aggregates.iso_text.Goals as goal

pub returns : goal.returns
returns c = text-of c.args.moment c.encode.result c.encode.ensures
