use Rattle.std.proofs.Common.{◌∙◌, ap}
use Rattle.es_transcode.specs.Spelled.{decimal_in}
use Rattle.es_decl.proofs.AtomLemmas.{decimal-is}
use Rattle.es_decl.proofs.literals.decimal_in.Goals as goal

pub returns : goal.returns
returns c = decimal-is _ c.in_ok-atom.atom c.decimal_of.result c.decimal_of.ensures.decimal c.decimal_of.ensures.range c.in_ok-atom.ensures.text c.in_ok-atom.ensures.found ∙ ap decimal_in c.in_ok-text.ensures
