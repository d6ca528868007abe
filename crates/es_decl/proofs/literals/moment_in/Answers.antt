use Rattle.std.proofs.Common.{◌∙◌, ap}
use Rattle.es_transcode.specs.Spelled.{moment_in}
use Rattle.es_decl.proofs.AtomLemmas.{moment-is}
use Rattle.es_decl.proofs.literals.moment_in.Goals as goal

pub returns : goal.returns
returns c = moment-is _ c.in_ok-atom.atom c.moment_of.result c.moment_of.ensures.moment c.moment_of.ensures.range c.in_ok-atom.ensures.text c.in_ok-atom.ensures.found ∙ ap moment_in c.in_ok-text.ensures
