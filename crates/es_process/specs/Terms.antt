-- What a run goes by.
use Rattle.es_process.specs.Answer.{Options}
use Rattle.es_process.specs.Decision.{Rules}

-- the rules of a system, and the limits of the run
pub record Terms : Type 0 where
  pub rules : Rules
  pub options : Options

abbrev pub terms : Rules → Options → Terms
terms rules options = record { rules = rules; options = options }
