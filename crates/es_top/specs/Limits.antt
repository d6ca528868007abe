-- The limits of a run, and what a run of a system goes by.
use Rattle.std.specs.Prelude.{ℕ, ◌+◌, List, Option}
use Rattle.es_model.specs.declared.declaration.System.{System}
use Rattle.es_model.specs.declared.limits.TheConstants.{MOST_CAPACITY, DEFAULT_TURNS, MOST_LINE_BYTES, MOST_INPUT_BYTES}
use Rattle.es_model.specs.Lines.{Line, lines_of}
use Rattle.es_io.specs.Next.{TakesAtMost}
use Rattle.es_process.specs.Answer.{Options, options}
use Rattle.es_process.specs.Decision.{Rules}
use Rattle.es_process.specs.SingleThread.{up_to_stop}
use Rattle.es_process.specs.SystemRules.{rules_of}
use Rattle.es_process.specs.Terms.{Terms, terms}

-- how many events an application may have, and how many notifications a follower may record
abbrev pub limits : Options
limits = options MOST_CAPACITY DEFAULT_TURNS

-- the rules of a system, and these limits
abbrev pub terms_of : System → Terms
terms_of sys = terms (rules_of sys) limits

-- of a source no more than one byte past the limit of all lines was taken
abbrev pub TakesLines : Option (List ℕ) → Option (List ℕ) → Type 0
TakesLines old new = TakesAtMost old new (MOST_INPUT_BYTES + 1) 0

-- all lines of an input, whether or not one of them asks to stop
abbrev pub all_lines : List ℕ → List Line
all_lines input = lines_of MOST_LINE_BYTES MOST_INPUT_BYTES input

-- those that a run answers: up to the first that asks to stop
abbrev pub lines_for : Rules → List ℕ → List Line
lines_for rules input = up_to_stop rules (all_lines input)
