use Rattle.std.proofs.Common.{◌++◌, ◌∷◌, [], ap, sym}
use Rattle.json.specs.Print.{escape_byte}
use Rattle.es_lines.specs.Texts.{end_text}
use Rattle.es_lines.proofs.ends.fixed_end_line.Goals as goal

pub returns-in-Memory-clause-line : goal.returns-in-Memory-clause-line
unfolding escape_byte
returns-in-Memory-clause-line c = sym (ap (λ e. end_text e ++ 10 ∷ []) c.in-Memory.is)

pub returns-in-Usage-clause-line : goal.returns-in-Usage-clause-line
unfolding escape_byte
returns-in-Usage-clause-line c = sym (ap (λ e. end_text e ++ 10 ∷ []) c.in-Usage.is)

pub returns-in-System-clause-line : goal.returns-in-System-clause-line
unfolding escape_byte
returns-in-System-clause-line c = sym (ap (λ e. end_text e ++ 10 ∷ []) c.in-System.is)

pub returns-in-Input-clause-line : goal.returns-in-Input-clause-line
unfolding escape_byte
returns-in-Input-clause-line c = sym (ap (λ e. end_text e ++ 10 ∷ []) c.in-Input.is)

pub returns-in-Recorder-clause-line : goal.returns-in-Recorder-clause-line
unfolding escape_byte
returns-in-Recorder-clause-line c = sym (ap (λ e. end_text e ++ 10 ∷ []) c.in-Recorder.is)

pub returns-in-Over-clause-line : goal.returns-in-Over-clause-line
unfolding escape_byte
returns-in-Over-clause-line c = sym (ap (λ e. end_text e ++ 10 ∷ []) c.in-Over.is)
