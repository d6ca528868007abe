-- The end of a run whose lines were all answered.
use Rattle.std.specs.Prelude.{◌≡◌, ◌⊎◌, ◌-◌, ◌+◌, ℕ, List, length, map, Result, Ok, Err}
use Rattle.es_model.specs.History.{Histories}
use Rattle.es_model.specs.Values.{Name}
use Rattle.es_model.specs.declared.memory.Failed.{Failed}
use Rattle.es_lines.specs.declared.ends.End.{End}
use Rattle.es_lines.specs.declared.ends.End.TheVariants as end
use Rattle.es_process.specs.Faults.{end_of}
use Rattle.es_top.specs.declared.serve.Stop.{Stop}
use Rattle.es_top.specs.declared.serve.Stop.TheVariants as stop

-- how many recordings each of some applications has
abbrev pub lengths : Histories → List Name → List ℕ
lengths histories names = map (λ n. length (histories n)) names

-- how many recordings an application has more than at the opening
abbrev pub more_than : Histories → Histories → Name → ℕ
more_than openings histories name = length (histories name) - length (openings name)

-- it tells these numbers, or counting failed
abbrev pub CountsTold : List (Name × ℕ) → ℕ → End → Type 0
CountsTold added lines e = (e ≡ end.Ok added lines) ⊎ ((e ≡ end.Recorder) ⊎ (e ≡ end.Memory))

-- it is the end of such a run
abbrev pub IsCounted : End → Type 0
IsCounted (end.Ok added lines) = Unit {0}
IsCounted end.Recorder = Unit {0}
IsCounted end.Memory = Unit {0}
IsCounted end.Input = ⊥
IsCounted end.Over = ⊥
IsCounted end.Usage = ⊥
IsCounted end.System = ⊥
IsCounted (end.Declaration code path) = ⊥
IsCounted (end.Refused app leader id recordings code rule) = ⊥
IsCounted (end.Turns app turns) = ⊥
IsCounted (end.Unreadable app id) = ⊥
IsCounted (end.Full app last capacity) = ⊥
IsCounted (end.Ahead app leader tracked last) = ⊥

-- the run came to this end
abbrev pub EndsSo : (End → Type 0) → Result End Failed → Type 0
EndsSo P (Ok e) = P e
EndsSo P (Err failed) = ⊥

-- how a run ends, by why its lines stopped: these numbers are told where all were answered
abbrev pub EndsBy : List (Name × ℕ) → Stop → ℕ → Result End Failed → Type 0
EndsBy added stop.End count result = EndsSo (CountsTold added count) result
EndsBy added stop.Asked count result = EndsSo (CountsTold added (count + 1)) result
EndsBy added stop.Over count result = EndsSo (λ e. e ≡ end.Over) result
EndsBy added (stop.Fault f) count result = EndsSo (λ e. e ≡ end_of f) result
EndsBy added stop.Read count result = EndsSo (λ e. e ≡ end.Input) result
EndsBy added stop.Sink count (Ok e) = ⊥
EndsBy added stop.Sink count (Err failed) = Unit {0}
