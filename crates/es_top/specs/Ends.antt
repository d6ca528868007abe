-- Statuses, the ends of a run that they tell, and what an end tells.
use Rattle.std.specs.Prelude.{◌≡◌, ◌⊎◌, ℕ, List, false, Option, Some, None, option_map}
use Rattle.std.specs.Io.KnownBytes.{Appends}
use Rattle.es_io.specs.Front.{AppendsFront}
use Rattle.es_lines.specs.declared.ends.End.{End}
use Rattle.es_lines.specs.declared.ends.End.TheVariants as end
use Rattle.es_lines.specs.Texts.{end_text, is_fixed}
use Rattle.es_process.specs.SingleThread.{as_line}
use Rattle.es_top.specs.Sorts.{Sort, sort_of}
use Rattle.es_top.specs.declared.loading.LoadFault.{LoadFault}
use Rattle.es_top.specs.declared.loading.LoadFault.TheVariants.{Declaration, Failed, NoMemory}
use Rattle.es_top.specs.declared.status.Status.{Status}
use Rattle.es_top.specs.declared.status.Status.TheVariants as status

-- the end that a status tells: each but a failed sink tells one
abbrev pub ended : Status → Option End
ended (status.Ok added lines) = Some (end.Ok added lines)
ended status.Memory = Some end.Memory
ended status.Usage = Some end.Usage
ended (status.Declaration code path) = Some (end.Declaration code path)
ended status.System = Some end.System
ended status.Input = Some end.Input
ended status.Sink = None
ended status.Recorder = Some end.Recorder
ended (status.Refused app leader id recordings code rule) = Some (end.Refused app leader id recordings code rule)
ended (status.Turns app turns) = Some (end.Turns app turns)
ended (status.Unreadable app id) = Some (end.Unreadable app id)
ended (status.Full app last capacity) = Some (end.Full app last capacity)
ended status.Over = Some end.Over
ended (status.Ahead app leader tracked last) = Some (end.Ahead app leader tracked last)

-- the number of a status
abbrev pub code_of : Status → ℕ
code_of (status.Ok added lines) = 0
code_of status.Memory = 1
code_of status.Usage = 2
code_of (status.Declaration code path) = 3
code_of status.System = 4
code_of status.Input = 5
code_of status.Sink = 6
code_of status.Recorder = 7
code_of (status.Refused app leader id recordings code rule) = 8
code_of (status.Turns app turns) = 9
code_of (status.Ahead app leader tracked last) = 10
code_of (status.Unreadable app id) = 11
code_of (status.Full app last capacity) = 12
code_of status.Over = 13

-- what a status tells of the run
abbrev pub sorted : Status → Option Sort
sorted s = option_map sort_of (ended s)

-- an end is told as itself, or, where its line has members, as one for want of memory
abbrev pub IsToldAs : End → End → Type 0
IsToldAs e told = (told ≡ e) ⊎ ((told ≡ end.Memory) × (is_fixed e ≡ false))

-- what telling an end writes: where one was told its line, and where the sink failed a front of such a line
abbrev pub Writes : End → Option (List ℕ) → Option (List ℕ) → Option End → Type 0
Writes e before now (Some told) = IsToldAs e told × Appends before now (as_line (end_text told))
Writes e before now None = (told : End) × IsToldAs e told × AppendsFront before now (as_line (end_text told))

-- the same of one line
abbrev pub WritesLine : End → List ℕ → Option (List ℕ) → Option (List ℕ) → Option End → Type 0
WritesLine e line before now (Some told) = (told ≡ e) × Appends before now line
WritesLine e line before now None = AppendsFront before now line

-- the end of a run whose system couldn't be loaded
abbrev pub end_of_load : LoadFault → End
end_of_load (Declaration code path) = end.Declaration code path
end_of_load Failed = end.System
end_of_load NoMemory = end.Memory

-- and its status, where the end line was written
abbrev pub status_of_load : LoadFault → Status
status_of_load (Declaration code path) = status.Declaration code path
status_of_load Failed = status.System
status_of_load NoMemory = status.Memory

-- a status that a fault of the document or of the sink gives, or want of memory
abbrev pub IsStopped : Status → Type 0
IsStopped result = (result ≡ status.System) ⊎ (result ≡ status.Sink) ⊎ (result ≡ status.Memory)
