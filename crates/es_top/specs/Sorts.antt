-- What the end of a run tells of it.
use Rattle.es_lines.specs.declared.ends.End.{End}
use Rattle.es_lines.specs.declared.ends.End.TheVariants as end

-- what an end tells of the run: that it came to an end of its own, that want of memory or a recorder cut it short, that reading the lines did, or that it didn't begin
pub data Sort : Type 0 where
  itself : Sort
  stopped : Sort
  in_lines : Sort
  unbegun : Sort

abbrev pub sort_of : End → Sort
sort_of (end.Ok added lines) = itself
sort_of (end.Refused app leader id recordings code rule) = itself
sort_of (end.Turns app turns) = itself
sort_of (end.Unreadable app id) = itself
sort_of (end.Full app last capacity) = itself
sort_of end.Over = itself
sort_of (end.Ahead app leader tracked last) = itself
sort_of end.Memory = stopped
sort_of end.Recorder = stopped
sort_of end.Input = in_lines
sort_of end.Usage = unbegun
sort_of (end.Declaration code path) = unbegun
sort_of end.System = unbegun

-- a claim by what an end tells: of a run that came to an end of its own, of one that was cut short, of one that reading cut short, and any other
abbrev pub BySort : Sort → Type 0 → Type 0 → Type 0 → Type 0 → Type 0
BySort itself own cut read other = own
BySort stopped own cut read other = cut
BySort in_lines own cut read other = read
BySort unbegun own cut read other = other
