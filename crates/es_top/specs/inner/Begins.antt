-- How a run ends where a follower is ahead of its leader at the opening, and where none is.
use Rattle.std.specs.Prelude.{◌≡◌, Option, Some, None}
use Rattle.es_lines.specs.declared.ends.End.{End}
use Rattle.es_lines.specs.declared.ends.End.TheVariants as end
use Rattle.es_process.specs.declared.ahead.Ahead.{Ahead}

-- where one is ahead it ends so, with this pair and both numbers, but for want of memory and a failed recorder; and where none is, otherwise
abbrev pub AheadEnd : Option Ahead → End → Type 0
AheadEnd found (end.Ahead app leader tracked last) = found ≡ Some (record { app = app; leader = leader; tracked = tracked; last = last })
AheadEnd found end.Memory = Unit {0}
AheadEnd found end.Recorder = Unit {0}
AheadEnd found end.Input = found ≡ None
AheadEnd found end.Over = found ≡ None
AheadEnd found end.Usage = found ≡ None
AheadEnd found end.System = found ≡ None
AheadEnd found (end.Ok added lines) = found ≡ None
AheadEnd found (end.Declaration code path) = found ≡ None
AheadEnd found (end.Refused app leader id recordings code rule) = found ≡ None
AheadEnd found (end.Turns app turns) = found ≡ None
AheadEnd found (end.Unreadable app id) = found ≡ None
AheadEnd found (end.Full app last capacity) = found ≡ None

-- an end before the first step
abbrev pub IsUnbegunEnd : End → Type 0
IsUnbegunEnd (end.Ahead app leader tracked last) = Unit {0}
IsUnbegunEnd end.Memory = Unit {0}
IsUnbegunEnd end.Recorder = Unit {0}
IsUnbegunEnd end.Input = ⊥
IsUnbegunEnd end.Over = ⊥
IsUnbegunEnd end.Usage = ⊥
IsUnbegunEnd end.System = ⊥
IsUnbegunEnd (end.Ok added lines) = ⊥
IsUnbegunEnd (end.Declaration code path) = ⊥
IsUnbegunEnd (end.Refused app leader id recordings code rule) = ⊥
IsUnbegunEnd (end.Turns app turns) = ⊥
IsUnbegunEnd (end.Unreadable app id) = ⊥
IsUnbegunEnd (end.Full app last capacity) = ⊥
