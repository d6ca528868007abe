use Rattle.std.proofs.Common.{◌≡◌, ◌≤◌, ◌<◌, ◌+◌, length}
use Rattle.std.specs.Io.KnownBytes.{Consumes}
use Rattle.es_io.specs.Next.{TakesAtMost}
use Rattle.es_top.proofs.loading.read_rest.Given as goal

abbrev pub invariant-loop-room : goal.invariant-loop-room
invariant-loop-room g l = record {
  size : length l.bytes + l.room ≡ 1048577;
  piece : 0 < length l.piece.items;
  front : Consumes (g.S.Source.left l.initial.source) (g.S.Source.left l.source) l.bytes;
  bound : TakesAtMost (g.S.Source.left l.initial.source) (g.S.Source.left l.source) 1048577 l.room;
  later : g.S.Source.faults l.initial.source ≤ g.S.Source.faults l.source;
}

abbrev pub decreases-loop-room : goal.decreases-loop-room
decreases-loop-room g l = l.room
