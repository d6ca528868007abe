use Rattle.std.proofs.Common.{◌≡◌, ◌≤◌, ◌+◌, ℕ, List, false}
use Rattle.es_io.specs.Ahead.{unread}
use Rattle.es_io.specs.LinesLeft.{may_take}
use Rattle.es_io.specs.Next.{TakesAtMost}
use Rattle.es_io.specs.Remains.{MayRemain}
use Rattle.es_io.proofs.LinesLemmas.{Part, PartOf}
use Rattle.es_io.proofs.lines.Lines.read_line.Given as goal

abbrev pub invariant-loop-line : goal.invariant-loop-line
invariant-loop-line g l = record {
  part : Part l.self.line_limit l.count l.line (unread g.S.Source.left l.initial.self.ahead) (unread g.S.Source.left l.self.ahead);
  traced : (b : List ℕ) → MayRemain g.S.Source.left l.self.ahead b → (a : List ℕ) × MayRemain g.S.Source.left l.initial.self.ahead a × PartOf l.self.line_limit l.count l.line a b;
  same_reference : l.self.ahead.source.ghost_name ≡ l.initial.self.ahead.source.ghost_name;
  line_limit : l.self.line_limit ≡ l.initial.self.line_limit;
  room : l.initial.self.room ≡ l.self.room + l.count;
  ended : l.self.ended ≡ false;
  fault : l.self.fault ≡ l.initial.self.fault;
  bound : TakesAtMost (g.S.Source.left l.initial.self.ahead.source.now) (g.S.Source.left l.self.ahead.source.now) (may_take l.initial.self) (may_take l.self);
  later : g.S.Source.faults l.initial.self.ahead.source.now ≤ g.S.Source.faults l.self.ahead.source.now;
}

abbrev pub decreases-loop-line : goal.decreases-loop-line
decreases-loop-line g l = l.self.room
