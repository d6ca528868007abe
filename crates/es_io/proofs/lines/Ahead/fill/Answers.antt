use Rattle.std.proofs.Common.{◌≡◌, ◌++◌, rules, ℕ, List, take, sym, ap, subst}
use Rattle.std.specs.Vec.{with_items}
use Rattle.std.proofs.lemmas.List.{with_items_is}
use Rattle.es_io.specs.Remains.{MayHold}
use Rattle.es_io.proofs.RemainsLemmas.{hold_more, none_ahead}
use Rattle.es_io.proofs.lines.Ahead.fill.Goals as goal

pub returns-clause-remains : goal.returns-clause-remains
returns-clause-remains g c = λ b m.
    let bytes : take c.in_ok-count.count c.read_at_most.new.piece ≡ take c.in_ok-count.count (with_items c.args.self.now.piece c.read_at_most.new.piece).items = ap (λ (t : List ℕ). take c.in_ok-count.count t) (sym (with_items_is c.args.self.now.piece c.read_at_most.new.piece (search rules))) in (
      b,
      ap (λ (t : List ℕ). t ++ b) (sym (none_ahead _ _ c.args.self.now.piece.items c.requires.used_up)),
      subst (λ (t : List ℕ). MayHold (g.S.Source.left c.args.self.now.source.now) t) (sym m.1) (subst (λ (t : List ℕ). MayHold (g.S.Source.left c.args.self.now.source.now) (t ++ m.0)) bytes (hold_more _ _ (take c.in_ok-count.count c.read_at_most.new.piece) m.0 ((c.in_ok-count.ensures {u = tt}).bytes).0 m.2)),
    )
