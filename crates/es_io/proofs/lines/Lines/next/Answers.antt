use Rattle.std.proofs.Common.{[], ℕ, List, Some, arith, refl, sym, subst}
use Rattle.es_io.proofs.LinesLemmas.{Part-start, next_at_over, IsMore-ahead, IsMore}
use Rattle.es_io.proofs.lines.Lines.next.Goals as goal

pub returns-then-self-clause-next : goal.returns-then-self-clause-next
returns-then-self-clause-next g c = λ ends.
    next_at_over c.args.self.now.line_limit 0 _ _ _ _ _ (omega arith) c.if-self-eq0.true (Part-start _ _) (IsMore-ahead _ _ _ _ c.if-self.true c.args.self.now.ahead.inside)

pub returns-then-self-clause-step : goal.returns-then-self-clause-step
returns-then-self-clause-step g c = λ b left.
    let a = c.args.self.now.ahead in
    let more = subst (λ (t : List ℕ). IsMore (Some t)) (sym left.unread.1) (IsMore-ahead a.start a.end a.piece.items (Some left.unread.0) c.if-self.true a.inside) in
    record {
      before = b;
      may = left;
      first = next_at_over c.args.self.now.line_limit 0 c.args.self.now.room c.args.self.now.room [] (Some b) (Some b) (omega arith) c.if-self-eq0.true (Part-start c.args.self.now.line_limit (Some b)) more;
      uses = ([], tt, refl);
    }
