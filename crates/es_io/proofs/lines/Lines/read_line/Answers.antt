use Rattle.std.proofs.Common.{[], ◌∷◌, ◌++◌, ℕ, List, true, false, Some, arith, ◌∙◌, ap, refl, sym, subst, append_assoc, Ok}
use Rattle.es_model.specs.Lines.{lines_of}
use Rattle.es_io.specs.Ahead.{unread}
use Rattle.es_io.specs.Remains.{FaultOf}
use Rattle.es_io.specs.LinesLeft.{may_take}
use Rattle.es_io.specs.declared.lines.Step.TheVariants as step
use Rattle.es_io.proofs.PiecesLemmas.{NoLineFeed-push}
use Rattle.es_io.proofs.RemainsLemmas.{not_both, on_err}
use Rattle.es_io.proofs.LinesLemmas.{Part, PartOf, Part-start, Part-push, Part-pass, Part-limit, next_at_break, next_at_end, next_at_over, uses_at_break, uses_at_end, uses_at_none, uses_at_over, IsMore, same_limits, IsMore-ahead, TakesAtMost-same, TakesAtMost-none}
use Rattle.es_io.proofs.lines.Lines.read_line.Goals as goal
use Rattle.es_io.proofs.lines.Lines.read_line.Goals.{then-count-self+in_ok-push, else-count-self}

pub returns-then-self-eq0-clause-next : goal.returns-then-self-eq0-clause-next
returns-then-self-eq0-clause-next g c =
    let more = ((c.in_ok-has_more.ensures {u = tt}).more).0 c.if-branch.true in
    let so = Part-limit _ _ _ _ _ _ _ c.has_more.ensures.line_limit c.loop-line.invariant.part c.has_more.ensures.keeps in
    same_limits _ _ _ _ _ _ _ _ (c.has_more.ensures.line_limit ∙ c.loop-line.invariant.line_limit) refl
    (next_at_over _ _ _ _ _ _ _ (omega (arith, c.loop-line.invariant.room, c.has_more.ensures.room)) c.if-self-eq0.true so (IsMore-ahead _ _ _ _ more c.has_more.new.self.ahead.inside))

pub returns-then-byte-eq10-clause-next : goal.returns-then-byte-eq10-clause-next
returns-then-byte-eq10-clause-next g c =
    let so = Part-limit _ _ _ _ _ _ _ c.has_more.ensures.line_limit c.loop-line.invariant.part c.has_more.ensures.keeps in
    same_limits _ _ _ _ _ _ _ _ (c.has_more.ensures.line_limit ∙ c.loop-line.invariant.line_limit) refl
    (next_at_break _ _ _ _ _ _ _ _ _ _ (omega (arith, c.loop-line.invariant.room, c.has_more.ensures.room)) c.if-byte-eq10.true c.whole.ensures so c.pop-byte.ensures.takes)

pub returns-clause-next : goal.returns-clause-next
returns-clause-next g c =
    let so = Part-limit _ _ _ _ _ _ _ c.has_more.ensures.line_limit c.loop-line.invariant.part c.has_more.ensures.keeps in
    same_limits _ _ _ _ _ _ _ _ (c.has_more.ensures.line_limit ∙ c.loop-line.invariant.line_limit) refl
    (next_at_end _ _ _ _ _ _ _ _ (omega (arith, c.loop-line.invariant.room, c.has_more.ensures.room)) (omega arith) c.whole-2.ensures so
    (c.has_more.ensures.end (c.in_ok-has_more.was {u = tt} ∙ ap Ok c.if-branch.false)))

pub loop-line-preserved : goal.loop-line-preserved
loop-line-preserved g c =
    let so = Part-limit _ _ _ _ _ _ _ c.has_more.ensures.line_limit c.loop-line.invariant.part c.has_more.ensures.keeps in
    record {
      part = elim c.if-count-self.branch [
        | then-count-self+in_ok-push w ↦ Part-push _ _ _ _ _ _ _ _ (w.line-is ∙ (w.in_ok-push.ensures {u = tt}).ok) c.if-byte-eq10.false w.if-count-self.true so c.pop-byte.ensures.takes
        | else-count-self w ↦ Part-pass _ _ _ _ _ _ _ _ w.line-is c.if-byte-eq10.false w.if-count-self.false so c.pop-byte.ensures.takes
      ];
      traced = λ b m.
          let x = c.loop-line.invariant.traced (c.pop-byte.result ∷ b) (c.has_more.ensures.remains (c.pop-byte.result ∷ b) (c.pop-byte.ensures.remains b m)) in
          let given = Part-limit _ _ _ _ (Some x.0) (Some (c.pop-byte.result ∷ b)) (Some (c.pop-byte.result ∷ b)) c.has_more.ensures.line_limit x.2 refl in (
            x.0,
            x.1,
            elim c.if-count-self.branch [
              | then-count-self+in_ok-push w ↦
                  Part-push _ _ _ _ (Some x.0) (Some (c.pop-byte.result ∷ b)) (Some b) _ (w.line-is ∙ (w.in_ok-push.ensures {u = tt}).ok) c.if-byte-eq10.false w.if-count-self.true given refl
              | else-count-self w ↦ Part-pass _ _ _ _ (Some x.0) (Some (c.pop-byte.result ∷ b)) (Some b) _ w.line-is c.if-byte-eq10.false w.if-count-self.false given refl
            ],
          );
      same_reference = ap (λ r. r.ghost_name) c.pop-byte.ensures.same_source ∙ c.has_more.ensures.same_reference ∙ c.loop-line.invariant.same_reference;
      line_limit = c.has_more.ensures.line_limit ∙ c.loop-line.invariant.line_limit;
      room = omega (arith, c.loop-line.invariant.room, c.has_more.ensures.room);
      ended = c.has_more.ensures.ended ∙ c.loop-line.invariant.ended;
      fault = c.has_more.ensures.fault ∙ c.loop-line.invariant.fault;
      bound = TakesAtMost-same _ _ _ _ _ _ _ _ c.loop-line.invariant.bound c.has_more.ensures.bound (ap (λ r. g.S.Source.left r.now) c.pop-byte.ensures.same_source) (omega (arith, c.pop-byte.ensures.one));
      later = omega (arith, ap (λ r. g.S.Source.faults r.now) c.pop-byte.ensures.same_source, c.has_more.ensures.cause.later, c.loop-line.invariant.later);
    }

pub returns-then-self-eq0-clause-uses : goal.returns-then-self-eq0-clause-uses
returns-then-self-eq0-clause-uses g c =
    uses_at_over _ _ _ _ _ _ (Part-limit _ _ _ _ _ _ _ c.has_more.ensures.line_limit c.loop-line.invariant.part c.has_more.ensures.keeps)

pub returns-then-byte-eq10-clause-uses : goal.returns-then-byte-eq10-clause-uses
returns-then-byte-eq10-clause-uses g c =
    uses_at_break _ _ _ _ _ _ _ _ _ _ c.if-byte-eq10.true c.whole.ensures (Part-limit _ _ _ _ _ _ _ c.has_more.ensures.line_limit c.loop-line.invariant.part c.has_more.ensures.keeps) c.pop-byte.ensures.takes

pub returns-clause-uses : goal.returns-clause-uses
returns-clause-uses g c =
    uses_at_end _ _ _ _ _ _ _ c.whole-2.ensures (Part-limit _ _ _ _ _ _ _ c.has_more.ensures.line_limit c.loop-line.invariant.part c.has_more.ensures.keeps)
    (c.has_more.ensures.end (c.in_ok-has_more.was {u = tt} ∙ ap Ok c.if-branch.false))

pub returns-then-self-eq0-clause-step : goal.returns-then-self-eq0-clause-step
returns-then-self-eq0-clause-step g c = λ b left.
    let x = c.loop-line.invariant.traced b (c.has_more.ensures.remains b left.unread) in
    let a = c.has_more.new.self.ahead in
    let more = ((c.in_ok-has_more.ensures {u = tt}).more).0 c.if-branch.true in
    let some = subst (λ (t : List ℕ). IsMore (Some t)) (sym left.unread.1) (IsMore-ahead a.start a.end a.piece.items (Some left.unread.0) more a.inside) in
    let so = Part-limit _ _ _ _ (Some x.0) (Some b) (Some b) c.has_more.ensures.line_limit x.2 refl in
    record {
      before = x.0;
      may = record { unread = x.1; ended = λ is. absurd (not_both _ c.requires is) };
      first = same_limits c.has_more.new.self.line_limit _ _ c.args.self.now.room c.has_more.new.self.room (Some x.0) (Some b) step.Over (c.has_more.ensures.line_limit ∙ c.loop-line.invariant.line_limit) refl
          (next_at_over c.has_more.new.self.line_limit c.loop-line.count c.args.self.now.room c.has_more.new.self.room _ (Some x.0) (Some b) (omega (arith, c.loop-line.invariant.room, c.has_more.ensures.room)) c.if-self-eq0.true so some);
      uses = uses_at_over _ _ _ (Some x.0) (Some b) false so;
    }

pub returns-then-byte-eq10-clause-step : goal.returns-then-byte-eq10-clause-step
returns-then-byte-eq10-clause-step g c = λ b left.
    let all = c.pop-byte.result ∷ b in
    let x = c.loop-line.invariant.traced all (c.has_more.ensures.remains all (c.pop-byte.ensures.remains b left.unread)) in
    let so = Part-limit _ _ _ _ (Some x.0) (Some all) (Some all) c.has_more.ensures.line_limit x.2 refl in
    record {
      before = x.0;
      may = record { unread = x.1; ended = λ is. absurd (not_both _ c.requires is) };
      first = same_limits c.has_more.new.self.line_limit _ _ _ _ (Some x.0) (Some b) _ (c.has_more.ensures.line_limit ∙ c.loop-line.invariant.line_limit) refl
          (next_at_break c.has_more.new.self.line_limit c.loop-line.count c.args.self.now.room _ _ (Some x.0) (Some all) (Some b) c.pop-byte.result _ (omega (arith, c.loop-line.invariant.room, c.has_more.ensures.room)) c.if-byte-eq10.true c.whole.ensures so refl);
      uses = uses_at_break _ _ _ _ (Some x.0) (Some all) (Some b) c.pop-byte.result _ _ c.if-byte-eq10.true c.whole.ensures so refl;
    }

pub returns-clause-step : goal.returns-clause-step
returns-clause-step g c = λ b left.
    let x = c.loop-line.invariant.traced b (c.has_more.ensures.remains b left.unread) in
    let so = Part-limit _ _ _ _ (Some x.0) (Some b) (Some b) c.has_more.ensures.line_limit x.2 refl in
    record {
      before = x.0;
      may = record { unread = x.1; ended = λ is. absurd (not_both _ c.requires is) };
      first = same_limits c.has_more.new.self.line_limit _ _ _ _ (Some x.0) (Some b) _ (c.has_more.ensures.line_limit ∙ c.loop-line.invariant.line_limit) refl
          (next_at_end c.has_more.new.self.line_limit c.loop-line.count c.args.self.now.room c.has_more.new.self.room _ (Some x.0) (Some b) _ (omega (arith, c.loop-line.invariant.room, c.has_more.ensures.room)) (omega arith) c.whole-2.ensures so (left.ended refl));
      uses = uses_at_end _ _ _ _ (Some x.0) (Some b) _ c.whole-2.ensures so (left.ended refl);
    }

pub loop-line-init : goal.loop-line-init
loop-line-init g c = record {
  part = subst (λ (l : List ℕ). Part c.args.self.now.line_limit 0 l (unread g.S.Source.left c.args.self.now.ahead) (unread g.S.Source.left c.args.self.now.ahead)) (sym c.new-line.ensures) (Part-start c.args.self.now.line_limit (unread g.S.Source.left c.args.self.now.ahead));
  traced = λ b m. (b, m, subst (λ (l : List ℕ). PartOf c.args.self.now.line_limit 0 l b b) (sym c.new-line.ensures) (Part-start c.args.self.now.line_limit (Some b)));
  same_reference = refl;
  line_limit = refl;
  room = omega arith;
  ended = c.requires;
  fault = refl;
  bound = TakesAtMost-none (g.S.Source.left c.args.self.now.ahead.source.now) (may_take c.args.self.now);
  later = omega arith;
}

pub returns-in_err-has_more-clause-cut : goal.returns-in_err-has_more-clause-cut
returns-in_err-has_more-clause-cut g c = λ b left.
    let x = c.loop-line.invariant.traced b (c.has_more.ensures.remains b left.unread) in
    on_err _ (FaultOf g.S.Source.left c.args.self.now b) record {
      before = x.0;
      may = record { unread = x.1; ended = λ is. absurd (not_both _ c.requires is) };
      front = x.2.front;
      parts = x.2.parts;
      unended = x.2.none;
    }

pub returns-in_err-push-clause-cut : goal.returns-in_err-push-clause-cut
returns-in_err-push-clause-cut g c = λ b left.
    let all = c.pop-byte.result ∷ b in
    let x = c.loop-line.invariant.traced all (c.has_more.ensures.remains all (c.pop-byte.ensures.remains b left.unread)) in
    on_err _ (FaultOf g.S.Source.left c.args.self.now b) record {
      before = x.0;
      may = record { unread = x.1; ended = λ is. absurd (not_both _ c.requires is) };
      front = x.2.front ++ c.pop-byte.result ∷ [];
      parts = x.2.parts ∙ sym (append_assoc x.2.front (c.pop-byte.result ∷ []) b);
      unended = NoLineFeed-push x.2.front c.pop-byte.result x.2.none c.if-byte-eq10.false;
    }

pub returns-then-count-eq0-clause-step : goal.returns-then-count-eq0-clause-step
returns-then-count-eq0-clause-step g c = λ b left.
    let x = c.loop-line.invariant.traced b (c.has_more.ensures.remains b left.unread) in
    let none = uses_at_none _ c.loop-line.count _ (Some x.0) (Some b) true c.if-count-eq0.true x.2 (left.ended refl) in
    record {
      before = x.0;
      may = record { unread = x.1; ended = λ is. absurd (not_both _ c.requires is) };
      first = (ap (lines_of c.args.self.now.line_limit c.args.self.now.room) none.0, ap (lines_of c.has_more.new.self.line_limit c.has_more.new.self.room) none.1);
      uses = none;
    }
