use Rattle.std.proofs.Common.{◌≡◌, ◌+◌, suc, ◌||◌, not, take, Ok, Err, sym, ap, ◌∙◌, arith, rules}
use Rattle.std.specs.List.{list_any}
use Rattle.std.specs.Str.{bytes_eq}
use Rattle.es_model.specs.declared.declaration.Class.{Class}
use Rattle.es_expr.specs.Misfits.{class_misfits}
use Rattle.es_expr.specs.inner.Seen.{has_seen}
use Rattle.es_expr.proofs.FindsLemmas.{loop-on, loop-halts}
use Rattle.es_expr.proofs.SeenLemmas.{any-step, class-found}
use Rattle.es_expr.proofs.walk.classes.classes.Goals as goal

pub returns-in_err-class : goal.returns-in_err-class
returns-in_err-class c =
    let rethrown : c.from_residual-in_err-class.result ≡ Err c.in_err-class.field-0.0 = search rules in
    let x : Class = c.index-classes-place.result in
    loop-halts (class_misfits c.args.sys.now c.args.path.now) c.args.classes.now c.loop-place.place c.loop-place.invariant.faults
    x c.in_err-class.field-0.0 c.from_residual-in_err-class.result rethrown
    c.loop-place-test.true c.index-classes-place.is
    (class-found c.args.sys.now c.args.path.now c.loop-place.place x c.args.classes.now c.in_ok-is_new.is_new (has_seen c.loop-place.seen x.name) (Err c.in_err-class.field-0.0)
    c.requires (c.in_ok-is_new.ensures.new ∙ ap (λ n. not (has_seen c.loop-place.seen n)) c.as_str.ensures) (c.loop-place.invariant.seen x.name) c.in_err-class.ensures)

pub loop-place-preserved : goal.loop-place-preserved
loop-place-preserved c =
    let x : Class = c.index-classes-place.result in
    let next : suc c.loop-place.place ≡ c.loop-place.place + 1 = omega arith in
    record {
      seen = λ q.
          c.in_ok-is_new.ensures.seen q ∙ ap (λ n. bytes_eq n q || has_seen c.loop-place.seen q) c.as_str.ensures
          ∙ ap (λ b. bytes_eq x.name q || b) (c.loop-place.invariant.seen q)
          ∙ sym (any-step (λ (d : Class). bytes_eq d.name q) c.args.classes.now c.loop-place.place x c.loop-place-test.true c.index-classes-place.is)
          ∙ ap (λ n. list_any (λ (d : Class). bytes_eq d.name q) (take n c.args.classes.now)) next;
      faults = loop-on (class_misfits c.args.sys.now c.args.path.now) c.args.classes.now c.loop-place.place c.loop-place.invariant.faults
          _ x (omega arith) c.loop-place-test.true c.index-classes-place.is
          (class-found c.args.sys.now c.args.path.now c.loop-place.place x c.args.classes.now c.in_ok-is_new.is_new (has_seen c.loop-place.seen x.name) (Ok tt)
          c.requires (c.in_ok-is_new.ensures.new ∙ ap (λ n. not (has_seen c.loop-place.seen n)) c.as_str.ensures) (c.loop-place.invariant.seen x.name) c.in_ok-class.ensures);
    }
