use Rattle.std.proofs.Common.{arith, sym, ◌∙◌, ◌+◌, length-take, subst, take}
use Rattle.std.specs.Prelude.{IfSome}
use Rattle.es_model.proofs.HistoryLemmas.{take-place, log-take}
use Rattle.es_memory.specs.inner.Index.{Stands}
use Rattle.es_memory.proofs.FormedLemmas.{comes-next, comes-not, causes-next}
use Rattle.es_memory.proofs.IndexLemmas.{size-next}
use Rattle.es_memory.proofs.history.all_come.Goals as goal

pub comes-requires : goal.comes-requires
comes-requires c = record {
  few = omega (arith, log-take c.args.history.now c.loop-i.i, c.requires);
  follow = c.loop-i.invariant.follow;
  stands = c.loop-i.invariant.index;
}

pub grown-index-requires : goal.grown-index-requires
grown-index-requires c = omega (arith, size-next c.args.history.now c.loop-i.i c.index-history-i.result c.loop-i.before c.loop-i-test.true c.index-history-i.is c.loop-i.invariant.before, log-take c.args.history.now (c.loop-i.i + 1), c.requires)

pub overflow_add-before : goal.overflow_add-before
overflow_add-before c = omega (arith, size-next c.args.history.now c.loop-i.i c.index-history-i.result c.loop-i.before c.loop-i-test.true c.index-history-i.is c.loop-i.invariant.before, log-take c.args.history.now (c.loop-i.i + 1), c.requires, c.len.ensures)

pub returns-then-not-comes : goal.returns-then-not-comes
returns-then-not-comes c =
    let h = c.args.history.now in
    sym (sym c.loop-i.invariant.same ∙ comes-not h c.loop-i.i c.index-history-i.result c.loop-i-test.true c.index-history-i.is (sym c.comes.ensures ∙ c.if-not-comes.true))

pub loop-i-preserved : goal.loop-i-preserved
loop-i-preserved c =
    let h = c.args.history.now in
    let i = c.loop-i.i in
    let r = c.index-history-i.result in
    let holds = sym c.comes.ensures ∙ c.if-not-comes.false in
    record {
      same = comes-next h i r c.loop-i-test.true c.index-history-i.is holds ∙ c.loop-i.invariant.same;
      follow = causes-next h i r c.loop-i-test.true c.index-history-i.is holds c.loop-i.invariant.follow;
      before = omega (arith, size-next h i r c.loop-i.before c.loop-i-test.true c.index-history-i.is c.loop-i.invariant.before, c.len.ensures);
      index = subst (λ t. IfSome c.grown-index.result (Stands t)) (sym (take-place h i r c.loop-i-test.true c.index-history-i.is))
          (c.grown-index.ensures (take i h) (omega (arith, length-take i h, c.loop-i-test.true)) (sym c.loop-i.invariant.before) c.loop-i.invariant.index);
    }
