use Rattle.std.proofs.Common.{arith, sym, length-take, subst, take, ◌+◌}
use Rattle.std.specs.Prelude.{IfSome}
use Rattle.es_model.proofs.HistoryLemmas.{take-place, log-take}
use Rattle.es_memory.proofs.IndexLemmas.{size-next}
use Rattle.es_memory.specs.inner.Index.{Stands}
use Rattle.es_memory.proofs.index.index_of.Goals as goal

pub grown-index-requires : goal.grown-index-requires
grown-index-requires c = omega (arith, size-next c.args.history.now c.loop-i.i c.index-history-i.result c.loop-i.before c.loop-i-test.true c.index-history-i.is c.loop-i.invariant.before, log-take c.args.history.now (c.loop-i.i + 1), c.requires)

pub overflow_add-before : goal.overflow_add-before
overflow_add-before c = omega (arith, size-next c.args.history.now c.loop-i.i c.index-history-i.result c.loop-i.before c.loop-i-test.true c.index-history-i.is c.loop-i.invariant.before, log-take c.args.history.now (c.loop-i.i + 1), c.requires, c.len.ensures)

pub loop-i-preserved : goal.loop-i-preserved
loop-i-preserved c =
    let h = c.args.history.now in
    let i = c.loop-i.i in
    record {
      before = omega (arith, size-next c.args.history.now c.loop-i.i c.index-history-i.result c.loop-i.before c.loop-i-test.true c.index-history-i.is c.loop-i.invariant.before, c.len.ensures);
      index = subst (λ t. IfSome c.grown-index.result (Stands t)) (sym (take-place h i c.index-history-i.result c.loop-i-test.true c.index-history-i.is))
          (c.grown-index.ensures (take i h) (omega (arith, length-take i h, c.loop-i-test.true)) (sym c.loop-i.invariant.before) c.loop-i.invariant.index);
    }
