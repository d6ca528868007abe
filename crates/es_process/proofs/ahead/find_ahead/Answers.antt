use Rattle.std.proofs.Common.{◌<◌, ◌+◌, Some, length, drop, map, sym, ap, ◌∙◌, subst, arith}
use Rattle.std.proofs.lemmas.List.{drop_all}
use Rattle.std.proofs.lemmas.Option.{slice_get-get_or}
use Rattle.es_process.specs.Drains.{IsPairOf, names_of_pair}
use Rattle.es_process.specs.Reached.{ahead}
use Rattle.es_process.proofs.HoldsLemmas.{all-then}
use Rattle.es_process.proofs.PairLemmas.{drop-next}
use Rattle.es_process.proofs.RunReachedLemmas.{ahead-passed, ahead-first}
use Rattle.es_process.proofs.ahead.find_ahead.Goals as goal

pub ahead_of-requires : goal.ahead_of-requires
ahead_of-requires g c =
    let within : c.loop-pair.pair-index < length c.as_slice-pair-items.result.now = omega (arith, c.loop-pair-test.true, c.loop-pair.auto.pair-index-end) in
    subst (λ names. IsPairOf c.args.sys.now names c.pair-item.result) (sym c.loop-pair.invariant.same.names) (c.loop-pair.invariant.pairs.each c.loop-pair.pair-index c.pair-item.result (slice_get-get_or c.as_slice-pair-items.result.now c.loop-pair.pair-index c.pair-item.result within ∙ ap (λ p. Some p) (sym c.pair-item.is)))

pub loop-pair-preserved : goal.loop-pair-preserved
loop-pair-preserved g c =
    let within : c.loop-pair.pair-index < length c.as_slice-pair-items.result.now = omega (arith, c.loop-pair-test.true, c.loop-pair.auto.pair-index-end) in
    record {
      pairs = c.loop-pair.invariant.pairs;
      told = λ base options readings s held.
          c.loop-pair.invariant.told base options readings s held
          ∙ ap (λ ps. ahead (map names_of_pair ps) s.contents.histories) (drop-next c.as_slice-pair-items.result.now c.loop-pair.pair-index c.pair-item.result within c.pair-item.is)
          ∙ ahead-passed s.contents.histories (names_of_pair c.pair-item.result) (map names_of_pair (drop (c.loop-pair.pair-index + 1) c.as_slice-pair-items.result.now))
          (rw c.in-Ok-None.field-0-is at ((c.in-Ok-None.ensures {u = tt}).told base options readings s (c.loop-pair.invariant.holds base options readings s held)));
      holds = λ base options readings s held. c.ahead_of.ensures.holds base options readings s (c.loop-pair.invariant.holds base options readings s held);
      same = all-then c.loop-pair.invariant.same c.ahead_of.ensures.same;
    }

pub returns-in-Ok-Some-clause-told : goal.returns-in-Ok-Some-clause-told
returns-in-Ok-Some-clause-told g c = λ base options readings s held.
    let within : c.loop-pair.pair-index < length c.as_slice-pair-items.result.now = omega (arith, c.loop-pair-test.true, c.loop-pair.auto.pair-index-end) in
    ahead-first s.contents.histories (names_of_pair c.pair-item.result) (map names_of_pair (drop (c.loop-pair.pair-index + 1) c.as_slice-pair-items.result.now)) c.in-Ok-Some.found
    (rw c.in-Ok-Some.field-0-is at ((c.in-Ok-Some.ensures {u = tt}).told base options readings s (c.loop-pair.invariant.holds base options readings s held)))
    ∙ ap (λ ps. ahead (map names_of_pair ps) s.contents.histories) (sym (drop-next c.as_slice-pair-items.result.now c.loop-pair.pair-index c.pair-item.result within c.pair-item.is))
    ∙ sym (c.loop-pair.invariant.told base options readings s held)

pub returns-clause-told : goal.returns-clause-told
returns-clause-told g c = λ base options readings s held.
    sym (c.loop-pair.invariant.told base options readings s held ∙ ap (λ ps. ahead (map names_of_pair ps) s.contents.histories) (drop_all c.loop-pair.pair-index c.as_slice-pair-items.result.now c.loop-pair-test.false))

pub returns-in-Ok-Some-clause-holds : goal.returns-in-Ok-Some-clause-holds
returns-in-Ok-Some-clause-holds g c = λ base options readings s held. c.ahead_of.ensures.holds base options readings s (c.loop-pair.invariant.holds base options readings s held)

pub returns-in-Err-clause-holds : goal.returns-in-Err-clause-holds
returns-in-Err-clause-holds g c = λ base options readings s held. c.ahead_of.ensures.holds base options readings s (c.loop-pair.invariant.holds base options readings s held)
