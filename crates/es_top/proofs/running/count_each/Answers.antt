use Rattle.std.proofs.Common.{◌≡◌, ℕ, List, Some, slice_get, ◌<◌, ◌-◌, ◌∙◌, suc, length, get_or, slice_set, sym, ap, subst, arith, Err}
use Rattle.es_model.specs.Rising.{with_item}
use Rattle.es_process.specs.declared.faults.RunFault.TheVariants as fault
use Rattle.es_process.specs.Standing.{AreDistinct, names_in}
use Rattle.es_process.proofs.HoldsLemmas.{contents-same, name-at, all-set, all-then, rose-set, rose-then}
use Rattle.es_process.proofs.SetLemmas.{get-same}
use Rattle.es_top.specs.inner.Counts.{more_than}
use Rattle.es_top.proofs.CountLemmas.{counted-more, get-below, get-there, length-at, same-length}
use Rattle.es_top.proofs.running.count_each.Goals as goal

pub loop-place-preserved : goal.loop-place-preserved
loop-place-preserved g c =
    let below : c.loop-place.place - 1 < length c.loop-place.apps = omega (arith, c.loop-place.invariant.within, c.loop-place-test.true) in
    let distinct = subst AreDistinct (sym c.loop-place.invariant.same.names) c.requires.distinct in
    let at = (get-there c.loop-place.apps (c.loop-place.place - 1) c.index-apps-place.result below) in
    record {
      within = let there : (c.loop-place.place - 1) < length (slice_set c.loop-place.apps (c.loop-place.place - 1) c.count_one.new.app) = get-below _ (c.loop-place.place - 1) c.count_one.new.app (get-same c.loop-place.apps (c.loop-place.place - 1) c.count_one.new.app (get_or c.loop-place.apps (c.loop-place.place - 1) c.index-apps-place.result) at) in omega (arith, there);
      same = all-then c.loop-place.invariant.same (all-set c.loop-place.apps distinct (c.loop-place.place - 1) (get_or c.loop-place.apps (c.loop-place.place - 1) c.index-apps-place.result) c.count_one.new.app (get-there c.loop-place.apps (c.loop-place.place - 1) c.index-apps-place.result below) c.count_one.ensures.same.stays);
      known = same-length c.loop-place.apps (c.loop-place.place - 1) c.count_one.new.app ∙ c.loop-place.invariant.known;
      holds = λ base k held.
          let now = c.loop-place.invariant.holds base k held in
          contents-same c.loop-place.apps distinct (c.loop-place.place - 1) (get_or c.loop-place.apps (c.loop-place.place - 1) c.index-apps-place.result) c.count_one.new.app (get-there c.loop-place.apps (c.loop-place.place - 1) c.index-apps-place.result below) c.count_one.ensures.same.stays.name g.R.AggregateRecorder.history g.R.AggregateRecorder.stable g.R.AggregateRecorder.snapshots base k now c.count_one.ensures.same.told c.count_one.ensures.same.kept c.count_one.ensures.stable;
      counted = λ base k held before.
          let now = c.loop-place.invariant.holds base k held in
          let next : c.loop-place.place ≡ suc (c.loop-place.place - 1) = omega (arith, c.loop-place-test.true) in
          let name : slice_get (names_in c.args.apps.now) (c.loop-place.place - 1) ≡ Some (get_or c.loop-place.apps (c.loop-place.place - 1) c.index-apps-place.result).name =
          subst (λ ns. slice_get ns (c.loop-place.place - 1) ≡ Some (get_or c.loop-place.apps (c.loop-place.place - 1) c.index-apps-place.result).name) c.loop-place.invariant.same.names (name-at c.loop-place.apps (c.loop-place.place - 1) (get_or c.loop-place.apps (c.loop-place.place - 1) c.index-apps-place.result) at) in
          counted-more (more_than base.histories k.histories) (names_in c.args.apps.now) c.loop-place.place (c.loop-place.place - 1) (get_or c.loop-place.apps (c.loop-place.place - 1) c.index-apps-place.result).name c.loop-place.counts c.count_one.new.counts next name
          (c.loop-place.invariant.counted base k held before)
          (subst (λ d. c.count_one.new.counts ≡ with_item c.loop-place.counts (get_or c.loop-place.apps (c.loop-place.place - 1) c.index-apps-place.result).name (length (k.histories (get_or c.loop-place.apps (c.loop-place.place - 1) c.index-apps-place.result).name) - d)) (ap (λ (l : List ℕ). get_or l (c.loop-place.place - 1) 0) before ∙ length-at base.histories (names_in c.args.apps.now) (c.loop-place.place - 1) (get_or c.loop-place.apps (c.loop-place.place - 1) c.index-apps-place.result).name 0 name)
          ((c.in-Ok.ensures {u = tt}).counted (k.histories (get_or c.loop-place.apps (c.loop-place.place - 1) c.index-apps-place.result).name) (now.each (c.loop-place.place - 1) (get_or c.loop-place.apps (c.loop-place.place - 1) c.index-apps-place.result) at).told));
    }

pub returns-in-Err-clause-holds : goal.returns-in-Err-clause-holds
returns-in-Err-clause-holds g c =
    let below : c.loop-place.place - 1 < length c.loop-place.apps = omega (arith, c.loop-place.invariant.within, c.loop-place-test.true) in
    let distinct = subst AreDistinct (sym c.loop-place.invariant.same.names) c.requires.distinct in
    λ base k held.
    let now = c.loop-place.invariant.holds base k held in
    contents-same c.loop-place.apps distinct (c.loop-place.place - 1) (get_or c.loop-place.apps (c.loop-place.place - 1) c.index-apps-place.result) c.count_one.new.app (get-there c.loop-place.apps (c.loop-place.place - 1) c.index-apps-place.result below) c.count_one.ensures.same.stays.name g.R.AggregateRecorder.history g.R.AggregateRecorder.stable g.R.AggregateRecorder.snapshots base k now c.count_one.ensures.same.told c.count_one.ensures.same.kept c.count_one.ensures.stable

pub returns-in-Err-clause-same : goal.returns-in-Err-clause-same
returns-in-Err-clause-same g c =
    let below : c.loop-place.place - 1 < length c.loop-place.apps = omega (arith, c.loop-place.invariant.within, c.loop-place-test.true) in
    let distinct = subst AreDistinct (sym c.loop-place.invariant.same.names) c.requires.distinct in
    all-then c.loop-place.invariant.same (all-set c.loop-place.apps distinct (c.loop-place.place - 1) (get_or c.loop-place.apps (c.loop-place.place - 1) c.index-apps-place.result) c.count_one.new.app (get-there c.loop-place.apps (c.loop-place.place - 1) c.index-apps-place.result below) c.count_one.ensures.same.stays)

pub returns-in-Err-clause-recorder : goal.returns-in-Err-clause-recorder
returns-in-Err-clause-recorder g c = λ is.
    let below : c.loop-place.place - 1 < length c.loop-place.apps = omega (arith, c.loop-place.invariant.within, c.loop-place-test.true) in
    let e : c.in-Err.fault ≡ fault.Recorder = cc is in
    rose-then g.R.AggregateRecorder.faults _ _ _ c.loop-place.invariant.same.later (rose-set g.R.AggregateRecorder.faults c.loop-place.apps (c.loop-place.place - 1) (get_or c.loop-place.apps (c.loop-place.place - 1) c.index-apps-place.result) c.count_one.new.app (get-there c.loop-place.apps (c.loop-place.place - 1) c.index-apps-place.result below) ((c.in-Err.ensures {u = tt}).recorder (ap Err e)))
