use Rattle.std.proofs.Common.{◌≡◌, ◌<◌, ◌^◌, ◌+◌, List, [], ◌∷◌, ◌++◌, length, sym, subst, ap, ◌∙◌, arith}
use Rattle.std.specs.Prelude.{All}
use Rattle.es_model.specs.declared.event.Notification.{Notification}
use Rattle.es_recorder.specs.Selections.{AreNumbered}
use Rattle.es_sqlite.proofs.NumberLemmas.{length-push, All-push, AreNumbered-push}
use Rattle.es_sqlite.proofs.reading.notifications_of.Goals as goal

pub loop-row-preserved : goal.loop-row-preserved
loop-row-preserved c =
    let ns = c.loop-row.notifications in
    let n : Notification = record { id = c.in_ok-id.id; event = c.in_ok-event.event } in
    let added : c.push.new.self ≡ ns ++ n ∷ [] = (c.in_ok-push.ensures {u = tt}).ok in
    let next : n.id ≡ c.args.first + length ns = omega (arith, c.if-id-expected.false, c.loop-row.invariant.expected, c.loop-row.invariant.count) in
    let I : Notification → Type 0 = λ m. m.id < 2 ^ 62 in
    let V : Notification → Type 0 = λ m. m.event.originator_version < 2 ^ 62 in
    record {
      count = ap (λ (ms : List Notification). length ms) added ∙ length-push ns n ∙ ap (λ k. k + 1) c.loop-row.invariant.count;
      expected = omega (arith, c.if-id-expected.false, c.loop-row.invariant.expected);
      numbered = subst (AreNumbered c.args.first) (sym added) (AreNumbered-push c.args.first ns n c.loop-row.invariant.numbered next);
      ids = subst (All I) (sym added) (All-push I ns n c.loop-row.invariant.ids (c.in_ok-id.ensures {u = tt}).small);
      versions = subst (All V) (sym added) (All-push V ns n c.loop-row.invariant.versions (c.in_ok-event.ensures {u = tt}).small);
    }
