use Rattle.std.proofs.Common.{◌≡◌, ◌≢◌, ◌<◌, ◌∙◌, Some, slice_get, sym, ap, subst, ⊎_elim, arith, rules, length}
use Rattle.std.proofs.lemmas.Option.{slice_get_within}
use mathlib.Core.List.{IsPrefix}
use Rattle.es_ties.specs.Seen.{Writer, of_log}
use Rattle.es_ties.proofs.Gathering.{get_set, get_set_else, get_read, up_to}
use Rattle.es_ties.proofs.settling.spread.Goals as goal

pub loop-k-preserved : goal.loop-k-preserved
loop-k-preserved g c =
    let inv = c.loop-k.invariant in
    let p = c.index_mut.result.now in
    let new = c.learn.new.self in
    let lt : c.loop-k.k < length c.loop-k.pens.items = search rules in
    let now : slice_get c.loop-k.pens.items c.loop-k.k ≡ Some p = get_read c.loop-k.pens.items c.loop-k.k p lt c.index_mut.ensures.value in
    let at : slice_get c.args.pens.now.items c.loop-k.k ≡ Some p = sym (inv.rest c.loop-k.k (omega arith)) ∙ now in
    let note : c.note-note.result.seen ≡ c.args.all.now.seen = ap (λ n. n.seen) (c.note-note.ensures.note ∙ inv.same) in
    record {
      same = c.note-note.ensures.same ∙ inv.same;
      ties = λ i q is. ⊎_elim (λ t. subst (λ (x : Writer _). x.ties ≡ c.args.ties.now) t.1 (c.learn.ensures.same.0 ∙ inv.ties c.loop-k.k p now)) (λ was. inv.ties i q was) (get_set c.loop-k.pens.items c.loop-k.k i new q is);
      rest = λ i le. let ne : i ≢ c.loop-k.k = λ e. absurd (omega (arith, e, le)) in get_set_else c.loop-k.pens.items c.loop-k.k i new ne ∙ inv.rest i (omega (arith, le));
      above = up_to (λ (x : Writer _). IsPrefix (of_log c.args.all.now.seen x.log) (of_log x.seen x.log)) c.args.pens.now.items c.loop-k.k p at
          (subst (λ l. IsPrefix (of_log l p.log) (of_log p.seen p.log)) note (subst (IsPrefix (of_log c.note-note.result.seen p.log)) c.learn.ensures.own (c.learn.ensures.told p.log)))
          inv.above;
    }

pub returns : goal.returns
returns g c k p at = c.loop-k.invariant.above k p (let lt = slice_get_within c.args.pens.now.items k p at in search rules) at
