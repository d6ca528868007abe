use Rattle.std.proofs.Common.{◌≡◌, ◌<◌, ◌∙◌, Some, slice_get, subst, rules, length}
use Rattle.std.proofs.lemmas.Option.{slice_get_within}
use Rattle.es_ties.specs.Seen.{Writer, IsWithin}
use Rattle.es_ties.proofs.Gathering.{set_back, get_read, up_to, within_trans}
use Rattle.es_ties.proofs.settling.gather_pens.Goals as goal

pub loop-k-preserved : goal.loop-k-preserved
loop-k-preserved g c =
    let inv = c.loop-k.invariant in
    let p = c.index_mut.result.now in
    let read = c.index_mut.ensures.value in
    let all = c.learn.new.self.seen in
    let lt : c.loop-k.k < length c.loop-k.pens.items = search rules in
    let at : slice_get c.args.pens.now.items c.loop-k.k ≡ Some p = subst (λ l. slice_get l c.loop-k.k ≡ Some p) inv.same (get_read c.loop-k.pens.items c.loop-k.k p lt read) in
    record {
      same = set_back c.loop-k.pens.items c.loop-k.k p c.note-note.new.self c.note-note.ensures.same read ∙ inv.same;
      ties = c.learn.ensures.same ∙ inv.ties;
      kept = within_trans _ _ _ inv.kept c.learn.ensures.kept;
      above = up_to (λ (x : Writer _). IsWithin x.seen all) c.args.pens.now.items c.loop-k.k p at
          (subst (λ l. IsWithin l all) c.note-note.ensures.note.1 c.learn.ensures.told)
          (λ i q lt' is. within_trans _ _ _ (inv.above i q lt' is) c.learn.ensures.kept);
    }

pub returns-clause-above : goal.returns-clause-above
returns-clause-above g c k p at = c.loop-k.invariant.above k p (let lt = slice_get_within c.args.pens.now.items k p at in search rules) at
