use Rattle.std.proofs.Common.{◌≡◌, Bool, true, false, ◌||◌, Bor, List, ℕ, cond, refl, ap, ◌∙◌}
use Rattle.std.proofs.lemmas.Map.Text.{is_eq-slice_cmp}
use Rattle.std.specs.Str.{bytes_eq}
use Rattle.es_expr.specs.inner.Seen.{has_seen}
use Rattle.es_expr.proofs.walk.seen.see.Goals as goal

or-cond : (b c : Bool) → cond b true c ≡ b || c
or-cond true c = refl
or-cond false c = refl

pub returns-clause-seen : goal.returns-clause-seen
returns-clause-seen c = λ q.
    let key : Bor (List ℕ) = record { ref_ptr = (0, 0); now = q } in
    c.in_ok-insert.ensures.updates.0 key ∙ ap (λ b. cond b true (has_seen c.args.seen.now q)) (is_eq-slice_cmp c.args.name.now q)
    ∙ or-cond (bytes_eq c.args.name.now q) (has_seen c.args.seen.now q)
