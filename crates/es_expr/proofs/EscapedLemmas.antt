-- The escaped characters of a name, one after another.
use Rattle.std.proofs.Common.{◌≡◌, ℕ, ◌+◌, ◌<◌, List, ◌++◌, length, drop, get_or, sym, ap, ◌∙◌, append_assoc, arith}
use Rattle.std.proofs.lemmas.List.{at_drop_more, at_drop_all, append-nil}
use Rattle.es_expr.specs.Misfits.{escaped, escaped_char}

escaped-drop : (cs : List ℕ) (n c : ℕ) → n < length cs → c ≡ get_or cs n c → escaped (drop n cs) ≡ escaped_char c ++ escaped (drop (n + 1) cs)
escaped-drop cs n c within is = at_drop_more escaped cs n c within ∙ ap (λ x. escaped_char x ++ escaped (drop (n + 1) cs)) (sym is)

-- one more character
pub pushed : (new old start cs : List ℕ) (n next c : ℕ) → n < length cs → c ≡ get_or cs n c → next ≡ n + 1 → new ≡ old ++ escaped_char c
    → old ++ escaped (drop n cs) ≡ start ++ escaped cs → new ++ escaped (drop next cs) ≡ start ++ escaped cs
pushed new old start cs n next c within is is-next is-new before =
    let behind : (old ++ escaped_char c) ++ escaped (drop (n + 1) cs) ≡ old ++ (escaped_char c ++ escaped (drop (n + 1) cs)) = simp append_assoc in
    ap (λ t. t ++ escaped (drop next cs)) is-new ∙ ap (λ k. (old ++ escaped_char c) ++ escaped (drop k cs)) is-next
    ∙ behind ∙ ap (λ t. old ++ t) (sym (escaped-drop cs n c within is)) ∙ before

-- after all of them
pub ended : (text start cs : List ℕ) (n : ℕ) → n ≡ length cs → text ++ escaped (drop n cs) ≡ start ++ escaped cs → text ≡ start ++ escaped cs
ended text start cs n all before =
    sym (append-nil text) ∙ ap (λ t. text ++ t) (sym (at_drop_all escaped cs n (omega (arith, all)))) ∙ before
