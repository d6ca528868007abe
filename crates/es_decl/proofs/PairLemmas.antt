-- Laws of pairs.
use Rattle.std.proofs.Common.{◌≡◌, ◌∙◌, ◌<◌, ◌+◌, ℕ, suc, Bool, List, [], ◌∷◌, ◌++◌, length, drop, get_or, refl, sym, ap, add-one, drop-cons}
use Rattle.es_model.specs.Values.{Name}
use Rattle.es_decl.specs.Pairs.{Pair, is_pair, with_new, gathered, neighbours, all_neighbours, pairs_of}

gathered-append : {A : Type 0} (same : A → A → Bool) (done xs ys : List A) → gathered same done (xs ++ ys) ≡ gathered same (gathered same done xs) ys
gathered-append same done [] ys = refl
gathered-append same done (x ∷ xs) ys = gathered-append same (with_new same done x) xs ys

-- the neighbours of one more pipe
pub pipe-step : (pipes : List (List Name)) (i : ℕ) (pipe : List Name) (done new : List Pair) → i < length pipes → pipe ≡ get_or pipes i pipe
    → pairs_of pipes ≡ gathered is_pair done (all_neighbours (drop i pipes)) → new ≡ gathered is_pair done (neighbours pipe) → pairs_of pipes ≡ gathered is_pair new (all_neighbours (drop (i + 1) pipes))
pipe-step pipes i pipe done new within is so here =
    let front : drop i pipes ≡ pipe ∷ drop (suc i) pipes = drop-cons pipes i pipe within ∙ (λ k. sym is k ∷ drop (suc i) pipes) in
    so ∙ ap (λ ps. gathered is_pair done (all_neighbours ps)) front ∙ gathered-append is_pair done (neighbours pipe) (all_neighbours (drop (suc i) pipes))
    ∙ (λ k. gathered is_pair (sym here k) (all_neighbours (drop (sym (add-one i) k) pipes)))
