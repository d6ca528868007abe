-- Several applications, and names among theirs.
use Rattle.std.proofs.Common.{◌≡◌, ◌≤◌, ◌<◌, ◌+◌, ◌-◌, zero, suc, Bool, true, false, not, cond, List, [], ◌∷◌, length, map, take, drop, get_or, All, Contains, refl, sym, ap, ◌∙◌, subst, arith}
use Rattle.std.proofs.lemmas.List.{take_rest}
use Rattle.std.specs.List.{position_or_len}
use Rattle.std.specs.Str.{bytes_eq}
use Rattle.es_model.specs.declared.declaration.App.{App}
use Rattle.es_model.specs.Values.{Name}
use Rattle.es_process.specs.declared.application.Application.{Application}
use Rattle.es_process.specs.Standing.{names_in}
use Rattle.es_process.proofs.AmongLemmas.{same-name, contains-here, contains-later}

-- things with the names of those declared, one more of each
pub named-step : {A : Type 0} (f : A → Name) (declared : List App) (things : List A) (x : App) (y : A) → 1 ≤ length declared → 1 ≤ length things → x ≡ get_or declared 0 x → y ≡ get_or things 0 y
    → bytes_eq (f y) x.name ≡ true → map f (take (length things - 1) (drop 1 things)) ≡ map (λ a. a.name) (take (length declared - 1) (drop 1 declared)) → map f things ≡ map (λ a. a.name) declared
named-step f [] things x y some there first next same rest = absurd (omega arith)
named-step f (a ∷ others) [] x y some there first next same rest = absurd (omega arith)
named-step f (a ∷ others) (b ∷ bs) x y some there first next same rest =
    let head : f b ≡ a.name = (λ i. f (sym next i)) ∙ same-name _ _ same ∙ (λ i. (first i).name) in
    let tail : map f bs ≡ map (λ a. a.name) others = sym (ap (map f) (take_rest (b ∷ bs) 1)) ∙ rest ∙ ap (map (λ a. a.name)) (take_rest (a ∷ others) 1) in
    λ i. head i ∷ tail i

one_more : {R : Type 0} (a : Application R) (others : List (Application R)) (name : Name) (b : Bool) → bytes_eq a.name name ≡ b → (position_or_len (λ x. bytes_eq x.name name) others < length others → Contains (names_in others) name)
    → cond (not b) (1 + position_or_len (λ x. bytes_eq x.name name) others) 0 < suc (length others) → Contains (a.name ∷ names_in others) name
one_more a others name true is later less = subst (λ n. Contains (n ∷ names_in others) name) (sym (same-name a.name name is)) (contains-here name (names_in others))
one_more a others name false is later less = contains-later a.name (names_in others) name (later (omega (arith, less)))

-- a name whose place is before the end is one of theirs
pub place-contains : {R : Type 0} (apps : List (Application R)) (name : Name) → position_or_len (λ x. bytes_eq x.name name) apps < length apps → Contains (names_in apps) name
place-contains [] name less = absurd (omega (arith, less))
place-contains (a ∷ others) name less = one_more a others name (bytes_eq a.name name) refl (place-contains others name) less

pub all-step : {A : Type 0} (P : A → Type 0) (xs : List A) (x : A) → 1 ≤ length xs → x ≡ get_or xs 0 x → P x → All P (take (length xs - 1) (drop 1 xs)) → All P xs
all-step P [] x some first holds rest k d less = absurd (omega arith)
all-step P (y ∷ ys) x some first holds rest zero d less = subst P first holds
all-step P (y ∷ ys) x some first holds rest (suc k) d less =
    let behind : All P ys = subst (All P) (take_rest (y ∷ ys) 1) rest in
    behind k d (omega (arith, less))
