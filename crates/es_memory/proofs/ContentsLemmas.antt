-- Contents, the map that they stand for, and flags at their places.
use Rattle.std.proofs.Common.{◌≡◌, ◌<◌, ◌≤◌, ℕ, zero, suc, ◌+◌, Bool, true, false, ◌≢◌, ◌⊎◌, inl, inr, List, [], ◌∷◌, ◌++◌, length, get_or, if◌then◌else◌, refl, sym, ap, ◌∙◌, subst, arith}
use Rattle.std.proofs.Math.ListN.{set}
use Rattle.std.proofs.lemmas.Bool.{cases_eq}
use Rattle.std.proofs.lemmas.List.{get_or-set_same, get_or-set_other}
use Rattle.std.specs.Str.{bytes_eq}
use Rattle.std.proofs.lemmas.Slice.Eq.{bytes_eq-Decides}
use Rattle.es_model.specs.declared.event.Recording.{Recording}
use Rattle.es_model.specs.declared.snapshot.Snapshot.{Snapshot}
use Rattle.es_model.specs.Values.{Name}
use Rattle.es_memory.specs.declared.content.Content.{Content}
use Rattle.es_memory.specs.Contents.{histories_of, snapshots_of, place_of, flag_of}
use Rattle.es_recorder.specs.Held.{put}

same_name : (a b : List ℕ) → bytes_eq a b ≡ true → a ≡ b
same_name a b = (bytes_eq-Decides a b).0

is_same : (a b : List ℕ) → a ≡ b → bytes_eq a b ≡ true
is_same a b = (bytes_eq-Decides a b).1

-- where two tests don't both hold, their order is free
swap_tests : {A : Type 0} (a b : Bool) (x y z : A) → (a ≡ true → b ≡ true → ⊥) → (if a then x else (if b then y else z)) ≡ (if b then y else (if a then x else z))
swap_tests true true x y z apart = absurd (apart refl refl)
swap_tests true false x y z apart = refl
swap_tests false true x y z apart = refl
swap_tests false false x y z apart = refl

twice : {A : Type 0} (b : Bool) (x y z : A) → (if b then x else z) ≡ (if b then x else (if b then y else z))
twice true x y z = refl
twice false x y z = refl

at_head : (b : Bool) (n : ℕ) → zero ≡ (if b then 0 else suc n) → b ≡ true
at_head true n is = refl
at_head false n is = absurd (cc is)

behind : (b : Bool) (m n : ℕ) → suc m ≡ (if b then 0 else suc n) → (b ≡ false) × (m ≡ n)
behind true m n is = absurd (cc is)
behind false m n is = (refl, omega arith)

-- the entry of a name, at its place
pub record Found (cs : List Content) (at : ℕ) (c : Content) (name : Name) : Type 0 where
  pub is : at ≡ place_of cs name
  pub within : at < length cs
  pub entry : c ≡ get_or cs at c

-- a part of what is held for a name, of its first entry
abbrev part_at : {A : Type 0} → (Content → A) → A → List Content → Name → A
part_at part none [] name = none
part_at part none (c ∷ cs) name = if bytes_eq name c.app then part c else part_at part none cs name

histories_part : (cs : List Content) (n : Name) → histories_of cs n ≡ part_at (λ c. c.recordings) [] cs n
histories_part [] n = refl
histories_part (c ∷ cs) n = λ i. if bytes_eq n c.app then c.recordings else histories_part cs n i

snapshots_part : (cs : List Content) (n : Name) → snapshots_of cs n ≡ part_at (λ c. c.snapshots.items) [] cs n
snapshots_part [] n = refl
snapshots_part (c ∷ cs) n = λ i. if bytes_eq n c.app then c.snapshots.items else snapshots_part cs n i

-- the map with another entry at a name's place
part_set_at : {A : Type 0} (part : Content → A) (none : A) (cs : List Content) (at : ℕ) (c : Content) (name n : Name) → at ≡ place_of cs name → at < length cs → c.app ≡ (get_or cs at c).app
    → part_at part none (set cs at c) n ≡ (if bytes_eq n name then part c else part_at part none cs n)
part_set_at part none [] at c name n is within same = absurd (omega arith)
part_set_at part none (x ∷ cs) zero c name n is within same =
    let name_is : name ≡ x.app = same_name name x.app (at_head (bytes_eq name x.app) (place_of cs name) is) in
    let rest = part_at part none cs n in
    (λ i. if bytes_eq n ((same ∙ sym name_is) i) then part c else rest)
    ∙ twice (bytes_eq n name) (part c) (part x) rest
    ∙ (λ i. if bytes_eq n name then part c else (if bytes_eq n (name_is i) then part x else rest))
part_set_at part none (x ∷ cs) (suc at) c name n is within same =
    let later = behind (bytes_eq name x.app) at (place_of cs name) is in
    (λ i. if bytes_eq n x.app then part x else part_set_at part none cs at c name n later.1 (omega arith) same i)
    ∙ swap_tests (bytes_eq n x.app) (bytes_eq n name) (part x) (part c) (part_at part none cs n)
    (λ a b. let clash : true ≡ false = sym (is_same name x.app (sym (same_name n name b) ∙ same_name n x.app a)) ∙ later.0 in cc clash)

-- of the same name
same_default : (cs : List Content) (at : ℕ) (c d : Content) → at < length cs → get_or cs at c ≡ get_or cs at d
same_default [] at c d within = absurd (omega arith)
same_default (x ∷ cs) zero c d within = refl
same_default (x ∷ cs) (suc at) c d within = same_default cs at c d (omega arith)

app_at : (cs : List Content) (at : ℕ) (c d : Content) (name : Name) → Found cs at c name → d.app ≡ c.app → d.app ≡ (get_or cs at d).app
app_at cs at c d name so same = same ∙ ap (λ (x : Content). x.app) so.entry ∙ ap (λ (x : Content). x.app) (same_default cs at c d so.within)

part-set : {A : Type 0} (part : Content → A) (none : A) (cs : List Content) (at : ℕ) (c d : Content) (name : Name) → Found cs at c name → d.app ≡ c.app
    → part_at part none (set cs at d) ≡ put (part_at part none cs) name (part d)
part-set part none cs at c d name so same = λ i n. part_set_at part none cs at d name n so.is so.within (app_at cs at c d name so same) i

part_there : {A : Type 0} (part : Content → A) (none : A) (cs : List Content) (at : ℕ) (c : Content) (name : Name) → at ≡ place_of cs name → at < length cs → part_at part none cs name ≡ part (get_or cs at c)
part_there part none [] at c name is within = absurd (omega arith)
part_there part none (x ∷ cs) zero c name is within = λ i. if at_head (bytes_eq name x.app) (place_of cs name) is i then part x else part_at part none cs name
part_there part none (x ∷ cs) (suc at) c name is within =
    let later = behind (bytes_eq name x.app) at (place_of cs name) is in
    (λ i. if later.0 i then part x else part_at part none cs name) ∙ part_there part none cs at c name later.1 (omega arith)

part-place : {A : Type 0} (part : Content → A) (none : A) (cs : List Content) (at : ℕ) (c : Content) (name : Name) → Found cs at c name → part c ≡ part_at part none cs name
part-place part none cs at c name so = ap part so.entry ∙ sym (part_there part none cs at c name so.is so.within)

-- an empty entry at the end changes nothing
nothing_at : {A : Type 0} (none : A) (b : Bool) → (if b then none else none) ≡ none
nothing_at none true = refl
nothing_at none false = refl

part_end : {A : Type 0} (part : Content → A) (none : A) (cs : List Content) (c : Content) (n : Name) → part c ≡ none → part_at part none (cs ++ c ∷ []) n ≡ part_at part none cs n
part_end part none [] c n empty = (λ i. if bytes_eq n c.app then empty i else none) ∙ nothing_at none (bytes_eq n c.app)
part_end part none (x ∷ cs) c n empty = λ i. if bytes_eq n x.app then part x else part_end part none cs c n empty i

part-end : {A : Type 0} (part : Content → A) (none : A) (cs : List Content) (c : Content) → part c ≡ none → part_at part none (cs ++ c ∷ []) ≡ part_at part none cs
part-end part none cs c empty = λ i n. part_end part none cs c n empty i

-- the same of histories and of snapshots
histories_whole : (cs : List Content) → histories_of cs ≡ part_at (λ c. c.recordings) [] cs
histories_whole cs = λ i n. histories_part cs n i

snapshots_whole : (cs : List Content) → snapshots_of cs ≡ part_at (λ c. c.snapshots.items) [] cs
snapshots_whole cs = λ i n. snapshots_part cs n i

pub histories-set : (cs : List Content) (at : ℕ) (c d : Content) (name : Name) → Found cs at c name → d.app ≡ c.app → histories_of (set cs at d) ≡ put (histories_of cs) name d.recordings
histories-set cs at c d name so same =
    histories_whole (set cs at d) ∙ part-set (λ x. x.recordings) [] cs at c d name so same ∙ ap (λ (h : Name → List Recording). put h name d.recordings) (sym (histories_whole cs))

pub snapshots-set : (cs : List Content) (at : ℕ) (c d : Content) (name : Name) → Found cs at c name → d.app ≡ c.app → snapshots_of (set cs at d) ≡ put (snapshots_of cs) name d.snapshots.items
snapshots-set cs at c d name so same =
    snapshots_whole (set cs at d) ∙ part-set (λ x. x.snapshots.items) [] cs at c d name so same ∙ ap (λ (h : Name → List Snapshot). put h name d.snapshots.items) (sym (snapshots_whole cs))

pub histories-place : (cs : List Content) (at : ℕ) (c : Content) (name : Name) → Found cs at c name → c.recordings ≡ histories_of cs name
histories-place cs at c name so = part-place (λ x. x.recordings) [] cs at c name so ∙ sym (histories_part cs name)

pub snapshots-place : (cs : List Content) (at : ℕ) (c : Content) (name : Name) → Found cs at c name → c.snapshots.items ≡ snapshots_of cs name
snapshots-place cs at c name so = part-place (λ x. x.snapshots.items) [] cs at c name so ∙ sym (snapshots_part cs name)

pub histories-end : (cs : List Content) (c : Content) → c.recordings ≡ [] → histories_of (cs ++ c ∷ []) ≡ histories_of cs
histories-end cs c empty = histories_whole (cs ++ c ∷ []) ∙ part-end (λ x. x.recordings) [] cs c empty ∙ sym (histories_whole cs)

pub snapshots-end : (cs : List Content) (c : Content) → c.snapshots.items ≡ [] → snapshots_of (cs ++ c ∷ []) ≡ snapshots_of cs
snapshots-end cs c empty = snapshots_whole (cs ++ c ∷ []) ∙ part-end (λ x. x.snapshots.items) [] cs c empty ∙ sym (snapshots_whole cs)

-- the place of a name that gets an entry at the end
pub place-end : (cs : List Content) (c : Content) (name : Name) → c.app ≡ name → length cs ≤ place_of cs name → place_of (cs ++ c ∷ []) name ≡ length cs
place-end [] c name same past = λ i. if is_same name c.app (sym same) i then 0 else 1
place-end (x ∷ cs) c name same past =
    let later = past_first (bytes_eq name x.app) (length cs) (place_of cs name) past in
    (λ i. if later.0 i then 0 else suc (place_of (cs ++ c ∷ []) name)) ∙ ap suc (place-end cs c name same later.1) ∙ omega arith
  where
    past_first : (b : Bool) (m n : ℕ) → suc m ≤ (if b then 0 else suc n) → (b ≡ false) × (m ≤ n)
    past_first true m n le = absurd (omega arith)
    past_first false m n le = (refl, omega arith)

-- places don't depend on what is held there
place_at : (cs : List Content) (at : ℕ) (d : Content) (n : Name) → at < length cs → d.app ≡ (get_or cs at d).app → place_of (set cs at d) n ≡ place_of cs n
place_at [] at d n within same = absurd (omega arith)
place_at (x ∷ cs) zero d n within same = λ i. if bytes_eq n (same i) then 0 else suc (place_of cs n)
place_at (x ∷ cs) (suc at) d n within same = λ i. if bytes_eq n x.app then 0 else suc (place_at cs at d n (omega arith) same i)

-- names at one place are one
one_name : (a b : Bool) (m n : ℕ) (P : Type 0) → (a ≡ true → b ≡ true → P) → (a ≡ false → b ≡ false → m ≡ n → n < n + 1 → P) → (if a then 0 else suc m) ≡ (if b then 0 else suc n) → P
one_name true true m n P both neither is = both refl refl
one_name true false m n P both neither is = absurd (cc is)
one_name false true m n P both neither is = absurd (cc is)
one_name false false m n P both neither is = neither refl refl (omega arith) (omega arith)

same_place : (cs : List Content) (n m : Name) → place_of cs n ≡ place_of cs m → place_of cs m < length cs → bytes_eq n m ≡ true
same_place [] n m is within = absurd (omega arith)
same_place (x ∷ cs) n m is within = one_name (bytes_eq n x.app) (bytes_eq m x.app) (place_of cs n) (place_of cs m) (bytes_eq n m ≡ true)
    (λ a b. is_same n m (same_name n x.app a ∙ sym (same_name m x.app b)))
    (λ a b same _. same_place cs n m same (let in_rest : suc (place_of cs m) < length (x ∷ cs) = subst (λ (v : Bool). (if v then 0 else suc (place_of cs m)) < length (x ∷ cs)) b within in omega arith)) is

-- a flag past the last is down
pub past_end : (flags : List Bool) (i : ℕ) → length flags ≤ i → get_or flags i false ≡ false
past_end [] i past = refl
past_end (f ∷ flags) zero past = absurd (omega arith)
past_end (f ∷ flags) (suc i) past = past_end flags i (omega arith)

-- an entry at the end leaves the places of others, or they are past the last both before and after
end_place : (cs : List Content) (c : Content) (name : Name) → (place_of (cs ++ c ∷ []) name ≡ place_of cs name) ⊎ ((length cs ≤ place_of (cs ++ c ∷ []) name) × (length cs ≤ place_of cs name))
end_place [] c name = inr (omega arith, omega arith)
end_place (x ∷ cs) c name = at_test (bytes_eq name x.app) (end_place cs c name)
  where
    at_test : (b : Bool) → (place_of (cs ++ c ∷ []) name ≡ place_of cs name) ⊎ ((length cs ≤ place_of (cs ++ c ∷ []) name) × (length cs ≤ place_of cs name))
        → ((if b then 0 else suc (place_of (cs ++ c ∷ []) name)) ≡ (if b then 0 else suc (place_of cs name)))
        ⊎ ((length (x ∷ cs) ≤ (if b then 0 else suc (place_of (cs ++ c ∷ []) name))) × (length (x ∷ cs) ≤ (if b then 0 else suc (place_of cs name))))
    at_test true known = inl refl
    at_test false (inl same) = inl (ap suc same)
    at_test false (inr past) = inr (omega arith, omega arith)

pub flags-end : (cs new : List Content) (c : Content) (flags : List Bool) (name : Name) → new ≡ cs ++ c ∷ [] → length flags ≤ length cs → flag_of new flags name ≡ flag_of cs flags name
flags-end cs new c flags name is few = ap (λ (t : List Content). flag_of t flags name) is ∙ (elim (end_place cs c name) [
  | inl same ↦ ap (λ n. get_or flags n false) same
  | inr past ↦ past_end flags (place_of (cs ++ c ∷ []) name) (omega (arith, past.0)) ∙ sym (past_end flags (place_of cs name) (omega (arith, past.1)))
])

-- an entry that was added at the end is at its name's place
pub entry-place : (cs slice new : List Content) (at n m : ℕ) (c : Content) (app : Name) → new ≡ cs ++ c ∷ [] → slice ≡ cs → length slice ≡ m → n ≡ m → at ≡ place_of slice app → at ≤ length slice → n ≤ at → c.app ≡ app → at ≡ place_of new app
entry-place cs slice new at n m c app is same size counted place within past name =
    let whole : length cs ≡ m = ap length (sym same) ∙ size in
    let here : at ≡ place_of cs app = place ∙ ap (λ (t : List Content). place_of t app) same in
    let all : length slice ≡ length cs = ap length same in
    let end : at ≡ length cs = omega arith in
    end ∙ sym (place-end cs c app name (omega arith)) ∙ ap (λ (t : List Content). place_of t app) (sym is)

-- flags and entries, where those of one name are changed
get_set : (flags : List Bool) (at i : ℕ) (v : Bool) → at < length flags → ((i ≡ at) × (get_or (set flags at v) i false ≡ v)) ⊎ ((i ≢ at) × (get_or (set flags at v) i false ≡ get_or flags i false))
get_set flags at i v within = elim (cases_eq i at) [
  | inl is ↦ inl (is, ap (λ n. get_or (set flags at v) n false) is ∙ get_or-set_same flags at v false within)
  | inr other ↦ inr (other, get_or-set_other flags at i v false other)
]

set_at_name : (cs : List Content) (flags : List Bool) (app n : Name) (v : Bool) (at i : ℕ) (b : Bool) → bytes_eq n app ≡ b → at ≡ place_of cs app → at < length cs → i ≡ place_of cs n
    → ((i ≡ at) × (get_or (set flags at v) i false ≡ v)) ⊎ ((i ≢ at) × (get_or (set flags at v) i false ≡ get_or flags i false))
    → get_or (set flags at v) i false ≡ (if b then v else get_or flags i false)
set_at_name cs flags app n v at i true test is within place (inl here) = here.1
set_at_name cs flags app n v at i false test is within place (inl here) =
    let clash : true ≡ false = sym (same_place cs n app (sym place ∙ here.0 ∙ is) (omega arith)) ∙ test in cc clash
set_at_name cs flags app n v at i true test is within place (inr there) =
    absurd (there.0 (place ∙ ap (place_of cs) (same_name n app test) ∙ sym is))
set_at_name cs flags app n v at i false test is within place (inr there) = there.1

pub flags-set : (cs : List Content) (flags : List Bool) (at : ℕ) (c d : Content) (app : Name) (v : Bool) → Found cs at c app → d.app ≡ c.app → at < length flags
    → (n : Name) → flag_of (set cs at d) (set flags at v) n ≡ put (flag_of cs flags) app v n
flags-set cs flags at c d app v so same within n =
    ap (λ i. get_or (set flags at v) i false) (place_at cs at d n so.within (app_at cs at c d app so same))
    ∙ set_at_name cs flags app n v at (place_of cs n) (bytes_eq n app) refl so.is so.within refl (get_set flags at (place_of cs n) v within)

-- to lower a flag that is down changes nothing
down : (cs : List Content) (flags : List Bool) (app n : Name) (b : Bool) → bytes_eq n app ≡ b → flag_of cs flags app ≡ false → flag_of cs flags n ≡ (if b then false else flag_of cs flags n)
down cs flags app n true test is = ap (flag_of cs flags) (same_name n app test) ∙ is
down cs flags app n false test is = refl

pub flags-down : (cs : List Content) (flags : List Bool) (app : Name) → flag_of cs flags app ≡ false → (n : Name) → flag_of cs flags n ≡ put (flag_of cs flags) app false n
flags-down cs flags app is n = down cs flags app n (bytes_eq n app) refl is

-- a flag, where its place is known
pub flag-place : (cs slice : List Content) (flags : List Bool) (at : ℕ) (app : Name) (b : Bool) → slice ≡ cs → at ≡ place_of slice app → get_or flags at false ≡ b → flag_of cs flags app ≡ b
flag-place cs slice flags at app b same place is = ap (λ i. get_or flags i false) (ap (λ (t : List Content). place_of t app) (sym same) ∙ sym place) ∙ is

pub get_or-default : (flags : List Bool) (at : ℕ) (d e : Bool) → at < length flags → get_or flags at d ≡ get_or flags at e
get_or-default [] at d e within = absurd (omega arith)
get_or-default (f ∷ flags) zero d e within = refl
get_or-default (f ∷ flags) (suc at) d e within = get_or-default flags at d e (omega arith)

pub found : (cs slice : List Content) (at : ℕ) (c : Content) (app : Name) → slice ≡ cs → at ≡ place_of slice app → at < length cs → c ≡ get_or cs at c → Found cs at c app
found cs slice at c app same place within entry = record { is = place ∙ ap (λ (t : List Content). place_of t app) same; within = within; entry = entry }
