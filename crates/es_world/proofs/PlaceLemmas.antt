-- The map that a list of histories stands for, and one of them changed at its place.
use Rattle.std.proofs.Common.{◌≡◌, ◌<◌, ℕ, zero, suc, Bool, true, false, List, [], ◌∷◌, length, get_or, map, set, if◌then◌else◌, Some, Result, Ok, Err, refl, sym, ap, ◌∙◌, subst, arith}
use Rattle.std.proofs.Math.Seq.{map-set_same}
use Rattle.std.specs.Str.{bytes_eq}
use Rattle.es_model.specs.declared.event.Recording.{Recording}
use Rattle.es_model.specs.declared.memory.NoMemory.{NoMemory}
use Rattle.es_model.specs.History.{Histories}
use Rattle.es_model.specs.Values.{Name}
use Rattle.es_recorder.specs.Held.{put}
use Rattle.es_process.proofs.AmongLemmas.{same-name, is-same}
use Rattle.es_world.specs.Answers.{Outcome, adds, only}
use Rattle.es_world.specs.Told.{histories_in, place_in}
use Rattle.es_world.specs.declared.steps.AppHistory.{AppHistory}
use Rattle.es_world.specs.declared.steps.StepAnswer.{StepAnswer}
use Rattle.es_world.specs.inner.Left.{Leaves, LeavesAt}

at_head : (b : Bool) (n : ℕ) → zero ≡ (if b then 0 else suc n) → b ≡ true
at_head true n is = refl
at_head false n is = absurd (cc is)

behind : (b : Bool) (m n : ℕ) → suc m ≡ (if b then 0 else suc n) → (b ≡ false) × (m ≡ n)
behind true m n is = absurd (cc is)
behind false m n is = (refl, omega arith)

-- the entry of a name, at its place
pub named_at : (apps : List AppHistory) (place : ℕ) (name : Name) (a : AppHistory) → place ≡ place_in apps name → place < length apps → a ≡ get_or apps place a → (a.app ≡ name) × (histories_in apps name ≡ a.recordings)
named_at [] place name a is within there = absurd (omega arith)
named_at (x ∷ apps) zero name a is within there =
    let same : bytes_eq name x.app ≡ true = at_head (bytes_eq name x.app) (place_in apps name) is in
    (ap (λ (b : AppHistory). b.app) there ∙ sym (same-name name x.app same), (λ i. if same i then x.recordings else histories_in apps name) ∙ sym (ap (λ (b : AppHistory). b.recordings) there))
named_at (x ∷ apps) (suc place) name a is within there =
    let later = behind (bytes_eq name x.app) place (place_in apps name) is in
    let so = named_at apps place name a later.1 (omega arith) there in
    (so.0, (λ i. if later.0 i then x.recordings else histories_in apps name) ∙ so.1)

twice : {A : Type 0} (b : Bool) (x y z : A) → (if b then x else z) ≡ (if b then x else (if b then y else z))
twice true x y z = refl
twice false x y z = refl

-- where two tests don't both hold, their order is free
swap_tests : {A : Type 0} (a b : Bool) (x y z : A) → (a ≡ true → b ≡ true → ⊥) → (if a then x else (if b then y else z)) ≡ (if b then y else (if a then x else z))
swap_tests true true x y z apart = absurd (apart refl refl)
swap_tests true false x y z apart = refl
swap_tests false true x y z apart = refl
swap_tests false false x y z apart = refl

set_at : (apps : List AppHistory) (place : ℕ) (name n : Name) (a : AppHistory) → place ≡ place_in apps name → place < length apps → a.app ≡ name → histories_in (set apps place a) n ≡ (if bytes_eq n name then a.recordings else histories_in apps n)
set_at [] place name n a is within named = absurd (omega arith)
set_at (x ∷ apps) zero name n a is within named =
    let same : name ≡ x.app = same-name name x.app (at_head (bytes_eq name x.app) (place_in apps name) is) in
    let rest = histories_in apps n in
    (λ i. if bytes_eq n (named i) then a.recordings else rest)
    ∙ twice (bytes_eq n name) a.recordings x.recordings rest
    ∙ (λ i. if bytes_eq n name then a.recordings else (if bytes_eq n (same i) then x.recordings else rest))
set_at (x ∷ apps) (suc place) name n a is within named =
    let later = behind (bytes_eq name x.app) place (place_in apps name) is in
    (λ i. if bytes_eq n x.app then x.recordings else set_at apps place name n a later.1 (omega arith) named i)
    ∙ swap_tests (bytes_eq n x.app) (bytes_eq n name) x.recordings a.recordings (histories_in apps n)
    (λ p q. let clash : true ≡ false = sym (is-same name x.app (sym (same-name n name q) ∙ same-name n x.app p)) ∙ later.0 in cc clash)

pub histories-set : (apps : List AppHistory) (place : ℕ) (name : Name) (a : AppHistory) → place ≡ place_in apps name → place < length apps → a.app ≡ name → histories_in (set apps place a) ≡ put (histories_in apps) name a.recordings
histories-set apps place name a is within named = λ i n. set_at apps place name n a is within named i

put_same_at : (h : Histories) (name n : Name) (b : Bool) → (b ≡ true → n ≡ name) → (if b then h name else h n) ≡ h n
put_same_at h name n true same = ap h (sym (same refl))
put_same_at h name n false same = refl

put_same : (h : Histories) (name : Name) → put h name (h name) ≡ h
put_same h name = λ i n. put_same_at h name n (bytes_eq n name) (same-name n name) i

the_item : {x y : List Recording} → Some x ≡ Some y → x ≡ y
the_item is = cc is

-- what is left at an application's own place is left among all
pub left_at : (app : Name) (o : Outcome) (h : Histories) (result : Result StepAnswer NoMemory) (new : List Recording) → Leaves o (h app) result (Some new) → LeavesAt app o h result (put h app new)
left_at app (adds r) h (Ok a) new so = (so.0, ap (put h app) (the_item so.1))
left_at app (only reason) h (Ok a) new so = (so.0, ap (put h app) (the_item so.1) ∙ put_same h app)
left_at app (adds r) h (Err e) new so = ap (put h app) (the_item so) ∙ put_same h app
left_at app (only reason) h (Err e) new so = ap (put h app) (the_item so) ∙ put_same h app

-- what is left of an entry, at its place
pub left_in : (apps : List AppHistory) (place : ℕ) (app : Name) (a b : AppHistory) (o : Name → List Recording → Outcome) (result : Result StepAnswer NoMemory) → place ≡ place_in apps app → place < length apps → a ≡ get_or apps place a → b.app ≡ a.app
    → Leaves (o a.app a.recordings) a.recordings result (Some b.recordings) → LeavesAt app (o app (histories_in apps app)) (histories_in apps) result (histories_in (set apps place b))
left_in apps place app a b o result is within there same so =
    let entry = named_at apps place app a is within there in
    let told : Leaves (o app a.recordings) a.recordings result (Some b.recordings) = subst (λ n. Leaves (o n a.recordings) a.recordings result (Some b.recordings)) entry.0 so in
    let held : Leaves (o app (histories_in apps app)) (histories_in apps app) result (Some b.recordings) = subst (λ h. Leaves (o app h) h result (Some b.recordings)) (sym entry.1) told in
    subst (LeavesAt app (o app (histories_in apps app)) (histories_in apps) result) (sym (histories-set apps place app b is within (same ∙ entry.0)))
    (left_at app (o app (histories_in apps app)) (histories_in apps) result b.recordings held)

-- a change that keeps the name keeps all names
pub names-set : (apps : List AppHistory) (place : ℕ) (a b : AppHistory) → a ≡ get_or apps place a → b.app ≡ a.app → map (λ (c : AppHistory). c.app) (set apps place b) ≡ map (λ (c : AppHistory). c.app) apps
names-set apps place a b there same = map-set_same (λ (c : AppHistory). c.app) apps place b a (same ∙ ap (λ (c : AppHistory). c.app) there)
