-- What a stop leaves of histories.
use Rattle.std.proofs.Common.{◌≡◌, ◌<◌, ◌≤◌, ◌+◌, ℕ, Bool, true, false, not, ◌&&◌, List, [], ◌∷◌, ◌++◌, length, take, drop, take-append-drop, take_all, append-nil, get_or, set, map, if◌then◌else◌, refl, sym, ap, ◌∙◌, subst, arith}
use Rattle.std.proofs.lemmas.List.{drop_all}
use Rattle.std.proofs.lemmas.List.Edits.{map_over_more}
use Rattle.std.specs.Str.{bytes_eq}
use Rattle.es_model.specs.declared.event.Recording.{Recording}
use Rattle.es_model.specs.declared.event.StoredEvent.{StoredEvent}
use Rattle.es_model.specs.History.{log, versions_follow, cause_follows, causes_follow, IsFormed}
use Rattle.es_model.specs.Values.{Name}
use Rattle.es_model.proofs.HistoryLemmas.{log-append, both_true}
use Rattle.es_process.specs.SingleThread.{is_among}
use Rattle.es_process.proofs.AmongLemmas.{same-name}
use Rattle.es_world.specs.Told.{histories_in}
use Rattle.es_world.specs.World.{left_of}
use Rattle.es_world.specs.declared.steps.AppHistory.{AppHistory}

-- both are true
and_true : (a b : Bool) → a ≡ true → b ≡ true → (a && b) ≡ true
and_true true b one other = other
and_true false b one other = absurd (cc one)

versions_front : (before xs ys : List StoredEvent) → versions_follow before (xs ++ ys) ≡ true → versions_follow before xs ≡ true
versions_front before [] ys follow = refl
versions_front before (e ∷ xs) ys follow =
    and_true _ (versions_follow (before ++ e ∷ []) xs) ((both_true _ (versions_follow (before ++ e ∷ []) (xs ++ ys)) follow).0)
    (versions_front (before ++ e ∷ []) xs ys ((both_true _ (versions_follow (before ++ e ∷ []) (xs ++ ys)) follow).1))

causes_front : (before xs ys : List Recording) → causes_follow before (xs ++ ys) ≡ true → causes_follow before xs ≡ true
causes_front before [] ys follow = refl
causes_front before (r ∷ xs) ys follow =
    and_true (cause_follows before r.cause) (causes_follow (before ++ r ∷ []) xs) ((both_true (cause_follows before r.cause) (causes_follow (before ++ r ∷ []) (xs ++ ys)) follow).0)
    (causes_front (before ++ r ∷ []) xs ys ((both_true (cause_follows before r.cause) (causes_follow (before ++ r ∷ []) (xs ++ ys)) follow).1))

shorter : {A : Type 0} (xs ys : List A) → length xs ≤ length (xs ++ ys)
shorter [] ys = omega arith
shorter (x ∷ xs) ys = let rest = shorter xs ys in omega (arith, rest)

-- the front of a formed history is formed
pub formed-front : (xs ys : List Recording) → IsFormed (xs ++ ys) → IsFormed xs
formed-front xs ys formed = record {
  versions = versions_front [] (log xs) (log ys) (subst (λ es. versions_follow [] es ≡ true) (log-append xs ys) formed.versions);
  causes = causes_front [] xs ys formed.causes;
  few = omega (arith, shorter xs ys, formed.few);
  few_events = omega (arith, shorter (log xs) (log ys), ap length (log-append xs ys), formed.few_events);
}

pub formed-taken : (n : ℕ) (h : List Recording) → IsFormed h → IsFormed (take n h)
formed-taken n h formed = formed-front (take n h) (drop n h) (subst IsFormed (sym (take-append-drop n h)) formed)

-- a history as a stop leaves it, by who is down and who is kept
abbrev pub settled : List Name → List Name → AppHistory → AppHistory
settled down kept a = record { app = a.app; recordings = left_of (is_among a.app down && not (is_among a.app kept)) a.recordings }

left_none : (b : Bool) → [] ≡ left_of b []
left_none true = refl
left_none false = refl

choose : (down kept : List Name) (name : Name) (a : AppHistory) (rest : List Recording) (b : Bool) → (b ≡ true → name ≡ a.app)
    → (if b then left_of (is_among a.app down && not (is_among a.app kept)) a.recordings else left_of (is_among name down && not (is_among name kept)) rest) ≡ left_of (is_among name down && not (is_among name kept)) (if b then a.recordings else rest)
choose down kept name a rest true same = ap (λ n. left_of (is_among n down && not (is_among n kept)) a.recordings) (sym (same refl))
choose down kept name a rest false same = refl

settled_at : (down kept : List Name) (apps : List AppHistory) (name : Name) → histories_in (map (settled down kept) apps) name ≡ left_of (is_among name down && not (is_among name kept)) (histories_in apps name)
settled_at down kept [] name = left_none (is_among name down && not (is_among name kept))
settled_at down kept (a ∷ apps) name =
    (λ i. if bytes_eq name a.app then left_of (is_among a.app down && not (is_among a.app kept)) a.recordings else settled_at down kept apps name i)
    ∙ choose down kept name a (histories_in apps name) (bytes_eq name a.app) (same-name name a.app)

pub histories-settled : (down kept : List Name) (apps : List AppHistory) → histories_in (map (settled down kept) apps) ≡ (λ name. left_of (is_among name down && not (is_among name kept)) (histories_in apps name))
histories-settled down kept apps = λ i name. settled_at down kept apps name i

-- a loop over histories: one more is settled
pub settled-more : (down kept : List Name) (xs ys : List AppHistory) (i : ℕ) (a b : AppHistory) → i < length xs → ys ≡ map (settled down kept) (take i xs) ++ drop i xs → a ≡ get_or ys i a → b.app ≡ a.app
    → b.recordings ≡ left_of (is_among a.app down && not (is_among a.app kept)) a.recordings → set ys i b ≡ map (settled down kept) (take (i + 1) xs) ++ drop (i + 1) xs
settled-more down kept xs ys i a b less so there named left =
    let is : b ≡ settled down kept a = λ j. record { app = named j; recordings = left j } in
    ap (set ys i) is ∙ map_over_more (settled down kept) xs ys i a less so there

-- and all are
pub settled-all : (down kept : List Name) (xs ys : List AppHistory) (i : ℕ) → length xs ≤ i → ys ≡ map (settled down kept) (take i xs) ++ drop i xs → ys ≡ map (settled down kept) xs
settled-all down kept xs ys i all so = so ∙ (λ j. map (settled down kept) (take_all i xs all j) ++ drop_all i xs all j) ∙ append-nil (map (settled down kept) xs)

pub settled-names : (down kept : List Name) (xs : List AppHistory) → map (λ (a : AppHistory). a.app) (map (settled down kept) xs) ≡ map (λ (a : AppHistory). a.app) xs
settled-names down kept [] = refl
settled-names down kept (a ∷ xs) = ap (λ ns. a.app ∷ ns) (settled-names down kept xs)
