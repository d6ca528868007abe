-- The pairs of a system, at their places.
use Rattle.std.proofs.Common.{◌≡◌, ◌<◌, ℕ, zero, suc, cond, ltb, Bool, true, false, not, inl, inr, List, [], ◌∷◌, length, map, Contains, ◌++◌, take, ◌+◌, slice_get, get_or, Some, None, IsSome, is_some, option_map, refl, sym, ap, ◌∙◌, subst, arith}
use Rattle.std.specs.List.{position, position_or_len}
use Rattle.std.specs.Str.{bytes_eq}
use Rattle.std.proofs.lemmas.Bool.Decides.{Decides-ltb}
use Rattle.std.proofs.lemmas.List.{get_or-map, length-map}
use Rattle.std.proofs.lemmas.List.Quantifiers.{position-Some}
use Rattle.std.proofs.lemmas.List.Sums.{fails_before_first}
use Rattle.std.proofs.lemmas.Option.{slice_get-get_or, slice_get-map}
use Rattle.es_model.specs.declared.declaration.App.{App}
use Rattle.es_model.specs.declared.declaration.System.{System}
use Rattle.es_model.specs.Values.{Name}
use Rattle.es_expr.specs.Checked.{IsCheckedSystem}
use Rattle.es_decl.specs.Distinct.{AreDistinct as NoneRepeats}
use Rattle.es_decl.specs.Pairs.{leaders_in, pairs_of}
use Rattle.es_decl.proofs.CheckedSystemLemmas.{names-distinct, pair-declared, pair-differs}
use Rattle.es_process.specs.declared.pairs.Pair.{Pair}
use Rattle.es_process.specs.Drains.{AreApps, ArePrompted, IsPairOf, names_of_pair}
use Rattle.es_process.specs.SingleThread.{is_among}
use Rattle.es_process.specs.Standing.{AreDistinct}
use Rattle.es_process.specs.SystemRules.{app_names}
use Rattle.es_process.proofs.AmongLemmas.{contains-cases, contains-none, is-same, same-name}
use Rattle.es_process.proofs.HoldsLemmas.{contains-at}
use Rattle.es_process.proofs.PairLemmas.{map_push}

-- where an item passes there is a first one
first_below : {X : Type 0} (p : X → Bool) (xs : List X) (k : ℕ) (d : X) → k < length xs → p (get_or xs k d) ≡ true → (b : Bool) → ltb (position_or_len p xs) (length xs) ≡ b → b ≡ true
first_below p xs k d within holds true is = refl
first_below p xs k d within holds false is =
    let none : position_or_len p xs < length xs → ⊥ = λ (less : position_or_len p xs < length xs). (let clash : false ≡ true = sym is ∙ (Decides-ltb (position_or_len p xs) (length xs)).1 less in cc clash) in
    let fails : p (get_or xs k d) ≡ false = fails_before_first p xs k d (omega (arith, none)) in
    absurd (let clash : false ≡ true = sym fails ∙ holds in cc clash)

position_found : {X : Type 0} (p : X → Bool) (xs : List X) (k : ℕ) (d : X) → k < length xs → p (get_or xs k d) ≡ true → IsSome (position p xs)
position_found p xs k d within holds =
    ap (λ b. is_some (cond b (Some (position_or_len p xs)) None)) (first_below p xs k d within holds (ltb (position_or_len p xs) (length xs)) refl)

pub app_found : (apps : List App) (name : Name) → Contains (map (λ (a : App). a.name) apps) name → IsSome (position (λ (a : App). bytes_eq a.name name) apps)
app_found [] name so = contains-none name so
app_found (a ∷ apps) name so =
    let within : so.0 < length (a ∷ apps) = omega (arith, length-map (a ∷ apps) (λ (b : App). b.name), so.1) in
    position_found (λ (b : App). bytes_eq b.name name) (a ∷ apps) so.0 a within
    (is-same (get_or (a ∷ apps) so.0 a).name name (sym (get_or-map (λ (b : App). b.name) (a ∷ apps) so.0 a name within) ∙ so.2))

pub app_placed : (apps : List App) (name : Name) (i : ℕ) → position (λ (a : App). bytes_eq a.name name) apps ≡ Some i → slice_get (map (λ (a : App). a.name) apps) i ≡ Some name
app_placed [] name i is = absurd (let none : None ≡ Some i = is in cc none)
app_placed (a ∷ apps) name i is =
    let at = position-Some (λ (b : App). bytes_eq b.name name) (a ∷ apps) i a is in
    slice_get-map (λ (b : App). b.name) (a ∷ apps) i ∙ ap (option_map (λ (b : App). b.name)) (slice_get-get_or (a ∷ apps) i a at.0) ∙ ap Some (same-name (get_or (a ∷ apps) i a).name name at.1)

-- names of which none is repeated stand at one place each
by_places : (names : List Name) → NoneRepeats names → AreDistinct names
by_places [] once i j n at there = absurd (cc at)
by_places (x ∷ xs) once zero zero n at there = refl
by_places (x ∷ xs) once zero (suc j) n at there = absurd (let is : x ≡ n = cc in once.0 (subst (Contains xs) (sym is) (contains-at xs j n there)))
by_places (x ∷ xs) once (suc i) zero n at there = absurd (let is : x ≡ n = cc in once.0 (subst (Contains xs) (sym is) (contains-at xs i n at)))
by_places (x ∷ xs) once (suc i) (suc j) n at there = ap suc (by_places xs once.1 i j n at there)

pub are_apps : (sys : System) → IsCheckedSystem sys → AreApps sys (app_names sys)
are_apps sys checked = record { checked = checked; named = refl; distinct = by_places (app_names sys) (names-distinct sys checked) }

module _ (sys : System) (leader follower : Name) (checked : IsCheckedSystem sys) (there : Contains (pairs_of sys.pipes) (leader, follower)) where
  pub leader_declared : (apps : List App) → apps ≡ sys.apps → Contains (map (λ (a : App). a.name) apps) leader
  leader_declared apps is = subst (λ (xs : List App). Contains (map (λ (a : App). a.name) xs) leader) (sym is) (pair-declared sys (leader, follower) checked there).0

  pub follower_declared : (apps : List App) → apps ≡ sys.apps → Contains (map (λ (a : App). a.name) apps) follower
  follower_declared apps is = subst (λ (xs : List App). Contains (map (λ (a : App). a.name) xs) follower) (sym is) (pair-declared sys (leader, follower) checked there).1

  pub is_pair_of : (p : Pair) (xs ys : List App) (leaders : List Name) → p.leader_name ≡ leader → p.follower_name ≡ follower → xs ≡ sys.apps → ys ≡ sys.apps → slice_get (map (λ (a : App). a.name) xs) p.leader ≡ Some leader
      → slice_get (map (λ (a : App). a.name) ys) p.follower ≡ Some follower → p.leads_on ≡ is_among follower leaders → leaders ≡ leaders_in (pairs_of sys.pipes) → IsPairOf sys (app_names sys) p
  is_pair_of p xs ys leaders lead follow first second at behind on are = record {
    apps = are_apps sys checked;
    placed = record {
      leader = ap (λ (zs : List App). slice_get (map (λ (a : App). a.name) zs) p.leader) (sym first) ∙ at ∙ ap Some (sym lead);
      follower = ap (λ (zs : List App). slice_get (map (λ (a : App). a.name) zs) p.follower) (sym second) ∙ behind ∙ ap Some (sym follow);
      apart = λ same. pair-differs sys (leader, follower) checked there (sym lead ∙ same ∙ follow);
    };
    pair = subst (Contains (pairs_of sys.pipes)) (λ i. (sym lead i, sym follow i)) there;
    leads_on = on ∙ (λ i. is_among (sym follow i) (are i));
  }

-- one item more of a front
front-next : {A : Type 0} (xs : List A) (i : ℕ) (x : A) → i < length xs → x ≡ get_or xs i x → take (suc i) xs ≡ take i xs ++ x ∷ []
front-next [] i x within at = absurd (omega (arith, within))
front-next (y ∷ ys) zero x within at = ap (λ z. z ∷ []) (sym at)
front-next (y ∷ ys) (suc i) x within at = ap (λ zs. y ∷ zs) (front-next ys i x (omega (arith, within)) at)

take-push : {A : Type 0} (xs : List A) (i : ℕ) (x : A) → i < length xs → x ≡ get_or xs i x → take (i + 1) xs ≡ take i xs ++ x ∷ []
take-push xs i x within at = ap (λ k. take k xs) (let e : i + 1 ≡ suc i = omega arith in e) ∙ front-next xs i x within at

-- one pair more, in their order
pub names_more : (all : List (Name × Name)) (ps : List Pair) (p : Pair) (i : ℕ) (q : Name × Name) → i < length all → q ≡ get_or all i q → map names_of_pair ps ≡ take i all → names_of_pair p ≡ q → map names_of_pair (ps ++ p ∷ []) ≡ take (i + 1) all
names_more all ps p i q within at are is = map_push names_of_pair ps p ∙ (λ k. are k ++ is k ∷ []) ∙ sym (take-push all i q within at)

pub each_more : {P : Pair → Type 0} (ps : List Pair) (p : Pair) → ((i : ℕ) (q : Pair) → slice_get ps i ≡ Some q → P q) → P p → (i : ℕ) (q : Pair) → slice_get (ps ++ p ∷ []) i ≡ Some q → P q
each_more {P} [] p each here zero q at = subst P (let is : p ≡ q = cc at in is) here
each_more [] p each here (suc i) q at = absurd (cc at)
each_more (x ∷ ps) p each here zero q at = each 0 q at
each_more (x ∷ ps) p each here (suc i) q at = each_more ps p (λ k r there. each (suc k) r there) here i q at

-- the first place of a name that is there
place_step : {A : Type 0} (f : A → Name) (x : A) (xs : List A) (name : Name) (b : Bool) → bytes_eq (f x) name ≡ b → Contains (f x ∷ map f xs) name → (Contains (map f xs) name → slice_get (map f xs) (position_or_len (λ y. bytes_eq (f y) name) xs) ≡ Some name)
    → slice_get (f x ∷ map f xs) (cond (not b) (1 + position_or_len (λ y. bytes_eq (f y) name) xs) 0) ≡ Some name
place_step f x xs name true is so later = ap Some (same-name (f x) name is)
place_step f x xs name false is so later =
    let behind : Contains (map f xs) name = elim (contains-cases (f x) (map f xs) name so) [
      | inl here ↦ (let clash : false ≡ true = sym is ∙ is-same (f x) name here in absurd (cc clash))
      | inr there ↦ there
    ] in
    ap (slice_get (f x ∷ map f xs)) (let e : 1 + position_or_len (λ y. bytes_eq (f y) name) xs ≡ suc (position_or_len (λ y. bytes_eq (f y) name) xs) = omega arith in e) ∙ later behind

pub place-found : {A : Type 0} (f : A → Name) (xs : List A) (name : Name) → Contains (map f xs) name → slice_get (map f xs) (position_or_len (λ x. bytes_eq (f x) name) xs) ≡ Some name
place-found f [] name so = contains-none name so
place-found f (x ∷ xs) name so = place_step f x xs name (bytes_eq (f x) name) refl so (place-found f xs name)

-- the place of one name more
pub prompted-more : (names : List Name) (queue now : List ℕ) (all : List Name) (i place : ℕ) (name : Name) → i < length all → name ≡ get_or all i name → now ≡ queue ++ place ∷ [] → slice_get names place ≡ Some name → ArePrompted names queue (take i all) → ArePrompted names now (take (i + 1) all)
prompted-more names queue now all i place name within is pushed at are =
    ap (map (slice_get names)) pushed ∙ map_push (slice_get names) queue place ∙ (λ k. are k ++ at k ∷ []) ∙ sym (map_push Some (take i all) name) ∙ ap (map Some) (sym (take-push all i name within is))
