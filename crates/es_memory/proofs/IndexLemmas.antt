-- Maps from ids and names to numbers, read by the bytes of a key, and the index of a history with one recording more.
use Rattle.std.proofs.Common.{◌≡◌, ◌<◌, ◌≤◌, ◌+◌, ◌-◌, inl, inr, ℕ, Bool, true, false, cond, List, [], ◌∷◌, ◌++◌, length, take, drop, get_or, if◌then◌else◌, Option, Some, None, String, string_bytes, refl, sym, ap, ◌∙◌, subst, append_assoc, append-nil, length-append, take-append-drop, slice_get, arith}
use Rattle.std.specs.Prelude.{Vec}
use Rattle.std.specs.Option.{option_map_or, UnwrapsOrElse}
use Rattle.std.specs.Ordering.{is_eq}
use Rattle.std.specs.Map.{lookup}
use Rattle.std.specs.Str.{bytes_eq}
use Rattle.std.specs.BTreeMap.{BTreeMap, get, get_by_text, Updates}
use Rattle.std.specs.String.{string_cmp}
use Rattle.std.proofs.lemmas.Map.Text.{is_eq-slice_cmp, btree_map_updates_text}
use Rattle.std.proofs.lemmas.Bool.{cases_lt}
use Rattle.std.proofs.lemmas.List.{get_or_append_left, get_or-append-add, take-append-le, take_all}
use Rattle.std.proofs.lemmas.Option.{slice_get_read}
use Rattle.std.proofs.lemmas.Slice.Eq.{bytes_eq-Decides}
use Rattle.uuid.specs.contracts.UuidOrd.TheImpl.{ghosts}
use Rattle.es_model.specs.declared.event.Recording.{Recording}
use Rattle.es_model.specs.declared.event.StoredEvent.{StoredEvent}
use Rattle.es_model.specs.History.{log}
use Rattle.es_model.specs.Values.{Id, Name}
use Rattle.es_model.proofs.HistoryLemmas.{log-push, log-append, size-push, take-place, at_place}
use Rattle.es_memory.specs.inner.Index.{at_id, at_name, places_from, id_in, ids_in, size_to, IsPlace, ArePlaces, AddsPlaces}

same_test : (a b : Id) → is_eq (ghosts.cmp a b) ≡ bytes_eq a b
same_test a b = is_eq-slice_cmp a b

module _ {A : Type 0} where
  abbrev items_of : Option (Vec ℕ A) → List ℕ
  items_of o = option_map_or (λ v. v.items) o []

  made_items : (o : Option (Vec ℕ A)) (v : Vec ℕ A) (P : Vec ℕ A → Type 0) → UnwrapsOrElse o (λ x. (x.items ≡ []) × P x) v → v.items ≡ items_of o
  made_items None v P made = made.0
  made_items (Some x) v P is = ap (λ (y : Vec ℕ A). y.items) is

  -- what a map of ids has after a number was added at one
  pub at_id-get : (m : BTreeMap Id (Vec ℕ A)) (id : Id) (o : Option (Vec ℕ A)) → o ≡ get ghosts.cmp m id → items_of o ≡ at_id m id
  at_id-get m id o is = ap items_of is ∙ (λ i. items_of (lookup (λ k. same_test id k i) m.entries))

  id_chosen : (b : Bool) (id q : Id) (m : BTreeMap Id (Vec ℕ A)) (w : Vec ℕ A) (n : ℕ) → bytes_eq id q ≡ b → w.items ≡ at_id m id ++ n ∷ [] → items_of (cond b (Some w) (get ghosts.cmp m q)) ≡ (if b then at_id m q ++ n ∷ [] else at_id m q)
  id_chosen true id q m w n same is = is ∙ ap (λ x. at_id m x ++ n ∷ []) ((bytes_eq-Decides id q).0 same)
  id_chosen false id q m w n other is = at_id-get m q (get ghosts.cmp m q) refl

  pub at_id-added : (m new : BTreeMap Id (Vec ℕ A)) (id : Id) (old w : Vec ℕ A) (n : ℕ) (o : Option (Vec ℕ A)) (P : Vec ℕ A → Type 0) → o ≡ get ghosts.cmp m id → UnwrapsOrElse o (λ x. (x.items ≡ []) × P x) old → w.items ≡ old.items ++ n ∷ []
      → Updates ghosts.cmp m new id (Some w) → (q : Id) → at_id new q ≡ (if bytes_eq id q then at_id m q ++ n ∷ [] else at_id m q)
  at_id-added m new id old w n o P found made pushed updates q =
      let was : w.items ≡ at_id m id ++ n ∷ [] = pushed ∙ ap (λ xs. xs ++ n ∷ []) (made_items o old P made ∙ at_id-get m id o found) in
      sym (at_id-get new q (get ghosts.cmp new q) refl)
      ∙ ap items_of (updates.0 q)
      ∙ (λ i. items_of (cond (same_test id q i) (Some w) (get ghosts.cmp m q)))
      ∙ id_chosen (bytes_eq id q) id q m w n refl was

  -- the same of a map of names
  module _ {Y : Type 0} where
    name_chosen : (b : Bool) (name q : Name) (m : BTreeMap (String Y) (Vec ℕ A)) (w : Vec ℕ A) (n : ℕ) → bytes_eq name q ≡ b → w.items ≡ at_name m name ++ n ∷ [] → items_of (cond b (Some w) (get_by_text m q)) ≡ (if b then at_name m q ++ n ∷ [] else at_name m q)
    name_chosen true name q m w n same is = is ∙ ap (λ x. at_name m x ++ n ∷ []) ((bytes_eq-Decides name q).0 same)
    name_chosen false name q m w n other is = refl

    pub at_name-added : (m new : BTreeMap (String Y) (Vec ℕ A)) (key : String Y) (name : Name) (old w : Vec ℕ A) (n : ℕ) (o : Option (Vec ℕ A)) (P : Vec ℕ A → Type 0) → string_bytes key ≡ name → o ≡ get string_cmp m key → UnwrapsOrElse o (λ x. (x.items ≡ []) × P x) old → w.items ≡ old.items ++ n ∷ []
        → Updates string_cmp m new key (Some w) → (q : Name) → at_name new q ≡ (if bytes_eq name q then at_name m q ++ n ∷ [] else at_name m q)
    at_name-added m new key name old w n o P is found made pushed updates q =
        let was : w.items ≡ at_name m name ++ n ∷ [] = pushed ∙ ap (λ xs. xs ++ n ∷ []) (made_items o old P made ∙ ap items_of found ∙ ap (at_name m) is) in
        ap items_of (btree_map_updates_text (string_bytes key) m new (Some w) updates q)
        ∙ (λ i. items_of (cond (bytes_eq (is i) q) (Some w) (get_by_text m q)))
        ∙ name_chosen (bytes_eq name q) name q m w n refl was

-- the places of one event, and of what comes after
pub add-event : (was now : List ℕ) (n m : ℕ) (e : StoredEvent) (es : List StoredEvent) (id : Id) → now ≡ (if bytes_eq e.originator_id id then was ++ n ∷ [] else was) → m ≡ n + 1 → now ++ places_from m es id ≡ was ++ places_from n (e ∷ es) id
add-event was now n m e es id is next = (λ i. is i ++ places_from (next i) es id) ∙ chosen (bytes_eq e.originator_id id)
  where
    chosen : (b : Bool) → (if b then was ++ n ∷ [] else was) ++ places_from (n + 1) es id ≡ was ++ (if b then n ∷ places_from (n + 1) es id else places_from (n + 1) es id)
    chosen true = append_assoc was (n ∷ []) (places_from (n + 1) es id)
    chosen false = refl

places_from-append : (n : ℕ) (a b : List StoredEvent) (id : Id) → places_from n (a ++ b) id ≡ places_from n a id ++ places_from (n + length a) b id
places_from-append n [] b id = let same : n ≡ n + 0 = omega arith in λ i. places_from (same i) b id
places_from-append n (e ∷ a) b id =
    let same : n + 1 + length a ≡ n + length (e ∷ a) = omega arith in
    let rest : places_from (n + 1) (a ++ b) id ≡ places_from (n + 1) a id ++ places_from (n + length (e ∷ a)) b id = places_from-append (n + 1) a b id ∙ (λ i. places_from (n + 1) a id ++ places_from (same i) b id) in
    chosen (bytes_eq e.originator_id id) rest
  where
    chosen : (v : Bool) → places_from (n + 1) (a ++ b) id ≡ places_from (n + 1) a id ++ places_from (n + length (e ∷ a)) b id
        → (if v then n ∷ places_from (n + 1) (a ++ b) id else places_from (n + 1) (a ++ b) id) ≡ (if v then n ∷ places_from (n + 1) a id else places_from (n + 1) a id) ++ places_from (n + length (e ∷ a)) b id
    chosen true rest = ap (λ t. n ∷ t) rest
    chosen false rest = rest

ids_in-push : (h : List Recording) (r : Recording) (leader : Name) → ids_in (h ++ r ∷ []) leader ≡ ids_in h leader ++ id_in r.cause leader
ids_in-push [] r leader = append-nil (id_in r.cause leader)
ids_in-push (x ∷ h) r leader = ap (λ t. id_in x.cause leader ++ t) (ids_in-push h r leader) ∙ sym (append_assoc (id_in x.cause leader) (ids_in h leader) (id_in r.cause leader))

-- how many events the first recordings have, with the next one
pub size-next : (h : List Recording) (i : ℕ) (r : Recording) (before : ℕ) → i < length h → r ≡ get_or h i r → before ≡ length (log (take i h)) → before + length r.events ≡ length (log (take (i + 1) h))
size-next h i r before within is counted = omega (arith, counted, size-push (take i h) r, ap (λ t. length (log t)) (take-place h i r within is))

-- what an index with one recording more holds
pub ids-push : (h : List Recording) (r : Recording) (n : ℕ) (es : List StoredEvent) (id : Id) (was now : List ℕ) → length (log h) ≡ n → es ≡ r.events → was ≡ places_from 0 (log h) id → now ≡ was ++ places_from n es id → now ≡ places_from 0 (log (h ++ r ∷ [])) id
ids-push h r n es id was now size same before is =
    let first : n ≡ 0 + length (log h) = omega arith in
    is ∙ (λ i. before i ++ places_from (first i) (same i) id) ∙ sym (places_from-append 0 (log h) r.events id) ∙ (λ i. places_from 0 (sym (log-push h r) i) id)

pub leaders-push : (h : List Recording) (r : Recording) (leader : Name) (was now : List ℕ) → was ≡ ids_in h leader → now ≡ was ++ id_in r.cause leader → now ≡ ids_in (h ++ r ∷ []) leader
leaders-push h r leader was now before is = is ∙ (λ i. before i ++ id_in r.cause leader) ∙ sym (ids_in-push h r leader)

size_to-push : (h : List Recording) (r : Recording) (n : ℕ) → n ≤ length h → size_to (h ++ r ∷ []) n ≡ size_to h n
size_to-push h r n within = ap (λ t. length (log t)) (take-append-le n h (r ∷ []) within)

size_to-all : (h : List Recording) → size_to h (length h) ≡ length (log h)
size_to-all h = ap (λ t. length (log t)) (take_all (length h) h (omega arith))

place_more : (h : List Recording) (r : Recording) (k : ℕ) (p : ℕ × ℕ) → IsPlace h k p → IsPlace (h ++ r ∷ []) k p
place_more h r k p is =
    (omega (arith, is.0, length-append h (r ∷ [])), omega (arith, is.1, size_to-push h r p.0 (omega (arith, is.0))), omega (arith, is.2, size_to-push h r (p.0 + 1) (omega (arith, is.0))))

place_new : (h : List Recording) (r : Recording) (k : ℕ) → k < length r.events → IsPlace (h ++ r ∷ []) (length (log h) + k) (length h, k)
place_new h r k within =
    let size : length (h ++ r ∷ []) ≡ length h + 1 = length-append h (r ∷ []) in
    let whole : size_to (h ++ r ∷ []) (length h + 1) ≡ length (log h) + length r.events = (λ i. size_to (h ++ r ∷ []) (sym size i)) ∙ size_to-all (h ++ r ∷ []) ∙ size-push h r in
    (omega (arith, size), omega (arith, size_to-push h r (length h) (omega arith), size_to-all h), omega (arith, whole))

pub places-push : (h : List Recording) (r : Recording) (number count : ℕ) (old new : List (ℕ × ℕ)) → length h ≡ number → count ≡ length r.events → AddsPlaces number count old new → ArePlaces h old → ArePlaces (h ++ r ∷ []) new
places-push h r number count old new at size adds are = (
  omega (arith, adds.longer, size-push h r, are.0, size),
  λ k d within. elim (cases_lt k (length old)) [
    | inl before ↦ subst (IsPlace (h ++ r ∷ []) k) (sym (adds.before k d before)) (place_more h r k (get_or old k d) (are.1 k d before))
    | inr past ↦
        let j : ℕ = k - length old in
        let same : length old + j ≡ k = omega arith in
        let few : j < count = omega (arith, adds.longer) in
        let place : IsPlace (h ++ r ∷ []) (length old + j) (number, j) = subst (λ m. IsPlace (h ++ r ∷ []) m (number, j)) (omega (arith, are.0)) (subst (λ m. IsPlace (h ++ r ∷ []) (length (log h) + j) (m, j)) at (place_new h r j (omega (arith, size, few)))) in
        subst (λ m. IsPlace (h ++ r ∷ []) m (get_or new m d)) same (subst (IsPlace (h ++ r ∷ []) (length old + j)) (sym (adds.added j d few)) place)
  ],
)

-- the event at a place
place_within : (h : List Recording) (k : ℕ) (p : ℕ × ℕ) (r : Recording) → IsPlace h k p → r ≡ get_or h p.0 r → p.1 < length r.events
place_within h k p r is here =
    let size : size_to h (p.0 + 1) ≡ size_to h p.0 + length r.events = ap (λ t. length (log t)) (take-place h p.0 r is.0 here) ∙ size-push (take p.0 h) r in
    omega (arith, is.1, is.2, size)

pub place-within : (h : List Recording) (ps : List (ℕ × ℕ)) (k : ℕ) (p : ℕ × ℕ) (r : Recording) → ArePlaces h ps → k < length (log h) → p ≡ get_or ps k p → r ≡ get_or h p.0 r → p.1 < length r.events
place-within h ps k p r are within is here = place_within h k p r (subst (IsPlace h k) (sym is) (are.1 k p (omega (arith, are.0)))) here

pub place-recording : (h : List Recording) (ps : List (ℕ × ℕ)) (k : ℕ) (p : ℕ × ℕ) → ArePlaces h ps → k < length (log h) → p ≡ get_or ps k p → p.0 < length h
place-recording h ps k p are within is = (subst (IsPlace h k) (sym is) (are.1 k p (omega (arith, are.0)))).0

pub place-event : (h : List Recording) (ps : List (ℕ × ℕ)) (k : ℕ) (p : ℕ × ℕ) (r : Recording) (e : StoredEvent) → ArePlaces h ps → k < length (log h) → p ≡ get_or ps k p → r ≡ get_or h p.0 r → e ≡ get_or r.events p.1 e → slice_get (log h) k ≡ Some e
place-event h ps k p r e are within is here event =
    let place : IsPlace h k p = subst (IsPlace h k) (sym is) (are.1 k p (omega (arith, are.0))) in
    let front = log (take p.0 h) in
    let rest = log (drop (p.0 + 1) h) in
    let whole : log h ≡ front ++ (r.events ++ rest) = ap log (sym (take-append-drop p.0 h)) ∙ log-append (take p.0 h) (drop p.0 h) ∙ ap (λ t. front ++ t) (at_place log h p.0 r place.0 here) in
    let read : e ≡ get_or (log h) k e
    = event ∙ sym (get_or_append_left r.events rest e p.1 (place_within h k p r place here)) ∙ sym (get_or-append-add front (r.events ++ rest) p.1 e) ∙ (λ i. get_or (sym whole i) (sym place.1 i) e) in
    slice_get_read (log h) (length (log h)) k e refl within read
