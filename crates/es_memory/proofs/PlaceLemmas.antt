-- The events at places of the log.
use Rattle.std.proofs.Common.{◌≡◌, ◌<◌, ◌≤◌, ◌+◌, ◌-◌, ℕ, zero, suc, max, min, Bool, true, false, List, [], ◌∷◌, ◌++◌, length, take, drop, map, reverse, slice_get, if◌then◌else◌, Option, Some, None, Result, Ok, Err, IfOk, refl, sym, ap, ◌∙◌, append-nil, append_assoc, arith, subst}
use Rattle.std.specs.Prelude.{All}
use Rattle.std.specs.Option.{unwrap_or}
use Rattle.std.specs.Str.{bytes_eq}
use Rattle.std.proofs.lemmas.List.{length-append, length-drop, take_min}
use Rattle.std.proofs.lemmas.List.Elements.{All-weaker}
use Rattle.es_model.specs.declared.event.Notification.{Notification}
use Rattle.es_model.specs.declared.event.StoredEvent.{StoredEvent}
use Rattle.es_model.specs.History.{own, versions_follow}
use Rattle.es_model.specs.Values.{Id}
use Rattle.es_recorder.specs.Selections.{first_of, select_events, numbered_from, ids_from, select_notifications}
use Rattle.es_recorder.proofs.SelectionLemmas.{ids_from-in, notification, select-drop, select-past}
use Rattle.es_memory.specs.inner.Cuts.{ends_of}
use Rattle.es_memory.specs.inner.Index.{places_from}
use Rattle.es_memory.proofs.CutLemmas.{map-part, all-part, ends-ordered, between-counted}
use Rattle.es_memory.proofs.EventLemmas.{events-counted, places-small}

-- what a list has at the length of its front
get-past : {A : Type 0} (front : List A) (x : A) (rest : List A) → slice_get (front ++ x ∷ rest) (length front) ≡ Some x
get-past [] x rest = refl
get-past (y ∷ front) x rest = get-past front x rest

-- the events at the places of an originator's events are these
own-places : (before es : List StoredEvent) (n : ℕ) (id : Id) → n ≡ length before → map (slice_get (before ++ es)) (places_from n es id) ≡ map Some (own es id)
own-places before [] n id at = refl
own-places before (e ∷ es) n id at = chosen (bytes_eq e.originator_id id) (own-places (before ++ e ∷ []) es (n + 1) id (omega (arith, at, length-append before (e ∷ []))))
  where
    whole : before ++ e ∷ [] ++ es ≡ before ++ e ∷ es
    whole = append_assoc before (e ∷ []) es

    here : slice_get (before ++ e ∷ es) n ≡ Some e
    here = (λ i. slice_get (before ++ e ∷ es) (at i)) ∙ get-past before e es

    chosen : (b : Bool) → map (slice_get (before ++ e ∷ [] ++ es)) (places_from (n + 1) es id) ≡ map Some (own es id)
        → map (slice_get (before ++ e ∷ es)) (if b then n ∷ places_from (n + 1) es id else places_from (n + 1) es id) ≡ map Some (if b then e ∷ own es id else own es id)
    chosen true rest = (λ i. here i ∷ map (slice_get (sym whole i)) (places_from (n + 1) es id)) ∙ ap (λ t. Some e ∷ t) rest
    chosen false rest = (λ i. map (slice_get (sym whole i)) (places_from (n + 1) es id)) ∙ rest

Some-same : {A : Type 0} (xs ys : List A) → map Some xs ≡ map Some ys → xs ≡ ys
Some-same [] [] is = refl
Some-same [] (y ∷ ys) is = absurd (cc is)
Some-same (x ∷ xs) [] is = absurd (cc is)
Some-same (x ∷ xs) (y ∷ ys) is =
    let first : x ≡ y = cc is in
    let others : map Some xs ≡ map Some ys = cc is in
    λ i. first i ∷ Some-same xs ys others i

-- what is found at a part of an originator's places is the selection
pub select-places : (es : List StoredEvent) (id : Id) (gt lte : Option ℕ) (desc : Bool) (limit : Option ℕ) (chosen : List ℕ) (found : List StoredEvent) → versions_follow [] es ≡ true
    → chosen ≡ ends_of desc limit (drop (unwrap_or gt 0) (first_of lte (places_from 0 es id))) → map (slice_get es) chosen ≡ map Some found
    → (if desc then reverse found else found) ≡ select_events es id gt lte desc limit
select-places es id gt lte desc limit chosen found follow is read =
    let between = drop (unwrap_or gt 0) (first_of lte (own es id)) in
    let same : found ≡ ends_of desc limit between
    = Some-same found (ends_of desc limit between)
    (sym read
    ∙ ap (map (slice_get es)) is
    ∙ map-part (slice_get es) gt lte desc limit (places_from 0 es id)
    ∙ (λ i. ends_of desc limit (drop (unwrap_or gt 0) (first_of lte (own-places [] es 0 id refl i))))
    ∙ sym (map-part Some gt lte desc limit (own es id)))
    in
    (λ i. if desc then reverse (same i) else same i)
    ∙ ends-ordered desc limit between
    ∙ (λ i. first_of limit (if desc then reverse (sym (between-counted gt lte (own es id) (events-counted es id follow)) i) else sym (between-counted gt lte (own es id) (events-counted es id follow)) i))

pub part-within : (es : List StoredEvent) (id : Id) (gt lte : Option ℕ) (desc : Bool) (limit : Option ℕ) (chosen : List ℕ) → chosen ≡ ends_of desc limit (drop (unwrap_or gt 0) (first_of lte (places_from 0 es id))) → All (λ p. p < length es) chosen
part-within es id gt lte desc limit chosen is =
    let small = All-weaker (λ p. p < 0 + length es) (λ p. p < length es) (λ p below. omega (arith, below)) (places_from 0 es id) (places-small 0 es id) in
    subst (All (λ p. p < length es)) (sym is) (all-part (λ p. p < length es) gt lte desc limit (places_from 0 es id) small)

-- the rest of a list at a place
rest_at : {A : Type 0} (xs : List A) (n : ℕ) (x : A) → slice_get xs n ≡ Some x → drop n xs ≡ x ∷ drop (suc n) xs
rest_at [] n x is = absurd (cc is)
rest_at (y ∷ ys) zero x is = let same : y ≡ x = cc is in ap (λ z. z ∷ ys) same
rest_at (y ∷ ys) (suc n) x is = rest_at ys n x is

-- one notification more
pub number-more : (es : List StoredEvent) (found : List Notification) (place upto : ℕ) (e : StoredEvent) (whole : List Notification) → place < upto → slice_get es place ≡ Some e
    → found ++ take (upto - place) (numbered_from (place + 1) (drop place es)) ≡ whole
    → found ++ notification (place + 1) e ∷ [] ++ take (upto - (place + 1)) (numbered_from (place + 1 + 1) (drop (place + 1) es)) ≡ whole
number-more es found place upto e whole within here read =
    let more : suc (upto - (place + 1)) ≡ upto - place = omega (arith, within) in
    let next : place + 1 ≡ suc place = omega arith in
    append_assoc found (notification (place + 1) e ∷ []) (take (upto - (place + 1)) (numbered_from (place + 1 + 1) (drop (place + 1) es)))
    ∙ (λ i. found ++ take (more i) (numbered_from (place + 1) (e ∷ drop (next i) es)))
    ∙ (λ i. found ++ take (upto - place) (numbered_from (place + 1) (sym (rest_at es place e here) i)))
    ∙ read

-- ids begin at 1
from_first : (first : ℕ) (es : List StoredEvent) → 1 ≤ first → ids_from 0 (numbered_from first es) ≡ ids_from 1 (numbered_from first es)
from_first first [] at = refl
from_first first (e ∷ es) at =
    ids_from-in 0 first e es (omega (arith, at)) ∙ ap (λ ns. notification first e ∷ ns) (from_first (first + 1) es (omega (arith, at))) ∙ sym (ids_from-in 1 first e es at)

from_one : (es : List StoredEvent) (start limit from : ℕ) → from ≡ max start 1 - 1 → select_notifications es start limit ≡ select_notifications es (from + 1) limit
from_one es zero limit from is = let same : 1 ≡ from + 1 = omega (arith, is) in ap (take limit) (from_first 1 es (omega arith)) ∙ (λ i. select_notifications es (same i) limit)
from_one es (suc n) limit from is = let same : suc n ≡ from + 1 = omega (arith, is) in λ i. select_notifications es (same i) limit

length-numbered : (first : ℕ) (es : List StoredEvent) → length (numbered_from first es) ≡ length es
length-numbered first [] = refl
length-numbered first (e ∷ es) = ap suc (length-numbered (first + 1) es)

-- the selection from an id on, by places
select-from : (es : List StoredEvent) (start limit from count : ℕ) (ns : List Notification) → from ≡ max start 1 - 1 → count ≡ min limit (length es - from) → ns ≡ take (from + count - from) (numbered_from (from + 1) (drop from es)) → ns ≡ select_notifications es start limit
select-from es start limit from count ns at few is =
    let rest = numbered_from (from + 1) (drop from es) in
    let cut : from + count - from ≡ min limit (length rest) = omega (arith, few, length-numbered (from + 1) (drop from es), length-drop from es) in
    is ∙ (λ i. take (cut i) rest) ∙ take_min limit rest ∙ sym (select-drop es from limit) ∙ sym (from_one es start limit from at)

-- the same where they are found
pub selected : {X : Type 0} (es : List StoredEvent) (start limit from count : ℕ) (found : Result (List Notification) X) → from ≡ max start 1 - 1 → count ≡ min limit (length es - from) → IfOk found (λ ns. ns ≡ take (from + count - from) (numbered_from (from + 1) (drop from es))) → IfOk found (λ ns. ns ≡ select_notifications es start limit)
selected es start limit from count (Ok ns) at few is = select-from es start limit from count ns at few is
selected es start limit from count (Err fault) at few is = tt

pub select-nothing : (es : List StoredEvent) (start limit from : ℕ) (ns : List Notification) → from ≡ max start 1 - 1 → length es ≤ from → ns ≡ [] → ns ≡ select_notifications es start limit
select-nothing es start limit from ns at past is = is ∙ sym (select-past es from limit past) ∙ sym (from_one es start limit from at)
