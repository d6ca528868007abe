-- What is read of aggregates after earlier rules changed some.
use Rattle.std.proofs.Common.{ℕ, ◌≡◌, ◌≤◌, ◌-◌, ◌^◌, true, false, Bool, List, [], ◌∷◌, ◌++◌, Option, None, Some, IfSome, Result, Ok, Err, if◌then◌else◌, refl, sym, ap, subst, ◌∙◌, arith}
use Rattle.std.specs.Option.{option_or}
use Rattle.std.specs.Str.{bytes_eq}
use Rattle.es_model.specs.Values.{Id}
use Rattle.es_model.specs.declared.declaration.System.{System}
use Rattle.es_domain.specs.Decision.{after_change}
use Rattle.es_domain.specs.inner.Firing.{IsKnown}
use Rattle.es_domain.specs.inner.Overlay.{AnswersTold, AreBelow, IsBelow, found_of, latest, overlaid}
use Rattle.es_domain.specs.Readings.{AreReadings, FindsTold, IsFound, Readings, TellsOn, TellsOnTold, Told, folded, unreadable}
use Rattle.es_domain.specs.Steps.{collected}
use Rattle.es_domain.specs.declared.aggregate.Aggregate.{Aggregate}
use Rattle.es_domain.specs.declared.find.FindFault.{FindFault}
use Rattle.es_domain.specs.declared.find.FindFault.TheVariants.{Unreadable, Failed, NoMemory}
use Rattle.es_domain.proofs.ToldLemmas.{reading_is}

-- ---- the last change of an id

changed-is : (readings : Readings) (a : Aggregate) (id : Id) (b : Bool) → bytes_eq a.id id ≡ b → after_change readings a id ≡ (if b then folded (Some (collected a)) else readings id)
changed-is readings a id b is = ap (λ (c : Bool). if c then folded (Some (collected a)) else readings id) is

own : Bool → Aggregate → Option Aggregate
own b a = if b then Some a else None

overlaid-none : (changed : List Aggregate) (readings : Readings) (id : Id) → latest changed id ≡ None → overlaid changed readings id ≡ readings id
overlaid-none [] readings id none = refl
overlaid-none (a ∷ changed) readings id none = elim (latest changed id) as (λ o. latest changed id ≡ o → option_or o (if bytes_eq a.id id then Some a else None) ≡ None → overlaid (a ∷ changed) readings id ≡ readings id) [
  | Some b ↦ λ is h. absurd (cc h)
  | None ↦ λ is. elim (bytes_eq a.id id) as (λ b. bytes_eq a.id id ≡ b → (if b then Some a else None) ≡ None → overlaid (a ∷ changed) readings id ≡ readings id) [
    | true ↦ λ same h. absurd (cc h)
    | false ↦ λ same h. overlaid-none changed (after_change readings a) id is ∙ changed-is readings a id false same
  ] refl
] refl none

overlaid-some : (changed : List Aggregate) (readings : Readings) (id : Id) (last : Aggregate) → latest changed id ≡ Some last → overlaid changed readings id ≡ folded (Some (collected last))
overlaid-some [] readings id last is = absurd (cc is)
overlaid-some (a ∷ changed) readings id last is = elim (latest changed id) as (λ o. latest changed id ≡ o → option_or o (if bytes_eq a.id id then Some a else None) ≡ Some last → overlaid (a ∷ changed) readings id ≡ folded (Some (collected last))) [
  | Some b ↦ λ later h. overlaid-some changed (after_change readings a) id last (later ∙ h)
  | None ↦ λ later. elim (bytes_eq a.id id) as (λ b. bytes_eq a.id id ≡ b → (if b then Some a else None) ≡ Some last → overlaid (a ∷ changed) readings id ≡ folded (Some (collected last))) [
    | true ↦ λ same h.
        let one : a ≡ last = cc h in
        overlaid-none changed (after_change readings a) id later ∙ changed-is readings a id true same ∙ ap (λ (x : Aggregate). folded (Some (collected x))) one
    | false ↦ λ same h. absurd (cc h)
  ] refl
] refl is

pub overlaid_push : (changed : List Aggregate) (readings : Readings) (a : Aggregate) → overlaid (changed ++ a ∷ []) readings ≡ after_change (overlaid changed readings) a
overlaid_push [] readings a = refl
overlaid_push (b ∷ changed) readings a = overlaid_push changed (after_change readings b) a

-- ---- versions

below-more : (sys : System) (limit more : ℕ) (a : Aggregate) → limit ≤ more → IsBelow sys limit a → IsBelow sys more a
below-more sys limit more a le is = let small = is.version in record { fields = is.fields; version = omega (arith, le, small); pending = is.pending }

pub are_below_more : (sys : System) (limit more : ℕ) (changed : List Aggregate) → limit ≤ more → AreBelow sys limit changed → AreBelow sys more changed
are_below_more sys limit more [] le are = tt
are_below_more sys limit more (a ∷ changed) le (one, rest) = (below-more sys limit more a le one, are_below_more sys limit more changed le rest)

pub are_below_push : (sys : System) (limit : ℕ) (changed : List Aggregate) (a : Aggregate) → AreBelow sys limit changed → IsBelow sys limit a → AreBelow sys limit (changed ++ a ∷ [])
are_below_push sys limit [] a are is = (is, tt)
are_below_push sys limit (b ∷ changed) a (one, rest) is = (one, are_below_push sys limit changed a rest is)

latest_below : (sys : System) (limit : ℕ) (changed : List Aggregate) (id : Id) (last : Aggregate) → latest changed id ≡ Some last → AreBelow sys limit changed → IsBelow sys limit last
latest_below sys limit [] id last is are = absurd (cc is)
latest_below sys limit (a ∷ changed) id last is (one, rest) = elim (latest changed id) as (λ o. latest changed id ≡ o → option_or o (if bytes_eq a.id id then Some a else None) ≡ Some last → IsBelow sys limit last) [
  | Some b ↦ λ later h. latest_below sys limit changed id last (later ∙ h) rest
  | None ↦ λ later. elim (bytes_eq a.id id) as (λ b. bytes_eq a.id id ≡ b → (if b then Some a else None) ≡ Some last → IsBelow sys limit last) [
    | true ↦ λ same h. let one-is : a ≡ last = cc h in subst (IsBelow sys limit) one-is one
    | false ↦ λ same h. absurd (cc h)
  ] refl
] refl is

found-below : (sys : System) (limit : ℕ) (id : Id) (a : Aggregate) → 2 ^ 62 ≤ limit → IsFound sys id a → IsBelow sys limit a
found-below sys limit id a le is = let small = is.version in record { fields = is.fields; version = omega (arith, le, small); pending = is.pending }

known_below : (sys : System) (found : Option Aggregate) → IfSome found (IsBelow sys (2 ^ 63 - 9)) → IfSome found (IsKnown sys)
known_below sys None is = tt
known_below sys (Some a) is = let small = is.version in record { fields = is.fields; version = omega (arith, small); pending = is.pending }

-- the same of what the reader's own system says
pub found_below : (s sys : System) (limit : ℕ) (changed : List Aggregate) (found : Option Aggregate) → s ≡ sys → 2 ^ 62 ≤ limit → AreBelow sys limit changed
    → ((limit : ℕ) → 2 ^ 62 ≤ limit → AreBelow s limit changed → IfSome found (IsBelow s limit)) → IfSome found (IsBelow sys limit)
found_below s sys limit changed found same large are below =
    subst (λ (x : System). IfSome found (IsBelow x limit)) same (below limit large (subst (λ (x : System). AreBelow x limit changed) (sym same) are))

pub found_known : (s sys : System) (changed : List Aggregate) (found : Option Aggregate) → s ≡ sys → AreBelow sys (2 ^ 63 - 9) changed
    → ((limit : ℕ) → 2 ^ 62 ≤ limit → AreBelow s limit changed → IfSome found (IsBelow s limit)) → IfSome found (IsKnown sys)
found_known s sys changed found same are below = known_below sys found (found_below s sys (2 ^ 63 - 9) changed found same (omega arith) are below)

-- ---- what is found

-- an aggregate that was collected is as it was
collected-is : (a : Aggregate) → a.pending ≡ [] → collected a ≡ a
collected-is a none = ap (λ (es : List _). record a { pending = es }) (sym none)

latest-told : (sys : System) (told : Option Told) (changed : List Aggregate) (id : Id) (last : Aggregate) → latest changed id ≡ Some last → collected last ≡ last → AnswersTold sys told (λ readings. found_of (overlaid changed readings id)) (Ok (Some last))
latest-told sys None changed id last is same = tt
latest-told sys (Some told) changed id last is same = λ readings are.
    ap found_of (overlaid-some changed readings id last is) ∙ ap (λ (a : Aggregate). Ok (Some a)) same

pub kept_told : (sys : System) (told : Option Told) (changed : List Aggregate) (id : Id) (last copy : Aggregate) → latest changed id ≡ Some last → copy ≡ last → AreBelow sys (2 ^ 63 - 9) changed
    → AnswersTold sys told (λ readings. found_of (overlaid changed readings id)) (Ok (Some copy))
kept_told sys told changed id last copy is same are =
    let its = latest_below sys (2 ^ 63 - 9) changed id last is are in
    subst (λ (a : Aggregate). AnswersTold sys told (λ readings. found_of (overlaid changed readings id)) (Ok (Some a))) (sym same)
    (latest-told sys told changed id last is (collected-is last its.pending))

pub kept_below : (sys : System) (limit : ℕ) (changed : List Aggregate) (id : Id) (last copy : Aggregate) → latest changed id ≡ Some last → copy ≡ last → AreBelow sys limit changed → IsBelow sys limit copy
kept_below sys limit changed id last copy is same are = subst (IsBelow sys limit) (sym same) (latest_below sys limit changed id last is are)

found-told : (sys : System) (old : Told) (new : Told) (changed : List Aggregate) (id : Id) (r : Result (Option Aggregate) FindFault) → latest changed id ≡ None → FindsTold sys (Some old) id (Some new) r
    → AnswersTold sys (Some new) (λ readings. found_of (overlaid changed readings id)) r
found-told sys old new changed id (Ok found) none finds = λ readings are.
    ap found_of (overlaid-none changed readings id none ∙ reading_is sys old id new (folded found) finds readings are)
found-told sys old new changed id (Err (Unreadable n)) none finds = λ readings are.
    ap found_of (overlaid-none changed readings id none ∙ reading_is sys old id new (unreadable n) finds readings are)
found-told sys old new changed id (Err Failed) none finds = λ readings are. tt
found-told sys old new changed id (Err NoMemory) none finds = λ readings are. tt

pub find_told : (sys : System) (old new : Option Told) (changed : List Aggregate) (id : Id) (r : Result (Option Aggregate) FindFault) → latest changed id ≡ None → FindsTold sys old id new r
    → AnswersTold sys new (λ readings. found_of (overlaid changed readings id)) r
find_told sys None new changed id r none finds = subst (λ (t : Option Told). AnswersTold sys t (λ readings. found_of (overlaid changed readings id)) r) (sym finds) tt
find_told sys (Some old) None changed id r none finds = absurd finds
find_told sys (Some old) (Some new) changed id r none finds = found-told sys old new changed id r none finds

-- ---- what was told before is told on

pub told_then : (a b c : Option Told) → TellsOnTold a b → TellsOnTold b c → TellsOnTold a c
told_then None b c first second = subst (λ (t : Option Told). TellsOnTold t c) first second
told_then (Some a) None c first second = absurd first
told_then (Some a) (Some b) None first second = absurd second
told_then (Some a) (Some b) (Some c) first second = λ id ns is. second id ns (first id ns is)

pub readings_before : (sys : System) (old new : Told) (readings : Readings) → TellsOn old new → AreReadings sys new readings → AreReadings sys old readings
readings_before sys old new readings on are = λ id ns is. are id ns (on id ns is)
