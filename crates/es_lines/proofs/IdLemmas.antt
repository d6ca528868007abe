-- What is read as an id is read again from its digits.
use Rattle.std.proofs.Common.{◌≡◌, ◌+◌, ◌*◌, ◌<◌, ℕ, zero, suc, Bool, true, false, ◌&&◌, ◌==◌, All, List, [], ◌∷◌, length, take, drop, get_or, Option, Some, None, if◌then◌else◌, IsUtf8, inl, refl, sym, subst, arith, eqb-true}
use Rattle.std.specs.List.{list_all}
use Rattle.std.proofs.lemmas.Str.{IsUtf8-from_ascii}
use Rattle.uuid.specs.Text.{by_index, hex_digit, nibble, simple_text, lower, value_of, is_hex_digit, byte_of_digits, parsed_simple, digits_of, has_hyphens, parsed_hyphenated, parsed_braced, parsed_urn, parsed}
use Rattle.uuid.proofs.RoundTrips.{parses_simple}
use Rattle.uuid.proofs.TextLemmas.{by_index_length, by_index_at, by_index_ascii, hex_digit_ascii, nibble_small}

-- sixteen bytes
abbrev IsId : List ℕ → Type 0
IsId id = (length id ≡ 16) × All (λ b. b < 256) id

chosen : (b : Bool) (o : Option (List ℕ)) (id : List ℕ) → (if b then o else None) ≡ Some id → (b ≡ true) × (o ≡ Some id)
chosen true o id is = (refl, is)
chosen false o id is = absurd (cc is)

both : (a b : Bool) → (a && b) ≡ true → (a ≡ true) × (b ≡ true)
both true b h = (refl, h)
both false b h = absurd (cc h)

digit-small : (c : ℕ) → is_hex_digit c ≡ true → value_of c < 16
digit-small c is = grind (arith, is)

all-digits : (s : List ℕ) (k : ℕ) → list_all is_hex_digit s ≡ true → k < length s → is_hex_digit (get_or s k 0) ≡ true
all-digits [] k all within = let no : ⊥ = omega arith in absurd no
all-digits (x ∷ s) zero all within = (both (is_hex_digit x) (list_all is_hex_digit s) all).0
all-digits (x ∷ s) (suc k) all within = all-digits s k (both (is_hex_digit x) (list_all is_hex_digit s) all).1 (omega arith)

byte-small : (s : List ℕ) (j : ℕ) → length s ≡ 32 → list_all is_hex_digit s ≡ true → j < 16 → byte_of_digits s j < 256
byte-small s j long all within =
    let high = digit-small (get_or s (2 * j) 0) (all-digits s (2 * j) all (omega arith)) in
    let low = digit-small (get_or s (2 * j + 1) 0) (all-digits s (2 * j + 1) all (omega arith)) in
    omega (arith, high, low)

id-simple : (s id : List ℕ) → parsed_simple s ≡ Some id → IsId id
id-simple s id is =
    let c = chosen ((length s == 32) && list_all is_hex_digit s) (Some (by_index 16 (byte_of_digits s))) id is in
    let parts = both (length s == 32) (list_all is_hex_digit s) c.0 in
    let same : by_index 16 (byte_of_digits s) ≡ id = cc c.1 in
    let long : length s ≡ 32 = eqb-true (length s) 32 parts.0 in
    let count : length (by_index 16 (byte_of_digits s)) ≡ 16 = by_index_length 16 (byte_of_digits s) in
    subst IsId same (count, λ k d within. subst (λ b. b < 256) (sym (by_index_at 16 (byte_of_digits s) k d (omega arith))) (byte-small s k long parts.1 (omega arith)))

id-hyphenated : (s id : List ℕ) → parsed_hyphenated s ≡ Some id → IsId id
id-hyphenated s id is = id-simple (digits_of s) id (chosen ((length s == 36) && has_hyphens s) (parsed_simple (digits_of s)) id is).1

choice : (a b c d : Bool) (x y z w : Option (List ℕ)) (id : List ℕ) (P : Type 0) → (x ≡ Some id → P) → (y ≡ Some id → P) → (z ≡ Some id → P) → (w ≡ Some id → P)
    → (if a then x else (if b then y else (if c then z else (if d then w else None)))) ≡ Some id → P
choice true b c d x y z w id P p q r t is = p is
choice false true c d x y z w id P p q r t is = q is
choice false false true d x y z w id P p q r t is = r is
choice false false false true x y z w id P p q r t is = t is
choice false false false false x y z w id P p q r t is = absurd (cc is)

parsed-id : (s id : List ℕ) → parsed s ≡ Some id → IsId id
parsed-id s id is =
    choice (length s == 32) (length s == 36) (length s == 38) (length s == 45) (parsed_simple s) (parsed_hyphenated s) (parsed_braced s) (parsed_urn s) id (IsId id)
    (id-simple s id) (id-hyphenated s id)
    (λ e. id-hyphenated (take 36 (drop 1 s)) id (chosen _ (parsed_hyphenated (take 36 (drop 1 s))) id e).1)
    (λ e. id-hyphenated (drop 9 s) id (chosen _ (parsed_hyphenated (drop 9 s)) id e).1) is

pub parsed-again : (s id : List ℕ) → parsed s ≡ Some id → parsed (simple_text lower id) ≡ Some id
parsed-again s id is = let valid = parsed-id s id is in sym (parses_simple lower id (inl refl) valid.0 valid.1)

pub utf8-simple : (id : List ℕ) → IsUtf8 (simple_text lower id)
utf8-simple id = IsUtf8-from_ascii _ (by_index_ascii 32 (λ k. hex_digit lower (nibble id k)) (λ k within. hex_digit_ascii lower (nibble id k) (inl refl) (nibble_small id k)))
