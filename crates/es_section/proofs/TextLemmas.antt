-- What a text of two numbers asks for.
use Rattle.std.proofs.Common.{◌≡◌, ◌∙◌, ◌≤◌, ◌<◌, ◌^◌, ◌⊎◌, ℕ, suc, ◌+◌, nat_le, Bool, true, false, not, ◌&&◌, cond, List, [], ◌∷◌, ◌++◌, length, take, drop, Some, None, if◌then◌else◌, refl, sym, ap, inl, inr, rules, arith}
use Rattle.std.proofs.Math.Seq.{take-append_seam, drop-append-add}
use Rattle.std.proofs.lemmas.Bool.{cases_lt}
use Rattle.std.proofs.lemmas.Bool.Decides.{nat_tests}
use Rattle.std.proofs.lemmas.Fmt.{digits_decimal, digits_value-decimal, length-decimal-le, decimal_nonempty}
use Rattle.std.proofs.lemmas.Str.Parse.{IsDigitsTest, IsNumeralModel, numerals_by_value}
use Rattle.std.specs.Char.{is_ascii_digit}
use Rattle.std.specs.Fmt.{decimal}
use Rattle.std.specs.List.{list_all, position_or_len}
use Rattle.std.specs.Option.{option_zip}
use Rattle.std.specs.Str.Parse.{digits_value}
use Rattle.es_section.specs.Section.{is_number, number_of, is_comma, bounds_of, text_of}
use Rattle.es_model.specs.declared.limits.TheConstants.{MOST_ASKED, MOST_DIGITS}

-- ---- the digits of a number are a number

digits-test : IsDigitsTest (λ ds. list_all is_ascii_digit ds ≡ true)
digits-test = search rules

pub own : IsNumeralModel (λ ds. list_all is_ascii_digit ds ≡ true) (digits_value 10)
own = numerals_by_value (λ ds. list_all is_ascii_digit ds ≡ true) digits-test

-- digits of which none of the type can be read write a number that may not be asked for
pub none-read : (n k : ℕ) → 0 < k → ((0 < k) × (n < 2 ^ 64) → ⊥) → None ≡ (if nat_le n MOST_ASKED then Some n else None)
none-read n k some large = by-size (cases_lt MOST_ASKED n)
  where
    by-size : (MOST_ASKED < n) ⊎ (n ≤ MOST_ASKED) → None ≡ (if nat_le n MOST_ASKED then Some n else None)
    by-size (inl above) = let less : nat_le n MOST_ASKED ≡ false = grind (arith, nat_tests, above) in λ i. if sym less i then Some n else None
    by-size (inr within) = absurd (large (some, omega (arith, within)))

four : (a b c d : Bool) → a ≡ true → b ≡ true → c ≡ true → d ≡ true → (a && b && c && d) ≡ true
four true true true true ha hb hc hd = refl
four true true true false ha hb hc hd = hd
four true true false d ha hb hc hd = absurd (cc hc)
four true false c d ha hb hc hd = absurd (cc hb)
four false b c d ha hb hc hd = absurd (cc ha)

pub number-decimal : (n : ℕ) → n ≤ MOST_ASKED → number_of (decimal n) ≡ Some n
number-decimal n few =
    let small : n < 2 ^ 64 = omega (arith, few) in
    let short : n < 10 ^ 13 = omega (arith, few) in
    let some : 0 < length (decimal n) = decimal_nonempty n small in
    let fits : length (decimal n) ≤ MOST_DIGITS = length-decimal-le 13 n (omega arith) short small in
    let value : digits_value 10 (decimal n) ≡ n = digits_value-decimal own n small in
    let digits : list_all is_ascii_digit (decimal n) ≡ true = digits_decimal own n small in
    let at_least : nat_le 1 (length (decimal n)) ≡ true = grind (arith, nat_tests, some) in
    let at_most : nat_le (length (decimal n)) MOST_DIGITS ≡ true = grind (arith, nat_tests, fits) in
    let asked : nat_le (digits_value 10 (decimal n)) MOST_ASKED ≡ true = ap (λ v. nat_le v MOST_ASKED) value ∙ grind (arith, nat_tests, few) in
    let is : is_number (decimal n) ≡ true = four (nat_le 1 (length (decimal n))) (nat_le (length (decimal n)) MOST_DIGITS) (list_all is_ascii_digit (decimal n)) (nat_le (digits_value 10 (decimal n)) MOST_ASKED) at_least at_most digits asked in
    (λ i. if is i then Some (digits_value 10 (decimal n)) else None) ∙ ap Some value

-- ---- digits before a comma

both-true : (a b : Bool) → (a && b) ≡ true → (a ≡ true) × (b ≡ true)
both-true true b h = (refl, h)
both-true false b h = absurd (cc h)

no-comma : (b : ℕ) → is_ascii_digit b ≡ true → is_comma b ≡ false
no-comma b digit = grind (arith, nat_tests, digit)

place : (a b : List ℕ) → list_all is_ascii_digit a ≡ true → position_or_len is_comma (a ++ 44 ∷ b) ≡ length a
place [] b digits = refl
place (x ∷ a) b digits =
    let parts = both-true (is_ascii_digit x) (list_all is_ascii_digit a) digits in
    let next : 1 + length a ≡ suc (length a) = omega arith in
    let other : is_comma x ≡ false = no-comma x parts.0 in
    (λ i. cond (not (other i)) (1 + place a b parts.1 i) 0) ∙ next

-- the text of two numbers asks for them
pub bounds-text : (first last : ℕ) → first ≤ MOST_ASKED → last ≤ MOST_ASKED → bounds_of (text_of (first, last)) ≡ Some (first, last)
bounds-text first last few also =
    let a : List ℕ = decimal first in
    let b : List ℕ = decimal last in
    let s : List ℕ = a ++ 44 ∷ b in
    let at : position_or_len is_comma s ≡ length a = place a b (digits_decimal own first (omega (arith, few))) in
    let front : take (length a) s ≡ a = take-append_seam a (44 ∷ b) in
    let back : drop (length a + 1) s ≡ b = drop-append-add a (44 ∷ b) 1 in
    (λ i. option_zip (number_of (take (at i) s)) (number_of (drop (at i + 1) s)))
    ∙ (λ i. option_zip (number_of (front i)) (number_of (back i)))
    ∙ (λ i. option_zip (number-decimal first few i) (number-decimal last also i))
