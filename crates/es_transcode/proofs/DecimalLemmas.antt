-- Laws of the texts of decimals.
use Rattle.std.proofs.Common.{◌≡◌, ◌≤◌, ◌<◌, ◌+◌, ◌*◌, ◌/◌, ◌%◌, ◌^◌, ◌==◌, ℕ, suc, Bool, false, ℤ, pos, negsuc, List, [], ◌∷◌, ◌++◌, length, take, drop, zero, decimal, if◌then◌else◌, refl, sym, ap, subst, ◌∙◌, arith, length-append, append-nil}
use Rattle.std.proofs.Math.Seq.{take-append_seam, take-length, drop-append_seam, drop-length}
use Rattle.std.proofs.lemmas.Fmt.{decimal_by_steps, length-decimal-le}
use Rattle.std.proofs.Common.{Option, None, Some, IsSome, IfSome, int_lt, unsigned_abs, FitsSigned, w64}
use Rattle.es_model.specs.Scaled.{Scaled}
use Rattle.es_transcode.proofs.DigitsLemmas.{length-padded}
use Rattle.es_transcode.proofs.CivilLemmas.{IsRead}
use Rattle.es_transcode.specs.Padded.{padded}
use Rattle.es_transcode.specs.Texts.{sign, places_text, decimal_text, point_of}
use Rattle.es_transcode.specs.inner.Unsigned.{IsUnsigned}

-- each byte is above those of a sign and a point
abbrev pub AboveSigns : List ℕ → Type 0
AboveSigns [] = Unit {0}
AboveSigns (d ∷ ds) = (47 < d) × AboveSigns ds

-- what the digits of a number are
pub record AreDigits (n : ℕ) (ds : List ℕ) : Type 0 where
  pub digits : ds ≡ padded (length ds) n
  pub enough : n < 10 ^ length ds
  pub each : AboveSigns ds
  pub some : 0 < length ds

all-push : (ds : List ℕ) (b : ℕ) → AboveSigns ds → 47 < b → AboveSigns (ds ++ b ∷ [])
all-push [] b each here = (here, tt)
all-push (d ∷ ds) b each here = (each.0, all-push ds b each.1 here)

one-more : (n : ℕ) (ds : List ℕ) → AreDigits (n / 10) ds → AreDigits n (ds ++ (48 + n % 10) ∷ [])
one-more n ds h =
    let long : length (ds ++ (48 + n % 10) ∷ []) ≡ suc (length ds) = omega (arith, length-append ds ((48 + n % 10) ∷ [])) in
    record {
      digits = (λ i. h.digits i ++ (48 + n % 10) ∷ []) ∙ ap (λ k. padded k n) (sym long);
      enough = subst (λ k. n < 10 ^ k) (sym long) (grind (arith, h.enough));
      each = all-push ds (48 + n % 10) h.each (omega arith);
      some = omega (arith, long);
    }

one-digit : (n : ℕ) → n < 10 → AreDigits n ((48 + n) ∷ [])
one-digit n small = record { digits = (let same : n % 10 ≡ n = omega arith in λ i. (48 + sym same i) ∷ []); enough = small; each = (omega arith, tt); some = omega arith }

pub decimal-digits : (n : ℕ) → n < 2 ^ 64 → AreDigits n (decimal n)
decimal-digits = decimal_by_steps AreDigits one-digit (λ n ds large h. one-more n ds h)

above : (d : ℕ) → 47 < d → (d == 46) ≡ false
above d h = grind (arith, h)

-- a text without a point, and one with it

point-none : (ds : List ℕ) → AboveSigns ds → point_of ds ≡ length ds
point-none [] each = refl
point-none (d ∷ ds) each = rw (above d each.0) (ap suc (point-none ds each.1))

point-some : (ds rest : List ℕ) → AboveSigns ds → point_of (ds ++ 46 ∷ rest) ≡ length ds
point-some [] rest each = refl
point-some (d ∷ ds) rest each = rw (above d each.0) (ap suc (point-some ds rest each.1))

-- the parts of a text round its point
pub record AreParts (whole places text : List ℕ) : Type 0 where
  pub front : take (point_of text) text ≡ whole
  pub behind : drop 1 (drop (point_of text) text) ≡ places

parts-none : (ds : List ℕ) → AboveSigns ds → AreParts ds [] ds
parts-none ds each = record {
  front = ap (λ k. take k ds) (point-none ds each) ∙ take-length ds;
  behind = ap (λ k. drop 1 (drop k ds)) (point-none ds each) ∙ ap (drop 1) (drop-length ds);
}

parts-some : (ds rest : List ℕ) → AboveSigns ds → AreParts ds rest (ds ++ 46 ∷ rest)
parts-some ds rest each = record {
  front = ap (λ k. take k (ds ++ 46 ∷ rest)) (point-some ds rest each) ∙ take-append_seam ds (46 ∷ rest);
  behind = ap (λ k. drop 1 (drop k (ds ++ 46 ∷ rest))) (point-some ds rest each) ∙ ap (drop 1) (drop-append_seam ds (46 ∷ rest));
}

pub parts : (n places m : ℕ) → n < 2 ^ 64 → AreParts (decimal n) (padded places m) (decimal n ++ places_text places m)
parts n zero m small = subst (AreParts (decimal n) []) (sym (append-nil (decimal n))) (parts-none (decimal n) (decimal-digits n small).each)
parts n (suc k) m small =
    let some : (suc k == 0) ≡ false = grind arith in
    rw some (parts-some (decimal n) (padded (suc k) m) (decimal-digits n small).each)

-- what is read from the digits of a number
pub whole-read : (whole : List ℕ) (r n : ℕ) → n < 2 ^ 64 → whole ≡ decimal n → IsRead whole r → r ≡ n
whole-read whole r n small is read =
    let h : AreDigits n whole = subst (AreDigits n) (sym is) (decimal-digits n small) in
    read n small h.enough h.digits

pub remade : (n unit w f : ℕ) → n < 18446744073709551616 → 0 < unit → w ≡ n / unit → f ≡ n % unit → (w * unit % 18446744073709551616 + f) % 18446744073709551616 ≡ n
remade n unit w f small some is over =
    let whole : n / unit * unit + n % unit ≡ n = grind arith in
    let exact : w * unit + f ≡ n = (λ i. is i * unit + over i) ∙ whole in
    grind arith

pub quotient-small : (n unit : ℕ) → n < 18446744073709551616 → 0 < unit → n / unit < 18446744073709551616
quotient-small n unit small some = grind arith

pub unit-some : (k : ℕ) → 0 < 10 ^ k
unit-some zero = omega arith
unit-some (suc k) = grind (arith, unit-some k)

-- a text is read as a decimal
pub record IsReadAs (d : Scaled) (negative : Bool) (whole places : List ℕ) : Type 0 where
  pub sign_is : negative ≡ int_lt d.digits (pos 0)
  pub whole_is : whole ≡ decimal (unsigned_abs d.digits / 10 ^ d.scale)
  pub places_are : places ≡ padded d.scale (unsigned_abs d.digits % 10 ^ d.scale)

unsigned-digits : (ds tail rest : List ℕ) (negative : Bool) → 0 < length ds → AboveSigns ds → IsUnsigned (ds ++ tail) negative rest → (negative ≡ false) × (rest ≡ ds ++ tail)
unsigned-digits [] tail rest negative some each h = absurd (omega (arith, some))
unsigned-digits (d ∷ ds) tail rest negative some each h =
    let other : (d == 45) ≡ false = grind (arith, each.0) in
    (h.0 ∙ other, h.1 ∙ (λ i. if other i then ds ++ tail else d ∷ (ds ++ tail)))

unsigned-of : (z : ℤ) (w : ℕ) (tail rest : List ℕ) (negative : Bool) → w < 2 ^ 64 → IsUnsigned (sign z ++ decimal w ++ tail) negative rest → (negative ≡ int_lt z (pos 0)) × (rest ≡ decimal w ++ tail)
unsigned-of (pos n) w tail rest negative small h =
    let p = unsigned-digits (decimal w) tail rest negative (decimal-digits w small).some (decimal-digits w small).each h in
    let late : int_lt (pos n) (pos 0) ≡ false = grind arith in
    (p.0 ∙ sym late, p.1)
unsigned-of (negsuc n) w tail rest negative small h = h

pub read-as : (d : Scaled) → unsigned_abs d.digits < 18446744073709551616 → (text rest whole places : List ℕ) (negative : Bool) (at : ℕ) → text ≡ decimal_text d
    → IsUnsigned text negative rest → at ≡ point_of rest → whole ≡ take at rest → places ≡ drop 1 (drop at rest) → IsReadAs d negative whole places
read-as d small text rest whole places negative at is un point front back =
    let w = unsigned_abs d.digits / 10 ^ d.scale in
    let f = unsigned_abs d.digits % 10 ^ d.scale in
    let few : w < 18446744073709551616 = quotient-small (unsigned_abs d.digits) (10 ^ d.scale) small (unit-some d.scale) in
    let p = unsigned-of d.digits w (places_text d.scale f) rest negative few (subst (λ t. IsUnsigned t negative rest) is un) in
    let q : AreParts (decimal w) (padded d.scale f) rest = subst (AreParts (decimal w) (padded d.scale f)) (sym p.1) (parts w d.scale f few) in
    record {
      sign_is = p.0;
      whole_is = front ∙ ap (λ k. take k rest) point ∙ q.front;
      places_are = back ∙ ap (λ k. drop 1 (drop k rest)) point ∙ q.behind;
    }

pub made : (r : Option Scaled) (d : Scaled) (z : ℤ) (s : ℕ) → IsSome r → IfSome r (λ x. (x.digits ≡ z) × (x.scale ≡ s)) → z ≡ d.digits → s ≡ d.scale → r ≡ Some d
made None d z s some is same scale = cc
made (Some x) d z s some is same scale = λ i. Some record { digits = (is.0 ∙ same) i; scale = (is.1 ∙ scale) i }

pub fits-small : (z : ℤ) → FitsSigned w64 z → unsigned_abs z < 18446744073709551616
fits-small (pos n) fits = omega (arith, fits)
fits-small (negsuc n) fits = omega (arith, fits)

pub scale-read : (d : Scaled) (whole places : List ℕ) (negative : Bool) → IsReadAs d negative whole places → length places ≡ d.scale
scale-read d whole places negative r = ap length r.places_are ∙ length-padded d.scale (unsigned_abs d.digits % 10 ^ d.scale)

pub magnitude-read : (d : Scaled) (whole places : List ℕ) (negative : Bool) (m : ℕ) → FitsSigned w64 d.digits → IsReadAs d negative whole places
    → ((n : ℕ) → n < 18446744073709551616 → whole ≡ decimal (n / 10 ^ length places) → places ≡ padded (length places) (n % 10 ^ length places) → m ≡ n) → m ≡ unsigned_abs d.digits
magnitude-read d whole places negative m fits r read =
    let long : length places ≡ d.scale = scale-read d whole places negative r in
    read (unsigned_abs d.digits) (fits-small d.digits fits)
    (r.whole_is ∙ ap (λ k. decimal (unsigned_abs d.digits / 10 ^ k)) (sym long))
    (r.places_are ∙ ap (λ k. padded k (unsigned_abs d.digits % 10 ^ k)) (sym long))

-- how long a text is

sign-short : (z : ℤ) → length (sign z) ≤ 1
sign-short (pos n) = omega arith
sign-short (negsuc n) = omega arith

places-short : (places n : ℕ) → places ≤ 6 → length (places_text places n) ≤ 7
places-short zero n few = omega arith
places-short (suc k) n few =
    let some : (suc k == 0) ≡ false = grind arith in
    rw some (omega (arith, few, length-padded (suc k) n))

pub decimal_text-short : (d : Scaled) → FitsSigned w64 d.digits → d.scale ≤ 6 → length (decimal_text d) ≤ 28
decimal_text-short d fits few =
    let w = unsigned_abs d.digits / 10 ^ d.scale in
    let small : w < 18446744073709551616 = quotient-small (unsigned_abs d.digits) (10 ^ d.scale) (fits-small d.digits fits) (unit-some d.scale) in
    let whole : length (decimal w) ≤ 20 = length-decimal-le 20 w (omega arith) (omega (arith, small)) small in
    omega (
      arith,
      whole,
      sign-short d.digits,
      places-short d.scale (unsigned_abs d.digits % 10 ^ d.scale) few,
      length-append (sign d.digits ++ decimal w) (places_text d.scale (unsigned_abs d.digits % 10 ^ d.scale)),
      length-append (sign d.digits) (decimal w),
    )
