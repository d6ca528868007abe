-- The moments and decimals that texts spell are those that have the texts.
use Rattle.std.proofs.Common.{◌≡◌, ◌≤◌, ◌<◌, ◌≤ℤ◌, ◌+◌, ◌-◌, ◌*◌, ◌/◌, ◌%◌, ◌^◌, ◌==◌, ℕ, zero, suc, Bool, true, false, ◌&&◌, ℤ, pos, negsuc, List, [], ◌∷◌, ◌++◌, length, None, Some, if◌then◌else◌, refl, sym, ap, ◌∙◌, arith, take, drop, unsigned_abs, FitsSigned, w64, int_lt}
use Rattle.std.proofs.lemmas.Bool.{leb-true, le-leb, ltb-true, lt-ltb}
use Rattle.std.proofs.lemmas.Bool.Decides.{Decides-eqb}
use Rattle.std.proofs.lemmas.Int.{ints}
use Rattle.std.proofs.lemmas.Slice.Eq.{bytes_eq-Decides}
use Rattle.jiff_core.specs.Calendar.{days_in_month}
use Rattle.std.specs.Prelude.{nat_le, nat_lt, int_le}
use Rattle.std.specs.Str.{bytes_eq}
use Rattle.es_model.proofs.HistoryLemmas.{both_true}
use Rattle.es_model.specs.Scaled.{Scaled}
use Rattle.es_transcode.specs.declared.civil.Civil.{Civil}
use Rattle.es_transcode.specs.Padded.{padded}
use Rattle.es_transcode.specs.CivilText.{IsCivil, IsMomentText, micros_of, iso_text}
use Rattle.es_transcode.specs.Texts.{decimal_text, point_of}
use Rattle.es_transcode.specs.inner.Unsigned.{IsUnsigned}
use Rattle.es_transcode.specs.Spelled.{number_from, number_in, civil_in, is_civil, is_moment, moment_at, moment_in, is_negative, unsigned, signed, whole_in, places_in, scaled_in, is_scaled, decimal_at, decimal_in}
use Rattle.es_transcode.proofs.CivilLemmas.{IsRead, year, month, day, hour, minute, second, micros}
use Rattle.es_transcode.proofs.DecimalLemmas.{read-as, scale-read, whole-read, quotient-small, unit-some, fits-small}

from-append : (n : ℕ) (xs : List ℕ) (b : ℕ) → number_from n (xs ++ b ∷ []) ≡ number_from n xs * 10 + (b - 48)
from-append n [] b = refl
from-append n (x ∷ xs) b = from-append (n * 10 + (x - 48)) xs b

padded-reads : (k n : ℕ) → n < 10 ^ k → number_in (padded k n) ≡ n
padded-reads zero n small = omega (arith, small)
padded-reads (suc k) n small =
    let few : n / 10 < 10 ^ k = grind (arith, small) in
    from-append 0 (padded k (n / 10)) (48 + n % 10) ∙ ap (λ m. m * 10 + (48 + n % 10 - 48)) (padded-reads k (n / 10) few) ∙ omega arith

-- the number is read from its digits
pub reads : (ds : List ℕ) → IsRead ds (number_in ds)
reads ds n few small digits = ap number_in digits ∙ padded-reads (length ds) n small

-- ---- moments

micros-at : (text : List ℕ) (c : Civil) → IsCivil c → text ≡ iso_text c → (b : Bool) → (length text == 32) ≡ b → (if b then number_in (take 6 (drop 20 text)) else 0) ≡ c.micros
micros-at text c civil is true long = micros text c civil is (number_in (take 6 (drop 20 text))) (λ _. reads (take 6 (drop 20 text))) (λ n. absurd (n ((Decides-eqb (length text) 32).0 long)))
micros-at text c civil is false short = micros text c civil is 0 (λ h. let long : (length text == 32) ≡ true = (Decides-eqb (length text) 32).1 h in let no : true ≡ false = sym long ∙ short in cc) (λ _. refl)

spelled-civil : (text : List ℕ) (c : Civil) → IsCivil c → text ≡ iso_text c → civil_in text ≡ c
spelled-civil text c civil is = λ i. record {
  year = year text c civil is (number_in (take 4 text)) (reads (take 4 text)) i;
  month = month text c civil is (number_in (take 2 (drop 5 text))) (reads (take 2 (drop 5 text))) i;
  day = day text c civil is (number_in (take 2 (drop 8 text))) (reads (take 2 (drop 8 text))) i;
  hour = hour text c civil is (number_in (take 2 (drop 11 text))) (reads (take 2 (drop 11 text))) i;
  minute = minute text c civil is (number_in (take 2 (drop 14 text))) (reads (take 2 (drop 14 text))) i;
  second = second text c civil is (number_in (take 2 (drop 17 text))) (reads (take 2 (drop 17 text))) i;
  micros = micros-at text c civil is (length text == 32) refl i;
}

civil-true : (c : Civil) → IsCivil c → is_civil c ≡ true
civil-true c h =
    let y : c.year ≤ 9999 = omega (arith, ints, h.date.0.1) in
    rw (
      le-leb c.year 9999 y,
      le-leb 1 c.month h.date.1.0,
      le-leb c.month 12 h.date.1.1,
      le-leb 1 c.day h.date.2.0,
      le-leb c.day (days_in_month (pos c.year) c.month) h.date.2.1,
      lt-ltb c.hour 24 h.time.hour,
      lt-ltb c.minute 60 h.time.minute,
      lt-ltb c.second 60 h.time.second,
      lt-ltb c.micros 1000000 h.time.micros,
    ) refl

civil-is : (c : Civil) → is_civil c ≡ true → IsCivil c
civil-is c h =
    let micros = both_true _ (nat_lt c.micros 1000000) h in
    let second = both_true _ (nat_lt c.second 60) micros.0 in
    let minute = both_true _ (nat_lt c.minute 60) second.0 in
    let hour = both_true _ (nat_lt c.hour 24) minute.0 in
    let most = both_true _ (nat_le c.day (days_in_month (pos c.year) c.month)) hour.0 in
    let least = both_true _ (nat_le 1 c.day) most.0 in
    let last = both_true _ (nat_le c.month 12) least.0 in
    let first = both_true (nat_le c.year 9999) (nat_le 1 c.month) last.0 in
    let y : c.year ≤ 9999 = leb-true c.year 9999 first.0 in
    record {
      date = ((omega (arith, ints), omega (arith, ints, y)), (leb-true 1 c.month first.1, leb-true c.month 12 last.1), (leb-true 1 c.day least.1, leb-true c.day (days_in_month (pos c.year) c.month) most.1));
      time = record { hour = ltb-true c.hour 24 hour.1; minute = ltb-true c.minute 60 minute.1; second = ltb-true c.second 60 second.1; micros = ltb-true c.micros 1000000 micros.1 };
    }

in-range : (z : ℤ) → pos 0 ≤ℤ z → z ≤ℤ pos 253402300799999999 → is_moment z ≡ true
in-range z low high = grind (arith, ints, low, high)

range-is : (z : ℤ) → is_moment z ≡ true → (pos 0 ≤ℤ z) × (z ≤ℤ pos 253402300799999999)
range-is z h =
    let both = both_true (int_le (pos 0) z) (int_le z (pos 253402300799999999)) h in
    (grind (arith, ints, both.0), grind (arith, ints, both.1))

same : (t : List ℕ) → bytes_eq t t ≡ true
same t = (bytes_eq-Decides t t).1 refl

-- what is chosen by a test
chosen : {A : Type 0} (b : Bool) (x z : A) → (if b then Some x else None) ≡ Some z → (b ≡ true) × (x ≡ z)
chosen true x z h = (refl, cc)
chosen false x z h = cc

-- a moment's text spells it
pub moment-spelled : (text : List ℕ) (z : ℤ) → IsMomentText z text → pos 0 ≤ℤ z → z ≤ℤ pos 253402300799999999 → moment_in text ≡ Some z
unfolding moment_in
moment-spelled text z (c, civil, is, has) low high =
    ap (λ d. moment_at d text) (spelled-civil text c civil has)
    ∙ rw (civil-true c civil, is, in-range z low high) (ap (λ t. if bytes_eq text t then Some z else None) (sym has) ∙ rw (same text) refl)

pub moment-has : (text : List ℕ) (z : ℤ) → moment_in text ≡ Some z → (IsMomentText z text) × (pos 0 ≤ℤ z) × (z ≤ℤ pos 253402300799999999)
unfolding moment_in
moment-has text z h =
    let c = civil_in text in
    let found = chosen (is_civil c && is_moment (micros_of c) && bytes_eq text (iso_text c)) (micros_of c) z h in
    let last = both_true (is_civil c && is_moment (micros_of c)) (bytes_eq text (iso_text c)) found.0 in
    let first = both_true (is_civil c) (is_moment (micros_of c)) last.0 in
    let range = range-is z (ap is_moment (sym found.1) ∙ first.1) in
    ((c, civil-is c first.0, found.1, (bytes_eq-Decides text (iso_text c)).0 last.1), range.0, range.1)

-- ---- decimals

parted : (text : List ℕ) → IsUnsigned text (is_negative text) (unsigned text)
parted [] = (refl, refl)
parted (b ∷ bs) = (refl, refl)

signed-is : (z : ℤ) → signed (int_lt z (pos 0)) (unsigned_abs z) ≡ z
signed-is (pos n) = let late : int_lt (pos n) (pos 0) ≡ false = grind arith in rw late refl
signed-is (negsuc n) = refl

together : (n unit w f : ℕ) → 0 < unit → w ≡ n / unit → f ≡ n % unit → w * unit + f ≡ n
together n unit w f some is over = (λ i. is i * unit + over i) ∙ grind arith

spelled-scaled : (text : List ℕ) (d : Scaled) → FitsSigned w64 d.digits → d.scale ≤ 6 → text ≡ decimal_text d → scaled_in text ≡ d
spelled-scaled text d fits few is =
    let rest = unsigned text in
    let whole = whole_in rest in
    let places = places_in rest in
    let u = unsigned_abs d.digits in
    let small : u < 18446744073709551616 = fits-small d.digits fits in
    let r = read-as d small text rest whole places (is_negative text) (point_of rest) is (parted text) refl refl refl in
    let long : length places ≡ d.scale = scale-read d whole places (is_negative text) r in
    let some : 0 < 10 ^ d.scale = unit-some d.scale in
    let w : number_in whole ≡ u / 10 ^ d.scale = whole-read whole (number_in whole) (u / 10 ^ d.scale) (quotient-small u (10 ^ d.scale) small some) r.whole_is (reads whole) in
    let f : number_in places ≡ u % 10 ^ d.scale = ap number_in r.places_are ∙ padded-reads d.scale (u % 10 ^ d.scale) (omega (arith, some)) in
    let n : number_in whole * 10 ^ length places + number_in places ≡ u = ap (λ k. number_in whole * 10 ^ k + number_in places) long ∙ together u (10 ^ d.scale) (number_in whole) (number_in places) some w f in
    let z : signed (is_negative text) (number_in whole * 10 ^ length places + number_in places) ≡ d.digits = (λ i. signed (r.sign_is i) (n i)) ∙ signed-is d.digits in
    λ i. record { digits = z i; scale = long i }

int-fits : (z : ℤ) → FitsSigned w64 z → (int_le (negsuc 9223372036854775807) z ≡ true) × (int_le z (pos 9223372036854775807) ≡ true)
int-fits (pos n) h = (grind (arith, ints, h), grind (arith, ints, h))
int-fits (negsuc n) h = (grind (arith, ints, h), grind (arith, ints, h))

fits-int : (z : ℤ) → int_le (negsuc 9223372036854775807) z ≡ true → int_le z (pos 9223372036854775807) ≡ true → FitsSigned w64 z
fits-int (pos n) low high = grind (arith, ints, high)
fits-int (negsuc n) low high = grind (arith, ints, low)

fits-true : (d : Scaled) → FitsSigned w64 d.digits → d.scale ≤ 6 → is_scaled d ≡ true
fits-true d fits few = let z = int-fits d.digits fits in rw (le-leb d.scale 6 few, z.0, z.1) refl

scaled-fits : (d : Scaled) → is_scaled d ≡ true → FitsSigned w64 d.digits × (d.scale ≤ 6)
scaled-fits d h =
    let high = both_true (nat_le d.scale 6 && int_le (negsuc 9223372036854775807) d.digits) (int_le d.digits (pos 9223372036854775807)) h in
    let low = both_true (nat_le d.scale 6) (int_le (negsuc 9223372036854775807) d.digits) high.0 in
    (fits-int d.digits low.1 high.1, leb-true d.scale 6 low.0)

-- a decimal's text spells it
pub decimal-spelled : (text : List ℕ) (d : Scaled) → text ≡ decimal_text d → FitsSigned w64 d.digits → d.scale ≤ 6 → decimal_in text ≡ Some d
unfolding decimal_in
decimal-spelled text d has fits few =
    ap (λ e. decimal_at e text) (spelled-scaled text d fits few has)
    ∙ rw (fits-true d fits few) (ap (λ t. if bytes_eq text t then Some d else None) (sym has) ∙ rw (same text) refl)

pub decimal-has : (text : List ℕ) (d : Scaled) → decimal_in text ≡ Some d → (text ≡ decimal_text d) × FitsSigned w64 d.digits × (d.scale ≤ 6)
unfolding decimal_in
decimal-has text d h =
    let e = scaled_in text in
    let found = chosen (is_scaled e && bytes_eq text (decimal_text e)) e d h in
    let both = both_true (is_scaled e) (bytes_eq text (decimal_text e)) found.0 in
    let fits = scaled-fits d (ap is_scaled (sym found.1) ∙ both.0) in
    ((bytes_eq-Decides text (decimal_text e)).0 both.1 ∙ ap decimal_text found.1, fits.0, fits.1)
