-- Laws of the texts of moments.
use Rattle.std.proofs.Common.{◌≡◌, ◌<◌, ◌≤ℤ◌, pos, ◌^◌, ◌==◌, ℕ, Bool, true, false, List, [], ◌++◌, length, take, drop, codes, if◌then◌else◌, refl, sym, ap, subst, ◌∙◌, arith}
use Rattle.std.proofs.lemmas.Bool.Decides.{Decides-eqb}
use Rattle.std.proofs.lemmas.Int.{ints}
use Rattle.jiff_core.proofs.CalendarLemmas.{days_in_month_bounds}
use Rattle.es_transcode.specs.declared.civil.Civil.{Civil}
use Rattle.es_transcode.specs.Padded.{padded}
use Rattle.es_transcode.specs.CivilText.{IsCivil, iso_text, date_text, time_text}

-- a number was read from some digits
abbrev pub IsRead : List ℕ → ℕ → Type 0
IsRead digits r = (n : ℕ) → n < 18446744073709551616 → n < 10 ^ length digits → digits ≡ padded (length digits) n → r ≡ n

read-at : (text whole : List ℕ) (f : List ℕ → List ℕ) (r n : ℕ) → text ≡ whole → IsRead (f text) r → n < 18446744073709551616 → n < 10 ^ length (f whole) → f whole ≡ padded (length (f whole)) n → r ≡ n
read-at text whole f r n is read few small digits = subst (λ t. IsRead (f t) r) is read n few small digits

pub years : (n : ℕ) → pos n ≤ℤ pos 9999 → n < 10000
years n h = omega (arith, ints)

module _ (text : List ℕ) (c : Civil) (civil : IsCivil c) (is : text ≡ iso_text c) where
  pub year : (r : ℕ) → IsRead (take 4 text) r → r ≡ c.year
  year r read =
      let small : c.year < 10000 = years c.year civil.date.0.1 in
      read-at text (iso_text c) (λ t. take 4 t) r c.year is read (omega arith) small refl

  pub month : (r : ℕ) → IsRead (take 2 (drop 5 text)) r → r ≡ c.month
  month r read =
      let small : c.month < 100 = omega (arith, civil.date.1) in
      read-at text (iso_text c) (λ t. take 2 (drop 5 t)) r c.month is read (omega arith) small refl

  pub day : (r : ℕ) → IsRead (take 2 (drop 8 text)) r → r ≡ c.day
  day r read =
      let small : c.day < 100 = omega (arith, civil.date.2, (days_in_month_bounds (pos c.year) c.month).0) in
      read-at text (iso_text c) (λ t. take 2 (drop 8 t)) r c.day is read (omega arith) small refl

  pub hour : (r : ℕ) → IsRead (take 2 (drop 11 text)) r → r ≡ c.hour
  hour r read =
      let small : c.hour < 100 = omega (arith, civil.time.hour) in
      read-at text (iso_text c) (λ t. take 2 (drop 11 t)) r c.hour is read (omega arith) small refl

  pub minute : (r : ℕ) → IsRead (take 2 (drop 14 text)) r → r ≡ c.minute
  minute r read =
      let small : c.minute < 100 = omega (arith, civil.time.minute) in
      read-at text (iso_text c) (λ t. take 2 (drop 14 t)) r c.minute is read (omega arith) small refl

  pub second : (r : ℕ) → IsRead (take 2 (drop 17 text)) r → r ≡ c.second
  second r read =
      let small : c.second < 100 = omega (arith, civil.time.second) in
      read-at text (iso_text c) (λ t. take 2 (drop 17 t)) r c.second is read (omega arith) small refl

  -- the text without microseconds, and with them
  pub plain : (c.micros == 0) ≡ true → text ≡ date_text c ++ codes "T" ++ time_text c ++ [] ++ codes "+00:00"
  plain none = is ∙ (λ i. date_text c ++ codes "T" ++ time_text c ++ (if none i then [] else (codes "." ++ padded 6 c.micros)) ++ codes "+00:00")

  pub full : (c.micros == 0) ≡ false → text ≡ date_text c ++ codes "T" ++ time_text c ++ (codes "." ++ padded 6 c.micros) ++ codes "+00:00"
  full some = is ∙ (λ i. date_text c ++ codes "T" ++ time_text c ++ (if some i then [] else (codes "." ++ padded 6 c.micros)) ++ codes "+00:00")

  micros_by : (b : Bool) → (c.micros == 0) ≡ b → (r : ℕ) → (length text ≡ 32 → IsRead (take 6 (drop 20 text)) r) → ((length text ≡ 32 → ⊥) → r ≡ 0) → r ≡ c.micros
  micros_by true none r read zero = zero (λ h. absurd (omega (arith, sym h ∙ ap length (plain none)))) ∙ sym ((Decides-eqb c.micros 0).0 none)
  micros_by false some r read zero =
      read-at text _ (λ t. take 6 (drop 20 t)) r c.micros (full some) (read (ap length (full some))) (omega (arith, civil.time.micros)) civil.time.micros refl

  pub micros : (r : ℕ) → (length text ≡ 32 → IsRead (take 6 (drop 20 text)) r) → ((length text ≡ 32 → ⊥) → r ≡ 0) → r ≡ c.micros
  micros = micros_by (c.micros == 0) refl
