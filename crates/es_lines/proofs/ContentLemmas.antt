-- What is read from UTF-8 is UTF-8.
use Rattle.std.proofs.Common.{◌≡◌, ◌∙◌, ℕ, ◌+◌, ◌-◌, ◌<◌, ◌≤◌, ◌==◌, nat_lt, nat_le, Bool, true, false, cond, ◌&&◌, List, [], ◌∷◌, ◌++◌, length, take, drop, get_or, Option, Some, None, option_and_then, IsUtf8, refl, sym, ap, subst, arith, append_assoc, append-nil, inl, inr, eqb-true, ltb-true, leb-true, lt-ltb}
use Rattle.std.proofs.lemmas.Bool.{cases_lt}
use Rattle.std.proofs.lemmas.List.{length-append}
use Rattle.std.proofs.Math.Seq.{take-append_seam, drop-append-add}
use Rattle.std.proofs.lemmas.Str.{IsUtf8-append, IsUtf8-encode, encode_ascii, IsUtf8-between, IsCharBoundary-before_ascii, IsCharBoundary-after_ascii, IsCharBoundary-start, IsCharBoundary-end}
use Rattle.std.specs.Char.{encode_utf8, digit_value, is_digit, IsScalar}
use Rattle.json.specs.Text.{code_unit, short_escape, is_high_surrogate, is_low_surrogate, surrogate_pair, Within, plain, after_backslash, after_u, after_high, prepend, content}

-- ---- a text is cut at a byte of ASCII

seam : (p : List ℕ) (x : ℕ) (xs : List ℕ) → get_or (p ++ x ∷ xs) (length p) 0 ≡ x
seam [] x xs = refl
seam (y ∷ p) x xs = seam p x xs

front : (p : List ℕ) (x : ℕ) (xs : List ℕ) → x < 128 → IsUtf8 (p ++ x ∷ xs) → IsUtf8 p
front p x xs small utf8 =
    let d : List ℕ = p ++ x ∷ xs in
    let within : length p < length d = omega (arith, length-append p (x ∷ xs)) in
    let there : get_or d (length p) 0 < 128 = subst (λ z. z < 128) (sym (seam p x xs)) small in
    let all = IsUtf8-between d 0 (length p) utf8 (omega arith) (IsCharBoundary-start d utf8) (IsCharBoundary-before_ascii d (length p) within there) in
    let none : length p - 0 ≡ length p = omega arith in
    subst IsUtf8 (ap (λ n. take n d) none ∙ take-append_seam p (x ∷ xs)) all

whole : (xs : List ℕ) → take (length xs) xs ≡ xs
whole [] = refl
whole (x ∷ xs) = ap (λ l. x ∷ l) (whole xs)

pub back : (p : List ℕ) (x : ℕ) (xs : List ℕ) → x < 128 → IsUtf8 (p ++ x ∷ xs) → IsUtf8 xs
back p x xs small utf8 =
    let d : List ℕ = p ++ x ∷ xs in
    let within : length p < length d = omega (arith, length-append p (x ∷ xs)) in
    let there : get_or d (length p) 0 < 128 = subst (λ z. z < 128) (sym (seam p x xs)) small in
    let all = IsUtf8-between d (length p + 1) (length d) utf8 (omega arith) (IsCharBoundary-after_ascii d (length p) utf8 within there) (IsCharBoundary-end d) in
    let rest : drop (length p + 1) d ≡ xs = drop-append-add p (x ∷ xs) 1 in
    let long : length d - (length p + 1) ≡ length xs = omega (arith, length-append p (x ∷ xs)) in
    subst IsUtf8 ((λ i. take (long i) (rest i)) ∙ whole xs) all

scalar-small : (x : ℕ) → x < 128 → IsScalar x
scalar-small x small = rw (lt-ltb x 55296 (omega arith)) refl

ascii-then : (x : ℕ) (xs : List ℕ) → x < 128 → IsUtf8 xs → IsUtf8 (x ∷ xs)
ascii-then x xs small utf8 = IsUtf8-append (x ∷ []) xs (subst IsUtf8 (encode_ascii x small) (IsUtf8-encode x (scalar-small x small))) utf8

-- ---- escapes

prepended : (bytes s : List ℕ) (o : Option (List ℕ)) → prepend bytes o ≡ Some s → (t : List ℕ) × (o ≡ Some t) × (bytes ++ t ≡ s)
prepended bytes s None is = absurd (cc is)
prepended bytes s (Some t) is = (t, refl, cc is)

pub found : {A B : Type 0} (f : A → Option B) (o : Option A) (b : B) → option_and_then f o ≡ Some b → (a : A) × (o ≡ Some a) × (f a ≡ Some b)
found f None b is = absurd (cc is)
found f (Some a) b is = (a, refl, is)

not-digit : (x : ℕ) → 128 ≤ x → is_digit x 16 ≡ true → ⊥
not-digit x large is = grind (arith, large, is)

digit-small : (x : ℕ) → is_digit x 16 ≡ true → x < 128
digit-small x is = elim (cases_lt x 128) [ inl small ↦ small | inr large ↦ absurd (not-digit x large is) ]

four : (a b c d : Bool) (u v : ℕ) → cond (a && b && c && d) (Some u) None ≡ Some v → (a ≡ true) × (b ≡ true) × (c ≡ true) × (d ≡ true)
four true true true true u v is = (refl, refl, refl, refl)
four true true true false u v is = absurd (cc is)
four true true false d u v is = absurd (cc is)
four true false c d u v is = absurd (cc is)
four false b c d u v is = absurd (cc is)

digits : (a b c d u : ℕ) → code_unit a b c d ≡ Some u → (a < 128) × (b < 128) × (c < 128) × (d < 128)
unfolding code_unit
digits a b c d u is =
    let h = four (is_digit a 16) (is_digit b 16) (is_digit c 16) (is_digit d 16) _ u is in
    (digit-small a h.0, digit-small b h.1, digit-small c h.2, digit-small d h.3)

digit-value : (x : ℕ) → is_digit x 16 ≡ true → digit_value x < 16
digit-value x is = ltb-true (digit_value x) 16 is

unit-value : (t : Bool) (n u : ℕ) → cond t (Some n) None ≡ Some u → n ≡ u
unit-value true n u is = cc is
unit-value false n u is = absurd (cc is)

unit-small : (a b c d u : ℕ) → code_unit a b c d ≡ Some u → u < 65536
unfolding code_unit
unit-small a b c d u is =
    let h = four (is_digit a 16) (is_digit b 16) (is_digit c 16) (is_digit d 16) _ u is in
    let value = unit-value _ _ u is in
    omega (arith, value, digit-value a h.0, digit-value b h.1, digit-value c h.2, digit-value d h.3)

both : (a b : Bool) → (a && b) ≡ true → (a ≡ true) × (b ≡ true)
both true b h = (refl, h)
both false b h = absurd (cc h)

high-range : (h : ℕ) → is_high_surrogate h ≡ true → (55296 ≤ h) × (h < 56320)
high-range h is = let p = both (nat_le 55296 h) (nat_lt h 56320) is in (leb-true 55296 h p.0, ltb-true h 56320 p.1)

low-range : (l : ℕ) → is_low_surrogate l ≡ true → (56320 ≤ l) × (l < 57344)
low-range l is = let p = both (nat_le 56320 l) (nat_lt l 57344) is in (leb-true 56320 l p.0, ltb-true l 57344 p.1)

no-surrogate : (u : ℕ) → u < 65536 → is_high_surrogate u ≡ false → is_low_surrogate u ≡ false → IsScalar u
no-surrogate u small high low = grind (arith, small, high, low)

wide : (u : ℕ) → 57344 ≤ u → u < 1114112 → IsScalar u
wide u above below = grind (arith, above, below)

pair-scalar : (h l : ℕ) → is_high_surrogate h ≡ true → is_low_surrogate l ≡ true → IsScalar (surrogate_pair h l)
pair-scalar h l high low =
    let a = high-range h high in
    let b = low-range l low in
    wide (surrogate_pair h l) (omega (arith, a.0, a.1, b.0, b.1)) (omega (arith, a.0, a.1, b.0, b.1))

short-small : (x c : ℕ) → short_escape x ≡ Some c → (x < 128) × (c < 128)
unfolding short_escape
short-small x c is = grind (arith, is)

-- ---- a string's content

-- within an escape nothing stands before it, and a pair's first half is one
abbrev IsPlace : Within → List ℕ → Type 0
IsPlace plain p = Unit {0}
IsPlace after_backslash p = p ≡ []
IsPlace after_u p = p ≡ []
IsPlace (after_high h) p = (p ≡ []) × (is_high_surrogate h ≡ true)

-- what the content of the rest of a text is, after some bytes
abbrev Keeps : Within → List ℕ → Type 0
Keeps w xs = (p s : List ℕ) → IsPlace w p → IsUtf8 (p ++ xs) → content w xs ≡ Some s → IsUtf8 (p ++ s)

plain-step : (q b c : Bool) (x : ℕ) (xs p s : List ℕ) → (x == 34) ≡ q → (x == 92) ≡ b → Keeps plain xs → Keeps after_backslash xs → IsUtf8 (p ++ x ∷ xs)
    → cond q (Some []) (cond b (content after_backslash xs) (cond c None (prepend (x ∷ []) (content plain xs)))) ≡ Some s → IsUtf8 (p ++ s)
plain-step true b c x xs p s quoted slash more escaped utf8 is =
    let none : [] ≡ s = cc is in
    subst (λ z. IsUtf8 (p ++ z)) none (subst IsUtf8 (sym (append-nil p)) (front p x xs (omega (arith, eqb-true x 34 quoted)) utf8))
plain-step false true c x xs p s quoted slash more escaped utf8 is =
    let small : x < 128 = omega (arith, eqb-true x 92 slash) in
    IsUtf8-append p s (front p x xs small utf8) (escaped [] s refl (back p x xs small utf8) is)
plain-step false false true x xs p s quoted slash more escaped utf8 is = absurd (cc is)
plain-step false false false x xs p s quoted slash more escaped utf8 is =
    let h = prepended (x ∷ []) s (content plain xs) is in
    let longer : IsUtf8 ((p ++ x ∷ []) ++ h.0) = more (p ++ x ∷ []) h.0 tt (subst IsUtf8 (sym (append_assoc p (x ∷ []) xs)) utf8) h.1 in
    subst (λ z. IsUtf8 (p ++ z)) h.2 (subst IsUtf8 (append_assoc p (x ∷ []) h.0) longer)

backslash-step : (u : Bool) (x : ℕ) (xs s : List ℕ) → (x == 117) ≡ u → Keeps plain xs → Keeps after_u xs → IsUtf8 (x ∷ xs)
    → cond u (content after_u xs) (option_and_then (λ c. prepend (c ∷ []) (content plain xs)) (short_escape x)) ≡ Some s → IsUtf8 s
backslash-step true x xs s unit more spelled utf8 is = spelled [] s refl (back [] x xs (omega (arith, eqb-true x 117 unit)) utf8) is
backslash-step false x xs s unit more spelled utf8 is =
    let e = found (λ c. prepend (c ∷ []) (content plain xs)) (short_escape x) s is in
    let small = short-small x e.0 e.1 in
    let h = prepended (e.0 ∷ []) s (content plain xs) e.2 in
    subst IsUtf8 h.2 (ascii-then e.0 h.0 small.1 (more [] h.0 tt (back [] x xs small.0 utf8) h.1))

after-four : (a b c d : ℕ) (xs : List ℕ) → (a < 128) × (b < 128) × (c < 128) × (d < 128) → IsUtf8 (a ∷ b ∷ c ∷ d ∷ xs) → IsUtf8 xs
after-four a b c d xs small utf8 = back [] d xs small.3 (back [] c (d ∷ xs) small.2 (back [] b (c ∷ d ∷ xs) small.1 (back [] a (b ∷ c ∷ d ∷ xs) small.0 utf8)))

unit-step : (high low : Bool) (u : ℕ) (xs s : List ℕ) → u < 65536 → is_high_surrogate u ≡ high → is_low_surrogate u ≡ low → Keeps plain xs → Keeps (after_high u) xs → IsUtf8 xs
    → cond high (content (after_high u) xs) (cond low None (prepend (encode_utf8 u) (content plain xs))) ≡ Some s → IsUtf8 s
unit-step true low u xs s small h l more half utf8 is = half [] s (refl, h) utf8 is
unit-step false true u xs s small h l more half utf8 is = absurd (cc is)
unit-step false false u xs s small h l more half utf8 is =
    let e = prepended (encode_utf8 u) s (content plain xs) is in
    subst IsUtf8 e.2 (IsUtf8-append (encode_utf8 u) e.0 (IsUtf8-encode u (no-surrogate u small h l)) (more [] e.0 tt utf8 e.1))

half-step : (low : Bool) (high l : ℕ) (xs s : List ℕ) → is_high_surrogate high ≡ true → is_low_surrogate l ≡ low → Keeps plain xs → IsUtf8 xs
    → cond low (prepend (encode_utf8 (surrogate_pair high l)) (content plain xs)) None ≡ Some s → IsUtf8 s
half-step true high l xs s h is-low more utf8 is =
    let e = prepended (encode_utf8 (surrogate_pair high l)) s (content plain xs) is in
    subst IsUtf8 e.2 (IsUtf8-append (encode_utf8 (surrogate_pair high l)) e.0 (IsUtf8-encode (surrogate_pair high l) (pair-scalar high l h is-low)) (more [] e.0 tt utf8 e.1))
half-step false high l xs s h is-low more utf8 is = absurd (cc is)

high-step : (t : Bool) (high a b c d : ℕ) (xs s : List ℕ) → is_high_surrogate high ≡ true → Keeps plain xs → (t ≡ true → IsUtf8 (a ∷ b ∷ c ∷ d ∷ xs))
    → cond t (option_and_then (λ l. cond (is_low_surrogate l) (prepend (encode_utf8 (surrogate_pair high l)) (content plain xs)) None) (code_unit a b c d)) None ≡ Some s → IsUtf8 s
high-step false high a b c d xs s h more utf8 is = absurd (cc is)
high-step true high a b c d xs s h more utf8 is =
    let e = found (λ l. cond (is_low_surrogate l) (prepend (encode_utf8 (surrogate_pair high l)) (content plain xs)) None) (code_unit a b c d) s is in
    half-step (is_low_surrogate e.0) high e.0 xs s h refl more (after-four a b c d xs (digits a b c d e.0 e.1) (utf8 refl)) e.2

at-slash : (x y : ℕ) (xs : List ℕ) → ((x == 92) && (y == 117)) ≡ true → IsUtf8 (x ∷ y ∷ xs) → IsUtf8 xs
at-slash x y xs is utf8 =
    let h = both (x == 92) (y == 117) is in
    back [] y xs (omega (arith, eqb-true y 117 h.1)) (back [] x (y ∷ xs) (omega (arith, eqb-true x 92 h.0)) utf8)

unplaced : (p xs : List ℕ) → p ≡ [] → IsUtf8 (p ++ xs) → IsUtf8 xs
unplaced p xs none = subst (λ q. IsUtf8 (q ++ xs)) none

placed : (p s : List ℕ) → p ≡ [] → IsUtf8 s → IsUtf8 (p ++ s)
placed p s none = subst (λ q. IsUtf8 (q ++ s)) (sym none)

keeps-content : (w : Within) (xs : List ℕ) → Keeps w xs
unfolding content
keeps-content plain [] p s place utf8 is = absurd (cc is)
keeps-content plain (x ∷ xs) p s place utf8 is = plain-step (x == 34) (x == 92) (nat_lt x 32) x xs p s refl refl (keeps-content plain xs) (keeps-content after_backslash xs) utf8 is
keeps-content after_backslash [] p s place utf8 is = absurd (cc is)
keeps-content after_backslash (x ∷ xs) p s place utf8 is = placed p s place (backslash-step (x == 117) x xs s refl (keeps-content plain xs) (keeps-content after_u xs) (unplaced p (x ∷ xs) place utf8) is)
keeps-content after_u [] p s place utf8 is = absurd (cc is)
keeps-content after_u (a ∷ []) p s place utf8 is = absurd (cc is)
keeps-content after_u (a ∷ b ∷ []) p s place utf8 is = absurd (cc is)
keeps-content after_u (a ∷ b ∷ c ∷ []) p s place utf8 is = absurd (cc is)
keeps-content after_u (a ∷ b ∷ c ∷ d ∷ xs) p s place utf8 is =
    let e = found (λ u. cond (is_high_surrogate u) (content (after_high u) xs) (cond (is_low_surrogate u) None (prepend (encode_utf8 u) (content plain xs)))) (code_unit a b c d) s is in
    let rest = after-four a b c d xs (digits a b c d e.0 e.1) (unplaced p (a ∷ b ∷ c ∷ d ∷ xs) place utf8) in
    placed p s place (unit-step (is_high_surrogate e.0) (is_low_surrogate e.0) e.0 xs s (unit-small a b c d e.0 e.1) refl refl (keeps-content plain xs) (keeps-content (after_high e.0) xs) rest e.2)
keeps-content (after_high h) [] p s place utf8 is = absurd (cc is)
keeps-content (after_high h) (x ∷ []) p s place utf8 is = absurd (cc is)
keeps-content (after_high h) (x ∷ y ∷ []) p s place utf8 is = absurd (cc is)
keeps-content (after_high h) (x ∷ y ∷ a ∷ []) p s place utf8 is = absurd (cc is)
keeps-content (after_high h) (x ∷ y ∷ a ∷ b ∷ []) p s place utf8 is = absurd (cc is)
keeps-content (after_high h) (x ∷ y ∷ a ∷ b ∷ c ∷ []) p s place utf8 is = absurd (cc is)
keeps-content (after_high h) (x ∷ y ∷ a ∷ b ∷ c ∷ d ∷ xs) p s place utf8 is =
    placed p s place.0 (high-step ((x == 92) && (y == 117)) h a b c d xs s place.1 (keeps-content plain xs) (λ e. at-slash x y (a ∷ b ∷ c ∷ d ∷ xs) e (unplaced p (x ∷ y ∷ a ∷ b ∷ c ∷ d ∷ xs) place.0 utf8)) is)

-- the content of a string in a text is UTF-8
pub content-utf8 : (xs s : List ℕ) → IsUtf8 xs → content plain xs ≡ Some s → IsUtf8 s
content-utf8 xs s utf8 is = keeps-content plain xs [] s tt utf8 is
