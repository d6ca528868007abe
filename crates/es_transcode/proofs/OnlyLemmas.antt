-- A text is that of one atom of a kind only, and a tree that of one record only.
use Rattle.std.proofs.Common.{◌≡◌, ◌∙◌, ◌*ℤ◌, ◌+ℤ◌, ◌<◌, ◌+◌, ◌*◌, ◌/◌, ◌%◌, ◌^◌, ◌==◌, ℤ, pos, negsuc, ℕ, zero, suc, List, [], ◌∷◌, length, take, drop, Bool, true, false, Some, unsigned_abs, int_lt, decimal, if◌then◌else◌, codes, refl, sym, ap, subst, arith, FitsSigned, w64, Result, Ok, Err}
use Rattle.std.specs.Prelude.{IfOk}
use Rattle.std.proofs.lemmas.Fmt.{decimal_injective}
use Rattle.std.proofs.lemmas.Bool.Decides.{Decides-eqb}
use Rattle.jiff_core.specs.Calendar.{days_from_civil}
use Rattle.jiff_core.proofs.CalendarLemmas.{days_in_month_bounds}
use Rattle.uuid.specs.Text.{parsed}
use Rattle.serde_json.specs.Data.{Data, null, boolean, number, string, array, object, Items, no_items, item, Members, no_members, member}
use Rattle.serde_json.specs.Find.{of_integer}
use Rattle.es_model.specs.Scaled.{Scaled}
use Rattle.es_model.specs.Values.{IsValid, Record}
use Rattle.es_model.specs.declared.value.Atom.{Atom}
use Rattle.es_model.specs.declared.value.Atom.TheVariants as atom
use Rattle.es_model.specs.declared.value.Value.{Value}
use Rattle.es_model.specs.declared.value.Value.TheVariants as value
use Rattle.es_transcode.specs.declared.civil.Civil.{Civil}
use Rattle.es_transcode.specs.declared.fault.DecodeFault.{DecodeFault}
use Rattle.es_transcode.specs.CivilText.{IsCivil, IsMomentText, iso_text, micros_of}
use Rattle.es_transcode.specs.Padded.{padded}
use Rattle.es_transcode.specs.Texts.{decimal_text, point_of}
use Rattle.es_transcode.specs.inner.Unsigned.{IsUnsigned}
use Rattle.es_transcode.specs.RecordText.{tagged, IsTagged, IsAtomTree, AreAtomTrees, IsValueTree, AreMembers, IsRecordTree}
use Rattle.es_transcode.specs.Decoding.{IsDecoded}
use Rattle.es_transcode.proofs.CivilLemmas as civil
use Rattle.es_transcode.proofs.CivilLemmas.{IsRead}
use Rattle.es_transcode.proofs.DecimalLemmas.{IsReadAs, read-as, fits-small, scale-read, quotient-small, unit-some}
use Rattle.es_transcode.proofs.DigitsLemmas.{front, last}

-- digits are those of one number

joined : (m n : ℕ) → m / 10 ≡ n / 10 → 48 + m % 10 ≡ 48 + n % 10 → m ≡ n
joined m n whole rest = omega (arith, whole, rest)

pub one-number : (k m n : ℕ) → m < 10 ^ k → n < 10 ^ k → padded k m ≡ padded k n → m ≡ n
one-number zero m n few less is = omega (arith, few, less)
one-number (suc k) m n few less is =
    let whole : m / 10 ≡ n / 10 = one-number k (m / 10) (n / 10) (grind (arith, few)) (grind (arith, less)) (sym (front k m (padded (suc k) n) (sym is)) ∙ front k n (padded (suc k) n) refl) in
    joined m n whole (sym (last k m (padded (suc k) n) (sym is)) ∙ last k n (padded (suc k) n) refl)

pub read-self : (f : List ℕ → List ℕ) (text whole : List ℕ) (r : ℕ) → text ≡ whole → r < 10 ^ length (f whole) → f whole ≡ padded (length (f whole)) r → IsRead (f text) r
read-self f text whole r is small digits = subst (λ t. IsRead (f t) r) (sym is) (λ n few s e. one-number (length (f whole)) r n small s (sym digits ∙ e))

-- a text is that of one moment

module _ (text : List ℕ) (d : Civil) (h : IsCivil d) (is : text ≡ iso_text d) where
  year-read : IsRead (take 4 text) d.year
  year-read = let small : d.year < 10000 = civil.years d.year h.date.0.1 in read-self (λ t. take 4 t) text (iso_text d) d.year is (omega arith) refl

  month-read : IsRead (take 2 (drop 5 text)) d.month
  month-read = let small : d.month < 100 = omega (arith, h.date.1) in read-self (λ t. take 2 (drop 5 t)) text (iso_text d) d.month is (omega arith) refl

  day-read : IsRead (take 2 (drop 8 text)) d.day
  day-read =
      let small : d.day < 100 = omega (arith, h.date.2, (days_in_month_bounds (pos d.year) d.month).0) in
      read-self (λ t. take 2 (drop 8 t)) text (iso_text d) d.day is (omega arith) refl

  hour-read : IsRead (take 2 (drop 11 text)) d.hour
  hour-read = let small : d.hour < 100 = omega (arith, h.time.hour) in read-self (λ t. take 2 (drop 11 t)) text (iso_text d) d.hour is (omega arith) refl

  minute-read : IsRead (take 2 (drop 14 text)) d.minute
  minute-read = let small : d.minute < 100 = omega (arith, h.time.minute) in read-self (λ t. take 2 (drop 14 t)) text (iso_text d) d.minute is (omega arith) refl

  second-read : IsRead (take 2 (drop 17 text)) d.second
  second-read = let small : d.second < 100 = omega (arith, h.time.second) in read-self (λ t. take 2 (drop 17 t)) text (iso_text d) d.second is (omega arith) refl

  micros-read : (b : Bool) → (d.micros == 0) ≡ b → (length text ≡ 32 → IsRead (take 6 (drop 20 text)) d.micros) × ((length text ≡ 32 → ⊥) → d.micros ≡ 0)
  micros-read true none = (λ long. absurd (omega (arith, sym long ∙ ap length (civil.plain text d h is none))), λ short. (Decides-eqb d.micros 0).0 none)
  micros-read false some = (
    λ long. read-self (λ t. take 6 (drop 20 t)) text _ d.micros (civil.full text d h is some) (omega (arith, h.time.micros)) refl,
    λ short. absurd (short (ap length (civil.full text d h is some))),
  )

  pub same-moment : (c : Civil) → IsCivil c → text ≡ iso_text c → micros_of d ≡ micros_of c
  same-moment c g same =
      let y = civil.year text c g same d.year year-read in
      let m = civil.month text c g same d.month month-read in
      let a = civil.day text c g same d.day day-read in
      let o = civil.hour text c g same d.hour hour-read in
      let n = civil.minute text c g same d.minute minute-read in
      let s = civil.second text c g same d.second second-read in
      let parts = micros-read (d.micros == 0) refl in
      let u = civil.micros text c g same d.micros parts.0 parts.1 in
      λ i. days_from_civil (pos (y i)) (m i) (a i) *ℤ pos 86400000000 +ℤ pos (((o i * 60 + n i) * 60 + s i) * 1000000 + u i)

only-moment : (m n : ℤ) (text : List ℕ) → IsMomentText m text → IsMomentText n text → m ≡ n
only-moment m n text (d, h, of, is) (c, g, so, same) = sym of ∙ same-moment text d h is c g same ∙ so

-- a text is that of one decimal

-- a text begins with a minus, or doesn't
unsigned-parts : (text : List ℕ) → (negative : Bool) × (rest : List ℕ) × IsUnsigned text negative rest
unsigned-parts [] = (false, [], (refl, refl))
unsigned-parts (b ∷ bs) = (b == 45, (if b == 45 then bs else b ∷ bs), (refl, refl))

read-decimal : (d : Scaled) (text : List ℕ) → FitsSigned w64 d.digits → text ≡ decimal_text d
    → let p = unsigned-parts text in IsReadAs d p.0 (take (point_of p.1) p.1) (drop 1 (drop (point_of p.1) p.1))
read-decimal d text fits is = let p = unsigned-parts text in read-as d (fits-small d.digits fits) text p.1 (take (point_of p.1) p.1) (drop 1 (drop (point_of p.1) p.1)) p.0 (point_of p.1) is p.2 refl refl refl

parts-same : (m n unit : ℕ) → 0 < unit → m / unit ≡ n / unit → m % unit ≡ n % unit → m ≡ n
parts-same m n unit some whole rest =
    let a : m / unit * unit + m % unit ≡ m = grind arith in
    let b : n / unit * unit + n % unit ≡ n = grind arith in
    sym a ∙ (λ i. whole i * unit + rest i) ∙ b

same-magnitude : (k m n : ℕ) → m < 18446744073709551616 → n < 18446744073709551616 → decimal (m / 10 ^ k) ≡ decimal (n / 10 ^ k) → padded k (m % 10 ^ k) ≡ padded k (n % 10 ^ k) → m ≡ n
same-magnitude k m n few less whole places =
    let unit : 0 < 10 ^ k = unit-some k in
    let w : m / 10 ^ k ≡ n / 10 ^ k = decimal_injective (m / 10 ^ k) (n / 10 ^ k) (quotient-small m (10 ^ k) few unit) (quotient-small n (10 ^ k) less unit) whole in
    let p : m % 10 ^ k ≡ n % 10 ^ k = one-number k (m % 10 ^ k) (n % 10 ^ k) (grind (arith, unit)) (grind (arith, unit)) places in
    parts-same m n (10 ^ k) unit w p

same-digits : (y z : ℤ) → unsigned_abs y ≡ unsigned_abs z → int_lt y (pos 0) ≡ int_lt z (pos 0) → y ≡ z
same-digits (pos m) (pos n) size side = ap pos size
same-digits (pos m) (negsuc n) size side = let late : int_lt (pos m) (pos 0) ≡ false = grind arith in cc
same-digits (negsuc m) (pos n) size side = let late : int_lt (pos n) (pos 0) ≡ false = grind arith in cc
same-digits (negsuc m) (negsuc n) size side = let same : m ≡ n = omega (arith, size) in ap negsuc same

module _ (d e : Scaled) (negative : Bool) (whole places : List ℕ) (r : IsReadAs d negative whole places) (s : IsReadAs e negative whole places) where
  same-scale : d.scale ≡ e.scale
  same-scale = sym (scale-read d whole places negative r) ∙ scale-read e whole places negative s

  same-size : FitsSigned w64 d.digits → FitsSigned w64 e.digits → unsigned_abs d.digits ≡ unsigned_abs e.digits
  same-size fits small =
      same-magnitude d.scale (unsigned_abs d.digits) (unsigned_abs e.digits) (fits-small d.digits fits) (fits-small e.digits small)
      (sym r.whole_is ∙ s.whole_is ∙ ap (λ k. decimal (unsigned_abs e.digits / 10 ^ k)) (sym same-scale))
      (sym r.places_are ∙ s.places_are ∙ ap (λ k. padded k (unsigned_abs e.digits % 10 ^ k)) (sym same-scale))

  pub same-decimal : FitsSigned w64 d.digits → FitsSigned w64 e.digits → d ≡ e
  same-decimal fits small =
      let digits : d.digits ≡ e.digits = same-digits d.digits e.digits (same-size fits small) (sym r.sign_is ∙ s.sign_is) in
      λ i. record { digits = digits i; scale = same-scale i }

only-decimal : (d e : Scaled) (text : List ℕ) → IsValid (atom.Decimal d) → IsValid (atom.Decimal e) → text ≡ decimal_text d → text ≡ decimal_text e → d ≡ e
only-decimal d e text valid good is same =
    let p = unsigned-parts text in
    same-decimal d e p.0 (take (point_of p.1) p.1) (drop 1 (drop (point_of p.1) p.1)) (read-decimal d text valid.0 is) (read-decimal e text good.0 same) valid.0 good.0

-- a tree is that of one atom

only-id : (u v text : List ℕ) → parsed text ≡ Some u → parsed text ≡ Some v → u ≡ v
only-id u v text is same = let p : Some u ≡ Some v = sym is ∙ same in cc

one-integer : (y z : ℤ) → of_integer y ≡ of_integer z → y ≡ z
one-integer (pos m) (pos n) is = cc
one-integer (pos m) (negsuc n) is = cc
one-integer (negsuc m) (pos n) is = cc
one-integer (negsuc m) (negsuc n) is = cc

same-text : (w v t u : List ℕ) → tagged w t ≡ tagged v u → (w ≡ v) × (t ≡ u)
same-text w v t u is = (cc, cc)

module _ (w v : List ℕ) (b : Atom) (d : Data) where
  -- trees beside two words
  apart : (a : Atom) → (w ≡ v → ⊥) → IsTagged w a d → IsTagged v b d → ⊥
  apart a unlike (t, has, is) (u, so, same) = unlike (same-text w v t u (sym is ∙ same)).0

id-moment : codes "uuid_hex" ≡ codes "datetime_iso" → ⊥
id-moment is = let long : length (codes "uuid_hex") ≡ length (codes "datetime_iso") = ap length is in omega (arith, long)

id-decimal : codes "uuid_hex" ≡ codes "decimal_str" → ⊥
id-decimal is = let long : length (codes "uuid_hex") ≡ length (codes "decimal_str") = ap length is in omega (arith, long)

moment-decimal : codes "datetime_iso" ≡ codes "decimal_str" → ⊥
moment-decimal is = let long : length (codes "datetime_iso") ≡ length (codes "decimal_str") = ap length is in omega (arith, long)

not-tagged : (w t : List ℕ) (d : Data) → d ≡ tagged w t → (d ≡ null → ⊥) × ((truth : Bool) → d ≡ boolean truth → ⊥) × ((z : ℤ) → d ≡ number (of_integer z) → ⊥) × ((s : List ℕ) → d ≡ string s → ⊥) × ((ds : Items) → d ≡ array ds → ⊥)
not-tagged w t d is = (λ e. cc, λ truth e. cc, λ z e. cc, λ s e. cc, λ ds e. cc)

one-null : (b : Atom) (d : Data) → d ≡ null → IsAtomTree b d → atom.Null ≡ b
one-null atom.Null d is so = refl
one-null (atom.Bool truth) d is so = cc
one-null (atom.Int z) d is so = let p = so.1 in cc
one-null (atom.Text text) d is so = cc
one-null (atom.Uuid id) d is so = absurd ((not-tagged _ _ d so.2).0 is)
one-null (atom.Moment m) d is so = absurd ((not-tagged _ _ d so.2).0 is)
one-null (atom.Decimal n) d is so = absurd ((not-tagged _ _ d so.2).0 is)

one-bool : (b : Atom) (d : Data) (t : Bool) → d ≡ boolean t → IsAtomTree b d → atom.Bool t ≡ b
one-bool atom.Null d t is so = cc
one-bool (atom.Bool truth) d t is so = cc
one-bool (atom.Int z) d t is so = let p = so.1 in cc
one-bool (atom.Text text) d t is so = cc
one-bool (atom.Uuid id) d t is so = absurd ((not-tagged _ _ d so.2).1 t is)
one-bool (atom.Moment m) d t is so = absurd ((not-tagged _ _ d so.2).1 t is)
one-bool (atom.Decimal n) d t is so = absurd ((not-tagged _ _ d so.2).1 t is)

one-int : (b : Atom) (d : Data) (y : ℤ) → d ≡ number (of_integer y) → IsAtomTree b d → atom.Int y ≡ b
one-int atom.Null d y is so = cc
one-int (atom.Bool truth) d y is so = cc
one-int (atom.Int z) d y is so = let p : number (of_integer y) ≡ number (of_integer z) = sym is ∙ so.1 in let q : of_integer y ≡ of_integer z = cc in ap atom.Int (one-integer y z q)
one-int (atom.Text text) d y is so = cc
one-int (atom.Uuid id) d y is so = absurd ((not-tagged _ _ d so.2).2 y is)
one-int (atom.Moment m) d y is so = absurd ((not-tagged _ _ d so.2).2 y is)
one-int (atom.Decimal n) d y is so = absurd ((not-tagged _ _ d so.2).2 y is)

one-text : (b : Atom) (d : Data) (t : List ℕ) → d ≡ string t → IsAtomTree b d → atom.Text t ≡ b
one-text atom.Null d t is so = cc
one-text (atom.Bool truth) d t is so = cc
one-text (atom.Int z) d t is so = let p = so.1 in cc
one-text (atom.Text text) d t is so = cc
one-text (atom.Uuid id) d t is so = absurd ((not-tagged _ _ d so.2).3 t is)
one-text (atom.Moment m) d t is so = absurd ((not-tagged _ _ d so.2).3 t is)
one-text (atom.Decimal n) d t is so = absurd ((not-tagged _ _ d so.2).3 t is)

one-id : (b : Atom) (d : Data) (u : List ℕ) → IsTagged (codes "uuid_hex") (atom.Uuid u) d → IsAtomTree b d → atom.Uuid u ≡ b
one-id atom.Null d u is so = absurd ((not-tagged _ _ d is.2).0 so)
one-id (atom.Bool truth) d u is so = absurd ((not-tagged _ _ d is.2).1 truth so)
one-id (atom.Int z) d u is so = absurd ((not-tagged _ _ d is.2).2 z so.1)
one-id (atom.Text text) d u is so = absurd ((not-tagged _ _ d is.2).3 text so)
one-id (atom.Uuid v) d u (t, has, is) (s, so, same) = let e : t ≡ s = (same-text _ _ t s (sym is ∙ same)).1 in ap atom.Uuid (only-id u v s (subst (λ x. parsed x ≡ Some u) e has.1) so.1)
one-id (atom.Moment m) d u is so = absurd (apart (codes "uuid_hex") (codes "datetime_iso") (atom.Moment m) d (atom.Uuid u) id-moment is so)
one-id (atom.Decimal n) d u is so = absurd (apart (codes "uuid_hex") (codes "decimal_str") (atom.Decimal n) d (atom.Uuid u) id-decimal is so)

one-moment : (b : Atom) (d : Data) (m : ℤ) → IsTagged (codes "datetime_iso") (atom.Moment m) d → IsAtomTree b d → atom.Moment m ≡ b
one-moment atom.Null d m is so = absurd ((not-tagged _ _ d is.2).0 so)
one-moment (atom.Bool truth) d m is so = absurd ((not-tagged _ _ d is.2).1 truth so)
one-moment (atom.Int z) d m is so = absurd ((not-tagged _ _ d is.2).2 z so.1)
one-moment (atom.Text text) d m is so = absurd ((not-tagged _ _ d is.2).3 text so)
one-moment (atom.Uuid u) d m is so = absurd (apart (codes "uuid_hex") (codes "datetime_iso") (atom.Moment m) d (atom.Uuid u) id-moment so is)
one-moment (atom.Moment n) d m (t, has, is) (s, so, same) = let e : t ≡ s = (same-text _ _ t s (sym is ∙ same)).1 in ap atom.Moment (only-moment m n s (subst (IsMomentText m) e has.1) so.1)
one-moment (atom.Decimal n) d m is so = absurd (apart (codes "datetime_iso") (codes "decimal_str") (atom.Decimal n) d (atom.Moment m) moment-decimal is so)

one-decimal : (b : Atom) (d : Data) (n : Scaled) → IsTagged (codes "decimal_str") (atom.Decimal n) d → IsAtomTree b d → atom.Decimal n ≡ b
one-decimal atom.Null d n is so = absurd ((not-tagged _ _ d is.2).0 so)
one-decimal (atom.Bool truth) d n is so = absurd ((not-tagged _ _ d is.2).1 truth so)
one-decimal (atom.Int z) d n is so = absurd ((not-tagged _ _ d is.2).2 z so.1)
one-decimal (atom.Text text) d n is so = absurd ((not-tagged _ _ d is.2).3 text so)
one-decimal (atom.Uuid u) d n is so = absurd (apart (codes "uuid_hex") (codes "decimal_str") (atom.Decimal n) d (atom.Uuid u) id-decimal so is)
one-decimal (atom.Moment m) d n is so = absurd (apart (codes "datetime_iso") (codes "decimal_str") (atom.Decimal n) d (atom.Moment m) moment-decimal so is)
one-decimal (atom.Decimal o) d n (t, has, is) (s, so, same) = let e : t ≡ s = (same-text _ _ t s (sym is ∙ same)).1 in ap atom.Decimal (only-decimal n o s has.0 so.0 (sym e ∙ has.1) so.1)

pub one-atom : (a b : Atom) (d : Data) → IsAtomTree a d → IsAtomTree b d → a ≡ b
one-atom atom.Null b d is so = one-null b d is so
one-atom (atom.Bool truth) b d is so = one-bool b d truth is so
one-atom (atom.Int z) b d is so = one-int b d z is.1 so
one-atom (atom.Text text) b d is so = one-text b d text is so
one-atom (atom.Uuid id) b d is so = one-id b d id is so
one-atom (atom.Moment m) b d is so = one-moment b d m is so
one-atom (atom.Decimal n) b d is so = one-decimal b d n is so

-- a tree is that of one record

one-list : (xs ys : List Atom) (ds : Items) → AreAtomTrees xs ds → AreAtomTrees ys ds → xs ≡ ys
one-list [] [] no_items is so = refl
one-list [] (y ∷ ys) no_items is so = absurd so
one-list [] ys (item d ds) is so = absurd is
one-list (x ∷ xs) ys no_items is so = absurd is
one-list (x ∷ xs) [] (item d ds) is so = absurd so
one-list (x ∷ xs) (y ∷ ys) (item d ds) is so = λ i. one-atom x y d is.0 so.0 i ∷ one-list xs ys ds is.1 so.1 i

pub no-array : (a : Atom) (d : Data) (ds : Items) → d ≡ array ds → IsAtomTree a d → ⊥
no-array atom.Null d ds is so = cc
no-array (atom.Bool truth) d ds is so = cc
no-array (atom.Int z) d ds is so = let p = so.1 in cc
no-array (atom.Text text) d ds is so = cc
no-array (atom.Uuid id) d ds is so = (not-tagged _ _ d so.2).4 ds is
no-array (atom.Moment m) d ds is so = (not-tagged _ _ d so.2).4 ds is
no-array (atom.Decimal n) d ds is so = (not-tagged _ _ d so.2).4 ds is

pub one-value : (v w : Value) (d : Data) → IsValueTree v d → IsValueTree w d → v ≡ w
one-value (value.One a) (value.One b) d is so = ap value.One (one-atom a b d is so)
one-value (value.One a) (value.List ys) d is so = absurd (no-array a d so.0 so.2 is)
one-value (value.List xs) (value.One b) d is so = absurd (no-array b d is.0 is.2 so)
one-value (value.List xs) (value.List ys) d is so =
    let arrays : array so.0 ≡ array is.0 = sym so.2 ∙ is.2 in
    let same : so.0 ≡ is.0 = cc in
    ap value.List (one-list xs ys is.0 is.1 (subst (AreAtomTrees ys) same so.1))

one-of-members : (r s : Record) (ms : Members) → AreMembers r ms → AreMembers s ms → r ≡ s
one-of-members [] [] no_members is so = refl
one-of-members [] (y ∷ ys) no_members is so = absurd so
one-of-members [] ys (member k d ms) is so = absurd is
one-of-members (x ∷ xs) ys no_members is so = absurd is
one-of-members (x ∷ xs) [] (member k d ms) is so = absurd so
one-of-members (x ∷ xs) (y ∷ ys) (member k d ms) is so =
    let name : x.0 ≡ y.0 = sym is.0 ∙ so.0 in
    let v : x.1 ≡ y.1 = one-value x.1 y.1 d is.1 so.1 in
    let rest : xs ≡ ys = one-of-members xs ys ms is.2 so.2 in
    λ i. (name i, v i) ∷ rest i

pub one-record : (r s : Record) (d : Data) → IsRecordTree r d → IsRecordTree s d → r ≡ s
one-record r s d is so =
    let objects : object so.0 ≡ object is.0 = sym so.2 ∙ is.2 in
    let same : so.0 ≡ is.0 = cc in
    one-of-members r s is.0 is.1 (subst (AreMembers s) same so.1)

pub one-decoded : (bytes : List ℕ) (r s : Record) → IsDecoded bytes (Ok r) → IsDecoded bytes (Ok s) → r ≡ s
one-decoded bytes r s (d, tree, is) (e, again, so) =
    let trees : Some e ≡ Some d = sym again.1 ∙ tree.1 in
    let same : e ≡ d = cc in
    one-record r s d is (subst (IsRecordTree s) same so)

pub one-answer : (bytes : List ℕ) (r : Result Record DecodeFault) → IsDecoded bytes r → IfOk r (λ x. (s : Record) → IsDecoded bytes (Ok s) → x ≡ s)
one-answer bytes (Ok x) is = λ s so. one-decoded bytes x s is so
one-answer bytes (Err f) is = tt
