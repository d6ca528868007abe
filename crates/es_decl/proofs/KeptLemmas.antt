-- What the parts of a document keep where they are read: names of their forms, numbers and counts in their ranges.
use Rattle.std.proofs.Common.{◌≡◌, ◌∙◌, ℕ, suc, ℤ, pos, negsuc, Bool, true, false, not, ◌&&◌, List, [], ◌∷◌, length, Option, None, Some, Ok, Err, refl, ap, subst, if◌then◌else◌}
use Rattle.std.specs.Prelude.{nat_le}
use Rattle.std.specs.List.{list_all}
use Rattle.serde_json.specs.Data.{Data, null, boolean, number, string, array, object, Items, no_items, item, Members, no_members, member as another}
use Rattle.serde_json.specs.Find.{as_i64, get}
use Rattle.es_model.proofs.HistoryLemmas.{both_true}
use Rattle.es_model.specs.Values.{Name}
use Rattle.es_model.specs.declared.declaration.Code.{Code}
use Rattle.es_model.specs.declared.declaration.Code.TheVariants as code
use Rattle.es_model.specs.Names.{is_between, has_name_length, has_lower_form, has_upper_form, is_lower_name, is_upper_name, is_field_name, is_code_name, is_reserved_field, is_reserved_code, is_spelled}
use Rattle.es_model.specs.declared.names.NameForm.{NameForm}
use Rattle.es_model.specs.declared.names.NameForm.TheVariants as form
use Rattle.es_decl.specs.Names.{name_test}
use Rattle.es_decl.specs.Paths.{member_step, item_step}
use Rattle.es_decl.specs.Readings.{Reading, fine, here, and_then, under, own, around}
use Rattle.es_decl.specs.Parts.{found, member, some, if_found, optional, name, ranged, whole, is_within, count, each_item, several, with_name, each_member, size, named_parts}

-- what is read of a part passes a test
abbrev pub Keeps : {A : Type 0} → (Data → Reading A) → (A → Bool) → Type 0
Keeps {A} part p = (d : Data) (x : A) → part d ≡ Ok x → p x ≡ true

-- ---- readings that give something

pub both : (a b : Bool) → a ≡ true → b ≡ true → (a && b) ≡ true
both true b p q = q
both false b p q = cc

pub ok-same : {A : Type 0} (x y : A) → ◌≡◌ {A = Reading A} (Ok x) (Ok y) → x ≡ y
ok-same x y h = cc

pub then-ok : {A B : Type 0} (r : Reading A) (next : A → Reading B) (y : B) → and_then r next ≡ Ok y → (x : A) × (r ≡ Ok x) × (next x ≡ Ok y)
then-ok (Ok x) next y h = (x, refl, h)
then-ok (Err f) next y h = cc

pub under-ok : {A : Type 0} (step : List ℕ) (r : Reading A) (x : A) → under step r ≡ Ok x → r ≡ Ok x
under-ok step (Ok y) x h = h
under-ok step (Err f) x h = cc

pub around-ok : {A : Type 0} (r : Reading A) (t : Reading (Unit {0})) (x : A) → around r t ≡ Ok x → (r ≡ Ok x) × (t ≡ fine)
around-ok r t x h =
    let a = then-ok (own r) (λ _. and_then t (λ _. r)) x h in
    let b = then-ok t (λ _. r) x a.2 in
    (b.2, b.1)

pub if-ok : {A : Type 0} (b : Bool) (r : Reading A) (c : Code) (x : A) → (if b then r else here c) ≡ Ok x → (b ≡ true) × (r ≡ Ok x)
if-ok true r c x h = (refl, h)
if-ok false r c x h = cc

-- ---- members

found-ok : {A : Type 0} (n : Name) (part : Data → Reading A) (p : A → Bool) → Keeps part p → (o : Option Data) (x : A) → found n part o ≡ Ok x → p x ≡ true
found-ok n part p keeps (Some e) x h = keeps e x (under-ok (member_step n) (part e) x h)
found-ok n part p keeps None x h = cc

pub member-ok : {A : Type 0} (n : Name) (part : Data → Reading A) (p : A → Bool) → Keeps part p → Keeps (member n part) p
member-ok n part p keeps d x h = found-ok n part p keeps (get n d) x h

if-found-ok : {A : Type 0} (n : Name) (part : Data → Reading A) (p : A → Bool) (q : Option A → Bool) → Keeps part p → q None ≡ true → ((x : A) → p x ≡ true → q (Some x) ≡ true)
    → (o : Option Data) (y : Option A) → if_found n part o ≡ Ok y → q y ≡ true
if-found-ok n part p q keeps absent there (Some e) y h =
    let s = then-ok (part e) (λ x. Ok (Some x)) y (under-ok (member_step n) (some part e) y h) in
    let same : Some s.0 ≡ y = cc in
    subst (λ z. q z ≡ true) same (there s.0 (keeps e s.0 s.1))
if-found-ok {A} n part p q keeps absent there None y h = let same : ◌≡◌ {A = Option A} None y = cc in subst (λ z. q z ≡ true) same absent

pub optional-ok : {A : Type 0} (n : Name) (part : Data → Reading A) (p : A → Bool) (q : Option A → Bool) → Keeps part p → q None ≡ true → ((x : A) → p x ≡ true → q (Some x) ≡ true) → Keeps (optional n part) q
optional-ok n part p q keeps absent there d y h = if-found-ok n part p q keeps absent there (get n d) y h

-- ---- names and numbers

abbrev pub is_name : NameForm → Name → Bool
is_name form.Plain n = is_lower_name n
is_name form.Field n = is_field_name n
is_name form.Code n = is_code_name n
is_name form.Class n = is_upper_name n

spelled-name : (f : NameForm) (n : Name) → has_name_length n ≡ true → is_spelled f n ≡ true → is_name f n ≡ true
spelled-name form.Plain n long spelled = both (has_name_length n) (has_lower_form n) long spelled
spelled-name form.Field n long spelled =
    let s = both_true (has_lower_form n) (not (is_reserved_field n)) spelled in
    both (is_lower_name n) (not (is_reserved_field n)) (both (has_name_length n) (has_lower_form n) long s.0) s.1
spelled-name form.Code n long spelled =
    let s = both_true (has_lower_form n) (not (is_reserved_code n)) spelled in
    both (is_lower_name n) (not (is_reserved_code n)) (both (has_name_length n) (has_lower_form n) long s.0) s.1
spelled-name form.Class n long spelled = both (has_name_length n) (has_upper_form n) long spelled

pub name-test-ok : (f : NameForm) (n : Name) → name_test f n ≡ fine → is_name f n ≡ true
name-test-ok f n h =
    let a = if-ok (has_name_length n) (if is_spelled f n then fine else here code.Name) code.Limit tt h in
    let b = if-ok (is_spelled f n) fine code.Name tt a.1 in
    spelled-name f n a.0 b.0

pub name-ok : (f : NameForm) → Keeps (name f) (is_name f)
name-ok f null x h = cc
name-ok f (boolean b) x h = cc
name-ok f (number n) x h = cc
name-ok f (string s) x h =
    let a = then-ok (name_test f s) (λ _. Ok s) x h in
    let same : s ≡ x = cc in
    subst (λ n. is_name f n ≡ true) same (name-test-ok f s a.1)
name-ok f (array ds) x h = cc
name-ok f (object ms) x h = cc

ranged-ok : (least most : ℕ) (o : Option ℤ) (x : ℕ) → ranged least most o ≡ Ok x → is_between least most x ≡ true
ranged-ok least most (Some (pos n)) x h =
    let a = if-ok (nat_le least n && nat_le n most) (Ok n) code.Limit x h in
    let same : n ≡ x = let k = a.1 in cc in
    subst (λ m. is_between least most m ≡ true) same a.0
ranged-ok least most (Some (negsuc n)) x h = cc
ranged-ok least most None x h = cc

pub whole-ok : (least most : ℕ) → Keeps (whole least most) (is_between least most)
whole-ok least most null x h = cc
whole-ok least most (boolean b) x h = cc
whole-ok least most (number n) x h = ranged-ok least most (as_i64 n) x h
whole-ok least most (string s) x h = cc
whole-ok least most (array ds) x h = cc
whole-ok least most (object ms) x h = cc

-- ---- arrays

each-ok : {A : Type 0} (part : Data → Reading A) (p : A → Bool) → Keeps part p → (n : ℕ) (ds : Items) (xs : List A) → each_item part n ds ≡ Ok xs → (list_all p xs ≡ true) × (length xs ≡ count ds)
each-ok {A} part p keeps n no_items xs h = let same : ◌≡◌ {A = List A} [] xs = cc in subst (λ z. (list_all p z ≡ true) × (length z ≡ 0)) same (refl, refl)
each-ok part p keeps n (item d ds) xs h =
    let a = then-ok (under (item_step n) (part d)) (λ x. and_then (each_item part (suc n) ds) (λ ys. Ok (x ∷ ys))) xs h in
    let b = then-ok (each_item part (suc n) ds) (λ ys. Ok (a.0 ∷ ys)) xs a.2 in
    let same : a.0 ∷ b.0 ≡ xs = let k = b.2 in cc in
    let rest = each-ok part p keeps (suc n) ds b.0 b.1 in
    let first : p a.0 ≡ true = keeps d a.0 (under-ok (item_step n) (part d) a.0 a.1) in
    subst (λ z. (list_all p z ≡ true) × (length z ≡ suc (count ds))) same (both (p a.0) (list_all p b.0) first rest.0, ap suc rest.1)

pub several-ok : {A : Type 0} (least : ℕ) (most : Option ℕ) (part : Data → Reading A) (p : A → Bool) → Keeps part p → Keeps (several least most part) (λ xs. is_within least most (length xs) && list_all p xs)
several-ok least most part p keeps null xs h = cc
several-ok least most part p keeps (boolean b) xs h = cc
several-ok least most part p keeps (number n) xs h = cc
several-ok least most part p keeps (string s) xs h = cc
several-ok least most part p keeps (array ds) xs h =
    let a = if-ok (is_within least most (count ds)) (each_item part 0 ds) code.Limit xs h in
    let e = each-ok part p keeps 0 ds xs a.1 in
    both (is_within least most (length xs)) (list_all p xs) (ap (is_within least most) e.1 ∙ a.0) e.0
several-ok least most part p keeps (object ms) xs h = cc

-- ---- objects of named parts

each-member-ok : {A : Type 0} (f : NameForm) (part : Data → Reading A) (p : A → Bool) → Keeps part p → (ms : Members) (xs : List (Name × A)) → each_member f part ms ≡ Ok xs
    → (list_all (λ x. p x.1) xs ≡ true) × (list_all (λ x. is_name f x.0) xs ≡ true) × (length xs ≡ size ms)
each-member-ok {A} f part p keeps no_members xs h =
    let same : ◌≡◌ {A = List (Name × A)} [] xs = cc in
    subst (λ z. (list_all (λ x. p x.1) z ≡ true) × (list_all (λ x. is_name f x.0) z ≡ true) × (length z ≡ 0)) same (refl, refl, refl)
each-member-ok {A} f part p keeps (another n d ms) xs h =
    let a = then-ok (under (member_step n) (with_name f part n d)) (λ x. and_then (each_member f part ms) (λ ys. Ok (x ∷ ys))) xs h in
    let b = then-ok (each_member f part ms) (λ ys. Ok (a.0 ∷ ys)) xs a.2 in
    let w = then-ok (around (part d) (name_test f n)) (λ x. Ok (n, x)) a.0 (under-ok (member_step n) (with_name f part n d) a.0 a.1) in
    let r = around-ok (part d) (name_test f n) w.0 w.1 in
    let made : (n, w.0) ≡ a.0 = let k = w.2 in cc in
    let same : a.0 ∷ b.0 ≡ xs = let k = b.2 in cc in
    let rest = each-member-ok f part p keeps ms b.0 b.1 in
    let value : p a.0.1 ≡ true = subst (λ (x : Name × A). p x.1 ≡ true) made (keeps d w.0 r.0) in
    let named : is_name f a.0.0 ≡ true = subst (λ (x : Name × A). is_name f x.0 ≡ true) made (name-test-ok f n r.1) in
    subst (λ z. (list_all (λ x. p x.1) z ≡ true) × (list_all (λ x. is_name f x.0) z ≡ true) × (length z ≡ suc (size ms))) same
    (both (p a.0.1) (list_all (λ x. p x.1) b.0) value rest.0, both (is_name f a.0.0) (list_all (λ x. is_name f x.0) b.0) named rest.1, ap suc rest.2)

pub named-ok : {A : Type 0} (f : NameForm) (most : Option ℕ) (part : Data → Reading A) (p : A → Bool) → Keeps part p
    → Keeps (named_parts f most part) (λ xs. is_within 0 most (length xs) && list_all (λ x. is_name f x.0) xs && list_all (λ x. p x.1) xs)
named-ok f most part p keeps null xs h = cc
named-ok f most part p keeps (boolean b) xs h = cc
named-ok f most part p keeps (number n) xs h = cc
named-ok f most part p keeps (string s) xs h = cc
named-ok f most part p keeps (array ds) xs h = cc
named-ok f most part p keeps (object ms) xs h =
    let a = if-ok (is_within 0 most (size ms)) (each_member f part ms) code.Limit xs h in
    let e = each-member-ok f part p keeps ms xs a.1 in
    both (is_within 0 most (length xs) && list_all (λ x. is_name f x.0) xs) (list_all (λ x. p x.1) xs)
    (both (is_within 0 most (length xs)) (list_all (λ x. is_name f x.0) xs) (ap (is_within 0 most) e.2 ∙ a.0) e.1) e.0
