-- What the events of a document keep where they are read.
use Rattle.std.proofs.Common.{◌≡◌, ◌∙◌, ◌+◌, ℕ, suc, Bool, true, false, not, ◌&&◌, ◌||◌, cond, List, [], ◌∷◌, ◌++◌, length, take, drop, codes, Some, Ok, refl, sym, ap, subst, arith, if◌then◌else◌, add-one}
use Rattle.std.proofs.Common.{None as Absent}
use Rattle.std.proofs.Math.Seq.{take-append_seam}
use Rattle.std.specs.Prelude.{nat_le}
use Rattle.std.specs.List.{list_all, before_first, after_first, position_or_len}
use Rattle.std.specs.Str.{bytes_eq}
use Rattle.std.proofs.lemmas.Slice.Eq.{bytes_eq-Decides}
use Rattle.std.proofs.lemmas.Bool.Decides.{Decides-eqb}
use Rattle.serde_json.specs.Data.{Data, null, boolean, number, string, array, object, no_items, item, no_members, member as another}
use Rattle.es_model.proofs.HistoryLemmas.{both_true}
use Rattle.es_model.specs.Names.{has_upper_form, has_name_length, is_upper_name, is_field_name, is_in_upper_name, is_lower, is_upper, is_digit, is_dot, is_topic_in, topic_of}
use Rattle.es_model.specs.Values.{Name}
use Rattle.es_model.specs.declared.declaration.Edit.{Edit}
use Rattle.es_model.specs.declared.declaration.Edit.TheVariants.{Add, Rename, Drop}
use Rattle.es_model.specs.declared.declaration.EventClass.{EventClass}
use Rattle.es_model.specs.declared.declaration.Code.TheVariants as code
use Rattle.es_model.specs.declared.expr.Expr.TheFolds.{map-Expr, fold-roll-Expr}
use Rattle.es_model.specs.declared.expr.Expr.TheOpen.{Expr-F}
use Rattle.es_model.specs.declared.expr.Expr.{Expr, roll-Expr}
use Rattle.es_model.specs.declared.limits.TheConstants.{MOST_FIELDS, MOST_UPCASTS, MOST_EDITS}
use Rattle.es_model.specs.declared.value.Atom.TheVariants as atom
use Rattle.es_model.specs.declared.value.Kind.{Kind}
use Rattle.es_model.specs.declared.value.Value.{Value}
use Rattle.es_model.specs.declared.value.Value.TheVariants.{One, List as Many}
use Rattle.es_expr.specs.Limits.{is_value_within, is_edit_within, is_expr_within, are_kinds_within, are_assigns_within, are_upcasts_within, is_upcast_within, is_event_within}
use Rattle.es_model.specs.declared.names.NameForm.{NameForm}
use Rattle.es_model.specs.declared.names.NameForm.TheVariants as form
use Rattle.es_decl.specs.declared.objects.Object.TheVariants as the
use Rattle.es_decl.specs.Declaration.{kinds, assigns, upcasts, event}
use Rattle.es_decl.specs.Edits.{value_step, value_of, constant, add_of, rename_of, drop_of, added_pair, renamed_pair, added, renamed, dropped, edit_by, edit}
use Rattle.es_decl.specs.Expressions.{literal, expression}
use Rattle.es_decl.specs.Kinds.{kind}
use Rattle.es_decl.specs.Names.{name_test}
use Rattle.es_decl.specs.Objects.{shape_test}
use Rattle.es_decl.specs.Parts.{member, optional, or_else, name, is_within, several, sole, two}
use Rattle.es_decl.specs.Paths.{member_step, item_step}
use Rattle.es_decl.specs.Readings.{Reading, here, and_then, under}
use Rattle.es_decl.proofs.KeptLemmas.{Keeps, both, then-ok, under-ok, member-ok, optional-ok, is_name, name-test-ok, name-ok, several-ok, named-ok}
use Rattle.es_decl.proofs.WeightLemmas.{Gives, gives-literal, expression-ok}

-- ---- edits

value-is : (y : Expr-F Expr) (v w : Value) → value_step (map-Expr Expr (Reading Value) value_of y) ≡ Ok w → value_of (roll-Expr y) ≡ Ok v → is_value_within w ≡ true → is_value_within v ≡ true
value-is y v w one h small =
    let same : Ok w ≡ Ok v = sym one ∙ sym (fold-roll-Expr (Reading Value) value_step y) ∙ h in
    let equal : w ≡ v = cc in
    subst (λ x. is_value_within x ≡ true) equal small

no-value : (n : Name) (v : Value) → value_of (roll-Expr (Expr-F.Get n)) ≡ Ok v → is_value_within v ≡ true
no-value n v h = let wrong : here {A = Value} code.Form ≡ Ok v = sym (fold-roll-Expr (Reading Value) value_step (Expr-F.Get n)) ∙ h in cc

literal-value : (w : Name) (d : Data) → Gives (λ e. (v : Value) → value_of e ≡ Ok v → is_value_within v ≡ true) (literal w d)
unfolding roll-Expr denote.Hole.Carrier.roll
literal-value = gives-literal (λ e. (v : Value) → value_of e ≡ Ok v → is_value_within v ≡ true)
    (λ b v h. value-is (Expr-F.Bool b) v (One (atom.Bool b)) refl h refl)
    (λ z v h. value-is (Expr-F.Int z) v (One (atom.Int z)) refl h refl)
    (λ s short v h. value-is (Expr-F.Text s) v (One (atom.Text s)) refl h short)
    (λ u v h. value-is (Expr-F.Uuid u) v (One (atom.Uuid u)) refl h refl)
    (λ z v h. value-is (Expr-F.Moment z) v (One (atom.Moment z)) refl h refl)
    (λ x v h. value-is (Expr-F.Decimal x) v (One (atom.Decimal x)) refl h refl)
    (λ k v h. value-is (Expr-F.None k) v (Many []) refl h refl)
    no-value

sole-ok : {A : Type 0} (part : Name → Data → Reading A) (p : A → Bool) → ((w : Name) (d : Data) (x : A) → part w d ≡ Ok x → p x ≡ true) → Keeps (sole part) p
sole-ok part p keeps null x h = cc
sole-ok part p keeps (boolean b) x h = cc
sole-ok part p keeps (number n) x h = cc
sole-ok part p keeps (string s) x h = cc
sole-ok part p keeps (array ds) x h = cc
sole-ok part p keeps (object no_members) x h = cc
sole-ok part p keeps (object (another w d no_members)) x h = keeps w d x h
sole-ok part p keeps (object (another w d (another v e ms))) x h = cc

two-ok : {A : Type 0} (part : Data → Data → Reading A) (p : A → Bool) → ((a b : Data) (x : A) → part a b ≡ Ok x → p x ≡ true) → Keeps (two part) p
two-ok part p keeps null x h = cc
two-ok part p keeps (boolean b) x h = cc
two-ok part p keeps (number n) x h = cc
two-ok part p keeps (string s) x h = cc
two-ok part p keeps (array no_items) x h = cc
two-ok part p keeps (array (item a no_items)) x h = cc
two-ok part p keeps (array (item a (item b no_items))) x h = keeps a b x h
two-ok part p keeps (array (item a (item b (item c ds)))) x h = cc
two-ok part p keeps (object ms) x h = cc

constant-ok : Keeps constant is_value_within
constant-ok = sole-ok (λ w body. and_then (literal w body) value_of) is_value_within
    (λ w d v h. let a = then-ok (literal w d) value_of v h in literal-value w d a.0 a.1 v a.2)

edit-holds : (x y : Edit) → is_edit_within x ≡ true → x ≡ y → is_edit_within y ≡ true
edit-holds x y h same = subst (λ z. is_edit_within z ≡ true) same h

add-ok : (n : Name) (d : Data) (x : Edit) → add_of n d ≡ Ok x → is_edit_within x ≡ true
add-ok n d x h =
    let a = then-ok (under (item_step 0) (name_test form.Field n)) (λ _. and_then (under (item_step 1) (constant d)) (λ v. Ok (Add n v))) x h in
    let b = then-ok (under (item_step 1) (constant d)) (λ v. Ok (Add n v)) x a.2 in
    let same : Add n b.0 ≡ x = let k = b.2 in cc in
    edit-holds (Add n b.0) x
    (both (is_field_name n) (is_value_within b.0) (name-test-ok form.Field n (under-ok (item_step 0) (name_test form.Field n) a.0 a.1)) (constant-ok d b.0 (under-ok (item_step 1) (constant d) b.0 b.1))) same

rename-ok : (n m : Name) (x : Edit) → rename_of n m ≡ Ok x → is_edit_within x ≡ true
rename-ok n m x h =
    let a = then-ok (under (item_step 0) (name_test form.Field n)) (λ _. and_then (under (item_step 1) (name_test form.Field m)) (λ _. Ok (Rename n m))) x h in
    let b = then-ok (under (item_step 1) (name_test form.Field m)) (λ _. Ok (Rename n m)) x a.2 in
    let same : Rename n m ≡ x = let k = b.2 in cc in
    edit-holds (Rename n m) x
    (both (is_field_name n) (is_field_name m) (name-test-ok form.Field n (under-ok (item_step 0) (name_test form.Field n) a.0 a.1)) (name-test-ok form.Field m (under-ok (item_step 1) (name_test form.Field m) b.0 b.1))) same

drop-ok : (n : Name) (x : Edit) → drop_of n ≡ Ok x → is_edit_within x ≡ true
drop-ok n x h =
    let a = then-ok (name_test form.Field n) (λ _. Ok (Drop n)) x h in
    let same : Drop n ≡ x = let k = a.2 in cc in
    edit-holds (Drop n) x (name-test-ok form.Field n a.1) same

added-ok : (a b : Data) (x : Edit) → added_pair a b ≡ Ok x → is_edit_within x ≡ true
added-ok null b x h = cc
added-ok (boolean c) b x h = cc
added-ok (number n) b x h = cc
added-ok (string n) b x h = add-ok n b x (under-ok (member_step (codes "add")) (add_of n b) x h)
added-ok (array ds) b x h = cc
added-ok (object ms) b x h = cc

renamed-ok : (a b : Data) (x : Edit) → renamed_pair a b ≡ Ok x → is_edit_within x ≡ true
renamed-ok null b x h = cc
renamed-ok (boolean c) b x h = cc
renamed-ok (number n) b x h = cc
renamed-ok (string n) null x h = cc
renamed-ok (string n) (boolean c) x h = cc
renamed-ok (string n) (number m) x h = cc
renamed-ok (string n) (string m) x h = rename-ok n m x (under-ok (member_step (codes "rename")) (rename_of n m) x h)
renamed-ok (string n) (array ds) x h = cc
renamed-ok (string n) (object ms) x h = cc
renamed-ok (array ds) b x h = cc
renamed-ok (object ms) b x h = cc

dropped-ok : (d : Data) (x : Edit) → dropped d ≡ Ok x → is_edit_within x ≡ true
dropped-ok null x h = cc
dropped-ok (boolean c) x h = cc
dropped-ok (number n) x h = cc
dropped-ok (string n) x h = drop-ok n x (under-ok (member_step (codes "drop")) (drop_of n) x h)
dropped-ok (array ds) x h = cc
dropped-ok (object ms) x h = cc

choose-edit : (b : Bool) (r s : Reading Edit) → ((x : Edit) → r ≡ Ok x → is_edit_within x ≡ true) → ((x : Edit) → s ≡ Ok x → is_edit_within x ≡ true) → (x : Edit) → (if b then r else s) ≡ Ok x → is_edit_within x ≡ true
choose-edit true r s p q = p
choose-edit false r s p q = q

edit-ok : Keeps edit is_edit_within
edit-ok = sole-ok edit_by is_edit_within (λ w d.
    choose-edit (bytes_eq w (codes "add")) (added d) _ (two-ok added_pair is_edit_within added-ok d)
    (choose-edit (bytes_eq w (codes "rename")) (renamed d) _ (two-ok renamed_pair is_edit_within renamed-ok d)
    (choose-edit (bytes_eq w (codes "drop")) (dropped d) (here _) (dropped-ok d) (λ x h. cc))))

-- more that is read than was wanted of it
pub weaker : {A : Type 0} (part : Data → Reading A) (p q : A → Bool) → ((x : A) → p x ≡ true → q x ≡ true) → Keeps part p → Keeps part q
weaker part p q more keeps d x h = more x (keeps d x h)

at-most : {A : Type 0} (n : ℕ) (p : A → Bool) (xs : List A) → (is_within 0 (Some n) (length xs) && list_all p xs) ≡ true → (nat_le (length xs) n && list_all p xs) ≡ true
at-most n p xs h =
    let a = both_true (is_within 0 (Some n) (length xs)) (list_all p xs) h in
    both (nat_le (length xs) n) (list_all p xs) (both_true (nat_le 0 (length xs)) (nat_le (length xs) n) a.0).1 a.1

pub few-ok : {A : Type 0} (n : ℕ) (part : Data → Reading A) (p : A → Bool) → Keeps part p → Keeps (several 0 (Some n) part) (λ xs. nat_le (length xs) n && list_all p xs)
few-ok n part p keeps = weaker (several 0 (Some n) part) (λ xs. is_within 0 (Some n) (length xs) && list_all p xs) (λ xs. nat_le (length xs) n && list_all p xs) (at-most n p) (several-ok 0 (Some n) part p keeps)

upcasts-ok : Keeps upcasts are_upcasts_within
upcasts-ok = few-ok MOST_UPCASTS (several 0 (Some MOST_EDITS) edit) is_upcast_within (few-ok MOST_EDITS edit is_edit_within edit-ok)

abbrev any-kind : Kind → Bool
any-kind k = true

pub kinds-ok : (f : NameForm) → Keeps (kinds f) (are_kinds_within (is_name f))
kinds-ok f d xs h =
    let a = named-ok f (Some MOST_FIELDS) kind any-kind (λ e x is. refl) d xs h in
    let b = both_true (is_within 0 (Some MOST_FIELDS) (length xs) && list_all (λ x. is_name f x.0) xs) (list_all (λ x. any-kind x.1) xs) a in
    let c = both_true (is_within 0 (Some MOST_FIELDS) (length xs)) (list_all (λ x. is_name f x.0) xs) b.0 in
    both (nat_le (length xs) MOST_FIELDS) (list_all (λ x. is_name f x.0) xs) (both_true (nat_le 0 (length xs)) (nat_le (length xs) MOST_FIELDS) c.0).1 c.1

pub assigns-ok : (f : NameForm) → Keeps (assigns f) are_assigns_within
assigns-ok f d xs h =
    let a = named-ok f Absent expression is_expr_within expression-ok d xs h in
    (both_true (is_within 0 Absent (length xs) && list_all (λ x. is_name f x.0) xs) (list_all (λ x. is_expr_within x.1) xs) a).1

-- ---- topics

dot-case : (b : ℕ) → is_in_upper_name b ≡ true → (t : Bool) → is_dot b ≡ t → t ≡ false
dot-case b h true e = let is : b ≡ 46 = (Decides-eqb b 46).0 e in let wrong : false ≡ true = subst (λ n. is_in_upper_name n ≡ true) is h in cc
dot-case b h false e = refl

no-dots : (xs ys : List ℕ) → list_all is_in_upper_name xs ≡ true → position_or_len is_dot (xs ++ 46 ∷ ys) ≡ length xs
no-dots [] ys h = refl
no-dots (x ∷ xs) ys h =
    let b = both_true (is_in_upper_name x) (list_all is_in_upper_name xs) h in
    let none : is_dot x ≡ false = dot-case x b.0 (is_dot x) refl in
    ap (λ t. cond (not t) (1 + position_or_len is_dot (xs ++ 46 ∷ ys)) 0) none ∙ ap (λ n. 1 + n) (no-dots xs ys b.1) ∙ omega arith

or-middle : (a b c : Bool) → b ≡ true → (a || b || c) ≡ true
or-middle true b c h = refl
or-middle false true c h = refl
or-middle false false c h = cc

all-upper : (xs : List ℕ) → has_upper_form xs ≡ true → list_all is_in_upper_name xs ≡ true
all-upper [] h = cc
all-upper (x ∷ xs) h =
    let b = both_true (is_upper x) (list_all is_in_upper_name xs) h in
    both (is_in_upper_name x) (list_all is_in_upper_name xs) (or-middle (is_lower x) (is_upper x) (is_digit x) b.0) b.1

behind : (xs ys : List ℕ) → drop (suc (length xs)) (xs ++ 46 ∷ ys) ≡ ys
behind [] ys = refl
behind (x ∷ xs) ys = behind xs ys

topic-ok : (class n : Name) → is_upper_name class ≡ true → is_upper_name n ≡ true → is_topic_in class (topic_of class n) ≡ true
topic-ok class n c h =
    let upper = all-upper class (both_true (has_name_length class) (has_upper_form class) c).1 in
    let at : position_or_len is_dot (topic_of class n) ≡ length class = no-dots class n upper in
    let front : before_first is_dot (topic_of class n) ≡ class = ap (λ k. take k (topic_of class n)) at ∙ take-append_seam class (46 ∷ n) in
    let back : after_first is_dot (topic_of class n) ≡ n = ap (λ k. drop (k + 1) (topic_of class n)) at ∙ ap (λ k. drop k (topic_of class n)) (add-one (length class)) ∙ behind class n in
    both (bytes_eq (before_first is_dot (topic_of class n)) class) (is_upper_name (after_first is_dot (topic_of class n)))
    ((bytes_eq-Decides (before_first is_dot (topic_of class n)) class).1 front) (ap is_upper_name back ∙ h)

-- a list that may be absent
pub lists-ok : {A : Type 0} (n : Name) (part : Data → Reading (List A)) (p : List A → Bool) → Keeps part p → p [] ≡ true → Keeps (optional n part) (λ y. p (or_else [] y))
lists-ok n part p keeps none = optional-ok n part p (λ y. p (or_else [] y)) keeps none (λ x h. h)

pub event-ok : (class : Name) → is_upper_name class ≡ true → Keeps (event class) (is_event_within class)
event-ok class named d e h =
    let s = then-ok (shape_test the.Event d) _ e h in
    let n = then-ok (member (codes "name") (name form.Class) d) _ e s.2 in
    let f = then-ok (member (codes "fields") (kinds form.Field) d) _ e n.2 in
    let u = then-ok (optional (codes "upcasts") upcasts d) _ e f.2 in
    let a = then-ok (member (codes "set") (assigns form.Field) d) _ e u.2 in
    let made : EventClass = record { topic = topic_of class n.0; fields = f.0; upcasts = or_else [] u.0; assigns = a.0 } in
    let same : made ≡ e = let k = a.2 in cc in
    subst (λ x. is_event_within class x ≡ true) same
    (both (is_topic_in class made.topic && are_kinds_within is_field_name made.fields && are_upcasts_within made.upcasts) (are_assigns_within made.assigns)
    (both (is_topic_in class made.topic && are_kinds_within is_field_name made.fields) (are_upcasts_within made.upcasts)
    (both (is_topic_in class made.topic) (are_kinds_within is_field_name made.fields)
    (topic-ok class n.0 named (member-ok (codes "name") (name form.Class) is_upper_name (name-ok form.Class) d n.0 n.1))
    (member-ok (codes "fields") (kinds form.Field) (are_kinds_within is_field_name) (kinds-ok form.Field) d f.0 f.1))
    (lists-ok (codes "upcasts") upcasts are_upcasts_within upcasts-ok refl d u.0 u.1))
    (member-ok (codes "set") (assigns form.Field) are_assigns_within (assigns-ok form.Field) d a.0 a.1))
