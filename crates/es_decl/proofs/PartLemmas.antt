-- Laws of the parts of the document.
use Rattle.std.proofs.Common.{◌≡◌, ◌∙◌, ◌<◌, ℕ, suc, Bool, IsTrue, List, [], ◌∷◌, ◌++◌, length, drop, get_or, Option, Ok, Err, refl, sym, ap, subst, drop-cons, if◌then◌else◌, Vec, BTreeMap, String, Global, string_bytes}
use Rattle.std.specs.Ordering.{is_lt}
use Rattle.std.specs.List.Sorted.{IsStrictlySortedBy}
use Rattle.std.specs.String.{string_cmp}
use Rattle.std.specs.Map.{keys_of}
use Rattle.serde_json.specs.Data.{Data, array, object}
use Rattle.serde_json.specs.View.{view, items_view, members_view}
use Rattle.serde_json.specs.declared.value.Value.{Value, Array, Object}
use Rattle.serde_json.proofs.Views.{Entry, view-Array, view-Object}
use Rattle.es_model.specs.Rising.{comes_last, is_before}
use Rattle.es_model.specs.Values.{Name}
use Rattle.es_model.specs.declared.declaration.Code.TheVariants as code
use Rattle.es_decl.specs.declared.fault.DeclFault.{DeclFault}
use Rattle.es_model.specs.declared.names.NameForm.{NameForm}
use Rattle.es_decl.specs.Paths.{item_step, member_step}
use Rattle.es_decl.specs.Names.{name_test}
use Rattle.es_decl.specs.Readings.{Reading, Reads, here, under, and_then, around}
use Rattle.es_decl.specs.Parts.{each_item, several, count, is_within, each_member, with_name, named_parts, size, sole, two}
use Rattle.es_decl.proofs.ReadingLemmas.{after, after-one, fails, later-fails}

pub count-items : (vs : List Value) → count (items_view vs) ≡ length vs
count-items [] = refl
count-items (v ∷ vs) = ap suc (count-items vs)

pub several-array : {A : Type 0} (least : ℕ) (most : Option ℕ) (part : Data → Reading A) (tree : Value) (v : Vec Value Global) (trees : List Value) → tree ≡ Array v → trees ≡ v.items → (b : Bool) → is_within least most (length trees) ≡ b
    → several least most part (view tree) ≡ (if b then each_item part 0 (items_view trees) else here code.Limit)
several-array least most part tree v trees is same b within =
    ap (λ v. several least most part (view v)) is ∙ ap (several least most part) (view-Array v) ∙ ap (λ vs. several least most part (array (items_view vs))) (sym same)
    ∙ ap (λ n. if is_within least most n then each_item part 0 (items_view trees) else here code.Limit) (count-items trees)
    ∙ ap (λ w. if w then each_item part 0 (items_view trees) else here code.Limit) within

-- a fault of an item is one of the items from its place on
pub item-fails : {A : Type 0} (part : Data → Reading A) (ts : List Value) (i : ℕ) (t : Value) (done : List A) (e : DeclFault) → i < length ts → t ≡ get_or ts i t
    → each_item part 0 (items_view ts) ≡ after done (each_item part i (items_view (drop i ts))) → Reads (under (item_step i) (part (view t))) (Err e) → Reads (each_item part 0 (items_view ts)) (Err e)
item-fails part ts i t done e within is so here =
    let front : drop i ts ≡ t ∷ drop (suc i) ts = drop-cons ts i t within ∙ (λ k. sym is k ∷ drop (suc i) ts) in
    let rest : Reads (each_item part i (items_view (t ∷ drop (suc i) ts))) (Err e) = fails (under (item_step i) (part (view t))) (λ x. and_then (each_item part (suc i) (items_view (drop (suc i) ts))) (λ xs. Ok (x ∷ xs))) e here in
    subst (λ r. Reads r (Err e)) (sym so) (later-fails done (each_item part i (items_view (drop i ts))) e (subst (λ us. Reads (each_item part i (items_view us)) (Err e)) (sym front) rest))

-- names are those of some entries, in order
abbrev pub AreNames : {A : Type 0} → List (Name × A) → List Entry → Type 0
AreNames [] [] = Unit {0}
AreNames [] (e ∷ es) = ⊥
AreNames (x ∷ xs) [] = ⊥
AreNames (x ∷ xs) (e ∷ es) = (string_bytes e.0 ≡ x.0) × AreNames xs es

-- a name of an ordered map comes after those before it
pub comes-last : {A : Type 0} (xs : List (Name × A)) (done : List Entry) (e : Entry) (more : List Entry) → AreNames xs done → IsStrictlySortedBy string_cmp (keys_of (done ++ e ∷ more)) → IsTrue (comes_last xs (string_bytes e.0))
unfolding IsStrictlySortedBy
comes-last [] done e more so ordered = refl
comes-last (x ∷ xs) [] e more so ordered = absurd so
comes-last (x ∷ []) (d ∷ []) e more so ordered = subst (λ n. IsTrue (is_before n (string_bytes e.0))) so.0 (ap is_lt ordered.0.0)
comes-last (x ∷ []) (d ∷ f ∷ ds) e more so ordered = absurd so.1
comes-last (x ∷ y ∷ xs) (d ∷ []) e more so ordered = absurd so.1
comes-last (x ∷ y ∷ xs) (d ∷ f ∷ ds) e more so ordered = comes-last (y ∷ xs) (f ∷ ds) e more so.1 ordered.1

pub push-name : {A : Type 0} (xs : List (Name × A)) (done : List Entry) (x : Name × A) (e : Entry) → AreNames xs done → string_bytes e.0 ≡ x.0 → AreNames (xs ++ x ∷ []) (done ++ e ∷ [])
push-name [] [] x e so same = (same, tt)
push-name [] (d ∷ done) x e so same = absurd so
push-name (y ∷ xs) [] x e so same = absurd so
push-name (y ∷ xs) (d ∷ done) x e so same = (so.0, push-name xs done x e so.1 same)

made : {A : Type 0} (step : List ℕ) (n : Name) (r : Reading A) (x : Name × A) → under step (and_then r (λ y. Ok (n, y))) ≡ Ok x → n ≡ x.0
made {A} step n (Ok y) x h = let same : (n, y) ≡ x = cc in ap (λ (p : Name × A). p.0) same
made step n (Err f) x h = cc

-- a part is read with its name
pub has-name : {A : Type 0} (form : NameForm) (part : Data → Reading A) (n : Name) (d : Data) (x : Name × A) → under (member_step n) (with_name form part n d) ≡ Ok x → n ≡ x.0
has-name form part n d x h = made (member_step n) n (around (part d) (name_test form n)) x h

-- a member that is read goes behind those before it
pub one-member : {A : Type 0} (form : NameForm) (part : Data → Reading A) (n : Name) (e : Entry) (more : List Entry) (done : List (Name × A)) (x : Name × A) → n ≡ string_bytes e.0
    → under (member_step n) (with_name form part n (view e.1)) ≡ Ok x → after done (each_member form part (members_view (e ∷ more))) ≡ after (done ++ x ∷ []) (each_member form part (members_view more))
one-member {A} form part n e more done x name h =
    let first : under (member_step (string_bytes e.0)) (with_name form part (string_bytes e.0) (view e.1)) ≡ Ok x = subst (λ m. under (member_step m) (with_name form part m (view e.1)) ≡ Ok x) name h in
    ap (λ (r : Reading (Name × A)). after done (and_then r (λ y. and_then (each_member form part (members_view more)) (λ ys. Ok (y ∷ ys))))) first ∙ after-one done x (each_member form part (members_view more))

-- a fault of a member is one of the members from it on
pub member-fails : {A : Type 0} (form : NameForm) (part : Data → Reading A) (n : Name) (all : List Entry) (e : Entry) (more : List Entry) (done : List (Name × A)) (f : DeclFault) → n ≡ string_bytes e.0
    → each_member form part (members_view all) ≡ after done (each_member form part (members_view (e ∷ more)))
    → Reads (under (member_step n) (with_name form part n (view e.1))) (Err f) → Reads (each_member form part (members_view all)) (Err f)
member-fails form part n all e more done f name so here =
    let first : Reads (under (member_step (string_bytes e.0)) (with_name form part (string_bytes e.0) (view e.1))) (Err f) = subst (λ m. Reads (under (member_step m) (with_name form part m (view e.1))) (Err f)) name here in
    let rest : Reads (each_member form part (members_view (e ∷ more))) (Err f) = fails (under (member_step (string_bytes e.0)) (with_name form part (string_bytes e.0) (view e.1))) (λ y. and_then (each_member form part (members_view more)) (λ ys. Ok (y ∷ ys))) f first in
    subst (λ r. Reads r (Err f)) (sym so) (later-fails done (each_member form part (members_view (e ∷ more))) f rest)

size-members : (es : List Entry) → size (members_view es) ≡ length es
size-members [] = refl
size-members (e ∷ es) = ap suc (size-members es)

pub named-object : {A : Type 0} (form : NameForm) (most : Option ℕ) (part : Data → Reading A) (tree : Value) (m : BTreeMap (String Global) Value) → tree ≡ Object m → (n : ℕ) → n ≡ length m.entries → (b : Bool) → is_within 0 most n ≡ b
    → named_parts form most part (view tree) ≡ (if b then each_member form part (members_view m.entries) else here code.Limit)
named-object form most part tree m is n long b within =
    ap (λ v. named_parts form most part (view v)) is ∙ ap (named_parts form most part) (view-Object m)
    ∙ ap (λ k. if is_within 0 most k then each_member form part (members_view m.entries) else here code.Limit) (size-members m.entries ∙ sym long)
    ∙ ap (λ w. if w then each_member form part (members_view m.entries) else here code.Limit) within

not-sole : {A : Type 0} (part : Name → Data → Reading A) (es : List Entry) → (length es ≡ 1 → ⊥) → sole part (object (members_view es)) ≡ here code.Form
not-sole part [] none = refl
not-sole part (e ∷ []) none = absurd (none refl)
not-sole part (e ∷ f ∷ es) none = refl

pub sole-none : {A : Type 0} (part : Name → Data → Reading A) (tree : Value) (m : BTreeMap (String Global) Value) → tree ≡ Object m → (length m.entries ≡ 1 → ⊥) → sole part (view tree) ≡ here code.Form
sole-none part tree m is none = ap (λ v. sole part (view v)) is ∙ ap (sole part) (view-Object m) ∙ not-sole part m.entries none

not-two : {A : Type 0} (part : Data → Data → Reading A) (vs : List Value) → (length vs ≡ 2 → ⊥) → two part (array (items_view vs)) ≡ here code.Form
not-two part [] none = refl
not-two part (u ∷ []) none = refl
not-two part (u ∷ v ∷ []) none = absurd (none refl)
not-two part (u ∷ v ∷ w ∷ vs) none = refl

pub two-none : {A : Type 0} (part : Data → Data → Reading A) (tree : Value) (v : Vec Value Global) (vs : List Value) → tree ≡ Array v → vs ≡ v.items → (length vs ≡ 2 → ⊥) → two part (view tree) ≡ here code.Form
two-none part tree v vs is same none =
    ap (λ v. two part (view v)) is ∙ ap (two part) (view-Array v) ∙ ap (λ us. two part (array (items_view us))) (sym same) ∙ not-two part vs none
