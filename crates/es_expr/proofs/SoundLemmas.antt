-- A checked expression never meets a value of a wrong kind.
use Rattle.std.proofs.Common.{◌≡◌, ℕ, ℤ, ◌+ℤ◌, ◌-ℤ◌, ◌*ℤ◌, Bool, true, false, ◌&&◌, List, [], ◌∷◌, ◌++◌, refl, sym, ap, subst, ◌∙◌, Option, Some, None, Ok, Err, if◌then◌else◌, length, nat_le, pos, codes}
use Rattle.std.proofs.lemmas.List.Folds.{list_all-append}
use Rattle.std.specs.List.{list_all}
use Rattle.es_model.specs.Rising.{item_of}
use Rattle.es_model.specs.Values.{Record, fits, atom_fits}
use Rattle.es_model.specs.declared.expr.Expr.{Expr, ind-Expr, roll-Expr}
use Rattle.es_model.specs.declared.expr.Expr.TheFolds.{map-Expr, fold-roll-Expr}
use Rattle.es_model.specs.declared.expr.Expr.TheOpen.{Expr-F}
use Rattle.es_model.specs.declared.value.Atom.{Atom}
use Rattle.es_model.specs.declared.value.Atom.TheVariants as atom
use Rattle.es_model.specs.declared.value.AtomKind.{AtomKind}
use Rattle.es_model.specs.declared.value.AtomKind.TheVariants as kind
use Rattle.es_model.specs.declared.value.Kind.{Kind}
use Rattle.es_model.specs.declared.value.Kind.TheVariants as of
use Rattle.es_model.specs.declared.value.Value.{Value}
use Rattle.es_model.specs.declared.value.Value.TheVariants.{One, List as Many}
use Rattle.es_model.specs.OperatorWords.{unary_word, binary_word, choice_word}
use Rattle.es_expr.specs.Kinds.{Env, Judged, is_same_atom_kind, is_same_kind, kind_of, kind_of_choice, kind_of_one, kind_of_two, known, literal_kind, operand, operand_path, takes, follows, gives, unary_takes, unary_gives, step as kind_step}
use Rattle.es_expr.specs.Meaning.{choose, den, found, of_choice, of_one, of_two, step, unless}
use Rattle.es_expr.specs.Operators.{appended, apply, apply_one, contained, conjunction, decided, derived, difference, disjunction, joined, less, at_most, negation, product, shown, size, sum}
use Rattle.es_expr.specs.Outcome.{Outcome, bind, is, is_in_i64, is_within, over, stuck, within}
use Rattle.es_expr.specs.Sound.{Fits, IsCheckedAs}
use Rattle.es_expr.specs.declared.fault.ExprFault.TheVariants.{Unknown, Kind as Wrong, NoMemory}
use Rattle.es_model.specs.declared.operators.Binary.{Binary}
use Rattle.es_model.specs.declared.operators.Binary.TheVariants.{Add, Sub, Mul, Eq, Ne, Lt, Le, And, Or, Concat, Append, Contains, Uuid5}
use Rattle.es_model.specs.declared.operators.Unary.{Unary}
use Rattle.es_model.specs.declared.operators.Unary.TheVariants.{Not, Len, Show}

-- a value of the kind, or a limit that is passed
abbrev HasKind : Kind → Outcome → Type 0
HasKind k (is v) = fits v k ≡ true
HasKind k over = Unit {0}
HasKind k stuck = ⊥

abbrev Agrees : Judged → Outcome → Type 0
Agrees (Ok k) m = HasKind k m
Agrees (Err e) m = Unit {0}

abbrev BOOL : Kind
BOOL = of.One kind.Bool

abbrev INT : Kind
INT = of.One kind.Int

abbrev TEXT : Kind
TEXT = of.One kind.Text

abbrev UUID : Kind
UUID = of.One kind.Uuid

abbrev MOMENT : Kind
MOMENT = of.One kind.Moment

-- ---- values of a kind

of_int : (P : Value → Type 0) → ((x : ℤ) → P (One (atom.Int x))) → (v : Value) → fits v INT ≡ true → P v
of_int P h (One (atom.Int x)) e = h x
of_int P h _ e = cc

of_bool : (P : Value → Type 0) → ((x : Bool) → P (One (atom.Bool x))) → (v : Value) → fits v BOOL ≡ true → P v
of_bool P h (One (atom.Bool x)) e = h x
of_bool P h _ e = cc

of_text : (P : Value → Type 0) → ((x : List ℕ) → P (One (atom.Text x))) → (v : Value) → fits v TEXT ≡ true → P v
of_text P h (One (atom.Text x)) e = h x
of_text P h _ e = cc

of_uuid : (P : Value → Type 0) → ((x : List ℕ) → P (One (atom.Uuid x))) → (v : Value) → fits v UUID ≡ true → P v
of_uuid P h (One (atom.Uuid x)) e = h x
of_uuid P h _ e = cc

of_moment : (P : Value → Type 0) → ((x : ℤ) → P (One (atom.Moment x))) → (v : Value) → fits v MOMENT ≡ true → P v
of_moment P h (One (atom.Moment x)) e = h x
of_moment P h _ e = cc

same_atom_kind : (a b : AtomKind) → is_same_atom_kind a b ≡ true → a ≡ b
same_atom_kind kind.Bool kind.Bool e = refl
same_atom_kind kind.Int kind.Int e = refl
same_atom_kind kind.Text kind.Text e = refl
same_atom_kind kind.Uuid kind.Uuid e = refl
same_atom_kind kind.Moment kind.Moment e = refl
same_atom_kind kind.Decimal kind.Decimal e = refl
same_atom_kind _ _ e = cc

same_kind : (a b : Kind) → is_same_kind a b ≡ true → a ≡ b
same_kind (of.One a) (of.One b) e = ap of.One (same_atom_kind a b e)
same_kind (of.List a) (of.List b) e = ap of.List (same_atom_kind a b e)
same_kind (of.One a) (of.List b) e = cc
same_kind (of.List a) (of.One b) e = cc

-- what is within its limit fits, or it is over
limited : (b : Bool) (k : Kind) (v : Value) → (b ≡ true → fits v k ≡ true) → HasKind k (if b then is v else over)
limited true k v h = h refl
limited false k v h = tt

both_true : (a b : Bool) → a ≡ true → b ≡ true → (a && b) ≡ true
both_true true b e f = f
both_true false b e f = cc

right_true : (a b : Bool) → (a && b) ≡ true → b ≡ true
right_true true b e = e
right_true false b e = cc

list_all-push : (k : AtomKind) (xs : List Atom) (x : Atom) → list_all (λ a. atom_fits a k) xs ≡ true → atom_fits x k ≡ true → list_all (λ a. atom_fits a k) (xs ++ x ∷ []) ≡ true
list_all-push k xs x h e =
    list_all-append (λ a. atom_fits a k) xs (x ∷ []) ∙ both_true _ _ h (both_true _ _ e refl)

-- ---- operands

operand_if : (b : Bool) (path : List ℕ) (rest : Judged) (m : Outcome) → (b ≡ true → Agrees rest m) → Agrees (if b then rest else Err (Wrong path)) m
operand_if true path rest m f = f refl
operand_if false path rest m f = tt

operand_sound : (path : List ℕ) (wanted : Kind → Bool) (a : Judged) (ma : Outcome) (rest : Kind → Judged) (m : Outcome)
    → Agrees a ma → ((k : Kind) → wanted k ≡ true → HasKind k ma → Agrees (rest k) m) → Agrees (operand path wanted a rest) m
operand_sound path wanted (Ok k) ma rest m h f = operand_if (wanted k) path (rest k) m (λ e. f k e h)
operand_sound path wanted (Err (Unknown p)) ma rest m h f = tt
operand_sound path wanted (Err (Wrong p)) ma rest m h f = tt
operand_sound path wanted (Err NoMemory) ma rest m h f = tt

-- ---- operators

-- both operands are of one kind
alike : (P : Value → Value → Type 0) (j k l : Kind) (v w : Value) → k ≡ j → is_same_kind k l ≡ true → fits v k ≡ true → fits w l ≡ true
    → (fits v j ≡ true → fits w j ≡ true → P v w) → P v w
alike P j k l v w e s p q f =
    f (subst (λ m. fits v m ≡ true) e p) (subst (λ m. fits w m ≡ true) (sym (same_kind k l s) ∙ e) q)

ints : (r : Kind) (f : Value → Value → Outcome) → ((x y : ℤ) → HasKind r (bind (f (One (atom.Int x)) (One (atom.Int y))) within))
    → (v w : Value) → fits v INT ≡ true → fits w INT ≡ true → HasKind r (bind (f v w) within)
ints r f h v w p q = of_int (λ v. HasKind r (bind (f v w) within)) (λ x. of_int (λ w. HasKind r (bind (f (One (atom.Int x)) w) within)) (h x) w q) v p

bools : (r : Kind) (f : Value → Value → Outcome) → ((x y : Bool) → HasKind r (bind (f (One (atom.Bool x)) (One (atom.Bool y))) within))
    → (v w : Value) → fits v BOOL ≡ true → fits w BOOL ≡ true → HasKind r (bind (f v w) within)
bools r f h v w p q = of_bool (λ v. HasKind r (bind (f v w) within)) (λ x. of_bool (λ w. HasKind r (bind (f (One (atom.Bool x)) w) within)) (h x) w q) v p

texts : (r : Kind) (f : Value → Value → Outcome) → ((x y : List ℕ) → HasKind r (bind (f (One (atom.Text x)) (One (atom.Text y))) within))
    → (v w : Value) → fits v TEXT ≡ true → fits w TEXT ≡ true → HasKind r (bind (f v w) within)
texts r f h v w p q = of_text (λ v. HasKind r (bind (f v w) within)) (λ x. of_text (λ w. HasKind r (bind (f (One (atom.Text x)) w) within)) (h x) w q) v p

moments : (r : Kind) (f : Value → Value → Outcome) → ((x y : ℤ) → HasKind r (bind (f (One (atom.Moment x)) (One (atom.Moment y))) within))
    → (v w : Value) → fits v MOMENT ≡ true → fits w MOMENT ≡ true → HasKind r (bind (f v w) within)
moments r f h v w p q = of_moment (λ v. HasKind r (bind (f v w) within)) (λ x. of_moment (λ w. HasKind r (bind (f (One (atom.Moment x)) w) within)) (h x) w q) v p

-- a number, a text
number_sound : (z : ℤ) → HasKind INT (within (One (atom.Int z)))
number_sound z = limited (is_in_i64 z) INT (One (atom.Int z)) (λ e. refl)

text_sound : (t : List ℕ) → HasKind TEXT (within (One (atom.Text t)))
text_sound t = limited (nat_le (length t) 4096) TEXT (One (atom.Text t)) (λ e. e)

int_left : (k : Kind) → takes Add k ≡ true → k ≡ INT
int_left (of.One kind.Int) e = refl
int_left _ e = cc

bool_left : (k : Kind) → takes And k ≡ true → k ≡ BOOL
bool_left (of.One kind.Bool) e = refl
bool_left _ e = cc

text_left : (k : Kind) → takes Concat k ≡ true → k ≡ TEXT
text_left (of.One kind.Text) e = refl
text_left _ e = cc

-- values that are ordered
ordered : (f : Value → Value → Outcome) → ((x y : ℤ) → HasKind BOOL (bind (f (One (atom.Int x)) (One (atom.Int y))) within))
    → ((x y : ℤ) → HasKind BOOL (bind (f (One (atom.Moment x)) (One (atom.Moment y))) within))
    → ((x y : List ℕ) → HasKind BOOL (bind (f (One (atom.Text x)) (One (atom.Text y))) within))
    → (k l : Kind) (v w : Value) → takes Lt k ≡ true → is_same_kind k l ≡ true → fits v k ≡ true → fits w l ≡ true → HasKind BOOL (bind (f v w) within)
ordered f g h i (of.One kind.Int) l v w t s p q = alike (λ v w. HasKind BOOL (bind (f v w) within)) INT INT l v w refl s p q (ints BOOL f g v w)
ordered f g h i (of.One kind.Moment) l v w t s p q = alike (λ v w. HasKind BOOL (bind (f v w) within)) MOMENT MOMENT l v w refl s p q (moments BOOL f h v w)
ordered f g h i (of.One kind.Text) l v w t s p q = alike (λ v w. HasKind BOOL (bind (f v w) within)) TEXT TEXT l v w refl s p q (texts BOOL f i v w)
ordered f g h i (of.One kind.Bool) l v w t s p q = cc
ordered f g h i (of.One kind.Uuid) l v w t s p q = cc
ordered f g h i (of.One kind.Decimal) l v w t s p q = cc
ordered f g h i (of.List k) l v w t s p q = cc

pushed : (k : AtomKind) (v w : Value) → fits v (of.List k) ≡ true → fits w (of.One k) ≡ true → HasKind (of.List k) (bind (appended v w) within)
pushed k (Many xs) (One x) p q =
    limited (nat_le (length (xs ++ x ∷ [])) 256) (of.List k) (Many (xs ++ x ∷ []))
    (λ e. both_true (nat_le (length (xs ++ x ∷ [])) 256) (list_all (λ a. atom_fits a k) (xs ++ x ∷ [])) e (list_all-push k xs x (right_true (nat_le (length xs) 256) (list_all (λ a. atom_fits a k) xs) p) q))
pushed k (One x) w p q = cc
pushed k (Many xs) (Many ys) p q = cc

append_sound : (k l : Kind) (v w : Value) → takes Append k ≡ true → follows Append k l ≡ true → fits v k ≡ true → fits w l ≡ true → HasKind k (bind (appended v w) within)
append_sound (of.List k) l v w t s p q = pushed k v w p (subst (λ m. fits w m ≡ true) (sym (same_kind (of.One k) l s)) q)
append_sound (of.One k) l v w t s p q = cc

member : (k : AtomKind) (v w : Value) → fits v (of.List k) ≡ true → fits w (of.One k) ≡ true → HasKind BOOL (bind (contained v w) within)
member k (Many xs) (One x) p q = refl
member k (One x) w p q = cc
member k (Many xs) (Many ys) p q = cc

contains_sound : (k l : Kind) (v w : Value) → takes Contains k ≡ true → follows Contains k l ≡ true → fits v k ≡ true → fits w l ≡ true → HasKind BOOL (bind (contained v w) within)
contains_sound (of.List k) l v w t s p q = member k v w p (subst (λ m. fits w m ≡ true) (sym (same_kind (of.One k) l s)) q)
contains_sound (of.One k) l v w t s p q = cc

uuid_left : (k : Kind) → takes Uuid5 k ≡ true → k ≡ UUID
uuid_left (of.One kind.Uuid) e = refl
uuid_left _ e = cc

derive_sound : (v w : Value) → fits v UUID ≡ true → fits w TEXT ≡ true → HasKind UUID (bind (derived v w) within)
derive_sound v w p q =
    of_uuid (λ v. HasKind UUID (bind (derived v w) within)) (λ x. of_text (λ w. HasKind UUID (bind (derived (One (atom.Uuid x)) w) within)) (λ y. refl) w q) v p

binary_sound : (op : Binary) (k l : Kind) (v w : Value) → takes op k ≡ true → follows op k l ≡ true → fits v k ≡ true → fits w l ≡ true
    → HasKind (gives op k) (bind (apply op v w) within)
binary_sound Add k l v w t s p q = alike (λ v w. HasKind INT (bind (sum v w) within)) INT k l v w (int_left k t) s p q (ints INT sum (λ x y. number_sound (x +ℤ y)) v w)
binary_sound Sub k l v w t s p q = alike (λ v w. HasKind INT (bind (difference v w) within)) INT k l v w (int_left k t) s p q (ints INT difference (λ x y. number_sound (x -ℤ y)) v w)
binary_sound Mul k l v w t s p q = alike (λ v w. HasKind INT (bind (product v w) within)) INT k l v w (int_left k t) s p q (ints INT product (λ x y. number_sound (x *ℤ y)) v w)
binary_sound Eq k l v w t s p q = refl
binary_sound Ne k l v w t s p q = refl
binary_sound Lt k l v w t s p q = ordered less (λ x y. refl) (λ x y. refl) (λ x y. refl) k l v w t s p q
binary_sound Le k l v w t s p q = ordered at_most (λ x y. refl) (λ x y. refl) (λ x y. refl) k l v w t s p q
binary_sound And k l v w t s p q = alike (λ v w. HasKind BOOL (bind (conjunction v w) within)) BOOL k l v w (bool_left k t) s p q (bools BOOL conjunction (λ x y. refl) v w)
binary_sound Or k l v w t s p q = alike (λ v w. HasKind BOOL (bind (disjunction v w) within)) BOOL k l v w (bool_left k t) s p q (bools BOOL disjunction (λ x y. refl) v w)
binary_sound Concat k l v w t s p q = alike (λ v w. HasKind TEXT (bind (joined v w) within)) TEXT k l v w (text_left k t) s p q (texts TEXT joined (λ x y. text_sound _) v w)
binary_sound Append k l v w t s p q = append_sound k l v w t s p q
binary_sound Contains k l v w t s p q = contains_sound k l v w t s p q
binary_sound Uuid5 k l v w t s p q =
    derive_sound v w (subst (λ m. fits v m ≡ true) (uuid_left k t) p) (subst (λ m. fits w m ≡ true) (sym (same_kind TEXT l s)) q)

unary_sound : (op : Unary) (k : Kind) (v : Value) → unary_takes op k ≡ true → fits v k ≡ true → HasKind (unary_gives op) (bind (apply_one op v) within)
unary_sound Not (of.One kind.Bool) v t p = of_bool (λ v. HasKind BOOL (bind (negation v) within)) (λ x. refl) v p
unary_sound Len (of.One kind.Text) v t p = of_text (λ v. HasKind INT (bind (size v) within)) (λ x. number_sound (pos (length x))) v p
unary_sound Len (of.List k) (Many xs) t p = number_sound (pos (length xs))
unary_sound Show (of.One kind.Int) v t p = of_int (λ v. HasKind TEXT (bind (shown v) within)) (λ x. text_sound _) v p
unary_sound Show (of.One kind.Uuid) v t p = of_uuid (λ v. HasKind TEXT (bind (shown v) within)) (λ x. text_sound _) v p
unary_sound _ _ _ t p = cc

-- ---- one level

one_sound : (op : Unary) (a : Judged) (ma : Outcome) → Agrees a ma → Agrees (kind_of_one op a) (of_one op ma)
one_sound op a ma h = operand_sound (operand_path (unary_word op) (codes "0")) (unary_takes op) a ma (λ k. Ok (unary_gives op)) (of_one op ma) h (inner ma)
  where
    inner : (m : Outcome) (k : Kind) → unary_takes op k ≡ true → HasKind k m → HasKind (unary_gives op) (of_one op m)
    inner (is v) k t p = unary_sound op k v t p
    inner over k t p = tt
    inner stuck k t p = absurd p

-- what the left operand decides is a truth value
deciding : (op : Binary) (k : Kind) (v : Value) (m : Outcome) → HasKind (gives op k) m → HasKind (gives op k) (unless (decided op v) m)
deciding And k (One (atom.Bool false)) m h = refl
deciding Or k (One (atom.Bool true)) m h = refl
deciding _ k v m h = h

both : (op : Binary) (k l : Kind) (ma mb : Outcome) → takes op k ≡ true → follows op k l ≡ true → HasKind k ma → HasKind l mb
    → HasKind (gives op k) (of_two op ma mb)
both op k l (is v) (is w) t s p q = deciding op k v (bind (apply op v w) within) (binary_sound op k l v w t s p q)
both op k l (is v) over t s p q = deciding op k v over tt
both op k l (is v) stuck t s p q = absurd q
both op k l over mb t s p q = tt
both op k l stuck mb t s p q = absurd p

two_sound : (op : Binary) (a b : Judged) (ma mb : Outcome) → Agrees a ma → Agrees b mb → Agrees (kind_of_two op a b) (of_two op ma mb)
two_sound op a b ma mb g h =
    let m : Outcome = of_two op ma mb in
    let right : Kind → Kind → Judged = λ k l. Ok (gives op k) in
    let rest : Kind → Judged = λ k. operand (operand_path (binary_word op) (codes "1")) (follows op k) b (right k) in
    operand_sound (operand_path (binary_word op) (codes "0")) (takes op) a ma rest m g
    (λ k t p. operand_sound (operand_path (binary_word op) (codes "1")) (follows op k) b mb (right k) m h (λ l s q. both op k l ma mb t s p q))

chosen : (l m : Kind) (ma mb mc : Outcome) → l ≡ m → HasKind BOOL ma → HasKind l mb → HasKind m mc → HasKind m (of_choice ma mb mc)
chosen l m (is v) mb mc e p q r = of_bool (λ v. HasKind m (choose mb mc v)) (picks l m mb mc e q r) v p
  where
    picks : (l m : Kind) (mb mc : Outcome) → l ≡ m → HasKind l mb → HasKind m mc → (x : Bool) → HasKind m (choose mb mc (One (atom.Bool x)))
    picks l m mb mc e q r true = subst (λ k. HasKind k mb) e q
    picks l m mb mc e q r false = r
chosen l m over mb mc e p q r = tt
chosen l m stuck mb mc e p q r = absurd p

choice_sound : (a b c : Judged) (ma mb mc : Outcome) → Agrees a ma → Agrees b mb → Agrees c mc → Agrees (kind_of_choice a b c) (of_choice ma mb mc)
choice_sound a b c ma mb mc f g h =
    let m : Outcome = of_choice ma mb mc in
    let third : Kind → Judged = λ l. operand (operand_path choice_word (codes "2")) (is_same_kind l) c Ok in
    let second : Kind → Judged = λ k. operand (operand_path choice_word (codes "1")) (λ l. true) b third in
    operand_sound (operand_path choice_word (codes "0")) (is_same_kind BOOL) a ma second m f (λ k t p.
    operand_sound (operand_path choice_word (codes "1")) (λ l. true) b mb third m g (λ l _ q.
    operand_sound (operand_path choice_word (codes "2")) (is_same_kind l) c mc Ok m h (λ n s r.
    chosen l n ma mb mc (same_kind l n s) (subst (λ k. HasKind k ma) (sym (same_kind BOOL k t)) p) q r)))

literal_sound : (a : Atom) → Agrees (known (literal_kind a)) (within (One a))
literal_sound atom.Null = tt
literal_sound (atom.Bool x) = refl
literal_sound (atom.Int x) = number_sound x
literal_sound (atom.Text x) = text_sound x
literal_sound (atom.Uuid x) = refl
literal_sound (atom.Moment x) = refl
literal_sound (atom.Decimal x) = refl

found_sound : (o : Option Kind) (r : Option Value) → ((k : Kind) → o ≡ Some k → (v : Value) × (r ≡ Some v) × (fits v k ≡ true)) → Agrees (known o) (found r)
found_sound None r h = tt
found_sound (Some k) r h =
    let w = h k refl in subst (λ r. HasKind k (found r)) (sym w.1) (limited (is_within w.0) k w.0 (λ e. w.2))

-- ---- the law

-- a checked expression is not stuck, and its value fits its kind
abbrev CheckedIsSound : Expr → Type 0
CheckedIsSound e = (env : Record) (kinds : Env) → Fits env kinds → Agrees (kind_of e kinds) (den e env)

abbrev Proved : Type 0
Proved = (e : Expr) × CheckedIsSound e

single : (op : Unary) (a : Proved) (env : Record) (kinds : Env) → Fits env kinds → Agrees (kind_of_one op (kind_of a.0 kinds)) (of_one op (den a.0 env))
single op a env kinds fits = one_sound op (kind_of a.0 kinds) (den a.0 env) (a.1 env kinds fits)

pair : (op : Binary) (a b : Proved) (env : Record) (kinds : Env) → Fits env kinds
    → Agrees (kind_of_two op (kind_of a.0 kinds) (kind_of b.0 kinds)) (of_two op (den a.0 env) (den b.0 env))
pair op a b env kinds fits = two_sound op (kind_of a.0 kinds) (kind_of b.0 kinds) (den a.0 env) (den b.0 env) (a.1 env kinds fits) (b.1 env kinds fits)

layer : (y : Expr-F Proved) (env : Record) (kinds : Env) → Fits env kinds
    → let x = map-Expr Proved Expr (λ e. e.0) y in Agrees (kind_step (map-Expr Expr (Env → Judged) kind_of x) kinds) (step (map-Expr Expr (Record → Outcome) den x) env)
layer (Expr-F.Bool x) env kinds fits = literal_sound (atom.Bool x)
layer (Expr-F.Int x) env kinds fits = literal_sound (atom.Int x)
layer (Expr-F.Text x) env kinds fits = literal_sound (atom.Text x)
layer (Expr-F.Uuid x) env kinds fits = literal_sound (atom.Uuid x)
layer (Expr-F.Moment x) env kinds fits = literal_sound (atom.Moment x)
layer (Expr-F.Decimal x) env kinds fits = literal_sound (atom.Decimal x)
layer (Expr-F.None k) env kinds fits = refl
layer (Expr-F.Get name) env kinds fits = found_sound (item_of kinds name) (item_of env name) (fits name)
layer (Expr-F.Add a b) env kinds fits = pair Add a b env kinds fits
layer (Expr-F.Sub a b) env kinds fits = pair Sub a b env kinds fits
layer (Expr-F.Mul a b) env kinds fits = pair Mul a b env kinds fits
layer (Expr-F.Eq a b) env kinds fits = pair Eq a b env kinds fits
layer (Expr-F.Ne a b) env kinds fits = pair Ne a b env kinds fits
layer (Expr-F.Lt a b) env kinds fits = pair Lt a b env kinds fits
layer (Expr-F.Le a b) env kinds fits = pair Le a b env kinds fits
layer (Expr-F.And a b) env kinds fits = pair And a b env kinds fits
layer (Expr-F.Or a b) env kinds fits = pair Or a b env kinds fits
layer (Expr-F.Not a) env kinds fits = single Not a env kinds fits
layer (Expr-F.If a b c) env kinds fits =
    choice_sound (kind_of a.0 kinds) (kind_of b.0 kinds) (kind_of c.0 kinds) (den a.0 env) (den b.0 env) (den c.0 env) (a.1 env kinds fits) (b.1 env kinds fits) (c.1 env kinds fits)
layer (Expr-F.Concat a b) env kinds fits = pair Concat a b env kinds fits
layer (Expr-F.Append a b) env kinds fits = pair Append a b env kinds fits
layer (Expr-F.Contains a b) env kinds fits = pair Contains a b env kinds fits
layer (Expr-F.Len a) env kinds fits = single Len a env kinds fits
layer (Expr-F.Show a) env kinds fits = single Show a env kinds fits
layer (Expr-F.Uuid5 a b) env kinds fits = pair Uuid5 a b env kinds fits

rolled : (x : Expr-F Expr) (env : Record) (kinds : Env)
    → Agrees (kind_step (map-Expr Expr (Env → Judged) kind_of x) kinds) (step (map-Expr Expr (Record → Outcome) den x) env)
    → Agrees (kind_of (roll-Expr x) kinds) (den (roll-Expr x) env)
rolled x env kinds h =
    let a : kind_of (roll-Expr x) ≡ kind_step (map-Expr Expr (Env → Judged) kind_of x) = fold-roll-Expr (Env → Judged) kind_step x in
    let b : den (roll-Expr x) ≡ step (map-Expr Expr (Record → Outcome) den x) = fold-roll-Expr (Record → Outcome) step x in
    subst (λ f. Agrees (f kinds) (den (roll-Expr x) env)) (sym a)
    (subst (λ f. Agrees (kind_step (map-Expr Expr (Env → Judged) kind_of x) kinds) (f env)) (sym b) h)

checked_is_sound : (e : Expr) → CheckedIsSound e
checked_is_sound = ind-Expr CheckedIsSound (λ x y same.
    subst (λ z. CheckedIsSound (roll-Expr z)) same (λ env kinds fits. rolled (map-Expr Proved Expr (λ e. e.0) y) env kinds (layer y env kinds fits)))

has_kind : (k : Kind) (e : Expr) (env : Record) → IsCheckedAs k e env → HasKind k (den e env)
has_kind k e env h = subst (λ j. Agrees j (den e env)) h.checks (checked_is_sound e env h.kinds h.fits)

-- a checked expression is not stuck
pub checked-not_stuck : (k : Kind) (e : Expr) (env : Record) → IsCheckedAs k e env → den e env ≡ stuck → ⊥
checked-not_stuck k e env h s = subst (HasKind k) s (has_kind k e env h)

-- its value fits its kind
pub checked-fits : (k : Kind) (e : Expr) (env : Record) (v : Value) → IsCheckedAs k e env → den e env ≡ is v → fits v k ≡ true
checked-fits k e env v h s = subst (HasKind k) s (has_kind k e env h)
