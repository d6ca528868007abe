-- An expression that is read weighs what its tree does.
use Rattle.std.proofs.Common.{◌≡◌, ◌∙◌, ◌+◌, ℕ, suc, max, ℤ, Bool, true, false, ◌&&◌, List, [], ◌∷◌, length, map, codes, Option, Some, Ok, refl, sym, ap, subst, arith, if◌then◌else◌, option_map}
use Rattle.std.proofs.Common.{None as Absent}
use Rattle.std.specs.Prelude.{nat_le}
use Rattle.std.specs.Str.{bytes_eq}
use Rattle.serde_json.specs.Data.{Data, null, boolean, number, string, array, object, Items, no_items, item, Members, no_members, member}
use Rattle.serde_json.specs.Find.{as_i64}
use Rattle.es_model.proofs.HistoryLemmas.{both_true}
use Rattle.es_model.specs.Scaled.{Scaled}
use Rattle.es_model.specs.Values.{Name}
use Rattle.es_model.specs.declared.declaration.Code.TheVariants as code
use Rattle.es_model.specs.declared.expr.Expr.TheFolds.{map-Expr, fold-roll-Expr}
use Rattle.es_model.specs.declared.expr.Expr.TheOpen.{Expr-F}
use Rattle.es_model.specs.declared.expr.Expr.{Expr, roll-Expr, Bool as Truth, Int, Text, Uuid, Moment, Decimal, None, Get, Add, Sub, Mul, Eq, Ne, Lt, Le, And, Or, Not, If, Concat, Append, Contains, Len, Show, Uuid5}
use Rattle.es_model.specs.declared.limits.TheConstants.{MOST_TEXT_BYTES, MOST_LEVELS, MOST_NODES}
use Rattle.es_model.specs.declared.operators.Binary.{Binary}
use Rattle.es_model.specs.declared.operators.Binary.TheVariants as two
use Rattle.es_model.specs.declared.operators.Operator.{Operator}
use Rattle.es_model.specs.declared.operators.Operator.TheVariants.{One, Two, Choice}
use Rattle.es_model.specs.declared.operators.Unary.{Unary}
use Rattle.es_model.specs.declared.operators.Unary.TheVariants as one
use Rattle.es_model.specs.declared.value.AtomKind.{AtomKind}
use Rattle.es_model.specs.OperatorWords.{operator_of, over_one, over_two}
use Rattle.es_transcode.specs.Spelled.{moment_in, decimal_in}
use Rattle.es_expr.specs.Limits.{depth as expr_depth, nodes as expr_nodes, depth_step, nodes_step, literals_step, has_small_literals, is_expr_within}
use Rattle.es_decl.specs.Kinds.{known, atom_kind}
use Rattle.es_decl.specs.Paths.{member_step, item_step}
use Rattle.es_decl.specs.Readings.{Reading, fine, here, and_then, under}
use Rattle.es_decl.specs.Expressions.{bool_literal, int_literal, text_literal, id_in, uuid_literal, moment_literal, decimal_literal, empty_literal, get_literal, literal, only, operands, each, operand, operation, worded, spelled, spells, children, if_operator, counted, greatest, total, deeper, more, depth, nodes, size_test, expression}
use Rattle.es_decl.proofs.KeptLemmas.{Keeps, both, then-ok, under-ok, around-ok, if-ok}

choose : {A : Type 0} (P : A → Type 0) (b : Bool) (x y : A) → P x → P y → P (if b then x else y)
choose P true x y p q = p
choose P false x y p q = q

-- ---- literals

-- a reading gives only such expressions
abbrev pub Gives : (Expr → Type 0) → Reading Expr → Type 0
Gives P r = (e : Expr) → r ≡ Ok e → P e

module _ (P : Expr → Type 0) where
  gives-known : {A : Type 0} (f : A → Expr) → ((x : A) → P (f x)) → (o : Option A) → Gives P (known (option_map f o))
  gives-known f all (Some x) e h = let same : f x ≡ e = cc in subst P same (all x)
  gives-known f all Absent e h = cc

  gives-bool : ((b : Bool) → P (Truth b)) → (d : Data) → Gives P (bool_literal d)
  gives-bool all null e h = cc
  gives-bool all (boolean b) e h = let same : Truth b ≡ e = cc in subst P same (all b)
  gives-bool all (number n) e h = cc
  gives-bool all (string s) e h = cc
  gives-bool all (array ds) e h = cc
  gives-bool all (object ms) e h = cc

  gives-int : ((z : ℤ) → P (Int z)) → (d : Data) → Gives P (int_literal d)
  gives-int all null e h = cc
  gives-int all (boolean b) e h = cc
  gives-int all (number n) e h = gives-known Int all (as_i64 n) e h
  gives-int all (string s) e h = cc
  gives-int all (array ds) e h = cc
  gives-int all (object ms) e h = cc

  gives-short : (s : Name) → (nat_le (length s) MOST_TEXT_BYTES ≡ true → P (Text s)) → (b : Bool) → nat_le (length s) MOST_TEXT_BYTES ≡ b → Gives P (if b then Ok (Text s) else under (member_step (codes "text")) (here code.Limit))
  gives-short s all true short e h = let same : Text s ≡ e = cc in subst P same (all short)
  gives-short s all false short e h = cc

  gives-text : ((s : Name) → nat_le (length s) MOST_TEXT_BYTES ≡ true → P (Text s)) → (d : Data) → Gives P (text_literal d)
  gives-text all null e h = cc
  gives-text all (boolean b) e h = cc
  gives-text all (number n) e h = cc
  gives-text all (string s) e h = gives-short s (all s) (nat_le (length s) MOST_TEXT_BYTES) refl e h
  gives-text all (array ds) e h = cc
  gives-text all (object ms) e h = cc

  gives-uuid : ((u : List ℕ) → P (Uuid u)) → (d : Data) → Gives P (uuid_literal d)
  gives-uuid all null e h = cc
  gives-uuid all (boolean b) e h = cc
  gives-uuid all (number n) e h = cc
  gives-uuid all (string s) e h = gives-known Uuid all (id_in s) e h
  gives-uuid all (array ds) e h = cc
  gives-uuid all (object ms) e h = cc

  gives-moment : ((z : ℤ) → P (Moment z)) → (d : Data) → Gives P (moment_literal d)
  gives-moment all null e h = cc
  gives-moment all (boolean b) e h = cc
  gives-moment all (number n) e h = cc
  gives-moment all (string s) e h = gives-known Moment all (moment_in s) e h
  gives-moment all (array ds) e h = cc
  gives-moment all (object ms) e h = cc

  gives-decimal : ((d : Scaled) → P (Decimal d)) → (d : Data) → Gives P (decimal_literal d)
  gives-decimal all null e h = cc
  gives-decimal all (boolean b) e h = cc
  gives-decimal all (number n) e h = cc
  gives-decimal all (string s) e h = gives-known Decimal all (decimal_in s) e h
  gives-decimal all (array ds) e h = cc
  gives-decimal all (object ms) e h = cc

  gives-empty : ((k : AtomKind) → P (None k)) → (d : Data) → Gives P (empty_literal d)
  gives-empty all d e h =
      let a = then-ok (under (member_step (codes "none")) (atom_kind d)) (λ k. Ok (None k)) e h in
      let same : None a.0 ≡ e = let k = a.2 in cc in
      subst P same (all a.0)

  gives-get : ((n : Name) → P (Get n)) → (d : Data) → Gives P (get_literal d)
  gives-get all null e h = cc
  gives-get all (boolean b) e h = cc
  gives-get all (number n) e h = cc
  gives-get all (string s) e h = let same : Get s ≡ e = cc in subst P same (all s)
  gives-get all (array ds) e h = cc
  gives-get all (object ms) e h = cc

  gives-nothing : Gives P (here code.Form)
  gives-nothing e h = cc

  pub gives-literal : ((b : Bool) → P (Truth b)) → ((z : ℤ) → P (Int z)) → ((s : Name) → nat_le (length s) MOST_TEXT_BYTES ≡ true → P (Text s)) → ((u : List ℕ) → P (Uuid u)) → ((z : ℤ) → P (Moment z))
      → ((d : Scaled) → P (Decimal d)) → ((k : AtomKind) → P (None k)) → ((n : Name) → P (Get n)) → (w : Name) (d : Data) → Gives P (literal w d)
  gives-literal bool int text uuid moment decimal empty get w d =
      choose (Gives P) (bytes_eq w (codes "bool")) (bool_literal d) _ (gives-bool bool d) (
      choose (Gives P) (bytes_eq w (codes "int")) (int_literal d) _ (gives-int int d) (
      choose (Gives P) (bytes_eq w (codes "text")) (text_literal d) _ (gives-text text d) (
      choose (Gives P) (bytes_eq w (codes "uuid")) (uuid_literal d) _ (gives-uuid uuid d) (
      choose (Gives P) (bytes_eq w (codes "moment")) (moment_literal d) _ (gives-moment moment d) (
      choose (Gives P) (bytes_eq w (codes "decimal")) (decimal_literal d) _ (gives-decimal decimal d) (
      choose (Gives P) (bytes_eq w (codes "none")) (empty_literal d) _ (gives-empty empty d) (
      choose (Gives P) (bytes_eq w (codes "get")) (get_literal d) _ (gives-get get d) gives-nothing)))))))

-- ---- weights

abbrev pub Weighs : ℕ → ℕ → Expr → Type 0
Weighs d n e = (expr_depth e ≡ d) × (expr_nodes e ≡ n) × (has_small_literals e ≡ true)

-- the same of one level
deep-of : (y : Expr-F Expr) → expr_depth (roll-Expr y) ≡ depth_step (map-Expr Expr ℕ expr_depth y)
deep-of = fold-roll-Expr ℕ depth_step

many-of : (y : Expr-F Expr) → expr_nodes (roll-Expr y) ≡ nodes_step (map-Expr Expr ℕ expr_nodes y)
many-of = fold-roll-Expr ℕ nodes_step

small-of : (y : Expr-F Expr) → has_small_literals (roll-Expr y) ≡ literals_step (map-Expr Expr Bool has_small_literals y)
small-of = fold-roll-Expr Bool literals_step

lit : (y : Expr-F Expr) → depth_step (map-Expr Expr ℕ expr_depth y) ≡ 1 → nodes_step (map-Expr Expr ℕ expr_nodes y) ≡ 1 → literals_step (map-Expr Expr Bool has_small_literals y) ≡ true → Weighs 1 1 (roll-Expr y)
lit y d n l = (deep-of y ∙ d, many-of y ∙ n, small-of y ∙ l)

literal-weighs : (w : Name) (d : Data) → Gives (Weighs 1 1) (literal w d)
unfolding roll-Expr denote.Hole.Carrier.roll
literal-weighs w d = gives-literal (Weighs 1 1) (λ b. lit (Expr-F.Bool b) refl refl refl) (λ z. lit (Expr-F.Int z) refl refl refl) (λ s short. lit (Expr-F.Text s) refl refl short) (λ u. lit (Expr-F.Uuid u) refl refl refl) (λ z. lit (Expr-F.Moment z) refl refl refl) (λ x. lit (Expr-F.Decimal x) refl refl refl) (λ k. lit (Expr-F.None k) refl refl refl) (λ n. lit (Expr-F.Get n) refl refl refl) w d

one-weighs : (e x : Expr) (d n : ℕ) → expr_depth e ≡ expr_depth x + 1 → expr_nodes e ≡ expr_nodes x + 1 → has_small_literals e ≡ has_small_literals x → Weighs d n x → Weighs (suc (max d 0)) (suc (n + 0)) e
one-weighs e x d n deep many small h = (omega (arith, deep, h.0), omega (arith, many, h.1), small ∙ h.2)

unary-weighs : (o : Unary) (x : Expr) (d n : ℕ) → Weighs d n x → Weighs (suc (max d 0)) (suc (n + 0)) (over_one o x)
unfolding roll-Expr denote.Hole.Carrier.roll
unary-weighs one.Not x d n h = one-weighs (Not x) x d n (deep-of (Expr-F.Not x)) (many-of (Expr-F.Not x)) (small-of (Expr-F.Not x)) h
unary-weighs one.Len x d n h = one-weighs (Len x) x d n (deep-of (Expr-F.Len x)) (many-of (Expr-F.Len x)) (small-of (Expr-F.Len x)) h
unary-weighs one.Show x d n h = one-weighs (Show x) x d n (deep-of (Expr-F.Show x)) (many-of (Expr-F.Show x)) (small-of (Expr-F.Show x)) h

two-weighs : (e x y : Expr) (d n c m : ℕ) → expr_depth e ≡ max (expr_depth x) (expr_depth y) + 1 → expr_nodes e ≡ expr_nodes x + expr_nodes y + 1 → has_small_literals e ≡ (has_small_literals x && has_small_literals y)
    → Weighs d n x → Weighs c m y → Weighs (suc (max d (max c 0))) (suc (n + (m + 0))) e
two-weighs e x y d n c m deep many small h k = (omega (arith, deep, h.0, k.0), omega (arith, many, h.1, k.1), small ∙ both (has_small_literals x) (has_small_literals y) h.2 k.2)

binary-weighs : (o : Binary) (x y : Expr) (d n c m : ℕ) → Weighs d n x → Weighs c m y → Weighs (suc (max d (max c 0))) (suc (n + (m + 0))) (over_two o x y)
unfolding roll-Expr denote.Hole.Carrier.roll
binary-weighs two.Add x y d n c m h k = two-weighs (Add x y) x y d n c m (deep-of (Expr-F.Add x y)) (many-of (Expr-F.Add x y)) (small-of (Expr-F.Add x y)) h k
binary-weighs two.Sub x y d n c m h k = two-weighs (Sub x y) x y d n c m (deep-of (Expr-F.Sub x y)) (many-of (Expr-F.Sub x y)) (small-of (Expr-F.Sub x y)) h k
binary-weighs two.Mul x y d n c m h k = two-weighs (Mul x y) x y d n c m (deep-of (Expr-F.Mul x y)) (many-of (Expr-F.Mul x y)) (small-of (Expr-F.Mul x y)) h k
binary-weighs two.Eq x y d n c m h k = two-weighs (Eq x y) x y d n c m (deep-of (Expr-F.Eq x y)) (many-of (Expr-F.Eq x y)) (small-of (Expr-F.Eq x y)) h k
binary-weighs two.Ne x y d n c m h k = two-weighs (Ne x y) x y d n c m (deep-of (Expr-F.Ne x y)) (many-of (Expr-F.Ne x y)) (small-of (Expr-F.Ne x y)) h k
binary-weighs two.Lt x y d n c m h k = two-weighs (Lt x y) x y d n c m (deep-of (Expr-F.Lt x y)) (many-of (Expr-F.Lt x y)) (small-of (Expr-F.Lt x y)) h k
binary-weighs two.Le x y d n c m h k = two-weighs (Le x y) x y d n c m (deep-of (Expr-F.Le x y)) (many-of (Expr-F.Le x y)) (small-of (Expr-F.Le x y)) h k
binary-weighs two.And x y d n c m h k = two-weighs (And x y) x y d n c m (deep-of (Expr-F.And x y)) (many-of (Expr-F.And x y)) (small-of (Expr-F.And x y)) h k
binary-weighs two.Or x y d n c m h k = two-weighs (Or x y) x y d n c m (deep-of (Expr-F.Or x y)) (many-of (Expr-F.Or x y)) (small-of (Expr-F.Or x y)) h k
binary-weighs two.Concat x y d n c m h k = two-weighs (Concat x y) x y d n c m (deep-of (Expr-F.Concat x y)) (many-of (Expr-F.Concat x y)) (small-of (Expr-F.Concat x y)) h k
binary-weighs two.Append x y d n c m h k = two-weighs (Append x y) x y d n c m (deep-of (Expr-F.Append x y)) (many-of (Expr-F.Append x y)) (small-of (Expr-F.Append x y)) h k
binary-weighs two.Contains x y d n c m h k = two-weighs (Contains x y) x y d n c m (deep-of (Expr-F.Contains x y)) (many-of (Expr-F.Contains x y)) (small-of (Expr-F.Contains x y)) h k
binary-weighs two.Uuid5 x y d n c m h k = two-weighs (Uuid5 x y) x y d n c m (deep-of (Expr-F.Uuid5 x y)) (many-of (Expr-F.Uuid5 x y)) (small-of (Expr-F.Uuid5 x y)) h k

three-weighs : (x y z : Expr) (d n c m b l : ℕ) → Weighs d n x → Weighs c m y → Weighs b l z → Weighs (suc (max d (max c (max b 0)))) (suc (n + (m + (l + 0)))) (If x y z)
unfolding roll-Expr denote.Hole.Carrier.roll
three-weighs x y z d n c m b l h k g =
    let deep : expr_depth (If x y z) ≡ max (max (expr_depth x) (expr_depth y)) (expr_depth z) + 1 = deep-of (Expr-F.If x y z) in
    let many : expr_nodes (If x y z) ≡ expr_nodes x + expr_nodes y + expr_nodes z + 1 = many-of (Expr-F.If x y z) in
    (omega (arith, deep, h.0, k.0, g.0), omega (arith, many, h.1, k.1, g.1), small-of (Expr-F.If x y z) ∙ both (has_small_literals x && has_small_literals y) (has_small_literals z) (both (has_small_literals x) (has_small_literals y) h.2 k.2) g.2)

-- ---- trees

-- what is said of an operand: its reading, its depth and its nodes
abbrev Said : Type 0
Said = Reading Expr × ℕ × ℕ

abbrev said_of : Items → List Said
said_of no_items = []
said_of (item d ds) = (spells d, depth d, nodes d) ∷ said_of ds

readings-of : (ds : Items) → each (here code.Form) spelled ds ≡ map (λ s. s.0) (said_of ds)
readings-of no_items = refl
readings-of (item d ds) = ap (λ rs. spells d ∷ rs) (readings-of ds)

depths-of : (ds : Items) → each 1 deeper ds ≡ map (λ s. s.1) (said_of ds)
depths-of no_items = refl
depths-of (item d ds) = ap (λ ns. depth d ∷ ns) (depths-of ds)

nodes-of : (ds : Items) → each 1 more ds ≡ map (λ s. s.2) (said_of ds)
nodes-of no_items = refl
nodes-of (item d ds) = ap (λ ns. nodes d ∷ ns) (nodes-of ds)

abbrev AllWeigh : List Said → Type 0
AllWeigh [] = Unit {0}
AllWeigh (s ∷ ss) = Gives (Weighs s.1 s.2) s.0 × AllWeigh ss

operand-ok : (w : Name) (n : ℕ) (r : Reading Expr) (x : Expr) → operand w n r ≡ Ok x → r ≡ Ok x
operand-ok w n r x h = under-ok (item_step n) r x (under-ok (member_step w) (under (item_step n) r) x h)

operator-weighs : (o : Operator) (w : Name) (ss : List Said) → AllWeigh ss
    → Gives (Weighs (suc (greatest (children o (map (λ s. s.1) ss)))) (suc (total (children o (map (λ s. s.2) ss))))) (operation o w (map (λ s. s.0) ss))
operator-weighs (One o) w [] all e h = cc
operator-weighs (One o) w (s ∷ []) all e h =
    let a = then-ok (operand w 0 s.0) (λ x. Ok (over_one o x)) e h in
    let same : over_one o a.0 ≡ e = let k = a.2 in cc in
    subst (Weighs (suc (max s.1 0)) (suc (s.2 + 0))) same (unary-weighs o a.0 s.1 s.2 (all.0 a.0 (operand-ok w 0 s.0 a.0 a.1)))
operator-weighs (One o) w (s ∷ t ∷ ss) all e h = cc
operator-weighs (Two o) w [] all e h = cc
operator-weighs (Two o) w (s ∷ []) all e h = cc
operator-weighs (Two o) w (s ∷ t ∷ []) all e h =
    let a = then-ok (operand w 0 s.0) (λ x. and_then (operand w 1 t.0) (λ y. Ok (over_two o x y))) e h in
    let b = then-ok (operand w 1 t.0) (λ y. Ok (over_two o a.0 y)) e a.2 in
    let same : over_two o a.0 b.0 ≡ e = let k = b.2 in cc in
    subst (Weighs (suc (max s.1 (max t.1 0))) (suc (s.2 + (t.2 + 0)))) same
    (binary-weighs o a.0 b.0 s.1 s.2 t.1 t.2 (all.0 a.0 (operand-ok w 0 s.0 a.0 a.1)) (all.1.0 b.0 (operand-ok w 1 t.0 b.0 b.1)))
operator-weighs (Two o) w (s ∷ t ∷ u ∷ ss) all e h = cc
operator-weighs Choice w [] all e h = cc
operator-weighs Choice w (s ∷ []) all e h = cc
operator-weighs Choice w (s ∷ t ∷ []) all e h = cc
operator-weighs Choice w (s ∷ t ∷ u ∷ []) all e h =
    let a = then-ok (operand w 0 s.0) (λ x. and_then (operand w 1 t.0) (λ y. and_then (operand w 2 u.0) (λ z. Ok (If x y z)))) e h in
    let b = then-ok (operand w 1 t.0) (λ y. and_then (operand w 2 u.0) (λ z. Ok (If a.0 y z))) e a.2 in
    let c = then-ok (operand w 2 u.0) (λ z. Ok (If a.0 b.0 z)) e b.2 in
    let same : If a.0 b.0 c.0 ≡ e = let k = c.2 in cc in
    subst (Weighs (suc (max s.1 (max t.1 (max u.1 0)))) (suc (s.2 + (t.2 + (u.2 + 0))))) same
    (three-weighs a.0 b.0 c.0 s.1 s.2 t.1 t.2 u.1 u.2 (all.0 a.0 (operand-ok w 0 s.0 a.0 a.1)) (all.1.0 b.0 (operand-ok w 1 t.0 b.0 b.1)) (all.1.1.0 c.0 (operand-ok w 2 u.0 c.0 c.1)))
operator-weighs Choice w (s ∷ t ∷ u ∷ v ∷ ss) all e h = cc

node-weighs : (o : Option Operator) (w : Name) (body : Data) (ss : List Said) → AllWeigh ss
    → Gives (Weighs (suc (greatest (if_operator o (map (λ s. s.1) ss)))) (suc (total (if_operator o (map (λ s. s.2) ss))))) (worded o w body (map (λ s. s.0) ss))
node-weighs Absent w body ss all e h = literal-weighs w body e h
node-weighs (Some o) w body ss all e h = operator-weighs o w ss all e h

mutual
  pub tree-weighs : (d : Data) → Gives (Weighs (depth d) (nodes d)) (spells d)
  tree-weighs null e h = cc
  tree-weighs (boolean b) e h = cc
  tree-weighs (number n) e h = cc
  tree-weighs (string s) e h = cc
  tree-weighs (array ds) e h = cc
  tree-weighs (object ms) e h = only-weighs ms e h

  only-weighs : (ms : Members) → Gives (Weighs (only 1 deeper ms) (only 1 more ms)) (only (here code.Form) spelled ms)
  only-weighs no_members e h = cc
  only-weighs (member w body no_members) e h = body-weighs w body e h
  only-weighs (member w body (member v c ms)) e h = cc

  body-weighs : (w : Name) (body : Data) → Gives (Weighs (deeper w body (operands 1 deeper body)) (more w body (operands 1 more body))) (spelled w body (operands (here code.Form) spelled body))
  body-weighs w null e h = node-weighs (operator_of w) w null [] tt e h
  body-weighs w (boolean b) e h = node-weighs (operator_of w) w (boolean b) [] tt e h
  body-weighs w (number n) e h = node-weighs (operator_of w) w (number n) [] tt e h
  body-weighs w (string s) e h = node-weighs (operator_of w) w (string s) [] tt e h
  body-weighs w (array ds) e h =
      let r : worded (operator_of w) w (array ds) (map (λ s. s.0) (said_of ds)) ≡ Ok e = sym (ap (worded (operator_of w) w (array ds)) (readings-of ds)) ∙ h in
      let x = node-weighs (operator_of w) w (array ds) (said_of ds) (all-weigh ds) e r in
      subst (λ ns. Weighs (suc (greatest (counted w ns))) (suc (total (counted w (each 1 more ds)))) e) (sym (depths-of ds))
      (subst (λ ns. Weighs (suc (greatest (counted w (map (λ s. s.1) (said_of ds))))) (suc (total (counted w ns))) e) (sym (nodes-of ds)) x)
  body-weighs w (object ms) e h = node-weighs (operator_of w) w (object ms) [] tt e h

  all-weigh : (ds : Items) → AllWeigh (said_of ds)
  all-weigh no_items = tt
  all-weigh (item d ds) = (tree-weighs d, all-weigh ds)

-- an expression that is read is within the limits
pub expression-ok : Keeps expression is_expr_within
expression-ok d e h =
    let r = around-ok (spells d) (size_test d) e h in
    let a = if-ok (nat_le (depth d) MOST_LEVELS && nat_le (nodes d) MOST_NODES) fine code.Limit tt r.1 in
    let b = both_true (nat_le (depth d) MOST_LEVELS) (nat_le (nodes d) MOST_NODES) a.0 in
    let x = tree-weighs d e r.0 in
    both (nat_le (expr_depth e) MOST_LEVELS && nat_le (expr_nodes e) MOST_NODES) (has_small_literals e)
    (both (nat_le (expr_depth e) MOST_LEVELS) (nat_le (expr_nodes e) MOST_NODES) (ap (λ n. nat_le n MOST_LEVELS) x.0 ∙ b.0) (ap (λ n. nat_le n MOST_NODES) x.1 ∙ b.1)) x.2
