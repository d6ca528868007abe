-- Laws of the values of fields.
use Rattle.std.proofs.Common.{◌≡◌, ◌≤◌, ◌<◌, ◌-◌, Result, OnOk, append-nil, length, take, drop, get_or, arith, IsTrue, true, false, Bool, ◌&&◌, List, [], ◌∷◌, ◌++◌, Option, None, Some, refl, sym, ap, subst, ◌∙◌, append_assoc}
use Rattle.std.proofs.lemmas.Grind.{common_steps}
use Rattle.std.proofs.lemmas.Slice.Eq.{bytes_eq-Decides}
use Rattle.std.specs.Str.{bytes_eq}
use Rattle.es_model.specs.Rising.{comes_last, is_before, item_of}
use Rattle.es_model.specs.Values.{Name, Record, are_of_kinds, fits}
use Rattle.es_model.specs.declared.expr.Expr.{Expr}
use Rattle.es_model.specs.declared.value.Kind.{Kind}
use Rattle.es_model.specs.declared.value.Value.{Value}
use Rattle.es_expr.specs.Meaning.{den}
use Rattle.es_expr.specs.Outcome.{Outcome, is}
use Rattle.es_expr.specs.Sound.{IsChecked, IsCheckedAs}
use Rattle.es_domain.specs.declared.aggregate.TriggerFault.{TriggerFault}
use Rattle.es_domain.specs.Fold.{with_value, values_of, fields_after, assigned}
use Rattle.es_domain.specs.inner.Evaluation.{AreChecked, CanBeChecked, AreAssignable, CanBeAssigned, MayFollow, behind}

with-is : (name : Name) (v : Value) (o : Option Record) → with_value name (is v) o ≡ behind ((name, v) ∷ []) o
with-is name v None = refl
with-is name v (Some r) = refl

behind-behind : (a b : Record) (o : Option Record) → behind a (behind b o) ≡ behind (a ++ b) o
behind-behind a b None = refl
behind-behind a b (Some r) = ap Some (sym (append_assoc a b r))

-- one value more, and the others behind it
pub one_more : (front : Record) (name : Name) (m : Outcome) (v : Value) (o : Option Record) → m ≡ is v → behind front (with_value name m o) ≡ behind (front ++ (name, v) ∷ []) o
one_more front name m v o same =
    ap (λ (k : Outcome). behind front (with_value name k o)) same ∙ ap (behind front) (with-is name v o) ∙ behind-behind front ((name, v) ∷ []) o

last-push : (xs : Record) (y : Name × Value) (name : Name) → comes_last (xs ++ y ∷ []) name ≡ is_before y.0 name
last-push [] y name = refl
last-push (x ∷ []) y name = refl
last-push (x ∷ z ∷ xs) y name = last-push (z ∷ xs) y name

pub follows_on : {A : Type 0} (front : Record) (x : Name × A) (v : Value) (xs : List (Name × A)) → MayFollow front (x ∷ xs) → MayFollow (front ++ (x.0, v) ∷ []) xs
follows_on front x v [] follows = tt
follows_on front x v (y ∷ xs) follows = (subst IsTrue (sym (last-push front (x.0, v) y.0)) follows.1.0, follows.1.1)

-- the first of some items, and the others as a slice names them

pub rest-is : {A : Type 0} (x : A) (xs : List A) → take (length (x ∷ xs) - 1) (drop 1 (x ∷ xs)) ≡ xs
rest-is x xs = grind (arith, common_steps)

pub head_checked : (xs : List (Name × Expr)) (env : Record) (d : Name × Expr) → 1 ≤ length xs → CanBeChecked xs env → IsChecked (get_or xs 0 d).1 env
head_checked [] env d long can = absurd (omega arith)
head_checked (x ∷ xs) env d long ([], are) = absurd are
head_checked (x ∷ xs) env d long (w ∷ wanted, are) = (w.1, are.1)

pub rest_checked : (xs : List (Name × Expr)) (env : Record) → 1 ≤ length xs → CanBeChecked xs env → CanBeChecked (take (length xs - 1) (drop 1 xs)) env
rest_checked [] env long can = absurd (omega arith)
rest_checked (x ∷ xs) env long ([], are) = absurd are
rest_checked (x ∷ xs) env long (w ∷ wanted, are) = subst (λ ys. CanBeChecked ys env) (sym (rest-is x xs)) (wanted, are.2)

pub rest_follows : {A : Type 0} (front new : Record) (xs : List (Name × A)) (d : Name × A) (name : Name) (v : Value) → 1 ≤ length xs → MayFollow front xs → name ≡ (get_or xs 0 d).0 → new ≡ front ++ (name, v) ∷ [] → MayFollow new (take (length xs - 1) (drop 1 xs))
rest_follows front new [] d name v long follows same grown = absurd (omega arith)
rest_follows {A} front new (x ∷ xs) d name v long follows same grown =
    subst (λ (ys : List (Name × A)). MayFollow new ys) (sym (rest-is x xs))
    (subst (λ r. MayFollow r xs) (sym (grown ∙ ap (λ (n : Name). front ++ (n, v) ∷ []) same)) (follows_on front x v xs follows))

pub values_split : (front new : Record) (xs : List (Name × Expr)) (env : Record) (d e : Name × Expr) (name : Name) (v : Value) → 1 ≤ length xs → den (get_or xs 0 d).1 env ≡ is v → name ≡ (get_or xs 0 e).0 → new ≡ front ++ (name, v) ∷ []
    → behind front (values_of xs env) ≡ behind new (values_of (take (length xs - 1) (drop 1 xs)) env)
values_split front new [] env d e name v long den-is same grown = absurd (omega arith)
values_split front new (x ∷ xs) env d e name v long den-is same grown =
    one_more front x.0 (den x.1 env) v (values_of xs env) den-is
    ∙ ap (λ (r : Record). behind r (values_of xs env)) (sym (grown ∙ ap (λ (n : Name). front ++ (n, v) ∷ []) same))
    ∙ ap (λ (ys : List (Name × Expr)). behind new (values_of ys env)) (sym (rest-is x xs))

-- one value more of its kind

three : (a b c d : Bool) → IsTrue (a && b && c) → (IsTrue c → IsTrue d) → IsTrue (a && b && d)
three true true c d h f = f h
three false b c d h f = cc
three true false c d h f = cc

pub of-kinds-append : (xs ys : Record) (ks ls : List (Name × Kind)) → IsTrue (are_of_kinds xs ks) → IsTrue (are_of_kinds ys ls) → IsTrue (are_of_kinds (xs ++ ys) (ks ++ ls))
of-kinds-append [] ys [] ls h more = more
of-kinds-append [] ys (k ∷ ks) ls h more = cc
of-kinds-append (x ∷ xs) ys [] ls h more = cc
of-kinds-append (x ∷ xs) ys (k ∷ ks) ls h more =
    three (bytes_eq x.0 k.0) (fits x.1 k.1) (are_of_kinds xs ks) (are_of_kinds (xs ++ ys) (ks ++ ls)) h (λ t. of-kinds-append xs ys ks ls t more)

pub one-of-kind : (name wanted : Name) (v : Value) (k : Kind) → name ≡ wanted → fits v k ≡ true → IsTrue (are_of_kinds ((name, v) ∷ []) ((wanted, k) ∷ []))
one-of-kind name wanted v k same fit = rw (← same) (rw ((bytes_eq-Decides name name).1 refl) (rw fit refl))

kinds-push : (r : Record) (front : List (Name × Kind)) (name : Name) (v : Value) (w : Name × Kind) → IsTrue (are_of_kinds r front) → name ≡ w.0 → fits v w.1 ≡ true → IsTrue (are_of_kinds (r ++ (name, v) ∷ []) (front ++ w ∷ []))
kinds-push r front name v w are same fit = of-kinds-append r ((name, v) ∷ []) front (w ∷ []) are (one-of-kind name w.0 v w.1 same fit)

pub kinds_split : (r : Result (Unit {0}) TriggerFault) (old new last : Record) (xs : List (Name × Expr)) (env : Record) (d e : Name × Expr) (name : Name) (v : Value) (front wanted : List (Name × Kind))
    → 1 ≤ length xs → name ≡ (get_or xs 0 e).0 → new ≡ old ++ (name, v) ∷ [] → IsTrue (are_of_kinds old front) → AreChecked wanted xs env
    → ((k : Kind) → IsCheckedAs k (get_or xs 0 d).1 env → fits v k ≡ true)
    → ((front wanted : List (Name × Kind)) → IsTrue (are_of_kinds new front) → AreChecked wanted (take (length xs - 1) (drop 1 xs)) env → OnOk r (IsTrue (are_of_kinds last (front ++ wanted))))
    → OnOk r (IsTrue (are_of_kinds last (front ++ wanted)))
kinds_split r old new last [] env d e name v front wanted long same grown are checked fit rest = absurd (omega arith)
kinds_split r old new last (x ∷ xs) env d e name v front [] long same grown are checked fit rest = absurd checked
kinds_split r old new last (x ∷ xs) env d e name v front (w ∷ wanted) long same grown are checked fit rest =
    subst (λ (ks : List (Name × Kind)). OnOk r (IsTrue (are_of_kinds last ks))) (append_assoc front (w ∷ []) wanted)
    (rest (front ++ w ∷ []) wanted
    (subst (λ r. IsTrue (are_of_kinds r (front ++ w ∷ []))) (sym grown) (kinds-push old front name v w are (same ∙ checked.0) (fit w.1 checked.1)))
    (subst (λ ys. AreChecked wanted ys env) (sym (rest-is x xs)) checked.2))

pub kinds_empty : (r : Record) (xs : List (Name × Expr)) (env : Record) (front wanted : List (Name × Kind)) → length xs < 1 → IsTrue (are_of_kinds r front) → AreChecked wanted xs env → IsTrue (are_of_kinds r (front ++ wanted))
kinds_empty r [] env front [] short are checked = subst (λ (ks : List (Name × Kind)). IsTrue (are_of_kinds r ks)) (sym (append-nil front)) are
kinds_empty r [] env front (w ∷ wanted) short are checked = absurd checked
kinds_empty r (x ∷ xs) env front wanted short are checked = absurd (omega arith)

-- ---- the fields after an event

parts-of : (a b c : Bool) → IsTrue (a && b && c) → IsTrue a × IsTrue b × IsTrue c
parts-of true true true h = (refl, refl, refl)
parts-of false b c h = cc
parts-of true false c h = cc
parts-of true true false h = cc

pub kinds-parts : (x : Name × Value) (xs : Record) (w : Name × Kind) (ws : List (Name × Kind)) → IsTrue (are_of_kinds (x ∷ xs) (w ∷ ws)) → (x.0 ≡ w.0) × (fits x.1 w.1 ≡ true) × IsTrue (are_of_kinds xs ws)
kinds-parts x xs w ws h =
    let p = parts-of (bytes_eq x.0 w.0) (fits x.1 w.1) (are_of_kinds xs ws) h in
    ((bytes_eq-Decides x.0 w.0).0 p.0, p.1, p.2)

-- what an assignment to a field of a name is checked as
as-named : (a b : Name) (k : Kind) (assigns : List (Name × Expr)) (env : Record) → a ≡ b → ((e : Expr) → item_of assigns b ≡ Some e → IsCheckedAs k e env) → (e : Expr) → item_of assigns a ≡ Some e → IsCheckedAs k e env
as-named a b k assigns env same can e at = can e (ap (item_of assigns) (sym same) ∙ at)

pub head_assigned : (xs : Record) (assigns : List (Name × Expr)) (env : Record) (d : Name × Value) → 1 ≤ length xs → CanBeAssigned xs assigns env → (e : Expr) → item_of assigns (get_or xs 0 d).0 ≡ Some e → IsChecked e env
head_assigned [] assigns env d long can e at = absurd (omega arith)
head_assigned (x ∷ xs) assigns env d long ([], are, can) e at = absurd (cc are)
head_assigned (x ∷ xs) assigns env d long (w ∷ wanted, are, can) e at =
    (w.1, as-named x.0 w.0 w.1 assigns env (kinds-parts x xs w wanted are).0 can.0 e at)

pub rest_assigned : (xs : Record) (assigns : List (Name × Expr)) (env : Record) → 1 ≤ length xs → CanBeAssigned xs assigns env → CanBeAssigned (take (length xs - 1) (drop 1 xs)) assigns env
rest_assigned [] assigns env long can = absurd (omega arith)
rest_assigned (x ∷ xs) assigns env long ([], are, can) = absurd (cc are)
rest_assigned (x ∷ xs) assigns env long (w ∷ wanted, are, can) =
    subst (λ ys. CanBeAssigned ys assigns env) (sym (rest-is x xs)) (wanted, (kinds-parts x xs w wanted are).2, can.1)

pub after_split : (front new : Record) (xs : Record) (assigns : List (Name × Expr)) (env : Record) (d e f : Name × Value) (name : Name) (v : Value) → 1 ≤ length xs
    → assigned (item_of assigns (get_or xs 0 d).0) (get_or xs 0 f).1 env ≡ is v → name ≡ (get_or xs 0 e).0 → new ≡ front ++ (name, v) ∷ []
    → behind front (fields_after xs assigns env) ≡ behind new (fields_after (take (length xs - 1) (drop 1 xs)) assigns env)
after_split front new [] assigns env d e f name v long gives same grown = absurd (omega arith)
after_split front new (x ∷ xs) assigns env d e f name v long gives same grown =
    one_more front x.0 (assigned (item_of assigns x.0) x.1 env) v (fields_after xs assigns env) gives
    ∙ ap (λ (r : Record). behind r (fields_after xs assigns env)) (sym (grown ∙ ap (λ (n : Name). front ++ (n, v) ∷ []) same))
    ∙ ap (λ (ys : Record). behind new (fields_after ys assigns env)) (sym (rest-is x xs))

pub after_kinds_split : (r : Result (Unit {0}) TriggerFault) (old new last : Record) (xs : Record) (assigns : List (Name × Expr)) (env : Record) (d e f : Name × Value) (name : Name) (v : Value) (front wanted : List (Name × Kind))
    → 1 ≤ length xs → name ≡ (get_or xs 0 e).0 → new ≡ old ++ (name, v) ∷ [] → IsTrue (are_of_kinds old front) → IsTrue (are_of_kinds xs wanted) → AreAssignable wanted assigns env
    → ((k : Kind) → fits (get_or xs 0 f).1 k ≡ true → ((e : Expr) → item_of assigns (get_or xs 0 d).0 ≡ Some e → IsCheckedAs k e env) → fits v k ≡ true)
    → ((front wanted : List (Name × Kind)) → IsTrue (are_of_kinds new front) → IsTrue (are_of_kinds (take (length xs - 1) (drop 1 xs)) wanted) → AreAssignable wanted assigns env → OnOk r (IsTrue (are_of_kinds last (front ++ wanted))))
    → OnOk r (IsTrue (are_of_kinds last (front ++ wanted)))
after_kinds_split r old new last [] assigns env d e f name v front wanted long same grown are were can fit rest = absurd (omega arith)
after_kinds_split r old new last (x ∷ xs) assigns env d e f name v front [] long same grown are were can fit rest = absurd (cc were)
after_kinds_split r old new last (x ∷ xs) assigns env d e f name v front (w ∷ wanted) long same grown are were can fit rest =
    let p = kinds-parts x xs w wanted were in
    subst (λ (ks : List (Name × Kind)). OnOk r (IsTrue (are_of_kinds last ks))) (append_assoc front (w ∷ []) wanted)
    (rest (front ++ w ∷ []) wanted
    (subst (λ r. IsTrue (are_of_kinds r (front ++ w ∷ []))) (sym grown) (kinds-push old front name v w are (same ∙ p.0) (fit w.1 p.1 (as-named x.0 w.0 w.1 assigns env p.0 can.0))))
    (subst (λ ys. IsTrue (are_of_kinds ys wanted)) (sym (rest-is x xs)) p.2) can.1)

pub after_kinds_empty : (r : Record) (xs : Record) (front wanted : List (Name × Kind)) → length xs < 1 → IsTrue (are_of_kinds r front) → IsTrue (are_of_kinds xs wanted) → IsTrue (are_of_kinds r (front ++ wanted))
after_kinds_empty r [] front [] short are were = subst (λ (ks : List (Name × Kind)). IsTrue (are_of_kinds r ks)) (sym (append-nil front)) are
after_kinds_empty r [] front (w ∷ wanted) short are were = absurd (cc were)
after_kinds_empty r (x ∷ xs) front wanted short are were = absurd (omega arith)
