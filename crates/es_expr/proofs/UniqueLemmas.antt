-- In a system where all fits together each class goes by its name, and each topic is of one event.
use Rattle.std.proofs.Common.{◌≡◌, ℕ, zero, suc, ◌+◌, ◌<◌, IsTrue, Bool, true, false, ◌||◌, not, List, [], ◌∷◌, ◌++◌, take, length, get_or, find, Option, Some, None, codes, refl, sym, ap, subst, arith}
use Rattle.std.proofs.lemmas.Slice.Eq.{bytes_eq-Decides}
use Rattle.std.specs.List.{list_any}
use Rattle.std.specs.Str.{bytes_eq}
use Rattle.es_model.specs.Declaration.{class_named, event_in, event_named, with_class}
use Rattle.es_model.specs.Values.{Name}
use Rattle.es_model.specs.declared.declaration.Class.{Class}
use Rattle.es_model.specs.declared.declaration.Code.TheVariants as code
use Rattle.es_model.specs.declared.declaration.EventClass.{EventClass}
use Rattle.es_model.specs.declared.declaration.System.{System}
use Rattle.es_expr.specs.Checked.{IsCheckedSystem}
use Rattle.es_expr.specs.Misfits.{each, item, is_new, class_misfits, class_member_misfits, app_misfits, pipe_misfits, misfits}
use Rattle.es_expr.specs.declared.misfit.Misfit.{Misfit}
use Rattle.es_expr.proofs.CheckedLemmas.{nil-left, nil-right, unless-true}

-- ---- the first of a name

same-name : (n : Name) → IsTrue (bytes_eq n n)
same-name n = (bytes_eq-Decides n n).1 refl

first-step : {A : Type 0} (b c : Bool) (name_of : A → Name) (y : A) (xs : List A) (x : A) → bytes_eq (name_of y) (name_of x) ≡ b → IsTrue (not (b || c))
    → (IsTrue (not c) → find (λ z. bytes_eq (name_of z) (name_of x)) xs ≡ Some x) → find (λ z. bytes_eq (name_of z) (name_of x)) (y ∷ xs) ≡ Some x
first-step true c name_of y xs x is new rest = cc
first-step false c name_of y xs x is new rest = rw is (rest new)

-- an item whose name is new among those before it is the first of its name
is-first : {A : Type 0} (name_of : A → Name) (xs : List A) (place : ℕ) (x : A) → place < length xs → x ≡ get_or xs place x → IsTrue (is_new name_of (take place xs) (name_of x))
    → find (λ z. bytes_eq (name_of z) (name_of x)) xs ≡ Some x
is-first name_of [] place x within is new = absurd (omega arith)
is-first name_of (y ∷ xs) zero x within is new = subst (λ z. find (λ w. bytes_eq (name_of w) (name_of x)) (z ∷ xs) ≡ Some x) is (rw (same-name (name_of x)) refl)
is-first name_of (y ∷ xs) (suc place) x within is new =
    first-step (bytes_eq (name_of y) (name_of x)) (list_any (λ z. bytes_eq (name_of z) (name_of x)) (take place xs)) name_of y xs x refl new
    (is-first name_of xs place x (omega arith) is)

-- ---- an item at a place has no fault

at-place : {A : Type 0} (faults : ℕ → A → List Misfit) (from : ℕ) (xs : List A) (place : ℕ) (x : A) → each faults from xs ≡ [] → place < length xs → x ≡ get_or xs place x → faults (from + place) x ≡ []
at-place faults from [] place x none within is = absurd (omega arith)
at-place faults from (y ∷ xs) zero x none within is =
    let e : from + 0 ≡ from = omega arith in
    subst (λ n. faults n x ≡ []) (sym e) (subst (λ z. faults from z ≡ []) (sym is) (nil-left (faults from y) (each faults (suc from) xs) none))
at-place faults from (y ∷ xs) (suc place) x none within is =
    let e : suc from + place ≡ from + suc place = omega arith in
    subst (λ n. faults n x ≡ []) e (at-place faults (suc from) xs place x (nil-right (faults from y) (each faults (suc from) xs) none) (omega arith) is)

pub record IsAtPlace (classes : List Class) (c : Class) : Type 0 where
  pub place : ℕ
  pub within : place < length classes
  pub is : c ≡ get_or classes place c

behind : (d : Class) (classes : List Class) (c : Class) → IsAtPlace classes c → IsAtPlace (d ∷ classes) c
behind d classes c p = let within : p.place < length classes = p.within in record { place = suc p.place; within = omega arith; is = p.is }

-- a class of a system where all fits together goes by its name
pub goes-by-name : (s : System) (c : Class) → misfits s ≡ [] → IsAtPlace s.classes c → class_named s.classes c.name ≡ Some c
goes-by-name s c none p =
    let classes : List Misfit = each (class_misfits s (codes "/classes")) 0 s.classes in
    let apps : List Misfit = each (app_misfits s (codes "/apps")) 0 s.apps in
    let pipes : List Misfit = each (pipe_misfits s (codes "/pipes")) 0 s.pipes in
    let e : 0 + p.place ≡ p.place = omega arith in
    let here = subst (λ n. class_misfits s (codes "/classes") n c ≡ []) e (at-place (class_misfits s (codes "/classes")) 0 s.classes p.place c (nil-left classes apps (nil-left (classes ++ apps) pipes none)) p.within p.is) in
    is-first (λ (d : Class). d.name) s.classes p.place c p.within p.is
    (unless-true (is_new (λ (d : Class). d.name) (take p.place s.classes) c.name) code.Repeat (item (codes "/classes") p.place ++ codes "/name")
    (nil-left _ (class_member_misfits (item (codes "/classes") p.place) c) here))

-- the class that declares a topic
pub record Declares (classes : List Class) (topic : Name) (c : Class) (k : EventClass) : Type 0 where
  pub place : IsAtPlace classes c
  pub event : event_in c topic ≡ Some k

declares-step : (d : Class) (classes : List Class) (topic : Name) (o : Option EventClass) (c : Class) (k : EventClass) → event_in d topic ≡ o
    → (event_named classes topic ≡ Some (c, k) → Declares classes topic c k) → with_class d o (event_named classes topic) ≡ Some (c, k) → Declares (d ∷ classes) topic c k
declares-step d classes topic None c k in_it rest is = let r = rest is in record { place = behind d classes c r.place; event = r.event }
declares-step d classes topic (Some e) c k in_it rest is =
    let same : ◌≡◌ {A = Class × EventClass} (d, e) (c, k) = cc in
    let same_class : c ≡ d = sym (ap (λ (z : Class × EventClass). z.0) same) in
    let same_event : e ≡ k = ap (λ (z : Class × EventClass). z.1) same in
    record {
      place = record { place = 0; within = omega arith; is = same_class };
      event = subst (λ z. event_in z topic ≡ Some k) (sym same_class) (subst (λ z. event_in d topic ≡ Some z) same_event in_it);
    }

pub declares : (classes : List Class) (topic : Name) (c : Class) (k : EventClass) → event_named classes topic ≡ Some (c, k) → Declares classes topic c k
declares [] topic c k is = cc
declares (d ∷ classes) topic c k is = declares-step d classes topic (event_in d topic) c k refl (declares classes topic c k) is

-- the class of a declared topic goes by its name
pub class-of-topic : (s : System) (c : Class) (k : EventClass) (topic : Name) → IsCheckedSystem s → event_named s.classes topic ≡ Some (c, k) → class_named s.classes c.name ≡ Some c
class-of-topic s c k topic checked is = goes-by-name s c checked.fits_together (declares s.classes topic c k is).place
