-- What is stable of applications that are opened and closed, and that no follower comes ahead of it.
use Rattle.std.proofs.Common.{◌≡◌, ◌⊎◌, ◌≤◌, inl, inr, ℕ, zero, suc, Bool, true, false, ◌||◌, List, [], ◌∷◌, ◌++◌, length, Contains, slice_get, Option, Some, None, IfSome, refl, sym, ap, ◌∙◌, subst, append-nil, append_assoc, arith}
use Rattle.std.specs.Str.{bytes_eq}
use Rattle.es_model.specs.declared.event.Recording.{Recording}
use Rattle.es_model.specs.declared.snapshot.Snapshot.{Snapshot}
use Rattle.es_model.specs.History.{Histories, log}
use Rattle.es_model.specs.Tracking.{tracked_in}
use Rattle.es_model.specs.Values.{Name}
use Rattle.es_recorder.specs.Held.{put, SameElsewhere, ClosesTold}
use Rattle.es_recorder.specs.Stable.{IsPrefix, ArePrefixesTold}
use Rattle.es_process.specs.declared.application.Application.{Application}
use Rattle.es_process.specs.Applications.{name_of, recorder_of}
use Rattle.es_process.specs.Contents.{Contents}
use Rattle.es_process.specs.Reached.{tracked_of, last_of}
use Rattle.es_process.specs.SingleThread.{is_among}
use Rattle.es_process.specs.Standing.{AreDistinct, HasStable, HoldContents, TracksWithin, names_in}
use Rattle.es_process.proofs.AmongLemmas.{among-contains, contains-among, contains-last, contains-later, put-here, put-other, same-name, same-or-not}
use Rattle.es_process.proofs.HoldsLemmas.{app-at, at-contains, contains-at, name-at}
use Rattle.es_process.proofs.StableLemmas.{last-grows}
use Rattle.es_top.specs.Opened.{AreFronts, AreHandedOut, AreOpened, ClosesFronts, GrowElsewhere, GrowsBut, GrowsEach}
use Rattle.es_top.specs.Top.{AreWithin, IsLeft, LeaveWithin, Restarts}

-- names

pub differ_false : (a b : Name) → (a ≡ b → ⊥) → bytes_eq a b ≡ false
differ_false a b differ = by (bytes_eq a b) refl
  where
    by : (t : Bool) → bytes_eq a b ≡ t → t ≡ false
    by true is = absurd (differ (same-name a b is))
    by false is = refl

-- another name than the last is among some and the last where it is among them
pub among_others : (names : List Name) (m n : Name) → (n ≡ m → ⊥) → is_among n (names ++ m ∷ []) ≡ is_among n names
among_others [] m n differ = ap (λ b. b || false) (differ_false m n (λ same. differ (sym same)))
among_others (x ∷ names) m n differ = ap (λ b. bytes_eq x n || b) (among_others names m n differ)

-- fronts

front_same : (h : List Recording) → IsPrefix h h
front_same h = ([], sym (append-nil h))

front_then : (f g h : List Recording) → IsPrefix f g → IsPrefix g h → IsPrefix f h
front_then f g h x y = (x.0 ++ y.0, y.1 ∙ ap (λ (k : List Recording). k ++ y.0) x.1 ∙ append_assoc f x.0 y.0)

told_is : {A : Type 0} (x y : A) → Some x ≡ Some y → x ≡ y
told_is x y is = let same : x ≡ y = cc is in same

-- the same names told by stores
pub fronts_of : (h f : Histories) (held stable : Option Histories) → held ≡ Some h → stable ≡ Some f → ArePrefixesTold stable held → (n : Name) → IsPrefix (f n) (h n)
fronts_of h f held stable told surely law = let so : ArePrefixesTold (Some f) (Some h) = subst (λ o. ArePrefixesTold o (Some h)) surely (subst (ArePrefixesTold stable) told law) in so

-- ---- closing

-- one was closed that was out: at its name the stores have what its recorder tells, where it tells, and else what was there
closed_one : (out : Bool) (k : Histories) (name : Name) (v : Option (List Recording)) (new : Option Histories) → out ≡ true → ClosesTold out (Some k) name v new
    → (q : Histories) × (new ≡ Some q) × (IfSome v (λ h. q name ≡ h)) × ((n : Name) → (n ≡ name → ⊥) → q n ≡ k n)
closed_one false k name v new is closes = absurd (cc is)
closed_one true k name (Some x) new is closes = (put k name x, closes, put-here k name x, put-other k name x)
closed_one true k name None None is closes = absurd closes
closed_one true k name None (Some q) is closes =
    (q, refl, tt, λ n differ. sym (put-other q name (k name) n differ) ∙ ap (λ (f : Histories). f n) (closes (k name)) ∙ put-other k name (k name) n differ)

module _ {R : Type 0} (stable : R → Option (List Recording)) where
  -- none was closed
  pub fronts_none : (base : Histories) (now : Option Histories) → now ≡ Some base → AreFronts {R = R} stable [] base now
  fronts_none base now told = record { fronts = base; told = told; each = λ i a at. absurd (cc at); elsewhere = λ n none. refl }

  -- one more was closed
  pub fronts_more : (a : Application R) (closed : List (Application R)) (base : Histories) (mid new : Option Histories) (out : Bool) → out ≡ true → is_among (name_of a) (names_in closed) ≡ false → AreFronts stable closed base mid
      → ClosesTold out mid (name_of a) (stable (recorder_of a)) new → AreFronts stable (a ∷ closed) base new
  fronts_more a closed base mid new out is apart x closes = record { fronts = one.0; told = one.1; each = each; elsewhere = elsewhere }
    where
      one : (q : Histories) × (new ≡ Some q) × (IfSome (stable (recorder_of a)) (λ h. q (name_of a) ≡ h)) × ((n : Name) → (n ≡ name_of a → ⊥) → q n ≡ x.fronts n)
      one = closed_one out x.fronts (name_of a) (stable (recorder_of a)) new is (subst (λ o. ClosesTold out o (name_of a) (stable (recorder_of a)) new) x.told closes)

      another : (i : ℕ) (b : Application R) → slice_get closed i ≡ Some b → name_of b ≡ name_of a → ⊥
      another i b at same =
          let there : is_among (name_of a) (names_in closed) ≡ true = ap (λ n. is_among n (names_in closed)) (sym same) ∙ contains-among (name_of b) (names_in closed) (contains-at (names_in closed) i (name_of b) (name-at closed i b at)) in
          let clash : false ≡ true = sym apart ∙ there in absurd (cc clash)

      kept : (v : Option (List Recording)) (m : Name) → one.0 m ≡ x.fronts m → IfSome v (λ h. x.fronts m ≡ h) → IfSome v (λ h. one.0 m ≡ h)
      kept None m same was = tt
      kept (Some h) m same was = same ∙ was

      each : (i : ℕ) (b : Application R) → slice_get (a ∷ closed) i ≡ Some b → IfSome (stable (recorder_of b)) (λ h. one.0 (name_of b) ≡ h)
      each zero b at = let same : a ≡ b = told_is a b at in subst (λ (y : Application R). IfSome (stable (recorder_of y)) (λ h. one.0 (name_of y) ≡ h)) same one.2
      each (suc i) b at = kept (stable (recorder_of b)) (name_of b) (one.3 (name_of b) (another i b at)) (x.each i b at)

      elsewhere : (n : Name) → is_among n (names_in (a ∷ closed)) ≡ false → one.0 n ≡ base n
      elsewhere n none = by (same-or-not n (name_of a))
        where
          by : (n ≡ name_of a) ⊎ (n ≡ name_of a → ⊥) → one.0 n ≡ base n
          by (inl same) =
              let here : is_among n (names_in (a ∷ closed)) ≡ true = ap (λ m. is_among m (names_in (a ∷ closed))) same ∙ contains-among (name_of a) (names_in (a ∷ closed)) (contains-at (names_in (a ∷ closed)) 0 (name_of a) refl) in
              let clash : false ≡ true = sym none ∙ here in absurd (cc clash)
          by (inr differ) = one.3 n differ ∙ x.elsewhere n (later (is_among n (names_in closed)) refl)
            where
              later : (b : Bool) → is_among n (names_in closed) ≡ b → is_among n (names_in closed) ≡ false
              later false so = so
              later true so =
                  let here : is_among n (names_in (a ∷ closed)) ≡ true = contains-among n (names_in (a ∷ closed)) (contains-later (name_of a) (names_in closed) n (among-contains n (names_in closed) so)) in
                  let clash : false ≡ true = sym none ∙ here in absurd (cc clash)

  -- all were closed
  pub fronts_all : (all left closed : List (Application R)) (out : Name → Bool) (held now : Option Histories) → length left ≡ 0 → all ≡ left ++ closed
      → ((base : Histories) → AreDistinct (names_in all) → ((n : Name) → is_among n (names_in all) ≡ true → out n ≡ true) → held ≡ Some base → AreFronts stable closed base now) → ClosesFronts stable all out held now
  fronts_all all [] closed out held now none parts fronts = λ base distinct outs told. subst (λ (apps : List (Application R)). AreFronts stable apps base now) (sym parts) (fronts base distinct outs told)
  fronts_all all (x ∷ left) closed out held now none parts fronts = absurd (omega (arith, none))

-- ---- opening

-- nothing changed
pub grows_same : (held stable now : Option Histories) → now ≡ stable → GrowsEach held stable now
grows_same held stable now same = λ h base told surely. record { fronts = base; told = same ∙ surely; grows = λ n none. front_same (base n) }

-- one more was handed out
pub grows_more : (names : List Name) (m : Name) (held stable mid now : Option Histories) → GrowsBut names held stable mid → SameElsewhere m mid now → GrowsBut (names ++ m ∷ []) held stable now
grows_more names m held stable mid now earlier same = λ h base told surely. by (earlier h base told surely) now (subst (λ o. SameElsewhere m o now) (earlier h base told surely).told same)
  where
    by : {base : Histories} (x : GrowElsewhere names base mid) (o : Option Histories) → SameElsewhere m (Some x.fronts) o → GrowElsewhere (names ++ m ∷ []) base o
    by x None so = absurd so
    by {base} x (Some q) so = record { fronts = q; told = refl; grows = λ n none. at n none (same-or-not n m) }
      where
        at : (n : Name) → is_among n (names ++ m ∷ []) ≡ false → (n ≡ m) ⊎ (n ≡ m → ⊥) → IsPrefix (base n) (q n)
        at n none (inl is) =
            let here : is_among n (names ++ m ∷ []) ≡ true = contains-among n (names ++ m ∷ []) (subst (Contains (names ++ m ∷ [])) (sym is) (contains-last names m)) in
            let clash : false ≡ true = sym none ∙ here in absurd (cc clash)
        at n none (inr differ) =
            let kept : q n ≡ x.fronts n = sym (put-other q m (x.fronts m) n differ) ∙ ap (λ (f : Histories). f n) (so (x.fronts m)) ∙ put-other x.fronts m (x.fronts m) n differ in
            subst (IsPrefix (base n)) (sym kept) (x.grows n (sym (among_others names m n differ) ∙ none))

-- one was refused after others
pub grows_refused : {R : Type 0} (history : R → Option (List Recording)) (held held_mid stable mid now : Option Histories) (apps : List (Application R)) → AreHandedOut history held held_mid apps → GrowsBut (names_in apps) held stable mid → GrowsEach held_mid mid now
    → GrowsBut (names_in apps) held stable now
grows_refused history held held_mid stable mid now apps handed earlier refused = λ h base told surely.
    let x = earlier h base told surely in
    let y = handed.elsewhere h told in
    let z = refused y.things x.fronts y.told x.told in
    record { fronts = z.fronts; told = z.told; grows = λ n none. front_then (base n) (x.fronts n) (z.fronts n) (x.grows n none) (z.grows n refl) }

-- one was handed out and given back at once, all settled
pub given_whole : (name : Name) (held stable mid now : Option Histories) (told_history told_stable : Option (List Recording)) (out : Bool) → ArePrefixesTold stable held → SameElsewhere name stable mid → IfSome held (λ h. told_history ≡ Some (h name)) → told_stable ≡ told_history → out ≡ true
    → ClosesTold out mid name told_stable now → GrowsEach held stable now
given_whole name held stable mid now told_history told_stable out law same opened whole is closes = λ h base told surely.
    by h base (fronts_of h base held stable told surely law) (whole ∙ subst (λ o. IfSome o (λ k. told_history ≡ Some (k name))) told opened) mid (subst (λ o. SameElsewhere name o mid) surely same) closes
  where
    by : (h base : Histories) → ((n : Name) → IsPrefix (base n) (h n)) → told_stable ≡ Some (h name) → (o : Option Histories) → SameElsewhere name (Some base) o → ClosesTold out o name told_stable now → GrowElsewhere [] base now
    by h base fronts tells None so closed = absurd so
    by h base fronts tells (Some k) so closed = record { fronts = one.0; told = one.1; grows = λ n none. at n (same-or-not n name) }
      where
        one : (q : Histories) × (now ≡ Some q) × (q name ≡ h name) × ((n : Name) → (n ≡ name → ⊥) → q n ≡ k n)
        one = closed_one out k name (Some (h name)) now is (subst (λ v. ClosesTold out (Some k) name v now) tells closed)

        at : (n : Name) → (n ≡ name) ⊎ (n ≡ name → ⊥) → IsPrefix (base n) (one.0 n)
        at n (inl is) = subst (λ m. IsPrefix (base m) (one.0 m)) (sym is) (subst (IsPrefix (base name)) (sym one.2) (fronts name))
        at n (inr differ) =
            let kept : one.0 n ≡ base n = one.3 n differ ∙ (sym (put-other k name (base name) n differ) ∙ ap (λ (f : Histories). f n) (so (base name)) ∙ put-other base name (base name) n differ) in
            subst (IsPrefix (base n)) (sym kept) (front_same (base n))

-- some were handed out and closed again, all settled
pub given_all : {R : Type 0} (history stable : R → Option (List Recording)) (settled : R → Bool) (law : (r : R) → settled r ≡ true → stable r ≡ history r) (capacity faults : R → ℕ) (out last : Name → Bool) (apps : List (Application R)) (held held_mid front mid now : Option Histories)
    → ArePrefixesTold front held → AreOpened settled capacity faults out last apps → AreHandedOut history held held_mid apps → GrowsBut (names_in apps) held front mid → AreDistinct (names_in apps) → ((n : Name) → is_among n (names_in apps) ≡ true → last n ≡ true)
    → ClosesFronts stable apps last mid now → GrowsEach held front now
given_all {R} history stable settled law capacity faults out last apps held held_mid front mid now prefixes opened handed earlier distinct outs closes = λ h base told surely.
    let x = earlier h base told surely in
    let y = closes x.fronts distinct outs x.told in
    record { fronts = y.fronts; told = y.told; grows = λ n none. at h base (fronts_of h base held front told surely prefixes) (handed.each h told) x y n (is_among n (names_in apps)) refl }
  where
    at : (h base : Histories) → ((n : Name) → IsPrefix (base n) (h n)) → ((i : ℕ) (a : Application R) → slice_get apps i ≡ Some a → history (recorder_of a) ≡ Some (h (name_of a))) → (x : GrowElsewhere (names_in apps) base mid) → (y : AreFronts stable apps x.fronts now) → (n : Name) (b : Bool)
        → is_among n (names_in apps) ≡ b → IsPrefix (base n) (y.fronts n)
    at h base fronts tells x y n false none = subst (IsPrefix (base n)) (sym (y.elsewhere n none)) (x.grows n none)
    at h base fronts tells x y n true there =
        let place = at-contains (names_in apps) n (among-contains n (names_in apps) there) in
        let a = app-at apps place.0 n place.1 in
        let tells_so : stable (recorder_of a.0) ≡ Some (h (name_of a.0)) = law (recorder_of a.0) (opened.each place.0 a.0 a.1).whole ∙ tells place.0 a.0 a.1 in
        let is : y.fronts (name_of a.0) ≡ h (name_of a.0) = subst (λ o. IfSome o (λ k. y.fronts (name_of a.0) ≡ k)) tells_so (y.each place.0 a.0 a.1) in
        subst (λ m. IsPrefix (base m) (y.fronts m)) a.2 (subst (IsPrefix (base (name_of a.0))) (sym is) (fronts (name_of a.0)))

-- ---- that no follower comes ahead

-- nothing was run
pub restarts_same : (pairs : List (Name × Name)) (held stable held_now stable_now : Option Histories) (kept : Option (Name → List Snapshot)) → held_now ≡ held → stable_now ≡ stable → Restarts pairs held stable kept held_now stable_now
restarts_same pairs held stable held_now stable_now kept same still = λ opening fronts told surely within. record { histories = opening.histories; fronts = fronts; stores = same ∙ told.histories; surely = still ∙ surely; within = within }

-- opening was refused
pub restarts_refused : (pairs : List (Name × Name)) (held stable held_now stable_now : Option Histories) (kept : Option (Name → List Snapshot)) → IsLeft held held_now → GrowsEach held stable stable_now → Restarts pairs held stable kept held_now stable_now
restarts_refused pairs held stable held_now stable_now kept left grows = λ opening fronts told surely within.
    let x = grows opening.histories fronts told.histories surely in
    record {
      histories = opening.histories;
      fronts = x.fronts;
      stores = subst (λ o. IsLeft o held_now) told.histories left;
      surely = x.told;
      within = λ p there. omega (arith, within p there, last-grows (fronts p.0) (x.fronts p.0) (x.grows p.0 refl));
    }

-- so many notifications are in what the stores hold, where they are in what a recorder tells that was closed
stable_there : (v : Option (List Recording)) (f : List Recording) (id : ℕ) → IfSome v (λ h. f ≡ h) → HasStable v id → id ≤ length (log f)
stable_there None f id is has = absurd has
stable_there (Some h) f id is has = omega (arith, has, ap (λ (k : List Recording). length (log k)) is)

-- the applications were run, and closed
module _ {R : Type 0} (history stable : R → Option (List Recording)) (snapshots : R → Option (List Snapshot)) (pairs : List (Name × Name)) (names : List Name) (named : (p : Name × Name) → Contains pairs p → Contains names p.0) (differ : (p : Name × Name) → Contains pairs p → p.0 ≡ p.1 → ⊥)
    (apps : List (Application R)) (are : names_in apps ≡ names) (opening c : Contents) (held : HoldContents history stable snapshots opening apps c) (fronts : Histories) (whole : (n : Name) → IsPrefix (fronts n) (opening.histories n)) (base : Histories) (now : Option Histories)
    (x : AreFronts stable apps base now) where
  pair_within : (p : Name × Name) → Contains pairs p → tracked_of opening.histories p ≤ last_of fronts p → tracked_of c.histories p ≤ last_of x.fronts p
  pair_within p there within =
      let place = at-contains (names_in apps) p.0 (subst (λ ns. Contains ns p.0) (sym are) (named p there)) in
      let a = app-at apps place.0 p.0 place.1 in
      let before : TracksWithin opening.histories (name_of a.0) p.1 = subst (λ n. TracksWithin opening.histories n p.1) (sym a.2) (omega (arith, within, last-grows (fronts p.0) (opening.histories p.0) (whole p.0))) in
      let has : HasStable (stable (recorder_of a.0)) (tracked_in (c.histories p.1) (name_of a.0)) = held.within place.0 a.0 a.1 p.1 (λ same. differ p there (sym a.2 ∙ same)) before in
      subst (λ n. tracked_in (c.histories p.1) n ≤ length (log (x.fronts n))) a.2 (stable_there (stable (recorder_of a.0)) (x.fronts (name_of a.0)) (tracked_in (c.histories p.1) (name_of a.0)) (x.each place.0 a.0 a.1) has)

  pub closed_within : (held_now : Option Histories) → held_now ≡ Some c.histories → AreWithin pairs opening.histories fronts → LeaveWithin pairs held_now now
  closed_within held_now told within = record { histories = c.histories; fronts = x.fronts; stores = told; surely = x.told; within = λ p there. pair_within p there (within p there) }
