-- Applications that are opened and closed one after another.
use Rattle.std.proofs.Common.{◌≡◌, ◌⊎◌, ◌<◌, ◌≤◌, ◌+◌, inl, inr, ℕ, zero, suc, Bool, true, false, ◌||◌, List, [], ◌∷◌, ◌++◌, length, map, drop, Contains, slice_get, slice_set, get_or, if◌then◌else◌, Option, Some, None, IfSome, refl, sym, ap, ◌∙◌, subst, append_assoc, append-nil, arith}
use Rattle.std.proofs.lemmas.List.{map-append, length-map}
use Rattle.std.proofs.lemmas.Option.{slice_get-get_or}
use Rattle.std.proofs.Math.Seq.{drop-cons}
use Rattle.es_model.specs.declared.declaration.App.{App}
use Rattle.es_model.specs.declared.event.Recording.{Recording}
use Rattle.es_model.specs.declared.snapshot.Snapshot.{Snapshot}
use Rattle.es_model.specs.Causes.{Rose}
use Rattle.es_model.specs.History.{Histories}
use Rattle.es_model.specs.Values.{Name}
use Rattle.es_io.specs.Readings.{Readings}
use Rattle.es_recorder.specs.Held.{put, SameElsewhere, ClosesTold, Closes}
use Rattle.es_process.specs.declared.application.Application.{Application}
use Rattle.es_process.specs.Applications.{recorder_of}
use Rattle.es_process.specs.Contents.{Contents}
use Rattle.es_process.specs.SingleThread.{is_among}
use Rattle.es_process.specs.Standing.{HoldsOne, Holds, AreDistinct, IsSame, names_in, faults_at, count_of}
use Rattle.es_process.proofs.AmongLemmas.{among-contains, contains-among, contains-last, is-same, put-cases, put-here, put-other, same-or-not}
use Rattle.es_process.proofs.HoldsLemmas.{contains-at, name-at, same-one, later-then, later-set}
use Rattle.es_process.proofs.SetLemmas.{get-cases, map-set}
use Rattle.es_top.specs.Limits.{limits}
use Rattle.es_top.specs.Runs.{state_of}
use Rattle.es_top.specs.Opened.{marked, HoldElsewhere, TellEach, AreFronts, AreHandedOut, AreFresh, AreKept, ClosesEach, SomeFailed, IsUnused, AreOpened, IsFrontOfNames}
use Rattle.es_top.specs.Top.{IsLeft, StoresTell}
use Rattle.es_top.proofs.StableLemmas.{among_others, differ_false, fronts_more, fronts_none}

-- names

-- something is put at a last name, or a first one
marks_last : (out now : Name → Bool) (names : List Name) (m : Name) (v : Bool) (n : Name) → now n ≡ marked out names v n → put now m v n ≡ marked out (names ++ m ∷ []) v n
marks_last out now names m v n before = by (same-or-not n m)
  where
    by : (n ≡ m) ⊎ (n ≡ m → ⊥) → put now m v n ≡ marked out (names ++ m ∷ []) v n
    by (inl same) =
        let here : is_among n (names ++ m ∷ []) ≡ true = contains-among n (names ++ m ∷ []) (subst (Contains (names ++ m ∷ [])) (sym same) (contains-last names m)) in
        ap (put now m v) same ∙ put-here now m v ∙ sym (λ i. if here i then v else out n)
    by (inr differ) = put-other now m v n differ ∙ before ∙ sym (λ i. if among_others names m n differ i then v else out n)

marks_first : (out now : Name → Bool) (names : List Name) (m : Name) (v : Bool) (n : Name) → now n ≡ marked out names v n → put now m v n ≡ marked out (m ∷ names) v n
marks_first out now names m v n before = by (same-or-not n m)
  where
    by : (n ≡ m) ⊎ (n ≡ m → ⊥) → put now m v n ≡ marked out (m ∷ names) v n
    by (inl same) = ap (put now m v) same ∙ put-here now m v ∙ sym (λ i. if is-same m n (sym same) i || is_among n names then v else out n)
    by (inr differ) = put-other now m v n differ ∙ before ∙ sym (λ i. if differ_false m n (λ same. differ (sym same)) i || is_among n names then v else out n)

-- where a mark isn't there, the name isn't marked, and wasn't before
unmarked : (b before : Bool) → (if b then true else before) ≡ false → (b ≡ false) × (before ≡ false)
unmarked true before is = absurd (cc is)
unmarked false before is = (refl, is)

get-front : {A : Type 0} (xs ys : List A) (i : ℕ) (x : A) → slice_get xs i ≡ Some x → slice_get (xs ++ ys) i ≡ Some x
get-front [] ys i x at = absurd (cc at)
get-front (z ∷ xs) ys zero x at = at
get-front (z ∷ xs) ys (suc i) x at = get-front xs ys i x at

pub distinct_front : (names all : List Name) → IsFrontOfNames names all → AreDistinct all → AreDistinct names
distinct_front names all (rest, is) distinct i j n at there =
    let whole : AreDistinct (names ++ rest) = subst AreDistinct (sym is) distinct in
    whole i j n (get-front names rest i n at) (get-front names rest j n there)

distinct_rest : (m : Name) (names : List Name) → AreDistinct (m ∷ names) → AreDistinct names
distinct_rest m names distinct i j n at there = let same : suc i ≡ suc j = distinct (suc i) (suc j) n at there in (let e : i ≡ j = omega (arith, same) in e)

distinct_back : (front names : List Name) → AreDistinct (front ++ names) → AreDistinct names
distinct_back [] names distinct = distinct
distinct_back (m ∷ front) names distinct = distinct_back front names (distinct_rest m (front ++ names) distinct)

abbrev contains_get : {A : Type 0} (xs : List A) (x : A) → Contains xs x → (i : ℕ) × (slice_get xs i ≡ Some x)
contains_get xs x so = (so.0, slice_get-get_or xs so.0 x so.1 ∙ ap Some so.2)

first_apart : (m : Name) (names : List Name) → AreDistinct (m ∷ names) → is_among m names ≡ false
first_apart m names distinct = by (is_among m names) refl
  where
    by : (b : Bool) → is_among m names ≡ b → b ≡ false
    by true is = absurd (let again = contains_get names m (among-contains m names is) in (let same : 0 ≡ suc again.0 = distinct 0 (suc again.0) m refl again.1 in (omega (arith, same))))
    by false is = refl

-- each of some items, and a last one
get-push : {A : Type 0} (P : A → Type 0) (xs : List A) (x : A) → ((i : ℕ) (y : A) → slice_get xs i ≡ Some y → P y) → P x → (i : ℕ) (y : A) → slice_get (xs ++ x ∷ []) i ≡ Some y → P y
get-push P [] x each last zero y at = subst P (let is : x ≡ y = cc in is) last
get-push P [] x each last (suc i) y at = absurd (cc at)
get-push P (z ∷ xs) x each last zero y at = each 0 y at
get-push P (z ∷ xs) x each last (suc i) y at = get-push P xs x (λ j. each (suc j)) last i y at

get-middle : {A : Type 0} (xs : List A) (x : A) (ys : List A) → slice_get (xs ++ x ∷ ys) (length xs) ≡ Some x
get-middle [] x ys = refl
get-middle (z ∷ xs) x ys = get-middle xs x ys

pub names_length : {R : Type 0} (apps : List (Application R)) → length (names_in apps) ≡ length apps
names_length apps = length-map apps (λ a. a.name)

-- names of applications that are opened in order
pub names_more : (apps : List App) (i : ℕ) (a : App) (done : List Name) (m : Name) → i < length apps → a ≡ get_or apps i a → m ≡ a.name → done ++ map (λ (b : App). b.name) (drop i apps) ≡ map (λ (b : App). b.name) apps
    → (done ++ m ∷ []) ++ map (λ (b : App). b.name) (drop (i + 1) apps) ≡ map (λ (b : App). b.name) apps
names_more apps i a done m within is named before =
    let place : suc i ≡ i + 1 = omega arith in
    let next : drop i apps ≡ a ∷ drop (i + 1) apps = drop-cons apps i a within ∙ (λ k. sym is k ∷ drop (place k) apps) in
    append_assoc done (m ∷ []) (map (λ (b : App). b.name) (drop (i + 1) apps))
    ∙ ap (λ (n : Name). done ++ n ∷ map (λ (b : App). b.name) (drop (i + 1) apps)) named
    ∙ ap (λ (xs : List App). done ++ map (λ (b : App). b.name) xs) (sym next)
    ∙ before

-- the stores after one more was opened
elsewhere_more : {A : Type 0} (names : List Name) (m : Name) (h : Name → A) (mid now : Option (Name → A)) → HoldElsewhere names h mid → SameElsewhere m mid now → HoldElsewhere (names ++ m ∷ []) h now
elsewhere_more names m h None now x same = absurd (let none : None ≡ Some x.things = x.told in cc none)
elsewhere_more names m h (Some k) None x same = absurd same
elsewhere_more {A} names m h (Some k) (Some q) x same = record {
  things = q;
  told = refl;
  same = λ n none. apart n none (same-or-not n m);
}
  where
    known : k ≡ x.things
    known = let told : Some k ≡ Some x.things = x.told in (let is : k ≡ x.things = cc in is)

    apart : (n : Name) → is_among n (names ++ m ∷ []) ≡ false → (n ≡ m) ⊎ (n ≡ m → ⊥) → q n ≡ h n
    apart n none (inl is) =
        let here : is_among n (names ++ m ∷ []) ≡ true = contains-among n (names ++ m ∷ []) (subst (Contains (names ++ m ∷ [])) (sym is) (contains-last names m)) in
        absurd (let clash : false ≡ true = sym none ∙ here in cc clash)
    apart n none (inr differ) =
        sym (put-other q m (k m) n differ) ∙ ap (λ (f : Name → A). f n) (same (k m)) ∙ put-other k m (k m) n differ ∙ ap (λ (f : Name → A). f n) known ∙ x.same n (sym (among_others names m n differ) ∙ none)

-- what its recorder tells
opened_told : {A : Type 0} (names : List Name) (m : Name) (h : Name → A) (mid : Option (Name → A)) (u : Option A) → HoldElsewhere names h mid → is_among m names ≡ false → IfSome mid (λ k. u ≡ Some (k m)) → u ≡ Some (h m)
opened_told names m h None u x none told = absurd (let nothing : None ≡ Some x.things = x.told in cc nothing)
opened_told {A} names m h (Some k) u x none told =
    let known : k ≡ x.things = (let is : Some k ≡ Some x.things = x.told in (let same : k ≡ x.things = cc in same)) in
    told ∙ ap (λ (f : Name → A). Some (f m)) known ∙ ap Some (x.same m none)

closes_at : {A : Type 0} (out : Bool) (mid : Option (Name → A)) (k : Name → A) (name : Name) (x : A) (v : Option A) (new : Option (Name → A)) → out ≡ true → mid ≡ Some k → v ≡ Some x → ClosesTold out mid name v new → new ≡ Some (put k name x)
closes_at out mid k name x v new is told known closes =
    subst (λ b. Closes b k name x new) is (subst (λ o. ClosesTold out (Some k) name o new) known (subst (λ o. ClosesTold out o name v new) told closes))

nil_of : {A : Type 0} (xs : List A) → length xs ≡ 0 → xs ≡ []
nil_of [] none = refl
nil_of (x ∷ xs) none = absurd (omega (arith, none))

pub names_last : {R : Type 0} (apps : List (Application R)) (a : Application R) → names_in (apps ++ a ∷ []) ≡ names_in apps ++ a.name ∷ []
names_last {R} apps a = map-append (λ (b : Application R). b.name) apps (a ∷ [])

-- a recorder that was handed out and given back: the stores are as they were
put-own : {A : Type 0} (h : Name → A) (name : Name) (n : Name) → put h name (h name) n ≡ h n
put-own h name n = by (same-or-not n name)
  where
    by : (n ≡ name) ⊎ (n ≡ name → ⊥) → put h name (h name) n ≡ h n
    by (inl same) = ap (put h name (h name)) same ∙ put-here h name (h name) ∙ ap h (sym same)
    by (inr differ) = put-other h name (h name) n differ

pub given_back : {A : Type 0} (name : Name) (held mid : Option (Name → A)) (v : Option A) (out : Bool) (new : Option (Name → A)) → SameElsewhere name held mid → IfSome held (λ h. v ≡ Some (h name)) → out ≡ true → ClosesTold out mid name v new → IsLeft held new
given_back name None mid v out new same told is closes = tt
given_back name (Some h) None v out new same told is closes = absurd same
given_back name (Some h) (Some k) v out new same told is closes =
    closes_at out (Some k) k name (h name) v new is refl told closes ∙ ap Some (same (h name) ∙ (λ i n. put-own h name n i))

pub marked_back : (out middle last : Name → Bool) (name : Name) → out name ≡ false → ((n : Name) → middle n ≡ put out name true n) → ((n : Name) → last n ≡ put middle name false n) → (n : Name) → last n ≡ out n
marked_back out middle last name was_in opens closes n = by (same-or-not n name)
  where
    by : (n ≡ name) ⊎ (n ≡ name → ⊥) → last n ≡ out n
    by (inl same) = closes n ∙ ap (put middle name false) same ∙ put-here middle name false ∙ sym was_in ∙ ap out (sym same)
    by (inr differ) = closes n ∙ put-other middle name false n differ ∙ opens n ∙ put-other out name true n differ

pub marked_out_at : (out middle : Name → Bool) (name : Name) → ((n : Name) → middle n ≡ put out name true n) → middle name ≡ true
marked_out_at out middle name opens = opens name ∙ put-here out name true

-- stores that hold what they held
pub handed_still : {A R : Type 0} (tell : R → Option A) (held mid now : Option (Name → A)) (apps : List (Application R)) → AreHandedOut tell held mid apps → IsLeft mid now → AreHandedOut tell held now apps
handed_still tell held mid now apps x left = record {
  each = x.each;
  elsewhere = λ q known. let y = x.elsewhere q known in record { things = y.things; told = subst (λ o. IsLeft o now) y.told left; same = y.same };
}

named_at : (declared : List App) (n : ℕ) (x : Name) (d : App) → slice_get (map (λ (a : App). a.name) declared) n ≡ Some x → (get_or declared n d).name ≡ x
named_at [] n x d at = absurd (cc at)
named_at (y ∷ ys) zero x d at = let same : y.name ≡ x = cc at in same
named_at (y ∷ ys) (suc n) x d at = named_at ys n x d at

-- the last of some applications that are the first of those that are declared stands there under its name
pub named_there : {R : Type 0} (declared : List App) (apps rest : List (Application R)) (a : Application R) (n : ℕ) (other : App) → IsFrontOfNames (names_in apps) (map (λ (d : App). d.name) declared) → apps ≡ rest ++ a ∷ [] → n ≡ length rest
    → (get_or declared n other).name ≡ a.name
named_there declared apps rest a n other front is at = named_at declared n a.name other
    ((λ i. slice_get (map (λ (d : App). d.name) declared) (at i))
    ∙ ap (λ (names : List Name). slice_get names (length rest)) (sym front.1 ∙ ap (λ (names : List Name). names ++ front.0) (ap names_in is ∙ names_last rest a) ∙ append_assoc (names_in rest) (a.name ∷ []) front.0)
    ∙ (λ i. slice_get (names_in rest ++ a.name ∷ front.0) (sym (names_length rest) i))
    ∙ get-middle (names_in rest) a.name front.0)

-- and those before it are the first
pub front_before : {R : Type 0} (declared : List App) (apps rest : List (Application R)) (a : Application R) → IsFrontOfNames (names_in apps) (map (λ (d : App). d.name) declared) → apps ≡ rest ++ a ∷ [] → IsFrontOfNames (names_in rest) (map (λ (d : App). d.name) declared)
front_before declared apps rest a front is =
    (a.name ∷ front.0, sym (append_assoc (names_in rest) (a.name ∷ []) front.0) ∙ ap (λ (names : List Name). names ++ front.0) (sym (ap names_in is ∙ names_last rest a)) ∙ front.1)

-- what some applications leave in the stores, where those left over are still open
abbrev pub LeaveOpen : {A R : Type 0} → (R → Option A) → (all left : List (Application R)) → (Name → Bool) → (held now : Option (Name → A)) → Type 0
LeaveOpen {A} {R} tell all left out held now = (base q : Name → A) → AreDistinct (names_in all) → ((n : Name) → is_among n (names_in all) ≡ true → out n ≡ true) → HoldElsewhere (names_in all) base held → TellEach tell q all
    → ((n : Name) → is_among n (names_in all) ≡ false → q n ≡ base n) → HoldElsewhere (names_in left) q now

leave_none : {A R : Type 0} (tell : R → Option A) (all : List (Application R)) (out : Name → Bool) (held : Option (Name → A)) → LeaveOpen tell all all out held held
leave_none tell all out held = λ base q distinct outs elsewhere tells others. record { things = elsewhere.things; told = elsewhere.told; same = λ n none. elsewhere.same n none ∙ sym (others n none) }

-- all were closed, and the stores hold what they told
pub leave_all : {A R : Type 0} (tell : R → Option A) (all left : List (Application R)) (out : Name → Bool) (held now : Option (Name → A)) → length left ≡ 0 → LeaveOpen tell all left out held now → ClosesEach tell all out held now
leave_all {A} {R} tell all left out held now none leaves = λ base q distinct outs elsewhere tells others.
    let y = leaves base q distinct outs elsewhere tells others in
    y.told ∙ ap Some (λ i n. y.same n (ap (λ (l : List (Application R)). is_among n (names_in l)) (nil_of left none)) i)

module _ {R : Type 0} (settled : R → Bool) (capacity faults : R → ℕ) where
  -- one more was opened
  module _ (out middle : Name → Bool) (apps : List (Application R)) (a : Application R) (name : Name) (x : AreOpened settled capacity faults out middle apps) (named : a.name ≡ name) (was_in : middle name ≡ false) where
    own_was_in : middle a.name ≡ false
    own_was_in = ap middle named ∙ was_in

    apart : (is_among a.name (names_in apps) ≡ false) × (out a.name ≡ false)
    apart = unmarked (is_among a.name (names_in apps)) (out a.name) (sym (x.marks a.name) ∙ own_was_in)

    pub opened_more : (last : Name → Bool) → IsUnused settled capacity faults a → ((n : Name) → last n ≡ put middle name true n) → AreOpened settled capacity faults out last (apps ++ a ∷ [])
    opened_more last unused marks = record {
      each = get-push (IsUnused settled capacity faults) apps a x.each unused;
      marks = λ n. marks n ∙ ap (λ m. put middle m true n) (sym named) ∙ marks_last out middle (names_in apps) a.name true n (x.marks n) ∙ ap (λ (names : List Name). marked out names true n) (sym (names_last apps a));
      were_in = λ n there. by n (ap (is_among n) (sym (names_last apps a)) ∙ there) (same-or-not n a.name);
    }
      where
        by : (n : Name) → is_among n (names_in apps ++ a.name ∷ []) ≡ true → (n ≡ a.name) ⊎ (n ≡ a.name → ⊥) → out n ≡ false
        by n there (inl is) = ap out is ∙ apart.1
        by n there (inr differ) = x.were_in n (sym (among_others (names_in apps) a.name n differ) ∙ there)

    pub handed_more : {A : Type 0} (tell : R → Option A) (held mid now : Option (Name → A)) → AreHandedOut tell held mid apps → IfSome mid (λ q. tell (recorder_of a) ≡ Some (q name)) → SameElsewhere name mid now → AreHandedOut tell held now (apps ++ a ∷ [])
    handed_more {A} tell held mid now y told same = record {
      each = λ q known.
          get-push (λ (b : Application R). tell (recorder_of b) ≡ Some (q b.name)) apps a (y.each q known)
          (opened_told (names_in apps) a.name q mid (tell (recorder_of a)) (y.elsewhere q known) apart.0 (subst (λ n. IfSome mid (λ k. tell (recorder_of a) ≡ Some (k n))) (sym named) told));
      elsewhere = λ q known.
          subst (λ (names : List Name). HoldElsewhere names q now) (sym (names_last apps a)) (elsewhere_more (names_in apps) a.name q mid now (y.elsewhere q known) (subst (λ n. SameElsewhere n mid now) (sym named) same));
    }

  -- all were opened
  module _ (out last : Name → Bool) (apps : List (Application R)) (x : AreOpened settled capacity faults out last apps) where
    pub opened_holds : (history : R → Option (List Recording)) (snapshots : R → Option (List Snapshot)) (held now : Option Histories) (kept kept_now : Option (Name → List Snapshot)) → AreHandedOut history held now apps → AreHandedOut snapshots kept kept_now apps
        → (readings : Option Readings) (r : Readings) (opening : Contents) → readings ≡ Some r → StoresTell opening held kept → Holds history settled snapshots capacity opening limits apps readings (state_of opening r)
    opened_holds history snapshots held now kept kept_now y z readings r opening reads stores = record {
      each = λ i a at.
          let one = x.each i a at in
          record {
            told = y.each opening.histories stores.histories i a at;
            told_snapshots = z.each opening.snapshots stores.snapshots i a at;
            whole = one.whole;
            room = one.room;
            turns = one.turns;
            counted = one.unused;
          };
      clock = reads;
      within = λ leader follower differ was. was;
      elsewhere = record { histories = λ n none. refl; snapshots = λ n none. refl };
    }

    pub opened_fresh : AreFresh faults apps
    opened_fresh i = by (slice_get apps i) refl
      where
        by : (o : Option (Application R)) → slice_get apps i ≡ o → count_of faults o ≡ 0
        by None at = refl
        by (Some a) at = (x.each i a at).fresh

    pub marked_out : (n : Name) → is_among n (names_in apps) ≡ true → last n ≡ true
    marked_out n there = x.marks n ∙ (λ i. if there i then true else out n)

    -- and closed again
    pub opened_left : {A : Type 0} (tell : R → Option A) (held now : Option (Name → A)) → AreHandedOut tell held now apps → (new : Option (Name → A)) → ClosesEach tell apps last now new → AreDistinct (names_in apps) → IsLeft held new
    opened_left {A} tell held now y new closed distinct = by held refl
      where
        by : (o : Option (Name → A)) → held ≡ o → IsLeft o new
        by None known = tt
        by (Some q) known = closed q q distinct marked_out (y.elsewhere q known) (y.each q known) (λ n none. refl)

module _ {R : Type 0} (history stable : R → Option (List Recording)) (snapshots : R → Option (List Snapshot)) (faults : R → ℕ) where
  -- some of all were closed, the last ones first
  pub record Closing (all left : List (Application R)) (held now front front_now : Option Histories) (kept kept_now : Option (Name → List Snapshot)) (out last : Name → Bool) (before after : ℕ) : Type 0 where
    pub closed : List (Application R)
    pub parts : all ≡ left ++ closed
    pub marks : (n : Name) → last n ≡ marked out (names_in closed) false n
    pub later : before ≤ after
    pub risen : SomeFailed faults closed → Rose before after
    pub holds : LeaveOpen history all left out held now
    pub keeps : LeaveOpen snapshots all left out kept kept_now
    pub fronts : (base : Histories) → AreDistinct (names_in all) → ((n : Name) → is_among n (names_in all) ≡ true → out n ≡ true) → front ≡ Some base → AreFronts stable closed base front_now

  pub closing_none : (all : List (Application R)) (held front : Option Histories) (kept : Option (Name → List Snapshot)) (out : Name → Bool) (before : ℕ) → Closing all all held held front front kept kept out out before before
  closing_none all held front kept out before = record {
    closed = [];
    parts = sym (append-nil all);
    marks = λ n. refl;
    later = omega arith;
    risen = λ some. absurd (let none : 0 < 0 = some.1 in omega (arith, none));
    holds = leave_none history all out held;
    keeps = leave_none snapshots all out kept;
    fronts = λ base distinct outs told. fronts_none stable base front told;
  }

  module _ (all left rest : List (Application R)) (a : Application R) (held mid front front_mid : Option Histories) (kept kept_mid : Option (Name → List Snapshot)) (out middle : Name → Bool) (before count : ℕ)
      (x : Closing all left held mid front front_mid kept kept_mid out middle before count) (is : left ≡ rest ++ a ∷ []) where
    parted : all ≡ rest ++ a ∷ x.closed
    parted = x.parts ∙ ap (λ (l : List (Application R)). l ++ x.closed) is ∙ append_assoc rest (a ∷ []) x.closed

    at_place : slice_get all (length rest) ≡ Some a
    at_place = ap (λ (l : List (Application R)). slice_get l (length rest)) parted ∙ get-middle rest a x.closed

    names_parted : names_in all ≡ names_in rest ++ a.name ∷ names_in x.closed
    names_parted = ap names_in parted ∙ map-append (λ (b : Application R). b.name) rest (a ∷ x.closed)

    not_closed : AreDistinct (names_in all) → is_among a.name (names_in x.closed) ≡ false
    not_closed distinct = first_apart a.name (names_in x.closed) (distinct_back (names_in rest) (a.name ∷ names_in x.closed) (subst AreDistinct names_parted distinct))

    still_out : AreDistinct (names_in all) → ((n : Name) → is_among n (names_in all) ≡ true → out n ≡ true) → middle a.name ≡ true
    still_out distinct outs =
        x.marks a.name ∙ (λ i. if not_closed distinct i then false else out a.name) ∙ outs a.name (contains-among a.name (names_in all) (contains-at (names_in all) (length rest) a.name (name-at all (length rest) a at_place)))

    leave_more : {A : Type 0} (tell : R → Option A) (told was new : Option (Name → A)) → LeaveOpen tell all left out told was → ClosesTold (middle a.name) was a.name (tell (recorder_of a)) new → LeaveOpen tell all rest out told new
    leave_more tell told was new earlier closes = λ base q distinct outs elsewhere tells others.
        let y = earlier base q distinct outs elsewhere tells others in
        record {
          things = put y.things a.name (q a.name);
          told = closes_at (middle a.name) was y.things a.name (q a.name) (tell (recorder_of a)) new (still_out distinct outs) y.told (tells (length rest) a at_place) closes;
          same = λ n none. put-cases (λ m v. v ≡ q m) y.things a.name (q a.name) n refl
              (λ differ. y.same n (ap (λ (l : List (Application R)). is_among n (names_in l)) is ∙ ap (is_among n) (names_last rest a) ∙ among_others (names_in rest) a.name n differ ∙ none));
        }

    pub closing_more : (now front_now : Option Histories) (kept_now : Option (Name → List Snapshot)) (last : Name → Bool) (after : ℕ) → ClosesTold (middle a.name) mid a.name (history (recorder_of a)) now → ClosesTold (middle a.name) kept_mid a.name (snapshots (recorder_of a)) kept_now
        → ClosesTold (middle a.name) front_mid a.name (stable (recorder_of a)) front_now → ((n : Name) → last n ≡ put middle a.name false n) → count ≤ after → (0 < faults (recorder_of a) → Rose count after)
        → Closing all rest held now front front_now kept kept_now out last before after
    closing_more now front_now kept_now last after closes keeps settles again later risen = record {
      closed = a ∷ x.closed;
      parts = parted;
      marks = λ n. again n ∙ marks_first out middle (names_in x.closed) a.name false n (x.marks n);
      later = omega (arith, x.later, later);
      risen = λ some. rises some.0 some.1;
      holds = leave_more history held mid now x.holds closes;
      keeps = leave_more snapshots kept kept_mid kept_now x.keeps keeps;
      fronts = λ base distinct outs told. fronts_more stable a x.closed base front_mid front_now (middle a.name) (still_out distinct outs) (not_closed distinct) (x.fronts base distinct outs told) settles;
    }
      where
        rises : (i : ℕ) → 0 < faults_at faults (a ∷ x.closed) i → Rose before after
        rises zero some = omega (arith, x.later, risen some)
        rises (suc i) some = omega (arith, x.risen (i, some), later)

module _ {R : Type 0} (history : R → Option (List Recording)) (settled : R → Bool) (capacity : R → ℕ) (snapshots : R → Option (List Snapshot)) (faults : R → ℕ) where
  -- where one of them is the same they tell the same
  tells_set : {A : Type 0} (tell : R → Option A) (q : Name → A) (mid : List (Application R)) (i : ℕ) (a b : Application R) → slice_get mid i ≡ Some a → b.name ≡ a.name → tell (recorder_of b) ≡ tell (recorder_of a) → TellEach tell q mid → TellEach tell q (slice_set mid i b)
  tells_set tell q mid i a b at named same tells = λ j c there.
      get-cases (λ (y : Application R). tell (recorder_of y) ≡ Some (q y.name)) mid i j b a c at there (same ∙ tells i a at ∙ ap (λ n. Some (q n)) (sym named)) (λ other was. tells j c was)

  pub kept_more : (old mid : List (Application R)) (i : ℕ) (a b : Application R) → AreKept history settled capacity snapshots faults old mid → slice_get mid i ≡ Some a → IsSame history settled capacity snapshots faults a b → AreKept history settled capacity snapshots faults old (slice_set mid i b)
  kept_more old mid i a b x at same =
      let kept : names_in (slice_set mid i b) ≡ names_in mid = map-set (λ (c : Application R). c.name) mid i b a at same.stays.name in
      record {
        holds = λ base options readings s first.
            let held = x.holds base options readings s first in
            record {
              each = λ j c there. get-cases (λ (y : Application R). HoldsOne history settled snapshots capacity options y s) mid i j b a c at there (same-one history settled snapshots capacity options a b s same (held.each i a at)) (λ other was. held.each j c was);
              clock = held.clock;
              within = held.within;
              elsewhere = record {
                histories = λ n none. held.elsewhere.histories n (ap (is_among n) (sym kept) ∙ none);
                snapshots = λ n none. held.elsewhere.snapshots n (ap (is_among n) (sym kept) ∙ none);
              };
            };
        tells = record {
          told = λ h tells. tells_set history h mid i a b at same.stays.name same.told (x.tells.told h tells);
          told_snapshots = λ q tells. tells_set snapshots q mid i a b at same.stays.name same.kept (x.tells.told_snapshots q tells);
        };
        stay = record {
          names = kept ∙ x.stay.names;
          later = later-then faults old mid (slice_set mid i b) x.stay.later (later-set faults mid i a b at same.stays.later);
        };
      }

  -- what one of them holds
  pub told_at : (h : Histories) (old mid : List (Application R)) (i : ℕ) (a : Application R) → AreKept history settled capacity snapshots faults old mid → TellEach history h old → slice_get mid i ≡ Some a
      → (history (recorder_of a) ≡ Some (h a.name)) × (slice_get (names_in old) i ≡ Some a.name)
  told_at h old mid i a x tells at = (x.tells.told h tells i a at, ap (λ (names : List Name). slice_get names i) (sym x.stay.names) ∙ name-at mid i a at)
