-- Who is there in a world, and what comes of a delivery and of a line.
use Rattle.std.proofs.Common.{◌≡◌, ◌<◌, ◌≤◌, inl, inr, ◌+◌, ◌-◌, ℤ, ℕ, zero, suc, nat_le, Bool, true, false, ◌&&◌, IsTrue, is_some, List, [], ◌∷◌, ◌++◌, length, get_or, le-leb, map, take, slice_get, Contains, if◌then◌else◌, Option, Some, None, Result, Ok, Err, refl, sym, ap, ◌∙◌, subst, arith}
use Rattle.std.proofs.lemmas.List.{length-map, take_more}
use Rattle.std.specs.Result.{IsErr}
use Rattle.std.specs.Str.{bytes_eq}
use Rattle.es_model.specs.declared.declaration.App.{App}
use Rattle.es_model.specs.declared.declaration.System.{System}
use Rattle.es_model.specs.declared.event.StoredEvent.{StoredEvent}
use Rattle.es_model.specs.declared.memory.NoMemory.{NoMemory}
use Rattle.es_model.specs.Declaration.{app_named}
use Rattle.es_model.specs.History.{log}
use Rattle.es_model.specs.Values.{Name}
use Rattle.es_decl.specs.Pairs.{pairs_of}
use Rattle.es_decl.proofs.CheckedSystemLemmas.{declared-name, pair-declared}
use Rattle.es_expr.specs.Checked.{IsCheckedSystem}
use Rattle.es_lines.specs.Requests.{has_class}
use Rattle.es_process.specs.SystemRules.{app_names}
use Rattle.es_process.proofs.AmongLemmas.{contains-cases, contains-none, is-same}
use Rattle.es_process.proofs.PlaceLemmas.{named-found}
use Rattle.es_world.specs.Answers.{Outcome, only, come_to, delivered, is_led, made, made_by}
use Rattle.es_world.specs.Steps.{AreMade, IsMade, left_after}
use Rattle.es_world.specs.Told.{place_in}
use Rattle.es_world.specs.World.{World}
use Rattle.es_world.specs.declared.steps.AppHistory.{AppHistory}
use Rattle.es_world.specs.declared.steps.StepAnswer.{StepAnswer}
use Rattle.es_world.specs.declared.steps.StepAnswer.TheVariants as answer
use Rattle.es_world.specs.declared.steps.WorldStep.{WorldStep}
use Rattle.es_world.proofs.AnswerLaws.{any_pair}
use Rattle.es_world.proofs.LeftLemmas.{not_le}

abbrev pub names_of : List AppHistory → List Name
names_of apps = map (λ (a : AppHistory). a.app) apps

pub same_long : (new old : List AppHistory) → names_of new ≡ names_of old → length new ≡ length old
same_long new old is = sym (length-map new (λ (a : AppHistory). a.app)) ∙ ap length is ∙ length-map old (λ (a : AppHistory). a.app)

placed_by : (b : Bool) (n m : ℕ) → b ≡ true → (if b then 0 else suc n) < suc m
placed_by true n m is = omega arith
placed_by false n m is = absurd (cc is)

placed_later : (b : Bool) (n m : ℕ) → n < m → (if b then 0 else suc n) < suc m
placed_later true n m less = omega arith
placed_later false n m less = omega (arith, less)

-- whose name is among them has a place
pub placed : (apps : List AppHistory) (name : Name) → Contains (names_of apps) name → place_in apps name < length apps
placed [] name so = contains-none name so
placed (a ∷ apps) name so = elim (contains-cases a.app (names_of apps) name so) [
  | inl here ↦ placed_by (bytes_eq name a.app) (place_in apps name) (length apps) (is-same name a.app (sym here))
  | inr behind ↦ placed_later (bytes_eq name a.app) (place_in apps name) (length apps) (placed apps name behind)
]

-- so has who is declared
pub declared-placed : (sys : System) (apps : List AppHistory) (name : Name) → names_of apps ≡ app_names sys → IsTrue (is_some (app_named sys.apps name)) → place_in apps name < length apps
declared-placed sys apps name named is = placed apps name (subst (λ ns. Contains ns name) (sym named) (declared-name sys.apps name is))

pub listed-app : (o : Option App) (class : Name) → IsTrue (has_class o class) → IsTrue (is_some o)
listed-app None class is = absurd (cc is)
listed-app (Some a) class is = refl

-- the two of a pair are declared
pub led-declared : (sys : System) (leader follower : Name) → IsCheckedSystem sys → is_led sys leader follower ≡ true
    → IsTrue (is_some (app_named sys.apps leader)) × IsTrue (is_some (app_named sys.apps follower))
led-declared sys leader follower checked led =
    let both = pair-declared sys (leader, follower) checked (any_pair (leader, follower) (pairs_of sys.pipes) led) in
    (named-found sys.apps leader both.0, named-found sys.apps follower both.1)

-- a delivery where nobody is down, by whether there is such a notification
delivered_by : (sys : System) (w : World) (follower leader : Name) (id : ℕ) (at : ℤ) (there : Bool) → w.down follower ≡ false → w.down leader ≡ false → (is_led sys leader follower && (nat_le 1 id && nat_le id (length (log (w.histories leader))))) ≡ there
    → delivered sys w follower leader id at ≡ (if there then come_to sys follower (w.histories follower) (log (w.histories leader)) leader id at else only answer.NoSuch)
delivered_by sys w follower leader id at there up leader_up is =
    (λ i. if up i then only (answer.Down follower) else (if leader_up i then only (answer.Down leader) else
    (if is i then come_to sys follower (w.histories follower) (log (w.histories leader)) leader id at else only answer.NoSuch)))

within : (entries : List StoredEvent) (n : ℕ) (e : StoredEvent) → slice_get entries n ≡ Some e → n < length entries
within [] n e some = absurd (cc some)
within (f ∷ entries) zero e some = omega arith
within (f ∷ entries) (suc n) e some = let less = within entries n e some in omega (arith, less)

beyond : (entries : List StoredEvent) (n : ℕ) → slice_get entries n ≡ None → length entries ≤ n
beyond [] n none = omega arith
beyond (f ∷ entries) zero none = absurd (cc none)
beyond (f ∷ entries) (suc n) none = let less = beyond entries n none in omega (arith, less)

not_within : (entries : List StoredEvent) (id : ℕ) → 0 < id → slice_get entries (id - 1) ≡ None → nat_le id (length entries) ≡ false
not_within entries id more none = let less = beyond entries (id - 1) none in not_le id (length entries) (omega (arith, more, less))

is_within : (entries : List StoredEvent) (id : ℕ) (e : StoredEvent) → 0 < id → slice_get entries (id - 1) ≡ Some e → nat_le id (length entries) ≡ true
is_within entries id e more some = let less = within entries (id - 1) e some in le-leb id (length entries) (omega (arith, more, less))

one_le : (id : ℕ) → 0 < id → nat_le 1 id ≡ true
one_le id more = le-leb 1 id (omega (arith, more))

none_led : (b c : Bool) → b ≡ false → (b && c) ≡ false
none_led true c is = absurd (cc is)
none_led false c is = refl

none_there : (b c d : Bool) → d ≡ false → (b && (c && d)) ≡ false
none_there true true d is = is
none_there true false d is = refl
none_there false c d is = refl

all_there : (b c d : Bool) → b ≡ true → c ≡ true → d ≡ true → (b && (c && d)) ≡ true
all_there true true d one two three = three
all_there true false d one two three = absurd (cc two)
all_there false c d one two three = absurd (cc one)

module _ (sys : System) (w : World) (follower leader : Name) (id : ℕ) (at : ℤ) (up : w.down follower ≡ false) (leader_up : w.down leader ≡ false) where
  -- there is no such notification, since it isn't led, has the number 0, or isn't in the log
  pub delivered-unled : is_led sys leader follower ≡ false → delivered sys w follower leader id at ≡ only answer.NoSuch
  delivered-unled unled = delivered_by sys w follower leader id at false up leader_up (none_led (is_led sys leader follower) (nat_le 1 id && nat_le id (length (log (w.histories leader)))) unled)

  pub delivered-none : 0 < id → slice_get (log (w.histories leader)) (id - 1) ≡ None → delivered sys w follower leader id at ≡ only answer.NoSuch
  delivered-none more none =
      delivered_by sys w follower leader id at false up leader_up (none_there (is_led sys leader follower) (nat_le 1 id) (nat_le id (length (log (w.histories leader)))) (not_within (log (w.histories leader)) id more none))

  pub delivered-some : (e : StoredEvent) → 0 < id → is_led sys leader follower ≡ true → slice_get (log (w.histories leader)) (id - 1) ≡ Some e
      → delivered sys w follower leader id at ≡ come_to sys follower (w.histories follower) (log (w.histories leader)) leader id at
  delivered-some e more led some =
      delivered_by sys w follower leader id at true up leader_up (all_there (is_led sys leader follower) (nat_le 1 id) (nat_le id (length (log (w.histories leader)))) led (one_le id more) (is_within (log (w.histories leader)) id e more some))

  -- what a delivery of a notification that is there makes, by what comes of it over the same world
  pub delivered-made : (v : World) (n : ℕ) (sure : Bool) (e : StoredEvent) (result : Result StepAnswer NoMemory) (new : World) → v ≡ w → 0 < id → is_led sys leader follower ≡ true → slice_get (log (w.histories leader)) (id - 1) ≡ Some e → n ≡ id
      → ((entries : List StoredEvent) → slice_get entries (n - 1) ≡ Some e → IsMade (made_by v follower sure (come_to sys follower (v.histories follower) entries leader n at)) v result new)
      → IsMade (made_by w follower sure (delivered sys w follower leader id at)) w result new
  delivered-made v n sure e result new same more led some is so =
      let over : IsMade (made_by w follower sure (come_to sys follower (w.histories follower) (log (w.histories leader)) leader id at)) w result new =
      subst (λ m. IsMade (made_by w follower sure (come_to sys follower (w.histories follower) (log (w.histories leader)) leader m at)) w result new) is
      (subst (λ u. IsMade (made_by u follower sure (come_to sys follower (u.histories follower) (log (w.histories leader)) leader n at)) u result new) same
      (so (log (w.histories leader)) (subst (λ m. slice_get (log (w.histories leader)) (m - 1) ≡ Some e) (sym is) some))) in
      subst (λ o. IsMade (made_by w follower sure o) w result new) (sym (delivered-some e more led some)) over

-- where nothing is added, that reason is answered and nothing changes
pub only-made : (w v : World) (app : Name) (sure : Bool) (o : Outcome) (reason : StepAnswer) → o ≡ only reason → v ≡ w → (reason ≡ (made_by w app sure o).answer) × (v ≡ (made_by w app sure o).left)
only-made w v app sure o reason is same = subst (λ p. (reason ≡ (made_by w app sure p).answer) × (v ≡ (made_by w app sure p).left)) (sym is) (refl, same)

-- steps with one more behind them
after-more : (sys : System) (w : World) (steps : List WorldStep) (s : WorldStep) → left_after sys w (steps ++ s ∷ []) ≡ (made sys (left_after sys w steps) s).left
after-more sys w [] s = refl
after-more sys w (t ∷ steps) s = after-more sys (made sys w t).left steps s

pub after-next : (sys : System) (w : World) (steps : List WorldStep) (i : ℕ) (s : WorldStep) → i < length steps → s ≡ get_or steps i s → left_after sys w (take (i + 1) steps) ≡ (made sys (left_after sys w (take i steps)) s).left
after-next sys w steps i s less there = ap (left_after sys w) (take_more steps i s less ∙ ap (λ t. take i steps ++ t ∷ []) (sym there)) ∙ after-more sys w (take i steps) s

-- without memory a front of the steps was made
pub err-made : (sys : System) (old : World) (steps : List WorldStep) (r : Result (Unit {0}) NoMemory) (new : World) → IsErr r → (front rest : List WorldStep) → steps ≡ front ++ rest → new ≡ left_after sys old front → AreMade sys old steps r new
err-made sys old steps (Ok x) new is front rest parts left = absurd (cc is)
err-made sys old steps (Err e) new is front rest parts left = (front, rest, parts, left)
