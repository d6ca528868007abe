-- What a reader over a recorder tells, and that it answers by it.
use Rattle.std.proofs.Common.{◌≡◌, ◌∙◌, Bool, true, false, List, [], ◌∷◌, ◌++◌, Option, None, Some, Result, Ok, Err, IfSome, refl, sym, ap, subst, if◌then◌else◌}
use Rattle.std.specs.Str.{bytes_eq}
use Rattle.std.proofs.lemmas.Slice.Eq.{bytes_eq-Decides}
use Rattle.es_model.specs.History.{log, IsFormed}
use Rattle.es_model.specs.Rising.{item_of}
use Rattle.es_model.specs.Values.{Id}
use Rattle.es_model.specs.declared.declaration.System.{System}
use Rattle.es_model.specs.declared.event.Notification.{Notification}
use Rattle.es_model.specs.declared.event.Recording.{Recording}
use Rattle.es_domain.specs.Decision.{Decided, Decides, DecidesTold}
use Rattle.es_domain.specs.Readings.{Readings, Reading, folded, unreadable, IsReading, AreReadings, Told, TellsOnce, AnswersBy, Finds, FindsTold}
use Rattle.es_domain.specs.declared.aggregate.Aggregate.{Aggregate}
use Rattle.es_domain.specs.declared.find.FindFault.{FindFault}
use Rattle.es_domain.specs.declared.find.FindFault.TheVariants.{Unreadable, Failed, NoMemory}
use Rattle.es_domain.proofs.ToldLemmas.{item-cons}
use Rattle.es_repo.specs.inner.Reader.{told_by, told_of, is_among, noted, Notes, Reads}
use Rattle.es_repo.specs.Readings.{notifications_of, read_from, readings_of, reading_at}
use Rattle.es_repo.proofs.LogLemmas.{all-own, upto-latest}
use Rattle.es_repo.proofs.ReadingLemmas.{reading-is, only-reading}

module _ (h : List Recording) (id : Id) where
  item-step : (b : Bool) (x : Id) (asked : List Id) → bytes_eq x id ≡ b → item_of (told_by asked h) id ≡ (if is_among asked id then Some (notifications_of (log h) id) else None)
      → item_of (told_by (x ∷ asked) h) id ≡ (if is_among (x ∷ asked) id then Some (notifications_of (log h) id) else None)
  item-step true x asked is rest =
      item-cons (x, notifications_of (log h) x) (told_by asked h) id true is ∙ ap (λ i. Some (notifications_of (log h) i)) ((bytes_eq-Decides x id).0 is) ∙ rw is refl
  item-step false x asked is rest = item-cons (x, notifications_of (log h) x) (told_by asked h) id false is ∙ rest ∙ rw is refl

  -- what is told of an id
  told-item : (asked : List Id) → item_of (told_by asked h) id ≡ (if is_among asked id then Some (notifications_of (log h) id) else None)
  told-item [] = refl
  told-item (x ∷ asked) = item-step (bytes_eq x id) x asked refl (told-item asked)

  map-push : (asked : List Id) → told_by (asked ++ id ∷ []) h ≡ told_by asked h ++ (id, notifications_of (log h) id) ∷ []
  map-push [] = refl
  map-push (x ∷ asked) = ap (λ (t : Told). (x, notifications_of (log h) x) ∷ t) (map-push asked)

  tells-step : (b : Bool) (asked : List Id) → is_among asked id ≡ b → TellsOnce (if b then Some (notifications_of (log h) id) else None) (told_by asked h) id (notifications_of (log h) id) (told_by (if b then asked else asked ++ id ∷ []) h)
  tells-step true asked is = (refl, refl)
  tells-step false asked is = map-push asked

  -- an id that is noted is told once
  tells : (asked : List Id) → TellsOnce (item_of (told_by asked h) id) (told_by asked h) id (notifications_of (log h) id) (told_by (noted asked id) h)
  tells asked = subst (λ o. TellsOnce o (told_by asked h) id (notifications_of (log h) id) (told_by (noted asked id) h)) (sym (told-item asked)) (tells-step (is_among asked id) asked refl)

  module _ (sys : System) where
    answers-by : (asked : List Id) (answer : Reading) → IsFormed h → readings_of sys (log h) id ≡ answer → AnswersBy sys (told_by asked h) id (told_by (noted asked id) h) answer
    answers-by asked answer formed is =
        let ns = notifications_of (log h) id in
        record {
          notifications = ns;
          own = all-own id h formed;
          tells = tells asked;
          is = subst (IsReading sys ns) is (reading-is sys ns);
          only = λ r reads. only-reading sys ns r reads ∙ is;
        }

    finds : (asked new : List Id) (answer result : Result (Option Aggregate) FindFault) → IsFormed h → Reads (readings_of sys (log h) id) answer → Notes asked id answer new result → Finds sys (told_by asked h) id (told_by new h) result
    finds asked new answer (Ok found) formed reads notes =
        subst (λ xs. AnswersBy sys (told_by asked h) id (told_by xs h) (folded found)) (sym notes.1) (answers-by asked (folded found) formed (subst (Reads (readings_of sys (log h) id)) notes.0 reads))
    finds asked new answer (Err (Unreadable n)) formed reads notes =
        subst (λ xs. AnswersBy sys (told_by asked h) id (told_by xs h) (unreadable n)) (sym notes.1) (answers-by asked (unreadable n) formed (subst (Reads (readings_of sys (log h) id)) notes.0 reads))
    finds asked new answer (Err Failed) formed reads notes = ap (λ xs. told_by xs h) notes.1
    finds asked new answer (Err NoMemory) formed reads notes = ap (λ xs. told_by xs h) notes

-- a reader answers by what it tells
pub finds-told : (sys : System) (id : Id) (old now : Option (List Recording)) (asked new : List Id) (answer result : Result (Option Aggregate) FindFault) → IfSome old IsFormed → now ≡ old → IfSome old (λ h. Reads (reading_at sys (log h) id None) answer)
    → Notes asked id answer new result → FindsTold sys (told_of asked old) id (told_of new now) result
finds-told sys id None now asked new answer result formed same reads notes = ap (told_of new) same
finds-told sys id (Some h) now asked new answer result formed same reads notes =
    let latest : reading_at sys (log h) id None ≡ readings_of sys (log h) id = ap (read_from sys None) (upto-latest (log h) id) in
    subst (λ o. FindsTold sys (Some (told_by asked h)) id (told_of new o) result) (sym same) (finds h id sys asked new answer result formed (subst (λ r. Reads r answer) latest reads) notes)

-- ---- over all that was told

readings-step : (sys : System) (h : List Recording) (id : Id) (ns : List Notification) (b : Bool) → (if b then Some (notifications_of (log h) id) else None) ≡ Some ns → IsReading sys ns (readings_of sys (log h) id)
readings-step sys h id ns true is = let same : notifications_of (log h) id ≡ ns = cc in subst (λ ms. IsReading sys ms (readings_of sys (log h) id)) same (reading-is sys (notifications_of (log h) id))
readings-step sys h id ns false is = absurd (cc is)

told-readings : (sys : System) (h : List Recording) (asked : List Id) → AreReadings sys (told_by asked h) (readings_of sys (log h))
told-readings sys h asked = λ id ns is. readings-step sys h id ns (is_among asked id) (sym (told-item h id asked) ∙ is)

-- what is decided over what was told is decided over the log
pub decided-over : (sys : System) (h : List Recording) (asked : List Id) (history : Option (List Recording)) (decide : Readings → Decided) (decided : Decided) → history ≡ Some h → DecidesTold sys (told_of asked history) decide decided → Decides (decide (readings_of sys (log h))) decided
decided-over sys h asked history decide decided is told =
    subst (λ o. DecidesTold sys (told_of asked o) decide decided) is told (readings_of sys (log h)) (told-readings sys h asked)
