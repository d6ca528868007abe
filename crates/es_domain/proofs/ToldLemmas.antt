-- What a reader has told, and what is decided over it.
use Rattle.std.proofs.Common.{ℤ, ◌≡◌, true, false, Bool, List, [], ◌∷◌, ◌++◌, Option, None, Some, Result, Ok, Err, if◌then◌else◌, refl, sym, ap, subst, ◌∙◌}
use Rattle.std.proofs.lemmas.Slice.Eq.{bytes_eq-Decides}
use Rattle.std.specs.Str.{bytes_eq}
use Rattle.es_model.specs.Rising.{item_of}
use Rattle.es_model.specs.Values.{Name, Id}
use Rattle.es_model.specs.declared.declaration.System.{System}
use Rattle.es_model.specs.declared.event.Notification.{Notification}
use Rattle.es_domain.specs.Decision.{DecidesTold, command_decision, command_on, decision_of}
use Rattle.es_domain.specs.Effect.{effect}
use Rattle.es_domain.specs.Readings.{Told, Readings, Reading, folded, unreadable, AreReadings, TellsOnce, AnswersBy, Finds, FindsTold, TellsOn, TellsOnTold}
use Rattle.es_domain.specs.declared.aggregate.Aggregate.{Aggregate}
use Rattle.es_domain.specs.declared.command.Command.{Command}
use Rattle.es_domain.specs.declared.command.Decision.{Decision}
use Rattle.es_domain.specs.declared.find.FindFault.{FindFault}
use Rattle.es_domain.specs.declared.find.FindFault.TheVariants.{Unreadable, Failed, NoMemory}

-- an id that is told last, and those told before

pub item-cons : {A : Type 0} (x : Name × A) (xs : List (Name × A)) (id : Name) (b : Bool) → bytes_eq x.0 id ≡ b → item_of (x ∷ xs) id ≡ (if b then Some x.1 else item_of xs id)
item-cons x xs id true is = rw is refl
item-cons x xs id false is = rw is refl

item-last : {A : Type 0} (xs : List (Name × A)) (id : Name) (y : A) → item_of xs id ≡ None → item_of (xs ++ (id, y) ∷ []) id ≡ Some y
item-last [] id y none = item-cons (id, y) [] id true ((bytes_eq-Decides id id).1 refl)
item-last (x ∷ xs) id y none = elim (bytes_eq x.0 id) as (λ b. bytes_eq x.0 id ≡ b → item_of ((x ∷ xs) ++ (id, y) ∷ []) id ≡ Some y) [
  | true ↦ λ is. absurd (cc (sym (item-cons x xs id true is) ∙ none))
  | false ↦ λ is. item-cons x (xs ++ (id, y) ∷ []) id false is ∙ item-last xs id y (sym (item-cons x xs id false is) ∙ none)
] refl

item-before : {A : Type 0} (xs : List (Name × A)) (y : Name × A) (id : Name) (z : A) → item_of xs id ≡ Some z → item_of (xs ++ y ∷ []) id ≡ Some z
item-before [] y id z is = absurd (cc is)
item-before (x ∷ xs) y id z is = elim (bytes_eq x.0 id) as (λ b. bytes_eq x.0 id ≡ b → item_of ((x ∷ xs) ++ y ∷ []) id ≡ Some z) [
  | true ↦ λ e. item-cons x (xs ++ y ∷ []) id true e ∙ sym (item-cons x xs id true e) ∙ is
  | false ↦ λ e. item-cons x (xs ++ y ∷ []) id false e ∙ item-before xs y id z (sym (item-cons x xs id false e) ∙ is)
] refl

-- what a call has told, is told from then on

told-item : (o : Option (List Notification)) (old : Told) (id : Id) (ns : List Notification) (new : Told) → item_of old id ≡ o → TellsOnce o old id ns new → item_of new id ≡ Some ns
told-item None old id ns new is tells = ap (λ (t : Told). item_of t id) tells ∙ item-last old id ns is
told-item (Some known) old id ns new is tells = ap (λ (t : Told). item_of t id) tells.1 ∙ is ∙ ap Some (sym tells.0)

tells-on : (o : Option (List Notification)) (old : Told) (id : Id) (ns : List Notification) (new : Told) → TellsOnce o old id ns new → TellsOn old new
tells-on None old id ns new tells = λ x known is. ap (λ (t : Told). item_of t x) tells ∙ item-before old (id, ns) x known is
tells-on (Some known) old id ns new tells = λ x same is. ap (λ (t : Told). item_of t x) tells.1 ∙ is

finds-on : (sys : System) (old : Told) (id : Id) (new : Told) (r : Result (Option Aggregate) FindFault) → Finds sys old id new r → TellsOn old new
finds-on sys old id new (Ok found) finds = tells-on (item_of old id) old id finds.notifications new finds.tells
finds-on sys old id new (Err (Unreadable n)) finds = tells-on (item_of old id) old id finds.notifications new finds.tells
finds-on sys old id new (Err Failed) same = λ x known is. ap (λ (t : Told). item_of t x) same ∙ is
finds-on sys old id new (Err NoMemory) same = λ x known is. ap (λ (t : Told). item_of t x) same ∙ is

pub found_tells : (sys : System) (old : Option Told) (id : Id) (new : Option Told) (r : Result (Option Aggregate) FindFault) → FindsTold sys old id new r → TellsOnTold old new
found_tells sys None id new r finds = finds
found_tells sys (Some old) id None r finds = finds
found_tells sys (Some old) id (Some new) r finds = finds-on sys old id new r finds

-- the answer is the reading of the id

pub reading_is : (sys : System) (old : Told) (id : Id) (new : Told) (answer : Reading) → AnswersBy sys old id new answer → (readings : Readings) → AreReadings sys new readings → readings id ≡ answer
reading_is sys old id new answer by readings are =
    by.only (readings id) (are id by.notifications (told-item (item_of old id) old id by.notifications new refl by.tells))

module _ (sys : System) (c : Command) (at : ℤ) where
  pub command_told : (old new : Option Told) (found : Option Aggregate) (d : Decision) → FindsTold sys old c.id new (Ok found) → d ≡ decision_of 0 (effect sys c at found) → DecidesTold sys new (command_decision sys c at) (Ok d)
  command_told None new found d finds is = subst (λ (t : Option Told). DecidesTold sys t (command_decision sys c at) (Ok d)) (sym finds) tt
  command_told (Some old) None found d finds is = absurd finds
  command_told (Some old) (Some new) found d finds is = λ readings are.
      ap (command_on sys c at) (reading_is sys old c.id new (folded found) finds readings are) ∙ ap Ok (sym is)

  pub command_fault : (old new : Option Told) (fault : FindFault) → FindsTold sys old c.id new (Err fault) → DecidesTold sys new (command_decision sys c at) (Err fault)
  command_fault None new fault finds = subst (λ (t : Option Told). DecidesTold sys t (command_decision sys c at) (Err fault)) (sym finds) tt
  command_fault (Some old) None fault finds = absurd finds
  command_fault (Some old) (Some new) (Unreadable n) finds = λ readings are. ap (command_on sys c at) (reading_is sys old c.id new (unreadable n) finds readings are)
  command_fault (Some old) (Some new) Failed finds = λ readings are. tt
  command_fault (Some old) (Some new) NoMemory finds = λ readings are. tt
