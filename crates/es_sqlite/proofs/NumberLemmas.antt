-- Lists that grow by one.
use Rattle.std.proofs.Common.{◌≡◌, ◌+◌, ℕ, List, [], ◌∷◌, ◌++◌, length, length-append, arith}
use Rattle.std.specs.Prelude.{All}
use Rattle.std.proofs.lemmas.List.Elements.{All-nil, All-cons, All-append}
use Rattle.es_model.specs.declared.event.Notification.{Notification}
use Rattle.es_recorder.specs.Selections.{AreNumbered}

pub length-push : {X : Type 0} (xs : List X) (x : X) → length (xs ++ x ∷ []) ≡ length xs + 1
length-push xs x = length-append xs (x ∷ [])

pub All-push : {X : Type 0} (P : X → Type 0) (xs : List X) (x : X) → All P xs → P x → All P (xs ++ x ∷ [])
All-push P xs x all one = All-append P xs (x ∷ []) all (All-cons P x [] one (All-nil P))

-- one notification more, with the next id
pub AreNumbered-push : (first : ℕ) (ns : List Notification) (n : Notification) → AreNumbered first ns → n.id ≡ first + length ns → AreNumbered first (ns ++ n ∷ [])
AreNumbered-push first [] n done is = (omega (arith, is), tt)
AreNumbered-push first (m ∷ ns) n done is = (done.0, AreNumbered-push (first + 1) ns n done.1 (omega (arith, is)))
