-- What each turn of a run keeps holds all along it.
use Rattle.std.proofs.Common.{◌≡◌, ◌⊎◌, inl, inr, ℕ, zero, suc, List, [], ◌∷◌, ◌++◌, Option, Some, None, refl, sym, ap, ◌∙◌, subst, append-nil, append_assoc}
use Rattle.std.specs.Option.{option_map}
use Rattle.es_model.specs.History.{Histories}
use Rattle.es_lines.specs.declared.ends.End.{End}
use Rattle.es_process.specs.Answer.{Options}
use Rattle.es_process.specs.Decision.{Rules}
use Rattle.es_process.specs.SingleThread.{Place, Turn, finished, goes_on, turn_at, Step, Run, steps_of, after, go_on, run_within, IsRun}

-- what is left of a run after some steps
rest_of_run : (steps : List Step) (d : Run) (o : Option Run) → option_map (after steps) o ≡ Some d → (x : Run) × (o ≡ Some x) × (after steps x ≡ d)
rest_of_run steps d None is = absurd (cc is)
rest_of_run steps d (Some x) is = (x, refl, cc is)

-- of a list in two parts, a front of it is a front of the first part, or the first part and a front of the second
abbrev pub Split : {A : Type 0} → List A → List A → List A → List A → Type 0
Split {A} xs ys front rest = ((c : List A) × (xs ≡ front ++ c)) ⊎ ((c : List A) × (front ≡ xs ++ c) × (ys ≡ c ++ rest))

pub split : {A : Type 0} (xs ys front rest : List A) → xs ++ ys ≡ front ++ rest → Split xs ys front rest
split [] ys front rest is = inr (front, refl, is)
split (x ∷ xs) ys [] rest is = inl (x ∷ xs, refl)
split (x ∷ xs) ys (z ∷ front) rest is =
    let heads : x ≡ z = cc is in
    let tails : xs ++ ys ≡ front ++ rest = cc is in
    elim (split xs ys front rest tails) [ inl so ↦ inl (so.0, λ i. heads i ∷ so.1 i) | inr so ↦ inr (so.0, λ i. sym heads i ∷ so.1 i, so.2) ]

-- `Stands done at` is kept by each turn from a place after some steps; `Holds` is told of each front of the steps, and `Ends` of all of them and the end
module _ (rules : Rules) (options : Options) (openings : Histories) (Stands : List Step → Place → Type 0) (Holds : List Step → Type 0) (Ends : List Step → End → Type 0) where
  abbrev pub Keeps : List Step → Turn → Type 0
  Keeps done (finished end) = Ends done end
  Keeps done (goes_on outcome next) = ((front rest : List Step) → steps_of outcome ≡ front ++ rest → Holds (done ++ front)) × Stands (done ++ steps_of outcome) next

  module _ (holds : (done : List Step) (at : Place) → Stands done at → Holds done) (keeps : (done : List Step) (at : Place) → Stands done at → Keeps done (turn_at rules options openings at)) where
    abbrev Told : List Step → Run → Type 0
    Told done d = ((front rest : List Step) → d.steps ≡ front ++ rest → Holds (done ++ front)) × Ends (done ++ d.steps) d.end

    none_told : (done front rest : List Step) → Holds done → [] ≡ front ++ rest → Holds (done ++ front)
    none_told done [] rest so is = subst Holds (sym (append-nil done)) so
    none_told done (x ∷ front) rest so is = absurd (cc is)

    more_told : (done steps : List Step) (x : Run) → ((front rest : List Step) → steps ≡ front ++ rest → Holds (done ++ front)) → Told (done ++ steps) x → Told done (after steps x)
    more_told done steps x here later = (
      λ front rest is. elim (split steps x.steps front rest is) [
        | inl so ↦ here front so.0 so.1
        | inr so ↦ subst Holds (append_assoc done steps so.0 ∙ ap (λ (t : List Step). done ++ t) (sym so.1)) (later.0 so.0 rest so.2)
      ],
      subst (λ t. Ends t x.end) (append_assoc done steps x.steps) later.1,
    )

    turn_told : (done : List Step) (at : Place) (t : Turn) (f : Place → Option Run) (d : Run) → Stands done at → Keeps done t → ((steps : List Step) (next : Place) (x : Run) → Stands steps next → f next ≡ Some x → Told steps x) → go_on t f ≡ Some d → Told done d
    turn_told done at (finished end) f d so kept later is =
        subst (Told done) (cc is) (λ front rest none. none_told done front rest (holds done at so) none, subst (λ t. Ends t end) (sym (append-nil done)) kept)
    turn_told done at (goes_on outcome next) f d so kept later is =
        let left = rest_of_run (steps_of outcome) d (f next) is in
        subst (Told done) left.2 (more_told done (steps_of outcome) left.0 kept.0 (later (done ++ steps_of outcome) next left.0 kept.1 left.1))

    told : (n : ℕ) (done : List Step) (at : Place) (d : Run) → Stands done at → run_within n rules options openings at ≡ Some d → Told done d
    unfolding run_within
    told zero done at d so is = absurd (cc is)
    told (suc n) done at d so is =
        turn_told done at (turn_at rules options openings at) (λ next. run_within n rules options openings next) d so (keeps done at so) (λ steps next x stands ends. told n steps next x stands ends) is

    pub run-holds : (at : Place) (d : Run) → Stands [] at → IsRun rules options openings at d → (front rest : List Step) → d.steps ≡ front ++ rest → Holds front
    run-holds at d so run front rest is = (told run.turns [] at d so run.ends).0 front rest is

    pub run-ends : (at : Place) (d : Run) → Stands [] at → IsRun rules options openings at d → Ends d.steps d.end
    run-ends at d so run = (told run.turns [] at d so run.ends).1
