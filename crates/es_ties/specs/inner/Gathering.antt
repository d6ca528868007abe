-- How one reader gathers what all have seen.
use Rattle.std.specs.Prelude.{◌≡◌, ℕ, Some, List, slice_get}
use Rattle.es_ties.specs.Seen.{Writer, Witness, IsWithin}

module _ {I : Type 0} where
  -- it has seen at least what each of the pens has
  abbrev pub IsAbovePens : List (List I) → List (Writer I) → Type 0
  IsAbovePens seen pens = (k : ℕ) (p : Writer I) → slice_get pens k ≡ Some p → IsWithin p.seen seen

  -- it has seen at least what each of the readers has
  abbrev pub IsAboveReaders : List (List I) → List (Witness I) → Type 0
  IsAboveReaders seen readers = (k : ℕ) (r : Witness I) → slice_get readers k ≡ Some r → IsWithin r.seen seen
