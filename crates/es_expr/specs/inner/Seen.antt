-- The names that a walk has seen.
use Rattle.std.specs.Prelude.{ℕ, Bool, List}
use Rattle.std.specs.BTreeSet.{BTreeSet, contains_by}
use Rattle.std.specs.Cmp.Lexicographic.{slice_cmp}
use Rattle.std.specs.Ordering.{nat_cmp}
use Rattle.es_model.specs.Values.{Name}
use denote.Ref.{Bor}

-- a name is among those that were seen
abbrev pub has_seen : BTreeSet (Bor (List ℕ)) → Name → Bool
has_seen seen name = contains_by (λ k. slice_cmp nat_cmp name k.now) seen
