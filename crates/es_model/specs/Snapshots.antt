-- Snapshots, and how one is put beside others.
use Rattle.std.specs.Prelude.{◌≡◌, ◌<◌, ◌^◌, ◌==◌, Bool, false, not, ◌&&◌, List, [], ◌∷◌, ◌++◌, filter, All, AllPairs}
use Rattle.std.specs.Str.{bytes_eq}
use Rattle.es_model.specs.declared.snapshot.Snapshot.{Snapshot}

-- two snapshots are of one aggregate at one version
abbrev pub is_same : Snapshot → Snapshot → Bool
is_same a b = bytes_eq a.originator_id b.originator_id && (a.originator_version == b.originator_version)

-- the numbers of a snapshot are below 2^62
pub record IsSmallSnapshot (s : Snapshot) : Type 0 where
  pub version : s.originator_version < 2 ^ 62
  pub class_version : s.class_version < 2 ^ 62

-- each pair of id and version stands at most once, and the numbers are small
pub record AreSnapshots (ss : List Snapshot) : Type 0 where
  pub once : AllPairs (λ a b. is_same a b ≡ false) ss
  pub small : All IsSmallSnapshot ss

-- a snapshot is put last, and the one of its id and version that was there is taken away
abbrev pub put_snapshot : List Snapshot → Snapshot → List Snapshot
put_snapshot ss s = filter (λ x. not (is_same x s)) ss ++ s ∷ []
