-- What stores hold: something for each application's name.
use Rattle.std.specs.Prelude.{◌≡◌, Bool, true, false, if◌then◌else◌, Option, Some, None}
use Rattle.std.specs.Str.{bytes_eq}
use Rattle.es_model.specs.Values.{Name}

-- the map with this at a name
abbrev pub put : {A : Type 0} → (Name → A) → Name → A → Name → A
put h name x = λ n. if bytes_eq n name then x else h n

-- told maps are equal but at this name
abbrev pub SameElsewhere : {A : Type 0} → Name → Option (Name → A) → Option (Name → A) → Type 0
SameElsewhere name None new = Unit {0}
SameElsewhere name (Some h) None = ⊥
SameElsewhere {A} name (Some h) (Some k) = (x : A) → put k name x ≡ put h name x

-- a recorder that was out is put back with what it holds, and one that wasn't changes nothing
abbrev pub Closes : {A : Type 0} → Bool → (Name → A) → Name → A → Option (Name → A) → Type 0
Closes true h name x new = new ≡ Some (put h name x)
Closes false h name x new = new ≡ Some h

-- the same where the stores tell; what a recorder that doesn't tell leaves at its own name is open
abbrev pub ClosesTold : {A : Type 0} → Bool → Option (Name → A) → Name → Option A → Option (Name → A) → Type 0
ClosesTold out None name held new = Unit {0}
ClosesTold out (Some h) name (Some x) new = Closes out h name x new
ClosesTold true (Some h) name None new = SameElsewhere name (Some h) new
ClosesTold false (Some h) name None new = new ≡ Some h
