-- Documents by name.
use Rattle.std.specs.Prelude.{◌≡◌, ℕ, List, [], ◌∷◌, if◌then◌else◌, Option, Some, None, Result, OnOk}
use Rattle.std.specs.Str.{bytes_eq}
use Rattle.es_model.specs.Values.{Name}

-- the bytes of each document that there is
abbrev pub NamedDocuments : Type 0
NamedDocuments = Name → Option (List ℕ)

-- after a document was begun, exactly its bytes are left
abbrev pub Begins : {E : Type 0} → Option NamedDocuments → Name → Option (List ℕ) → Result (Unit {0}) E → Type 0
Begins None name left result = Unit {0}
Begins (Some documents) name left result = OnOk result ((bytes : List ℕ) × (documents name ≡ Some bytes) × (left ≡ Some bytes))

-- the documents of a list: of a name the first counts
abbrev pub first_named : List (Name × List ℕ) → NamedDocuments
first_named [] name = None
first_named (d ∷ ds) name = if bytes_eq name d.0 then Some d.1 else first_named ds name
