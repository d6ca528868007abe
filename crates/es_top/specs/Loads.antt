-- What loading a system by its name answers.
use Rattle.std.specs.Prelude.{◌≡◌, ◌⊎◌, ◌<◌, ℕ, ◌+◌, List, length, ◌++◌, Option, Some, None, Result, Ok, Err, IsSome}
use Rattle.std.specs.Io.KnownBytes.{Consumes, IsAtEnd}
use Rattle.es_model.specs.declared.declaration.System.{System}
use Rattle.es_model.specs.declared.limits.TheConstants.{MOST_DOCUMENT_BYTES}
use Rattle.es_model.specs.Values.{Name}
use Rattle.es_io.specs.Documents.{NamedDocuments}
use Rattle.es_io.specs.Next.{TakesAtMost}
use Rattle.es_decl.specs.Readings.{Reading}
use Rattle.es_top.specs.declared.loading.LoadFault.{LoadFault}
use Rattle.es_top.specs.declared.loading.LoadFault.TheVariants.{Declaration, Failed, NoMemory}
use Rattle.es_top.specs.Declares.{name_declares}

-- what a name declares, where that is told, is this; and where the documents are told, it is that of one of them, or built in
pub record DeclaresIt (documents : Option NamedDocuments) (name : Name) (reading : Reading System) : Type 0 where
  pub is : (declares : Reading System) → name_declares documents name ≡ Some declares → declares ≡ reading
  pub there : IsSome documents → IsSome (name_declares documents name)

-- the answer is what the name declares, or that reading it failed, or want of memory
abbrev pub Loads : Option NamedDocuments → Name → Result System LoadFault → Type 0
Loads documents name (Ok sys) = DeclaresIt documents name (Ok sys)
Loads documents name (Err (Declaration code path)) = DeclaresIt documents name (Err (code, path))
Loads documents name (Err Failed) = Unit {0}
Loads documents name (Err NoMemory) = Unit {0}

-- the answer is what a reading gives, or want of memory
abbrev pub Gives : Reading System → Result System LoadFault → Type 0
Gives r (Ok sys) = r ≡ Ok sys
Gives r (Err (Declaration code path)) = r ≡ Err (code, path)
Gives r (Err Failed) = ⊥
Gives r (Err NoMemory) = Unit {0}

-- more bytes than a document may have
abbrev pub IsTooLong : List ℕ → Type 0
IsTooLong bytes = MOST_DOCUMENT_BYTES < length bytes

-- of the bytes that a source had left these were read: all of them, or a front that is too long
pub record IsRead (old new : Option (List ℕ)) (read : List ℕ) : Type 0 where
  pub front : Consumes old new read
  pub whole : IsTooLong read ⊎ IsAtEnd new

-- of a document that is told these bytes were read: all of it, or too many of a document that is too long
abbrev pub IsReadOf : Option (List ℕ) → List ℕ → Type 0
IsReadOf document read = (document ≡ Some read) ⊎ (IsTooLong read × ((bytes : List ℕ) × (document ≡ Some bytes) × IsTooLong bytes))

-- the same where the documents are told
abbrev pub IsDocument : Option NamedDocuments → Name → List ℕ → Type 0
IsDocument None name read = Unit {0}
IsDocument (Some documents) name read = IsReadOf (documents name) read

-- a piece with so many bytes was read behind those before; it is empty only at the end
pub record ReadsOn (old new : Option (List ℕ)) (before now : List ℕ) (count : ℕ) : Type 0 where
  pub piece : List ℕ
  pub size : length piece ≡ count
  pub taken : Consumes old new piece
  pub behind : now ≡ before ++ piece
  pub end : count ≡ 0 → IsAtEnd new

-- of a document that is told no more than one byte past its limit was taken, or it wasn't begun and nothing was
abbrev pub TakesDocument : Option NamedDocuments → Name → Option (List ℕ) → Option (List ℕ) → Type 0
TakesDocument None name old new = Unit {0}
TakesDocument (Some documents) name old new = (new ≡ old) ⊎ ((bytes : List ℕ) × (documents name ≡ Some bytes) × TakesAtMost (Some bytes) new (MOST_DOCUMENT_BYTES + 1) 0)
