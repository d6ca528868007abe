-- What a part of the document is read as: a value, or the first fault of the part.
use Rattle.std.specs.Prelude.{ℕ, ◌≡◌, List, [], ◌∷◌, ◌++◌, Result, Ok, Err}
use Rattle.es_model.specs.declared.declaration.Code.{Code}
use Rattle.es_decl.specs.declared.fault.DeclFault.{DeclFault}
use Rattle.es_decl.specs.declared.fault.DeclFault.TheVariants.{At, NoMemory}

-- a code, and a JSON pointer from the part to the place
abbrev pub Fault : Type 0
Fault = Code × List ℕ

abbrev pub Reading : Type 0 → Type 0
Reading A = Result A Fault

-- nothing is wrong
abbrev pub fine : Reading (Unit {0})
fine = Ok tt

-- a fault of the part itself
abbrev pub here : {A : Type 0} → Code → Reading A
here code = Err (code, [])

-- a reading, and then another that may need what was read; the first fault counts
abbrev pub and_then : {A B : Type 0} → Reading A → (A → Reading B) → Reading B
and_then (Ok x) next = next x
and_then (Err f) next = Err f

-- a reading of what stands a step below
abbrev pub under : {A : Type 0} → List ℕ → Reading A → Reading A
under step (Ok x) = Ok x
under step (Err f) = Err (f.0, step ++ f.1)

-- a fault that stands at the part itself
abbrev pub own_fault : Code → List ℕ → Reading (Unit {0})
own_fault code [] = here code
own_fault code (x ∷ path) = fine

abbrev pub own : {A : Type 0} → Reading A → Reading (Unit {0})
own (Ok x) = fine
own (Err f) = own_fault f.0 f.1

-- a fault of the part itself comes before what a test finds, and one within it after
abbrev pub around : {A : Type 0} → Reading A → Reading (Unit {0}) → Reading A
around r test = and_then (own r) (λ _. and_then test (λ _. r))

-- an answer is what a reading gives, or want of memory
abbrev pub Reads : {A : Type 0} → Reading A → Result A DeclFault → Type 0
Reads r (Ok x) = r ≡ Ok x
Reads r (Err (At code path)) = r ≡ Err (code, path)
Reads r (Err NoMemory) = Unit {0}
