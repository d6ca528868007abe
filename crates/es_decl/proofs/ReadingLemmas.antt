-- Laws of readings.
use Rattle.std.proofs.Common.{◌≡◌, List, [], ◌∷◌, ◌++◌, Ok, Err, refl, sym, ap, append_assoc}
use Rattle.es_decl.specs.declared.fault.DeclFault.{DeclFault}
use Rattle.es_decl.specs.declared.fault.DeclFault.TheVariants.{At, NoMemory}
use Rattle.es_decl.specs.Readings.{Reading, Reads, and_then}

-- a reading of the rest of a list, after what was read before
abbrev pub after : {A : Type 0} → List A → Reading (List A) → Reading (List A)
after done (Ok xs) = Ok (done ++ xs)
after done (Err f) = Err f

pub fails : {A B : Type 0} (r : Reading A) (next : A → Reading B) (e : DeclFault) → Reads r (Err e) → Reads (and_then r next) (Err e)
fails r next (At code path) h = ap (λ x. and_then x next) h
fails r next NoMemory h = tt

pub later-fails : {A : Type 0} (done : List A) (r : Reading (List A)) (e : DeclFault) → Reads r (Err e) → Reads (after done r) (Err e)
later-fails done r (At code path) h = ap (after done) h
later-fails done r NoMemory h = tt

pub after-one : {A : Type 0} (done : List A) (x : A) (r : Reading (List A)) → after done (and_then r (λ xs. Ok (x ∷ xs))) ≡ after (done ++ x ∷ []) r
after-one done x (Ok xs) = ap Ok (sym (append_assoc done (x ∷ []) xs))
after-one done x (Err f) = refl
