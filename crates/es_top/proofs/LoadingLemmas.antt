-- What was read of a document, and what it declares.
use Rattle.std.proofs.Common.{◌≡◌, ◌⊎◌, ◌≤◌, ◌+◌, ◌-◌, ℕ, false, inl, inr, List, [], ◌++◌, length, codes, Option, Some, None, IsSome, IfOk, option_map, Result, Ok, Err, if◌then◌else◌, refl, sym, ap, ◌∙◌, subst, append_assoc, append-nil, arith, length-append}
use Rattle.std.specs.Io.KnownBytes.{Consumes, IsAtEnd}
use Rattle.std.specs.Str.{bytes_eq}
use Rattle.std.proofs.lemmas.Bool.Decides.{Decides-ltb}
use Rattle.es_model.specs.declared.declaration.System.{System}
use Rattle.es_model.specs.declared.declaration.Code.TheVariants as code
use Rattle.es_model.specs.declared.limits.TheConstants.{MOST_DOCUMENT_BYTES}
use Rattle.es_model.specs.declared.memory.CallFault.{CallFault}
use Rattle.es_model.specs.Values.{Name}
use Rattle.es_io.specs.Next.{TakesAtMost}
use Rattle.es_io.specs.Documents.{NamedDocuments, Begins}
use Rattle.es_decl.specs.Declaration.{declared, of_bytes}
use Rattle.es_decl.specs.Readings.{Reading, here}
use Rattle.es_decl.specs.declared.builtin.TheConstants.{SAMPLE}
use Rattle.es_top.specs.declared.loading.LoadFault.{LoadFault}
use Rattle.es_top.specs.declared.loading.LoadFault.TheVariants.{Declaration, Failed, NoMemory}
use Rattle.es_top.specs.Declares.{name_declares, document_declares}
use Rattle.es_top.specs.Loads.{DeclaresIt, Loads, Gives, IsTooLong, IsRead, IsDocument, IsReadOf, ReadsOn, TakesDocument}

-- nothing was read yet
pub consumes_nothing : (u : Option (List ℕ)) → Consumes u u []
consumes_nothing None = tt
consumes_nothing (Some xs) = refl

pub consumes_then : (u v w : Option (List ℕ)) (a b : List ℕ) → Consumes u v a → Consumes v w b → Consumes u w (a ++ b)
consumes_then None v w a b x y = tt
consumes_then (Some xs) None w a b x y = absurd x
consumes_then (Some xs) (Some ys) None a b x y = absurd y
consumes_then (Some xs) (Some ys) (Some zs) a b x y = x ∙ ap (λ (t : List ℕ). a ++ t) y ∙ sym (append_assoc a b zs)

-- a piece more
pub reads_more : (u v w : Option (List ℕ)) (before now : List ℕ) (count : ℕ) → Consumes u v before → ReadsOn v w before now count → Consumes u w now
reads_more u v w before now count so more = subst (Consumes u w) (sym more.behind) (consumes_then u v w before more.piece so more.taken)

pub read_size : (v w : Option (List ℕ)) (before now : List ℕ) (count : ℕ) → ReadsOn v w before now count → length now ≡ length before + count
read_size v w before now count more = ap length more.behind ∙ length-append before more.piece ∙ ap (λ (n : ℕ). length before + n) more.size

-- a document that was begun, and of which all was read, or too much
known_read : (document : Option (List ℕ)) (bytes read : List ℕ) (new : Option (List ℕ)) → document ≡ Some bytes → Consumes (Some bytes) new read → IsTooLong read ⊎ IsAtEnd new → IsReadOf document read
known_read document bytes read None is so whole = absurd so
known_read document bytes read (Some rest) is so (inl long) = inr (long, (bytes, is, omega (arith, long, ap length so, length-append read rest)))
known_read document bytes read (Some rest) is so (inr end) = inl (is ∙ ap Some (so ∙ ap (λ (t : List ℕ). read ++ t) end ∙ append-nil read))

pub document_read : (documents : Option NamedDocuments) (name : Name) (left new : Option (List ℕ)) (x : Unit {0}) (read : List ℕ) → Begins {E = CallFault} documents name left (Ok x) → IsRead left new read → IsDocument documents name read
document_read None name left new x read begins so = tt
document_read (Some documents) name left new x read begins so =
    known_read (documents name) begins.0 read new begins.1 (subst (λ (o : Option (List ℕ)). Consumes o new read) begins.2 so.front) so.whole

-- too many bytes declare the same, whatever they are
long_declares : (bytes : List ℕ) → IsTooLong bytes → declared bytes ≡ here code.Long
long_declares bytes long = λ i. if (Decides-ltb 1048576 (length bytes)).1 long i then here code.Long else of_bytes bytes

-- what a document that was read so declares
read_declares : (document : Option (List ℕ)) (read : List ℕ) → IsReadOf document read → (bytes : List ℕ) × (document ≡ Some bytes) × (declared bytes ≡ declared read)
read_declares document read (inl is) = (read, is, refl)
read_declares document read (inr so) = (so.1.0, so.1.1, long_declares so.1.0 so.1.2 ∙ sym (long_declares read so.0))

pub result_read : {F : Type 0} (documents : Option NamedDocuments) (name : Name) (left new : Option (List ℕ)) (x : Unit {0}) (result : Result (List ℕ) F) → Begins {E = CallFault} documents name left (Ok x) → IfOk result (IsRead left new)
    → IfOk result (IsDocument documents name)
result_read documents name left new x (Ok read) begins so = document_read documents name left new x read begins so
result_read documents name left new x (Err f) begins so = tt

-- how many bytes a piece takes
pub piece_taken : (v w : Option (List ℕ)) (before now : List ℕ) (count most : ℕ) → ReadsOn v w before now count → count ≤ most → TakesAtMost v w most (most - count)
piece_taken None w before now count most more few = tt
piece_taken (Some xs) None before now count most more few = absurd more.taken
piece_taken (Some xs) (Some ys) before now count most more few = omega (arith, ap length more.taken, length-append more.piece ys, more.size, few)

-- what a name declares, where that is known
some_same : {A : Type 0} (x y : A) → Some x ≡ Some y → x ≡ y
some_same x y is = let same : x ≡ y = cc in same

declares_known : (documents : Option NamedDocuments) (name : Name) (known reading : Reading System) → name_declares documents name ≡ Some known → known ≡ reading → DeclaresIt documents name reading
declares_known documents name known reading is same = record {
  is = λ declares told. some_same declares known (sym told ∙ is) ∙ same;
  there = λ some. subst (λ (o : Option (Reading System)). IsSome o) (sym is) refl;
}

declares_none : (name : Name) (reading : Reading System) → name_declares None name ≡ None → DeclaresIt None name reading
declares_none name reading is = record {
  is = λ declares told. absurd (let clash : None ≡ Some declares = sym is ∙ told in cc clash);
  there = λ some. absurd (cc some);
}

loads_by : (documents : Option NamedDocuments) (name : Name) (read : Reading System) (result : Result System LoadFault) → ((reading : Reading System) → read ≡ reading → DeclaresIt documents name reading) → Gives read result → Loads documents name result
loads_by documents name read (Ok sys) declares gives = declares (Ok sys) gives
loads_by documents name read (Err (Declaration reason path)) declares gives = declares (Err (reason, path)) gives
loads_by documents name read (Err Failed) declares gives = tt
loads_by documents name read (Err NoMemory) declares gives = tt

is_other : (documents : Option NamedDocuments) (name : Name) → bytes_eq name (codes "sample") ≡ false → name_declares documents name ≡ document_declares documents name
is_other documents name differ = λ i. if differ i then Some (declared SAMPLE.now) else document_declares documents name

read_loads : (documents : Option NamedDocuments) (name : Name) (read : List ℕ) (result : Result System LoadFault) → bytes_eq name (codes "sample") ≡ false → IsDocument documents name read → Gives (declared read) result
    → Loads documents name result
read_loads None name read result differ so = loads_by None name (declared read) result (λ reading is. declares_none name reading (is_other None name differ))
read_loads (Some documents) name read result differ so =
    let bytes = read_declares (documents name) read so in
    loads_by (Some documents) name (declared read) result
    (λ reading is. declares_known (Some documents) name (declared bytes.0) reading (is_other (Some documents) name differ ∙ ap (option_map declared) bytes.1) (bytes.2 ∙ is))

pub document_loads : (documents : Option NamedDocuments) (name title : Name) (read slice : List ℕ) (result : Result System LoadFault) → bytes_eq name (codes "sample") ≡ false → title ≡ name → slice ≡ read → IsDocument documents title read
    → Gives (declared slice) result → Loads documents name result
document_loads documents name title read slice result differ same whole so gives =
    read_loads documents name read result differ (subst (λ (n : Name). IsDocument documents n read) same so) (subst (λ (b : List ℕ). Gives (declared b) result) whole gives)

-- nothing was taken of a document that wasn't begun
pub document_left : (documents : Option NamedDocuments) (name : Name) (old new : Option (List ℕ)) → new ≡ old → TakesDocument documents name old new
document_left None name old new same = tt
document_left (Some documents) name old new same = inl same

-- what was taken of a document that was begun
pub document_taken : (documents : Option NamedDocuments) (name : Name) (old begun new : Option (List ℕ)) (x : Unit {0}) → Begins {E = CallFault} documents name begun (Ok x) → TakesAtMost begun new (MOST_DOCUMENT_BYTES + 1) 0
    → TakesDocument documents name old new
document_taken None name old begun new x begins taken = tt
document_taken (Some documents) name old begun new x begins taken =
    inr (begins.0, begins.1, subst (λ (o : Option (List ℕ)). TakesAtMost o new (MOST_DOCUMENT_BYTES + 1) 0) begins.2 taken)

-- of a document under another spelling of its name
pub document_named : (documents : Option NamedDocuments) (name title : Name) (old new : Option (List ℕ)) → title ≡ name → TakesDocument documents title old new → TakesDocument documents name old new
document_named documents name title old new same taken = subst (λ (n : Name). TakesDocument documents n old new) same taken
