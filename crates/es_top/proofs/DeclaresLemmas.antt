-- What is declared by the words, and what loading it leaves.
use Rattle.std.proofs.Common.{◌≡◌, ◌⊎◌, inl, inr, ◌∙◌, sym, IsSome, ℕ, Bool, true, false, List, codes, if◌then◌else◌, Option, Some, None, option_map, Ok, Err, refl, ap, subst}
use Rattle.std.specs.declared.alloc.Global.{Global}
use Rattle.std.specs.Prelude.{String}
use Rattle.std.specs.Str.{bytes_eq}
use Rattle.es_model.specs.declared.declaration.Code.{Code}
use Rattle.es_model.specs.declared.declaration.System.{System}
use Rattle.es_model.specs.declared.snapshot.Snapshot.{Snapshot}
use Rattle.es_model.specs.History.{Histories}
use Rattle.es_model.specs.Values.{Name}
use Rattle.es_expr.specs.Checked.{IsCheckedSystem}
use Rattle.es_io.specs.Documents.{NamedDocuments}
use Rattle.es_io.specs.Readings.{Readings}
use Rattle.es_decl.specs.Declaration.{declared}
use Rattle.es_decl.specs.Readings.{Reading}
use Rattle.es_decl.specs.declared.builtin.TheConstants.{SAMPLE}
use Rattle.es_decl.proofs.CheckedLemmas.{declared-checked}
use Rattle.es_lines.specs.declared.ends.End.TheVariants as end
use Rattle.es_process.specs.Contents.{Contents}
use Rattle.es_top.specs.declared.loading.LoadFault.{LoadFault}
use Rattle.es_top.specs.declared.loading.LoadFault.TheVariants.{Declaration, Failed, NoMemory}
use Rattle.es_top.specs.declared.status.Status.{Status}
use Rattle.es_top.specs.declared.status.Status.TheVariants as status
use Rattle.es_top.specs.Declares.{IsEndUnasked, IsNotAsked, declares, declares_for, document_declares, name_declares}
use Rattle.es_top.specs.Ends.{ended, end_of_load, status_of_load, IsStopped, Writes}
use Rattle.es_top.specs.Loads.{Loads}
use Rattle.es_top.specs.Top.{Ran, StoresTell}
use Rattle.es_top.specs.Words.{system_in}
use Rattle.es_top.proofs.EndLemmas.{ran_starved, ran_unread, told_as, writes_so}

-- what is declared is checked
reading_checked : (bytes : List ℕ) (sys : System) → Some (declared bytes) ≡ Some (Ok sys) → IsCheckedSystem sys
reading_checked bytes sys is = declared-checked bytes (Ok sys) (cc is)

document_checked : (o : Option (List ℕ)) (sys : System) → option_map declared o ≡ Some (Ok sys) → IsCheckedSystem sys
document_checked None sys is = absurd (cc is)
document_checked (Some bytes) sys is = reading_checked bytes sys is

documents_checked : (docs : Option NamedDocuments) (name : Name) (sys : System) → document_declares docs name ≡ Some (Ok sys) → IsCheckedSystem sys
documents_checked None name sys is = absurd (cc is)
documents_checked (Some documents) name sys is = document_checked (documents name) sys is

either_checked : (b : Bool) (built_in : List ℕ) (docs : Option NamedDocuments) (name : Name) (sys : System) → (if b then Some (declared built_in) else document_declares docs name) ≡ Some (Ok sys) → IsCheckedSystem sys
either_checked true built_in docs name sys is = reading_checked built_in sys is
either_checked false built_in docs name sys is = documents_checked docs name sys is

name_checked : (docs : Option NamedDocuments) (name : Name) (sys : System) → name_declares docs name ≡ Some (Ok sys) → IsCheckedSystem sys
name_checked docs name sys is = either_checked (bytes_eq name (codes "sample")) SAMPLE.now docs name sys is

-- the same code and the same place
fault_same : (c code : Code) (p path : List ℕ) (d : Reading System) → end.Declaration c p ≡ end.Declaration code path → d ≡ Err (c, p) → d ≡ Err (code, path)
fault_same c code p path d same is =
    let first : c ≡ code = cc same in
    let second : p ≡ path = cc same in
    subst (λ x. d ≡ Err (x, path)) first (subst (λ y. d ≡ Err (c, y)) second is)

none_there : (o : Option (Reading System)) → o ≡ None → IsSome o → ⊥
none_there None is there = let clash : false ≡ true = there in absurd (cc clash)
none_there (Some reading) is there = absurd (cc is)

module _ (docs : Option NamedDocuments) (words : List (String Global)) (name : Name) (word : system_in words ≡ Some name) where
  named : (x : Option (Reading System)) → declares docs words ≡ x → name_declares docs name ≡ x
  named x is = subst (λ o. declares_for docs o ≡ x) word is

  -- the system that was loaded is the one that the words ask for
  pub loaded_same : (mine sys : System) → Loads docs name (Ok mine) → declares docs words ≡ Some (Ok sys) → mine ≡ sys
  loaded_same mine sys loads is = let same : Ok sys ≡ Ok mine = loads.is (Ok sys) (named (Some (Ok sys)) is) in cc same

  -- the system couldn't be loaded, though the words ask for one: nothing was done
  pub fault_ran : (L S D : Type 0) (fault : LoadFault) → (fault ≡ Failed → D) → Loads docs name (Err fault) → (sys : System) → declares docs words ≡ Some (Ok sys) → (i : List ℕ) (unread : List ℕ) (r : Readings) (h : Contents) (new : Option Histories) (kept : Option (Name → List Snapshot)) (u w : Option (List ℕ)) (s : Status)
      → Writes (end_of_load fault) u w (ended s) → StoresTell h new kept → Ran L S D sys i unread r h new kept u w s
  fault_ran L S D (Declaration code path) failed loads sys is i unread r h new kept u w s writes same =
      let clash : Ok sys ≡ Err (code, path) = loads.is (Ok sys) (named (Some (Ok sys)) is) in absurd (cc clash)
  fault_ran L S D Failed failed loads sys is i unread r h new kept u w s writes same = ran_unread L S D (failed refl) sys (name_checked docs name sys (named (Some (Ok sys)) is)) i unread r h new kept u w s same writes
  fault_ran L S D NoMemory failed loads sys is i unread r h new kept u w s writes same = ran_starved L S D sys (name_checked docs name sys (named (Some (Ok sys)) is)) i unread r h new kept u w s same writes

  -- the end of a system that couldn't be loaded
  pub fault_unasked : (failing : Type 0) (fault : LoadFault) → (fault ≡ Failed → failing) → Loads docs name (Err fault) → IsEndUnasked docs words failing (end_of_load fault)
  fault_unasked failing (Declaration code path) failed loads = λ d is. loads.is d (named (Some d) is)
  fault_unasked failing Failed failed loads = failed refl
  fault_unasked failing NoMemory failed loads = tt

  -- a system was loaded, so the words ask for one
  pub asked : {P : Type 0} (mine : System) → Loads docs name (Ok mine) → IsNotAsked docs words → P
  asked mine loads (inl none) = let clash : Some name ≡ None = sym word ∙ none in absurd (cc clash)
  asked mine loads (inr (inl refused)) = let clash : Err refused.0 ≡ Ok mine = loads.is (Err refused.0) (named (Some (Err refused.0)) refused.1) in absurd (cc clash)
  asked mine loads (inr (inr missing)) = absurd (none_there (name_declares docs name) (named None missing.1) (loads.there missing.0))

  -- the status of a refused document tells what the words ask for
  pub refused_so : (fault : LoadFault) → Loads docs name (Err fault) → (u w : Option (List ℕ)) (s : Status) → Writes (end_of_load fault) u w (ended s) → (d : Reading System) (code : Code) (path : List ℕ) → declares docs words ≡ Some d → s ≡ status.Declaration code path → d ≡ Err (code, path)
  refused_so fault loads u w s writes d code path asks told =
      let one : end.Declaration code path ≡ end_of_load fault = told_as (end_of_load fault) (end.Declaration code path) (writes_so (end_of_load fault) s u w writes (end.Declaration code path) (ap ended told)).0 (λ is. absurd (cc is)) in
      of_fault fault loads (sym one)
    where
      of_fault : (f : LoadFault) → Loads docs name (Err f) → end_of_load f ≡ end.Declaration code path → d ≡ Err (code, path)
      of_fault (Declaration c p) so same = fault_same c code p path d same (so.is d (named (Some d) asks))
      of_fault Failed so same = absurd (cc same)
      of_fault NoMemory so same = absurd (cc same)

  -- the status of a system that couldn't be loaded, though the words ask for one
  pub stopped_fault : (fault : LoadFault) → Loads docs name (Err fault) → (sys : System) → declares docs words ≡ Some (Ok sys) → (s : Status) → (s ≡ status_of_load fault) ⊎ ((s ≡ status.Sink) ⊎ (s ≡ status.Memory)) → IsStopped s
  stopped_fault fault loads sys is s (inr rest) = inr rest
  stopped_fault (Declaration code path) loads sys is s (inl same) = let clash : Ok sys ≡ Err (code, path) = loads.is (Ok sys) (named (Some (Ok sys)) is) in absurd (cc clash)
  stopped_fault Failed loads sys is s (inl same) = inl same
  stopped_fault NoMemory loads sys is s (inl same) = inr (inr same)
