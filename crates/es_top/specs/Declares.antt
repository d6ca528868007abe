-- The system that the words ask for.
use Rattle.std.specs.Prelude.{◌≡◌, ◌⊎◌, List, codes, if◌then◌else◌, Option, Some, None, Err, option_map, IsSome}
use Rattle.std.specs.declared.alloc.Global.{Global}
use Rattle.std.specs.Prelude.{String}
use Rattle.std.specs.Str.{bytes_eq}
use Rattle.es_model.specs.declared.declaration.System.{System}
use Rattle.es_model.specs.Values.{Name}
use Rattle.es_io.specs.Documents.{NamedDocuments}
use Rattle.es_decl.specs.Declaration.{declared}
use Rattle.es_decl.specs.Readings.{Fault, Reading}
use Rattle.es_decl.specs.declared.builtin.TheConstants.{SAMPLE}
use Rattle.es_lines.specs.declared.ends.End.{End}
use Rattle.es_lines.specs.declared.ends.End.TheVariants as end
use Rattle.es_top.specs.Words.{system_in}

-- what the document of a name declares, where the documents are told and it is one of them
abbrev pub document_declares : Option NamedDocuments → Name → Option (Reading System)
document_declares None name = None
document_declares (Some documents) name = option_map declared (documents name)

-- what a name declares: `sample` the system that is built in, and any other what its document does
abbrev pub name_declares : Option NamedDocuments → Name → Option (Reading System)
name_declares documents name = if bytes_eq name (codes "sample") then Some (declared SAMPLE.now) else document_declares documents name

abbrev pub declares_for : Option NamedDocuments → Option Name → Option (Reading System)
declares_for documents None = None
declares_for documents (Some name) = name_declares documents name

-- what the words ask for: a system, or the first fault of its document; or nothing, where they are of another form, or the document isn't told or isn't there
abbrev pub declares : Option NamedDocuments → List (String Global) → Option (Reading System)
declares documents words = declares_for documents (system_in words)

-- an end of a run that begins no system: of words of another form, of a document that is refused, with its first fault, of one that failed, and want of memory
abbrev pub IsEndUnasked : Option NamedDocuments → List (String Global) → Type 0 → End → Type 0
IsEndUnasked documents words failed end.Usage = system_in words ≡ None
IsEndUnasked documents words failed (end.Declaration code path) = (d : Reading System) → declares documents words ≡ Some d → d ≡ Err (code, path)
IsEndUnasked documents words failed end.System = failed
IsEndUnasked documents words failed end.Memory = Unit {0}
IsEndUnasked documents words failed end.Input = ⊥
IsEndUnasked documents words failed end.Recorder = ⊥
IsEndUnasked documents words failed end.Over = ⊥
IsEndUnasked documents words failed (end.Ahead app leader tracked last) = ⊥
IsEndUnasked documents words failed (end.Ok added lines) = ⊥
IsEndUnasked documents words failed (end.Refused app leader id recordings code rule) = ⊥
IsEndUnasked documents words failed (end.Turns app turns) = ⊥
IsEndUnasked documents words failed (end.Unreadable app id) = ⊥
IsEndUnasked documents words failed (end.Full app last capacity) = ⊥

-- they ask for no system: they are of another form, or the document is refused, or it is none of those that are told
abbrev pub IsNotAsked : Option NamedDocuments → List (String Global) → Type 0
IsNotAsked documents words = (system_in words ≡ None) ⊎ (((f : Fault) × (declares documents words ≡ Some (Err f))) ⊎ (IsSome documents × (declares documents words ≡ None)))
