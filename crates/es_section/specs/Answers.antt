-- What is answered to one who asks for a section.
use Rattle.std.specs.Prelude.{◌≡◌, ℕ, zero, suc, List, [], ◌++◌, Option, Some, None, option_map, Result, Ok, Err}
use Rattle.es_model.specs.declared.event.Notification.{Notification}
use Rattle.es_model.specs.declared.memory.CallFault.{CallFault}
use Rattle.es_model.specs.declared.memory.CallFault.TheVariants as call_fault
use Rattle.es_recorder.specs.Selections.{AreSelected}
use Rattle.es_section.specs.Section.{bounds_of, start_of, limit_of, items_of, ids_of, next_of, text_of}
use Rattle.es_section.specs.declared.answer.Section.{Section}
use Rattle.es_section.specs.declared.answer.SectionFault.{SectionFault}
use Rattle.es_section.specs.declared.answer.SectionFault.TheVariants.{BadRequest, Failed, NoMemory}

-- the section with these notifications, where it may have so many
abbrev pub section_with : ℕ → List Notification → Section
section_with limit items = record { id = ids_of items; items = items; next = next_of limit items }

-- the section of a log from one id to another, of a size at most
abbrev pub section_of : List Notification → ℕ → ℕ → ℕ → Section
section_of log first last size = section_with (limit_of first last size) (items_of log (start_of first) (limit_of first last size))

-- the section that a text asks for
abbrev pub section_asked : List Notification → List ℕ → ℕ → Option Section
section_asked log text size = option_map (λ b. section_of log b.0 b.1 size) (bounds_of text)

-- a section, told or not: its notifications have the ids from its start on one by one, are as many as it may have at most, and tell its own id and the next
pub record IsSection (first last size : ℕ) (s : Section) : Type 0 where
  pub selected : AreSelected (start_of first) (limit_of first last size) s.items
  pub ids : s.id ≡ ids_of s.items
  pub next : s.next ≡ next_of (limit_of first last size) s.items

-- what the recorder answered; a text that asks for nothing is no call of it
abbrev pub call_of : Result Section SectionFault → Result (List Notification) CallFault
call_of (Ok s) = Ok s.items
call_of (Err BadRequest) = Ok []
call_of (Err Failed) = Err call_fault.Failed
call_of (Err NoMemory) = Err call_fault.NoMemory

-- ---- one section after another

abbrev pub rest_after : Option (ℕ × ℕ) → (List ℕ → List Notification) → List Notification
rest_after None rest = []
rest_after (Some b) rest = rest (text_of b)

abbrev pub with_rest : Option Section → (List ℕ → List Notification) → List Notification
with_rest None rest = []
with_rest (Some s) rest = s.items ++ rest_after s.next rest

-- what the sections have that are asked for one after the other, each by what the one before it says comes next; so many of them at most
abbrev pub all_from : ℕ → List Notification → ℕ → List ℕ → List Notification
all_from zero log size text = []
all_from (suc turns) log size text = with_rest (section_asked log text size) (all_from turns log size)
