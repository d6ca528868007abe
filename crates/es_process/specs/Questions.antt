-- The replies to lines that change no history: questions about an application over its recordings, and lines that ask nothing.
use Rattle.std.specs.Prelude.{ℕ, List, Option, None, Some}
use Rattle.es_model.specs.Declaration.{app_named}
use Rattle.es_model.specs.History.{log}
use Rattle.es_model.specs.Tracking.{tracked_in}
use Rattle.es_model.specs.Values.{Name, Id}
use Rattle.es_model.specs.declared.declaration.App.{App}
use Rattle.es_model.specs.declared.declaration.System.{System}
use Rattle.es_model.specs.declared.event.Recording.{Recording}
use Rattle.es_domain.specs.Readings.{Reading, folded, unreadable}
use Rattle.es_recorder.specs.Selections.{notifications}
use Rattle.es_section.specs.Answers.{section_asked}
use Rattle.es_section.specs.declared.answer.Section.{Section as SectionOf}
use Rattle.es_lines.specs.declared.fault.LineFault.{LineFault}
use Rattle.es_lines.specs.declared.fault.LineFault.TheVariants as line_fault
use Rattle.es_lines.specs.declared.replies.Reply.{Reply}
use Rattle.es_lines.specs.declared.replies.Reply.TheVariants.{Got, Log, Tracking, NotFound, Section, Unreadable, Syntax, Unknown, Kind}
use Rattle.es_model.specs.declared.limits.TheConstants.{DEFAULT_SECTION}
use Rattle.es_process.specs.Decision.{Rules}

-- what is read of an aggregate, as a reply
abbrev pub reply_read : Name → Reading → Reply
reply_read app (folded None) = NotFound
reply_read app (folded (Some a)) = Got a.id a.version a.class a.created_on a.modified_on a.fields
reply_read app (unreadable n) = Unreadable app n

-- an aggregate at a version, or at its latest
abbrev pub get_reply : Rules → Name → Id → Option ℕ → List Recording → Reply
get_reply rules app id version h = reply_read app (rules.read h id version)

-- how many notifications a section of an application's log has at most
abbrev pub size_declared : Option ℕ → ℕ
size_declared None = DEFAULT_SECTION
size_declared (Some n) = n

abbrev pub size_of : Option App → ℕ
size_of None = DEFAULT_SECTION
size_of (Some a) = size_declared a.section_size

abbrev pub section_size : System → Name → ℕ
section_size sys app = size_of (app_named sys.apps app)

abbrev pub reply_section : Option SectionOf → Reply
reply_section None = Section
reply_section (Some s) = Log s.id s.items s.next

-- the section of its log that a text asks for
abbrev pub log_reply : Rules → Name → List ℕ → List Recording → Reply
log_reply rules app text h = reply_section (section_asked (notifications (log h)) text (rules.section_size app))

-- how far it has come with a leader
abbrev pub tracking_reply : Name → List Recording → Reply
tracking_reply leader h = Tracking (tracked_in h leader)

-- the reply to a line that asks nothing; want of memory is no reason that a line has
abbrev pub reply_to : LineFault → Reply
reply_to line_fault.Syntax = Syntax
reply_to line_fault.Unknown = Unknown
reply_to line_fault.Kind = Kind
reply_to line_fault.NoMemory = Syntax
