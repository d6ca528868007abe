-- The texts of replies and of the end line: the canonical texts of trees.
use Rattle.std.specs.Prelude.{ℕ, Bool, true, false, List, [], ◌∷◌, ◌++◌, codes, decimal, if◌then◌else◌, Option, None, Some}
use Rattle.std.specs.Str.{is_utf8}
use Rattle.hex.specs.Hex.{encode_lower}
use Rattle.uuid.specs.Text.{simple_text, lower}
use Rattle.serde_json.specs.Data.{Data, unsigned, null, number, string, array, object, Items, no_items, item, Members, no_members, member}
use Rattle.serde_json.specs.Written.{compact_text}
use Rattle.es_model.specs.Values.{Name}
use Rattle.es_model.specs.declared.declaration.Code.{Code}
use Rattle.es_model.specs.declared.declaration.Code.TheVariants as code
use Rattle.es_model.specs.declared.event.Notification.{Notification}
use Rattle.es_transcode.specs.CanonicalText.{record_tree}
use Rattle.es_transcode.specs.MomentText.{moment_text}
use Rattle.es_lines.specs.declared.replies.Reply.{Reply}
use Rattle.es_lines.specs.declared.replies.Reply.TheVariants as reply
use Rattle.es_lines.specs.declared.ends.End.{End}
use Rattle.es_lines.specs.declared.ends.End.TheVariants.{Ok, Memory, Usage, Declaration, System, Input, Recorder, Refused, Turns, Ahead, Unreadable, Full, Over}

-- ---- members, before others

abbrev pub text : List ℕ → List ℕ → Members → Members
text name s ms = member name (string s) ms

abbrev pub count : List ℕ → ℕ → Members → Members
count name n ms = member name (number (unsigned n)) ms

-- an object whose only member is a text
abbrev pub lone : List ℕ → List ℕ → Data
lone name s = object (text name s no_members)

-- ---- the entries of a log

-- the first and the last id of a section
abbrev pub span_tree : Option (ℕ × ℕ) → Data
span_tree None = null
span_tree (Some s) = string (decimal s.0 ++ codes "," ++ decimal s.1)

-- a state as it is, or its bytes in hexadecimal digits where it is no UTF-8
abbrev pub state_name : List ℕ → List ℕ
state_name bytes = if is_utf8 bytes then codes "state" else codes "state_hex"

abbrev pub state_text : List ℕ → List ℕ
state_text bytes = if is_utf8 bytes then bytes else encode_lower bytes

abbrev pub entry_tree : Notification → Data
entry_tree n =
    object
    (count (codes "id") n.id
    (text (codes "originator_id") (simple_text lower n.event.originator_id)
    (count (codes "originator_version") n.event.originator_version
    (text (state_name n.event.state) (state_text n.event.state)
    (text (codes "topic") n.event.topic
    no_members)))))

abbrev pub entry_trees : List Notification → Items
entry_trees [] = no_items
entry_trees (n ∷ ns) = item (entry_tree n) (entry_trees ns)

-- ---- the reply to a line

abbrev pub reply_tree : Reply → Data
reply_tree (reply.Accepted recording first last version) =
    object
    (count (codes "first") first
    (count (codes "last") last
    (text (codes "ok") (codes "do")
    (count (codes "recording") recording
    (count (codes "version") version
    no_members)))))
reply_tree (reply.Refused code) = object (text (codes "code") code (text (codes "error") (codes "refused") no_members))
reply_tree reply.Syntax = lone (codes "error") (codes "syntax")
reply_tree reply.Unknown = lone (codes "error") (codes "unknown")
reply_tree reply.Kind = lone (codes "error") (codes "kind")
reply_tree reply.Long = lone (codes "error") (codes "long")
reply_tree (reply.Conflict latest) = object (text (codes "error") (codes "conflict") (count (codes "latest") latest no_members))
reply_tree (reply.Got id version class created_on modified_on fields) =
    object
    (text (codes "class") class
    (text (codes "created_on") (moment_text created_on)
    (member (codes "fields") (record_tree fields)
    (text (codes "id") (simple_text lower id)
    (text (codes "modified_on") (moment_text modified_on)
    (text (codes "ok") (codes "get")
    (count (codes "version") version
    no_members)))))))
reply_tree (reply.Log id items next) =
    object
    (member (codes "id") (span_tree id)
    (member (codes "items") (array (entry_trees items))
    (member (codes "next") (span_tree next)
    (text (codes "ok") (codes "log")
    no_members))))
reply_tree (reply.Tracking position) = object (text (codes "ok") (codes "tracking") (count (codes "position") position no_members))
reply_tree (reply.Snapshot version) = object (text (codes "ok") (codes "snapshot") (count (codes "version") version no_members))
reply_tree reply.Sync = lone (codes "ok") (codes "sync")
reply_tree reply.Stop = lone (codes "ok") (codes "stop")
reply_tree reply.NotFound = lone (codes "error") (codes "not-found")
reply_tree reply.Section = lone (codes "error") (codes "section")
reply_tree (reply.Unchanged version) = object (text (codes "error") (codes "unchanged") (count (codes "version") version no_members))
reply_tree (reply.Unreadable app id) = object (text (codes "app") app (text (codes "error") (codes "unreadable") (count (codes "id") id no_members)))

abbrev pub reply_text : Reply → List ℕ
reply_text r = compact_text (reply_tree r)

-- ---- the end of a run

-- how many recordings each application has added
abbrev pub counts : List (Name × ℕ) → Members
counts [] = no_members
counts (x ∷ xs) = count x.0 x.1 (counts xs)

-- the word of a code
abbrev pub code_text : Code → List ℕ
code_text code.Long = codes "long"
code_text code.Json = codes "json"
code_text code.Form = codes "form"
code_text code.Limit = codes "limit"
code_text code.Name = codes "name"
code_text code.Repeat = codes "repeat"
code_text code.Unknown = codes "unknown"
code_text code.Kind = codes "kind"
code_text code.Fields = codes "fields"
code_text code.Order = codes "order"
code_text code.Pipe = codes "pipe"

abbrev pub end_tree : End → Data
end_tree (Ok added lines) =
    object
    (member (codes "added") (object (counts added))
    (text (codes "end") (codes "ok")
    (count (codes "lines") lines
    no_members)))
end_tree Memory = lone (codes "end") (codes "memory")
end_tree Usage = lone (codes "end") (codes "usage")
end_tree (Declaration code path) =
    object
    (text (codes "code") (code_text code)
    (text (codes "end") (codes "declaration")
    (text (codes "path") path
    no_members)))
end_tree System = lone (codes "end") (codes "system")
end_tree Input = lone (codes "end") (codes "input")
end_tree Recorder = lone (codes "end") (codes "recorder")
end_tree (Refused app leader id recordings code rule) =
    object
    (text (codes "app") app
    (text (codes "code") code
    (text (codes "end") (codes "refused")
    (count (codes "id") id
    (text (codes "leader") leader
    (count (codes "recordings") recordings
    (count (codes "rule") rule
    no_members)))))))
end_tree (Turns app turns) =
    object
    (text (codes "app") app
    (text (codes "end") (codes "turns")
    (count (codes "turns") turns
    no_members)))
end_tree (Ahead app leader tracked last) =
    object
    (text (codes "app") app
    (text (codes "end") (codes "ahead")
    (count (codes "last") last
    (text (codes "leader") leader
    (count (codes "tracked") tracked
    no_members)))))
end_tree (Unreadable app id) =
    object
    (text (codes "app") app
    (text (codes "end") (codes "unreadable")
    (count (codes "id") id
    no_members)))
end_tree (Full app last capacity) =
    object
    (text (codes "app") app
    (count (codes "capacity") capacity
    (text (codes "end") (codes "full")
    (count (codes "last") last
    no_members))))
end_tree Over = lone (codes "end") (codes "over")

-- the end line, without its line feed
abbrev pub end_text : End → List ℕ
end_text e = compact_text (end_tree e)

-- the ends that have no member but their word
abbrev pub is_fixed : End → Bool
is_fixed Memory = true
is_fixed Usage = true
is_fixed System = true
is_fixed Input = true
is_fixed Recorder = true
is_fixed Over = true
is_fixed e = false
