-- The system that a document declares.
use Rattle.std.specs.Prelude.{ℕ, nat_lt, List, [], length, codes, if◌then◌else◌, Option, None, Some, Ok, Err}
use Rattle.serde_json.specs.Data.{Data}
use Rattle.es_model.specs.Names.{topic_of}
use Rattle.es_model.specs.Values.{Name}
use Rattle.es_model.specs.declared.declaration.Code.TheVariants as code
use Rattle.es_model.specs.declared.declaration.App.{App}
use Rattle.es_model.specs.declared.declaration.Class.{Class}
use Rattle.es_model.specs.declared.declaration.CommandDef.{CommandDef}
use Rattle.es_model.specs.declared.declaration.Edit.{Edit}
use Rattle.es_model.specs.declared.declaration.EventClass.{EventClass}
use Rattle.es_model.specs.declared.declaration.Guard.{Guard}
use Rattle.es_model.specs.declared.declaration.Otherwise.TheVariants.{Refuse}
use Rattle.es_model.specs.declared.declaration.Rule.{Rule}
use Rattle.es_model.specs.declared.declaration.System.{System}
use Rattle.es_model.specs.declared.declaration.Trigger.{Trigger}
use Rattle.es_model.specs.declared.expr.Expr.{Expr}
use Rattle.es_model.specs.declared.limits.TheConstants.{MOST_FIELDS, MOST_UPCASTS, MOST_EDITS, MOST_GUARDS, MOST_TRIGGERS, MOST_CLASS_VERSION, MOST_INTERVAL, MOST_EVENTS, MOST_COMMANDS, MOST_CLASSES, MOST_RULES, MOST_SECTION, MOST_APPS, MOST_PIPES, LEAST_MEMBERS, MOST_MEMBERS, MOST_DOCUMENT_BYTES}
use Rattle.es_model.specs.declared.value.Kind.{Kind}
use Rattle.es_transcode.specs.Decoded.{tree_in}
use Rattle.es_expr.specs.Finds.{first}
use Rattle.es_expr.specs.Misfits.{misfits}
use Rattle.es_expr.specs.declared.misfit.Misfit.{Misfit}
use Rattle.es_model.specs.declared.names.NameForm.{NameForm}
use Rattle.es_model.specs.declared.names.NameForm.TheVariants as form
use Rattle.es_decl.specs.declared.objects.Object.TheVariants as the
use Rattle.es_decl.specs.Edits.{edit}
use Rattle.es_decl.specs.Expressions.{expression}
use Rattle.es_decl.specs.Kinds.{kind}
use Rattle.es_decl.specs.Objects.{shape_test}
use Rattle.es_decl.specs.Parts.{member, optional, or_else, name, whole, several, named_parts}
use Rattle.es_decl.specs.Readings.{Reading, here, and_then}
use Rattle.es_decl.specs.Words.{topic, otherwise}

-- kinds of names
abbrev pub kinds : NameForm → Data → Reading (List (Name × Kind))
kinds f = named_parts f (Some MOST_FIELDS) kind

-- expressions of names
abbrev pub assigns : NameForm → Data → Reading (List (Name × Expr))
assigns f = named_parts f None expression

-- for each class version but the last, the edits that lead to the next one
abbrev pub upcasts : Data → Reading (List (List Edit))
upcasts = several 0 (Some MOST_UPCASTS) (several 0 (Some MOST_EDITS) edit)

abbrev pub event : Name → Data → Reading EventClass
event class d =
    and_then (shape_test the.Event d) (λ _.
    and_then (member (codes "name") (name form.Class) d) (λ n.
    and_then (member (codes "fields") (kinds form.Field) d) (λ fields.
    and_then (optional (codes "upcasts") upcasts d) (λ edits.
    and_then (member (codes "set") (assigns form.Field) d) (λ set.
    Ok (record { topic = topic_of class n; fields = fields; upcasts = or_else [] edits; assigns = set }))))))

abbrev pub guard : Data → Reading Guard
guard d =
    and_then (shape_test the.Guard d) (λ _.
    and_then (member (codes "that") expression d) (λ that.
    and_then (member (codes "code") (name form.Code) d) (λ code.
    Ok (record { that = that; code = code }))))

abbrev pub trigger : Data → Reading Trigger
trigger d =
    and_then (shape_test the.Trigger d) (λ _.
    and_then (member (codes "event") (name form.Class) d) (λ e.
    and_then (member (codes "fields") (assigns form.Field) d) (λ fields.
    Ok (record { event = e; fields = fields }))))

abbrev pub command : Data → Reading CommandDef
command d =
    and_then (shape_test the.Command d) (λ _.
    and_then (member (codes "name") (name form.Class) d) (λ n.
    and_then (member (codes "params") (kinds form.Plain) d) (λ params.
    and_then (optional (codes "require") (several 0 (Some MOST_GUARDS) guard) d) (λ guards.
    and_then (member (codes "trigger") (several 1 (Some MOST_TRIGGERS) trigger) d) (λ triggers.
    Ok (record { name = n; params = params; guards = or_else [] guards; triggers = triggers }))))))

abbrev pub class : Data → Reading Class
class d =
    and_then (shape_test the.Class d) (λ _.
    and_then (member (codes "name") (name form.Class) d) (λ n.
    and_then (optional (codes "version") (whole 1 MOST_CLASS_VERSION) d) (λ version.
    and_then (optional (codes "interval") (whole 1 MOST_INTERVAL) d) (λ interval.
    and_then (member (codes "fields") (kinds form.Field) d) (λ fields.
    and_then (member (codes "created") (event n) d) (λ created.
    and_then (optional (codes "events") (several 0 (Some MOST_EVENTS) (event n)) d) (λ events.
    and_then (optional (codes "commands") (several 0 (Some MOST_COMMANDS) command) d) (λ commands.
    Ok (record {
      name = n;
      version = or_else 1 version;
      interval = interval;
      fields = fields;
      created = created;
      events = or_else [] events;
      commands = or_else [] commands;
    })))))))))

-- when a rule applies: its topic, its leader, and what has to be true
abbrev pub condition : Data → Reading (Name × Option Name × Option Expr)
condition d =
    and_then (member (codes "on") topic d) (λ on.
    and_then (optional (codes "leader") (name form.Plain) d) (λ leader.
    and_then (optional (codes "when") expression d) (λ when.
    Ok (on, leader, when))))

-- what a rule runs: its target, the command, and the arguments
abbrev pub call : Data → Reading (Expr × Name × List (Name × Expr))
call d =
    and_then (member (codes "target") expression d) (λ target.
    and_then (member (codes "do") topic d) (λ command.
    and_then (member (codes "args") (assigns form.Plain) d) (λ args.
    Ok (target, command, args))))

abbrev pub rule : Data → Reading Rule
rule d =
    and_then (shape_test the.Rule d) (λ _.
    and_then (condition d) (λ c.
    and_then (call d) (λ r.
    and_then (optional (codes "otherwise") otherwise d) (λ other.
    Ok (record {
      topic = c.0;
      leader = c.1;
      when = c.2;
      target = r.0;
      command = r.1;
      args = r.2;
      otherwise = or_else Refuse other;
    })))))

abbrev pub app : Data → Reading App
app d =
    and_then (shape_test the.App d) (λ _.
    and_then (member (codes "name") (name form.Plain) d) (λ n.
    and_then (member (codes "classes") (several 0 (Some MOST_CLASSES) (name form.Class)) d) (λ classes.
    and_then (optional (codes "policy") (several 0 (Some MOST_RULES) rule) d) (λ policies.
    and_then (optional (codes "section") (whole 1 MOST_SECTION) d) (λ section.
    Ok (record { name = n; classes = classes; policies = or_else [] policies; section_size = section }))))))

abbrev pub document : Data → Reading System
document d =
    and_then (shape_test the.Document d) (λ _.
    and_then (member (codes "classes") (several 0 None class) d) (λ classes.
    and_then (member (codes "apps") (several 1 (Some MOST_APPS) app) d) (λ apps.
    and_then (member (codes "pipes") (several 0 (Some MOST_PIPES) (several LEAST_MEMBERS (Some MOST_MEMBERS) (name form.Plain))) d) (λ pipes.
    Ok (record { apps = apps; classes = classes; pipes = pipes })))))

-- the system, where nothing in it doesn't fit together, or what doesn't at first
abbrev pub told : System → Option Misfit → Reading System
told s None = Ok s
told s (Some m) = Err (m.code, m.path)

abbrev pub fitting : System → Reading System
fitting s = told s (first (misfits s))

abbrev pub system_of : Data → Reading System
system_of d = and_then (document d) fitting

abbrev pub of_tree : Option Data → Reading System
of_tree (Some d) = system_of d
of_tree None = here code.Json

-- what bytes declare, however many they are
abbrev pub of_bytes : List ℕ → Reading System
of_bytes bytes = of_tree (tree_in bytes)

-- the system that a document declares, or its first fault
abbrev pub declared : List ℕ → Reading System
declared bytes = if nat_lt MOST_DOCUMENT_BYTES (length bytes) then here code.Long else of_bytes bytes
