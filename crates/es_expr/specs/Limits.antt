-- The limits of a declared system, and the forms of its names.
use Rattle.std.specs.Prelude.{ℕ, ◌+◌, max, nat_le, Bool, true, ◌&&◌, List, length, Option, None, Some}
use Rattle.std.specs.List.{list_all}
use Rattle.es_model.specs.Names.{is_between, is_lower_name, is_upper_name, is_field_name, is_code_name, is_topic_in}
use Rattle.es_model.specs.Values.{Name}
use Rattle.es_model.specs.declared.declaration.App.{App}
use Rattle.es_model.specs.declared.declaration.Class.{Class}
use Rattle.es_model.specs.declared.declaration.CommandDef.{CommandDef}
use Rattle.es_model.specs.declared.declaration.Edit.{Edit}
use Rattle.es_model.specs.declared.declaration.Edit.TheVariants.{Add, Rename, Drop}
use Rattle.es_model.specs.declared.declaration.EventClass.{EventClass}
use Rattle.es_model.specs.declared.declaration.Guard.{Guard}
use Rattle.es_model.specs.declared.declaration.Rule.{Rule}
use Rattle.es_model.specs.declared.declaration.System.{System}
use Rattle.es_model.specs.declared.declaration.Trigger.{Trigger}
use Rattle.es_model.specs.declared.expr.Expr.{Expr, fold-Expr}
use Rattle.es_model.specs.declared.expr.Expr.TheOpen.{Expr-F}
use Rattle.es_model.specs.declared.value.Atom.{Atom}
use Rattle.es_model.specs.declared.value.Atom.TheVariants as atom
use Rattle.es_model.specs.declared.value.Kind.{Kind}
use Rattle.es_model.specs.declared.value.Value.{Value}
use Rattle.es_model.specs.declared.value.Value.TheVariants as value
use Rattle.es_model.specs.declared.limits.TheConstants.{MOST_TEXT_BYTES, MOST_ITEMS, MOST_LEVELS, MOST_NODES, MOST_FIELDS, MOST_EDITS, MOST_UPCASTS, MOST_EVENTS, MOST_GUARDS, MOST_TRIGGERS, MOST_COMMANDS, MOST_CLASS_VERSION, MOST_INTERVAL, MOST_RULES, MOST_CLASSES, MOST_SECTION, MOST_APPS, LEAST_MEMBERS, MOST_MEMBERS, MOST_PIPES}
use Rattle.es_expr.specs.Shapes.{Shape, literal, empty, named, one, two, choice, shape}

-- a number that may be absent
abbrev pub is_absent_or_between : ℕ → ℕ → Option ℕ → Bool
is_absent_or_between low high None = true
is_absent_or_between low high (Some n) = is_between low high n

-- ---- values and expressions

abbrev pub is_atom_within : Atom → Bool
is_atom_within atom.Null = true
is_atom_within (atom.Bool truth) = true
is_atom_within (atom.Int number) = true
is_atom_within (atom.Text text) = nat_le (length text) MOST_TEXT_BYTES
is_atom_within (atom.Uuid id) = true
is_atom_within (atom.Moment moment) = true
is_atom_within (atom.Decimal decimal) = true

abbrev pub is_value_within : Value → Bool
is_value_within (value.One a) = is_atom_within a
is_value_within (value.List items) = nat_le (length items) MOST_ITEMS && list_all is_atom_within items

-- the most expressions, one within the other
abbrev pub depth_by_shape : Shape ℕ → ℕ
depth_by_shape (literal a) = 1
depth_by_shape (empty k) = 1
depth_by_shape (named name) = 1
depth_by_shape (one op a) = a + 1
depth_by_shape (two op a b) = max a b + 1
depth_by_shape (choice a b c) = max (max a b) c + 1

abbrev pub depth_step : Expr-F ℕ → ℕ
depth_step y = depth_by_shape (shape y)

abbrev pub depth : Expr → ℕ
depth = fold-Expr ℕ depth_step

-- how many expressions it is made of, itself counted
abbrev pub nodes_by_shape : Shape ℕ → ℕ
nodes_by_shape (literal a) = 1
nodes_by_shape (empty k) = 1
nodes_by_shape (named name) = 1
nodes_by_shape (one op a) = a + 1
nodes_by_shape (two op a b) = a + b + 1
nodes_by_shape (choice a b c) = a + b + c + 1

abbrev pub nodes_step : Expr-F ℕ → ℕ
nodes_step y = nodes_by_shape (shape y)

abbrev pub nodes : Expr → ℕ
nodes = fold-Expr ℕ nodes_step

-- each of its literals is within the limits
abbrev pub literals_by_shape : Shape Bool → Bool
literals_by_shape (literal a) = is_atom_within a
literals_by_shape (empty k) = true
literals_by_shape (named name) = true
literals_by_shape (one op a) = a
literals_by_shape (two op a b) = a && b
literals_by_shape (choice a b c) = a && b && c

abbrev pub literals_step : Expr-F Bool → Bool
literals_step y = literals_by_shape (shape y)

abbrev pub has_small_literals : Expr → Bool
has_small_literals = fold-Expr Bool literals_step

abbrev pub is_expr_within : Expr → Bool
is_expr_within e = nat_le (depth e) MOST_LEVELS && nat_le (nodes e) MOST_NODES && has_small_literals e

abbrev pub is_absent_or_within : Option Expr → Bool
is_absent_or_within None = true
is_absent_or_within (Some e) = is_expr_within e

abbrev pub are_assigns_within : List (Name × Expr) → Bool
are_assigns_within assigns = list_all (λ x. is_expr_within x.1) assigns

-- ---- the parts of a system

-- fields or parameters, with a test of their names
abbrev pub are_kinds_within : (Name → Bool) → List (Name × Kind) → Bool
are_kinds_within is_name kinds = nat_le (length kinds) MOST_FIELDS && list_all (λ k. is_name k.0) kinds

abbrev pub is_edit_within : Edit → Bool
is_edit_within (Add name v) = is_field_name name && is_value_within v
is_edit_within (Rename from to) = is_field_name from && is_field_name to
is_edit_within (Drop name) = is_field_name name

abbrev pub is_upcast_within : List Edit → Bool
is_upcast_within edits = nat_le (length edits) MOST_EDITS && list_all is_edit_within edits

abbrev pub are_upcasts_within : List (List Edit) → Bool
are_upcasts_within upcasts = nat_le (length upcasts) MOST_UPCASTS && list_all is_upcast_within upcasts

abbrev pub is_event_within : Name → EventClass → Bool
is_event_within class e =
    is_topic_in class e.topic && are_kinds_within is_field_name e.fields && are_upcasts_within e.upcasts && are_assigns_within e.assigns

abbrev pub are_events_within : Name → List EventClass → Bool
are_events_within class events = nat_le (length events) MOST_EVENTS && list_all (is_event_within class) events

abbrev pub is_guard_within : Guard → Bool
is_guard_within g = is_expr_within g.that && is_code_name g.code

abbrev pub are_guards_within : List Guard → Bool
are_guards_within guards = nat_le (length guards) MOST_GUARDS && list_all is_guard_within guards

abbrev pub is_trigger_within : Trigger → Bool
is_trigger_within t = are_assigns_within t.fields

abbrev pub are_triggers_within : List Trigger → Bool
are_triggers_within triggers = is_between 1 MOST_TRIGGERS (length triggers) && list_all is_trigger_within triggers

abbrev pub is_command_within : CommandDef → Bool
is_command_within d =
    is_upper_name d.name && are_kinds_within is_lower_name d.params && are_guards_within d.guards && are_triggers_within d.triggers

abbrev pub are_commands_within : List CommandDef → Bool
are_commands_within commands = nat_le (length commands) MOST_COMMANDS && list_all is_command_within commands

-- a class's version and interval
abbrev pub are_numbers_within : Class → Bool
are_numbers_within c = is_between 1 MOST_CLASS_VERSION c.version && is_absent_or_between 1 MOST_INTERVAL c.interval

abbrev pub is_class_within : Class → Bool
is_class_within c =
    is_upper_name c.name && are_numbers_within c && are_kinds_within is_field_name c.fields
    && is_event_within c.name c.created && are_events_within c.name c.events && are_commands_within c.commands

abbrev pub is_rule_within : Rule → Bool
is_rule_within r = is_absent_or_within r.when && is_expr_within r.target && are_assigns_within r.args

abbrev pub are_rules_within : List Rule → Bool
are_rules_within rules = nat_le (length rules) MOST_RULES && list_all is_rule_within rules

abbrev pub is_app_within : App → Bool
is_app_within a =
    is_lower_name a.name && nat_le (length a.classes) MOST_CLASSES && are_rules_within a.policies && is_absent_or_between 1 MOST_SECTION a.section_size

abbrev pub are_apps_within : List App → Bool
are_apps_within apps = is_between 1 MOST_APPS (length apps) && list_all is_app_within apps

abbrev pub is_pipe_within : List Name → Bool
is_pipe_within pipe = is_between LEAST_MEMBERS MOST_MEMBERS (length pipe)

abbrev pub are_pipes_within : List (List Name) → Bool
are_pipes_within pipes = nat_le (length pipes) MOST_PIPES && list_all is_pipe_within pipes

-- no declared name, number, text, count or expression is outside its limits. Any other name of a system where
-- all fits together is that of something declared.
abbrev pub is_within : System → Bool
is_within s = list_all is_class_within s.classes && are_apps_within s.apps && are_pipes_within s.pipes
