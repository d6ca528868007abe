-- How names are spelled.
use Rattle.std.specs.Prelude.{ℕ, nat_le, nat_lt, ◌==◌, Bool, false, not, ◌&&◌, ◌||◌, List, [], ◌∷◌, ◌++◌, length, codes, if◌then◌else◌, Option, None, Some}
use Rattle.std.specs.List.{list_all, list_any, position_or_len, before_first, after_first}
use Rattle.std.specs.Str.{bytes_eq}
use Rattle.es_model.specs.Values.{Name}
use Rattle.es_model.specs.declared.limits.TheConstants.{MOST_NAME_BYTES}
use Rattle.es_model.specs.declared.names.NameForm.{NameForm}
use Rattle.es_model.specs.declared.names.NameForm.TheVariants.{Plain, Field, Code, Class}

abbrev pub is_between : ℕ → ℕ → ℕ → Bool
is_between low high n = nat_le low n && nat_le n high

abbrev pub is_lower : ℕ → Bool
is_lower b = is_between 97 122 b

abbrev pub is_upper : ℕ → Bool
is_upper b = is_between 65 90 b

abbrev pub is_digit : ℕ → Bool
is_digit b = is_between 48 57 b

abbrev pub is_in_lower_name : ℕ → Bool
is_in_lower_name b = is_lower b || is_digit b || b == 95

abbrev pub is_in_upper_name : ℕ → Bool
is_in_upper_name b = is_lower b || is_upper b || is_digit b

-- a lower-case letter and then lower-case letters, digits and _
abbrev pub has_lower_form : Name → Bool
has_lower_form [] = false
has_lower_form (b ∷ bs) = is_lower b && list_all is_in_lower_name bs

-- an upper-case letter and then letters and digits
abbrev pub has_upper_form : Name → Bool
has_upper_form [] = false
has_upper_form (b ∷ bs) = is_upper b && list_all is_in_upper_name bs

abbrev pub has_name_length : Name → Bool
has_name_length name = is_between 1 MOST_NAME_BYTES (length name)

-- applications and parameters have such a name
abbrev pub is_lower_name : Name → Bool
is_lower_name name = has_name_length name && has_lower_form name

-- classes, events and commands have such a name
abbrev pub is_upper_name : Name → Bool
is_upper_name name = has_name_length name && has_upper_form name

-- the members of a state that aren't fields
abbrev pub is_reserved_field : Name → Bool
is_reserved_field name =
    bytes_eq name (codes "timestamp") || bytes_eq name (codes "originator_id") || bytes_eq name (codes "originator_version")
    || bytes_eq name (codes "originator_topic") || bytes_eq name (codes "class_version")

abbrev pub is_field_name : Name → Bool
is_field_name name = is_lower_name name && not (is_reserved_field name)

-- the refusals that no guard tells
abbrev pub is_reserved_code : Name → Bool
is_reserved_code name =
    bytes_eq name (codes "missing") || bytes_eq name (codes "exists") || bytes_eq name (codes "class") || bytes_eq name (codes "overflow")

abbrev pub is_code_name : Name → Bool
is_code_name name = is_lower_name name && not (is_reserved_code name)

-- a name has the letters of its form, and isn't reserved there
abbrev pub is_spelled : NameForm → Name → Bool
is_spelled Plain name = has_lower_form name
is_spelled Field name = has_lower_form name && not (is_reserved_field name)
is_spelled Code name = has_lower_form name && not (is_reserved_code name)
is_spelled Class name = has_upper_form name

-- a name has 1 to 40 bytes, and is of its form
abbrev pub is_name : NameForm → Name → Bool
is_name form name = has_name_length name && is_spelled form name

abbrev pub is_one_of : List Name → Name → Bool
is_one_of names name = list_any (λ n. bytes_eq name n) names

-- ---- names with a point between them

abbrev pub is_dot : ℕ → Bool
is_dot b = b == 46

-- a class's name, a point and a name
abbrev pub is_topic_in : Name → Name → Bool
is_topic_in class topic = bytes_eq (before_first is_dot topic) class && is_upper_name (after_first is_dot topic)

-- a class name, a point, and another name
abbrev pub topic_of : Name → Name → Name
topic_of class event = class ++ 46 ∷ event

-- what stands before the first point and what after it, if there is exactly one
abbrev pub halves : List ℕ → Option (Name × Name)
halves s =
    if nat_lt (position_or_len is_dot s) (length s) && not (list_any is_dot (after_first is_dot s))
    then Some (before_first is_dot s, after_first is_dot s) else None
