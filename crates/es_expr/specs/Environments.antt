-- The names that an expression sees at each place of a declaration, in rising byte order. Each has an item:
-- its kind where the expression is checked, its value where it is evaluated.
use Rattle.std.specs.Prelude.{List, [], ◌∷◌, ◌++◌, codes}
use Rattle.es_model.specs.Values.{Name}

-- each name with a word before it
abbrev pub prefixed : {A : Type 0} → Name → List (Name × A) → List (Name × A)
prefixed word [] = []
prefixed word (x ∷ xs) = (word ++ x.0, x.1) ∷ prefixed word xs

-- at the guards and the first trigger of a command that creates: its arguments, its id and its moment
abbrev pub creating_env : {A : Type 0} → List (Name × A) → A → A → List (Name × A)
creating_env args id at = prefixed (codes "arg.") args ++ (codes "at", at) ∷ (codes "id", id) ∷ []

-- at those of another command, and at each later trigger: also the aggregate's fields and version
abbrev pub command_env : {A : Type 0} → List (Name × A) → A → A → List (Name × A) → A → List (Name × A)
command_env args id at self version =
    creating_env args id at ++ prefixed (codes "self.") self ++ (codes "version", version) ∷ []

-- at the assignments of a Created event: its fields, its id and its moment
abbrev pub created_env : {A : Type 0} → List (Name × A) → A → A → List (Name × A)
created_env event id at = ((codes "at", at) ∷ prefixed (codes "event.") event) ++ (codes "id", id) ∷ []

-- at the assignments of another event: also the aggregate's fields and version before it
abbrev pub assign_env : {A : Type 0} → List (Name × A) → A → A → List (Name × A) → A → List (Name × A)
assign_env event id at self version =
    created_env event id at ++ prefixed (codes "self.") self ++ (codes "version", version) ∷ []

-- at a rule: the event's fields, its id and moment, its leader, its notification id and its version
abbrev pub rule_env : {A : Type 0} → List (Name × A) → A → A → A → A → A → List (Name × A)
rule_env event id at leader position version =
    created_env event id at ++ (codes "leader", leader) ∷ (codes "position", position) ∷ (codes "version", version) ∷ []
