-- The parts of the document: members, names, numbers, arrays, and objects of named parts.
use Rattle.std.specs.Prelude.{ℕ, suc, ℤ, pos, negsuc, nat_le, Bool, ◌&&◌, List, [], ◌∷◌, if◌then◌else◌, Option, None, Some, Ok}
use Rattle.serde_json.specs.Data.{Data, number, string, array, object, Items, no_items, item, Members, no_members, member as another}
use Rattle.serde_json.specs.Find.{as_i64, get}
use Rattle.es_model.specs.Values.{Name}
use Rattle.es_model.specs.declared.declaration.Code.TheVariants as code
use Rattle.es_model.specs.declared.names.NameForm.{NameForm}
use Rattle.es_decl.specs.Names.{name_test}
use Rattle.es_decl.specs.Paths.{member_step, item_step}
use Rattle.es_decl.specs.Readings.{Reading, here, and_then, under, around}

-- a member that has to be there
abbrev pub found : {A : Type 0} → Name → (Data → Reading A) → Option Data → Reading A
found n part (Some d) = under (member_step n) (part d)
found n part None = here code.Form

abbrev pub member : {A : Type 0} → Name → (Data → Reading A) → Data → Reading A
member n part d = found n part (get n d)

-- a member that may be absent
abbrev pub some : {A : Type 0} → (Data → Reading A) → Data → Reading (Option A)
some part d = and_then (part d) (λ x. Ok (Some x))

abbrev pub if_found : {A : Type 0} → Name → (Data → Reading A) → Option Data → Reading (Option A)
if_found n part (Some d) = under (member_step n) (some part d)
if_found n part None = Ok None

abbrev pub optional : {A : Type 0} → Name → (Data → Reading A) → Data → Reading (Option A)
optional n part d = if_found n part (get n d)

-- what stands for an absent member
abbrev pub or_else : {A : Type 0} → A → Option A → A
or_else x (Some y) = y
or_else x None = x

-- a name of a form
abbrev pub name : NameForm → Data → Reading Name
name form (string s) = and_then (name_test form s) (λ _. Ok s)
name form d = here code.Form

-- a whole number in a range
abbrev pub ranged : ℕ → ℕ → Option ℤ → Reading ℕ
ranged least most (Some (pos n)) = if nat_le least n && nat_le n most then Ok n else here code.Limit
ranged least most (Some (negsuc n)) = here code.Limit
ranged least most None = here code.Form

abbrev pub whole : ℕ → ℕ → Data → Reading ℕ
whole least most (number n) = ranged least most (as_i64 n)
whole least most d = here code.Form

-- at least so many, and at most so many if there is a bound
abbrev pub is_within : ℕ → Option ℕ → ℕ → Bool
is_within least None n = nat_le least n
is_within least (Some most) n = nat_le least n && nat_le n most

abbrev pub count : Items → ℕ
count no_items = 0
count (item d ds) = suc (count ds)

-- the items from a place on, in order
abbrev pub each_item : {A : Type 0} → (Data → Reading A) → ℕ → Items → Reading (List A)
each_item part n no_items = Ok []
each_item part n (item d ds) = and_then (under (item_step n) (part d)) (λ x. and_then (each_item part (suc n) ds) (λ xs. Ok (x ∷ xs)))

-- an array of like parts, at least and at most so many
abbrev pub several : {A : Type 0} → ℕ → Option ℕ → (Data → Reading A) → Data → Reading (List A)
several least most part (array ds) = if is_within least most (count ds) then each_item part 0 ds else here code.Limit
several least most part d = here code.Form

-- a part with its name: a fault of the part itself comes before one of its name, and one within it after
abbrev pub with_name : {A : Type 0} → NameForm → (Data → Reading A) → Name → Data → Reading (Name × A)
with_name form part n d = and_then (around (part d) (name_test form n)) (λ x. Ok (n, x))

-- the members, by name
abbrev pub each_member : {A : Type 0} → NameForm → (Data → Reading A) → Members → Reading (List (Name × A))
each_member form part no_members = Ok []
each_member form part (another n d ms) = and_then (under (member_step n) (with_name form part n d)) (λ x. and_then (each_member form part ms) (λ xs. Ok (x ∷ xs)))

abbrev pub size : Members → ℕ
size no_members = 0
size (another n d ms) = suc (size ms)

-- an object of named parts, at most so many
abbrev pub named_parts : {A : Type 0} → NameForm → Option ℕ → (Data → Reading A) → Data → Reading (List (Name × A))
named_parts form most part (object ms) = if is_within 0 most (size ms) then each_member form part ms else here code.Limit
named_parts form most part d = here code.Form

-- an object with one member
abbrev pub sole : {A : Type 0} → (Name → Data → Reading A) → Data → Reading A
sole part (object (another w body no_members)) = part w body
sole part d = here code.Form

-- an array of two items
abbrev pub two : {A : Type 0} → (Data → Data → Reading A) → Data → Reading A
two part (array (item a (item b no_items))) = part a b
two part d = here code.Form
