-- Laws of the tree of a command.
use Rattle.std.proofs.Common.{◌≡◌, ◌∙◌, ◌≤◌, ◌<◌, ◌^◌, ℕ, IsTrue, List, [], ◌∷◌, ◌++◌, codes, Option, Some, None, option_map, option_and_then, IsUtf8, if◌then◌else◌, refl, sym, ap, subst, arith, leb-true}
use Rattle.std.proofs.lemmas.Str.{is_utf8-from_IsUtf8}
use Rattle.uuid.specs.Text.{simple_text, lower, parsed}
use Rattle.json.specs.Token.{Token, begin_object, end_object, key, string as token_string}
use Rattle.json.specs.Tree.{json_tokens}
use Rattle.json.specs.Written.{Written}
use Rattle.serde_json.specs.Data.{Num, Data, number, string, object, Members, no_members, member, put, depth}
use Rattle.serde_json.specs.Read.{of_json, of_members, read, max_depth}
use Rattle.serde_json.specs.Written.{outline, members_outline}
use Rattle.serde_json.proofs.Numbers.{number_of-decimal}
use Rattle.es_model.specs.Names.{halves, topic_of}
use Rattle.es_model.specs.Values.{Name, Id, Record}
use Rattle.es_model.specs.declared.declaration.System.{System}
use Rattle.es_model.specs.declared.limits.TheConstants.{MOST_EXPECTED}
use Rattle.es_transcode.specs.CanonicalText.{record_tree}
use Rattle.es_transcode.specs.Decoded.{tree_in, record_in}
use Rattle.es_transcode.specs.RecordText.{IsRecordTree}
use Rattle.es_transcode.specs.Written.{Adds}
use Rattle.es_transcode.proofs.DecodedLemmas.{record-of-tree}
use Rattle.es_transcode.proofs.RecordLemmas.{flat-members}
use Rattle.es_domain.specs.declared.command.Command.{Command}
use Rattle.es_lines.specs.CommandText.{command_tree, with_expected, is_absent_or_expectable}
use Rattle.es_lines.specs.inner.Parts.{expected_tokens}
use Rattle.es_lines.specs.Requests.{and_then, number_if, is_expectable, spelled, asks, asked_of, request_in, IsDeclared}
use Rattle.es_lines.specs.declared.request.Request.{Request}
use Rattle.es_lines.specs.declared.request.Request.TheVariants.{Do}
use Rattle.es_lines.proofs.RequestLemmas.{asks-fitting}

-- ---- it is read as the command

abbrev target_of : Option (Name × Name) → Option Id → Option ((Name × Name) × Id)
target_of n i = and_then n (λ n. and_then i (λ i. Some (n, i)))

abbrev command_of : Option ((Name × Name) × Id) → Option Record → Option (Option ℕ) → Option Command
command_of t a v = and_then t (λ t. and_then a (λ a. and_then v (λ v. Some (record { class = t.0.0; name = t.0.1; id = t.1; args = a; expect = v }))))

abbrev request_of : Name → Option Command → Option Request
request_of app c = and_then c (λ c. Some (Do app c))

abbrev of_parts : Name → Option (Name × Name) → Option Id → Option Record → Option (Option ℕ) → Option Request
of_parts app n i a v = request_of app (command_of (target_of n i) a v)

whole : (app : Name) (c : Command) (n : Option (Name × Name)) (i : Option Id) (a : Option Record) (v : Option (Option ℕ)) → n ≡ Some (c.class, c.name) → i ≡ Some c.id → a ≡ Some c.args → v ≡ Some c.expect
    → of_parts app n i a v ≡ Some (Do app c)
whole app c n i a v names id args expect = λ j. of_parts app (names j) (id j) (args j) (expect j)

expected-is : (n : ℕ) → IsTrue (is_expectable n) → number_if is_expectable (Some n) ≡ Some n
expected-is n is = rw is refl

abbrev pub tree_with : Name → Command → Option ℕ → Data
tree_with app c v = object
    (member (codes "app") (string app)
    (member (codes "args") (record_tree c.args)
    (member (codes "do") (string (topic_of c.class c.name))
    (with_expected v
    (member (codes "id") (string (simple_text lower c.id))
    no_members)))))

spelled-with : (app : Name) (c : Command) (v : Option ℕ) → c.expect ≡ v → IsTrue (is_absent_or_expectable v) → halves (topic_of c.class c.name) ≡ Some (c.class, c.name) → parsed (simple_text lower c.id) ≡ Some c.id
    → record_in (record_tree c.args) ≡ Some c.args → spelled (tree_with app c v) ≡ Some (Do app c)
spelled-with app c None same fits names id args = whole app c _ _ _ _ names id args (ap (λ v. Some v) (sym same))
spelled-with app c (Some n) same fits names id args =
    whole app c _ _ _ _ names id args (ap (option_map (λ v. Some v)) (expected-is n fits) ∙ ap (λ v. Some v) (sym same))

-- a command that can be written so
pub record IsWritable (c : Command) : Type 0 where
  pub names : halves (topic_of c.class c.name) ≡ Some (c.class, c.name)
  pub id : parsed (simple_text lower c.id) ≡ Some c.id
  pub args : record_in (record_tree c.args) ≡ Some c.args
  pub expect : IsTrue (is_absent_or_expectable c.expect)

pub spelled-tree : (app : Name) (c : Command) → IsWritable c → spelled (command_tree app c) ≡ Some (Do app c)
spelled-tree app c w = spelled-with app c c.expect refl w.expect w.names w.id w.args

read-text : (text : List ℕ) (d : Data) → IsUtf8 text → read text ≡ Some d → tree_in text ≡ Some d
read-text text d utf8 is = ap (λ b. if b then read text else None) (is_utf8-from_IsUtf8 text utf8) ∙ is

-- a text of the tree asks for the command
pub asked-by : (sys : System) (app : Name) (c : Command) (text : List ℕ) → IsUtf8 text → read text ≡ Some (command_tree app c) → IsWritable c → IsDeclared sys app c → request_in sys text ≡ asks (Do app c)
asked-by sys app c text utf8 is w declared =
    ap (λ o. asked_of sys (and_then o spelled)) (read-text text (command_tree app c) utf8 is) ∙ ap (asked_of sys) (spelled-tree app c w) ∙ asks-fitting sys app c declared

-- ---- it nests three levels at most, and is read from its outline

flat-with : (app : Name) (c : Command) (v : Option ℕ) → depth (tree_with app c v) ≤ max_depth
flat-with app c None = omega (arith, flat-members c.args)
flat-with app c (Some n) = omega (arith, flat-members c.args)

pub flat-tree : (app : Name) (c : Command) → depth (command_tree app c) ≤ max_depth
flat-tree app c = flat-with app c c.expect

-- the members after the arguments
abbrev others : Command → Option ℕ → Members
others c v = member (codes "do") (string (topic_of c.class c.name)) (with_expected v (member (codes "id") (string (simple_text lower c.id)) no_members))

abbrev found_before : Name → Data → Members
found_before app args = put (codes "args") args (put (codes "app") (string app) no_members)

pub small : (n : ℕ) → IsTrue (is_expectable n) → n < 2 ^ 64
small n is = let most : n ≤ MOST_EXPECTED = leb-true n MOST_EXPECTED is in omega (arith, most)

outline-others : (app : Name) (c : Command) (v : Option ℕ) → IsTrue (is_absent_or_expectable v) → option_map object (of_members (members_outline (others c v)) (found_before app (record_tree c.args))) ≡ Some (tree_with app c v)
outline-others app c None fits = refl
outline-others app c (Some n) fits =
    ap (λ (o : Option Num). option_map object (option_and_then (λ e. of_members (members_outline (member (codes "id") (string (simple_text lower c.id)) no_members)) (put (codes "expect") e (put (codes "do") (string (topic_of c.class c.name)) (found_before app (record_tree c.args))))) (option_map number o)))
    (number_of-decimal n (small n fits))

pub outline-tree : (app : Name) (c : Command) → of_json (outline (record_tree c.args)) ≡ Some (record_tree c.args) → IsTrue (is_absent_or_expectable c.expect) → of_json (outline (command_tree app c)) ≡ Some (command_tree app c)
outline-tree app c args fits =
    ap (λ (o : Option Data). option_map object (option_and_then (λ e. of_members (members_outline (others c c.expect)) (found_before app e)) o)) args ∙ outline-others app c c.expect fits

-- ---- its tokens are those of its members

abbrev with_tokens : Name → Command → Option ℕ → List Token
with_tokens app c v =
    begin_object ∷ key (codes "app") ∷ token_string app ∷ key (codes "args") ∷ (json_tokens (outline (record_tree c.args)) ++ key (codes "do") ∷ token_string (topic_of c.class c.name) ∷ (expected_tokens v
    ++ key (codes "id") ∷ token_string (simple_text lower c.id) ∷ end_object ∷ []))

tokens-with : (app : Name) (c : Command) (v : Option ℕ) → with_tokens app c v ≡ json_tokens (outline (tree_with app c v))
tokens-with app c None = refl
tokens-with app c (Some n) = refl

pub tokens-tree : {a b : Written} (app : Name) (c : Command) → Adds a b (with_tokens app c c.expect) → Adds a b (json_tokens (outline (command_tree app c)))
tokens-tree {a} {b} app c adds = subst (λ ts. Adds a b ts) (tokens-with app c c.expect) adds

-- a record that has a tree is read from its tree
pub record-again : (r : Record) → IsRecordTree r (record_tree r) → record_in (record_tree r) ≡ Some r
record-again r is = record-of-tree (record_tree r) r is
