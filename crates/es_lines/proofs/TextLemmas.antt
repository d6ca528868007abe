-- A compact text is read back as its tree.
use Rattle.std.proofs.Common.{◌≡◌, ◌∙◌, ◌≤◌, ℕ, pos, negsuc, Bool, true, false, List, [], ◌∷◌, Some, IsUtf8, refl, sym, ap, arith}
use Rattle.std.proofs.lemmas.Fmt.{IsAscii-decimal, IsAscii-signed}
use Rattle.std.proofs.lemmas.Str.{IsUtf8-append, IsUtf8-from_ascii, IsUtf8-nil}
use Rattle.json.specs.Json as json
use Rattle.json.specs.Lex.{tokens}
use Rattle.json.specs.Tree.{json_tokens, HasNumbers, ItemsHaveNumbers, MembersHaveNumbers}
use Rattle.json.proofs.Printed.Decimals.{IsNumber-decimal, IsNumber-signed_decimal}
use Rattle.json.proofs.Printed.Tokens.{tokens-print}
use Rattle.json.proofs.Printed.Trees.{ArePrintable-json_tokens}
use Rattle.json.proofs.Printed.Utf8.{IsUtf8-are_ascii, IsUtf8-quoted, IsUtf8-boolean}
use Rattle.serde_json.specs.Data.{Num, unsigned, negative, float, Data, null, boolean, number, string, array, object, Items, no_items, item, Members, no_members, member, depth}
use Rattle.serde_json.specs.Read.{read, max_depth}
use Rattle.serde_json.specs.Written.{number_text, outline, items_outline, members_outline, comma_if, compact_text, items_text, members_text}
use Rattle.serde_json.proofs.Texts.{print-outline}
use Rattle.es_transcode.proofs.OutlineLemmas.{IsWhole, HasWhole, ItemsHaveWhole, MembersHaveWhole, tree-back}
use Rattle.es_transcode.proofs.WritingLemmas.{read-back}
use Rattle.es_lines.proofs.TokenLemmas.{IsSound, AreSound, HasSound, rising-sound}

-- ---- the text is UTF-8

utf8-number : (n : Num) → IsWhole n → IsUtf8 (number_text n)
utf8-number (unsigned n) small = IsUtf8-from_ascii _ (IsAscii-decimal n small)
utf8-number (negative (pos n)) small = absurd small
utf8-number (negative (negsuc n)) small = IsUtf8-from_ascii _ (IsAscii-signed (negsuc n) (omega (arith, small)))
utf8-number (float x) small = absurd small

utf8-comma : (later : Bool) → IsUtf8 (comma_if later)
utf8-comma true = IsUtf8-are_ascii _ refl
utf8-comma false = IsUtf8-nil

utf8-byte : (x : ℕ) (xs : List ℕ) → IsUtf8 (x ∷ []) → IsUtf8 xs → IsUtf8 (x ∷ xs)
utf8-byte x xs byte rest = IsUtf8-append (x ∷ []) xs byte rest

mutual
  pub utf8-text : (d : Data) → IsSound d → HasWhole d → IsUtf8 (compact_text d)
  utf8-text null sound whole = IsUtf8-are_ascii _ refl
  utf8-text (boolean b) sound whole = IsUtf8-boolean b
  utf8-text (number n) sound whole = utf8-number n whole
  utf8-text (string s) sound whole = IsUtf8-quoted s sound
  utf8-text (array ds) sound whole = utf8-byte 91 _ (IsUtf8-are_ascii _ refl) (utf8-items false ds sound whole)
  utf8-text (object ms) sound whole = utf8-byte 123 _ (IsUtf8-are_ascii _ refl) (utf8-members false ms sound whole)

  utf8-items : (later : Bool) (ds : Items) → AreSound ds → ItemsHaveWhole ds → IsUtf8 (items_text later ds)
  utf8-items later no_items sound whole = IsUtf8-are_ascii (93 ∷ []) refl
  utf8-items later (item d ds) sound whole = IsUtf8-append _ _ (utf8-comma later) (IsUtf8-append _ _ (utf8-text d sound.0 whole.0) (utf8-items true ds sound.1 whole.1))

  utf8-members : (later : Bool) (ms : Members) → HasSound ms → MembersHaveWhole ms → IsUtf8 (members_text later ms)
  utf8-members later no_members sound whole = IsUtf8-are_ascii (125 ∷ []) refl
  utf8-members later (member k d ms) sound whole =
      IsUtf8-append _ _ (utf8-comma later)
      (IsUtf8-append _ _ (IsUtf8-quoted k sound.0) (utf8-byte 58 _ (IsUtf8-are_ascii _ refl) (IsUtf8-append _ _ (utf8-text d sound.2 whole.0) (utf8-members true ms sound.3 whole.1))))

-- ---- and it is read as the tree

number-outline : (n : Num) → IsWhole n → HasNumbers (json.number (number_text n))
number-outline (unsigned n) small = IsNumber-decimal n small
number-outline (negative (pos n)) small = absurd small
number-outline (negative (negsuc n)) small = IsNumber-signed_decimal (negsuc n) (omega (arith, small))
number-outline (float x) small = absurd small

mutual
  numbers-outline : (d : Data) → HasWhole d → HasNumbers (outline d)
  numbers-outline null whole = tt
  numbers-outline (boolean b) whole = tt
  numbers-outline (number n) whole = number-outline n whole
  numbers-outline (string s) whole = tt
  numbers-outline (array ds) whole = numbers-items ds whole
  numbers-outline (object ms) whole = numbers-members ms whole

  numbers-items : (ds : Items) → ItemsHaveWhole ds → ItemsHaveNumbers (items_outline ds)
  numbers-items no_items whole = tt
  numbers-items (item d ds) whole = (numbers-outline d whole.0, numbers-items ds whole.1)

  numbers-members : (ms : Members) → MembersHaveWhole ms → MembersHaveNumbers (members_outline ms)
  numbers-members no_members whole = tt
  numbers-members (member k d ms) whole = (numbers-outline d whole.0, numbers-members ms whole.1)

tokens-text : (d : Data) → HasWhole d → tokens (compact_text d) ≡ json_tokens (outline d)
tokens-text d whole = ap tokens (sym (print-outline d)) ∙ tokens-print (json_tokens (outline d)) (ArePrintable-json_tokens (outline d) (numbers-outline d whole))

-- the compact text of a tree with whole numbers whose names rise is read as the tree
pub read-compact : (d : Data) → IsSound d → HasWhole d → depth d ≤ max_depth → read (compact_text d) ≡ Some d
read-compact d sound whole shallow = read-back (compact_text d) d (tokens-text d whole) shallow (tree-back d (rising-sound d sound) whole)
