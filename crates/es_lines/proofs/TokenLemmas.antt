-- The texts in a tree that is read from UTF-8 are UTF-8, and its names rise.
use Rattle.std.proofs.Common.{◌≡◌, ◌∙◌, ℕ, ◌<◌, ◌==◌, Bool, true, false, cond, List, [], ◌∷◌, ◌++◌, Option, Some, None, option_map, option_and_then, IsTrue, IsUtf8, refl, sym, ap, subst, arith, append_assoc, eqb-true}
use Rattle.std.specs.Ordering.{nat_cmp, is_lt, ordering_reverse, match_ordering}
use Rattle.std.specs.declared.cmp.Ordering.{Ordering}
use Rattle.std.specs.declared.cmp.Ordering.TheVariants.{Less, Equal, Greater}
use Rattle.std.specs.Cmp.Lexicographic.{slice_cmp}
use Rattle.std.proofs.lemmas.Cmp.{nat_list_cmp_total}
use Rattle.json.specs.Ascii as ascii
use Rattle.json.specs.Json as json
use Rattle.json.specs.Lex.{Lexeme, token, comma, colon, Class, quote, backslash, operator, space, other, class, operator_lexeme, string_token, Mode, between, in_word, in_string, in_escape, lex_byte, lex, Place, fresh, after_value, after_comma, after_key, begins_colon, may_begin, may_close, if_allowed, place_token, punctuate, tokens}
use Rattle.json.specs.Text.{plain, content}
use Rattle.json.specs.Token.{Token, begin_object, end_object, begin_array, end_array, key, string, number, boolean, null, bad}
use Rattle.json.specs.Tree.{json_tokens, items_tokens, members_tokens}
use Rattle.json.specs.Word.{word, head, number_before, after_number, ends_word, is_operator, is_space}
use Rattle.json.proofs.Unique.Spelling.{value-json_tokens_back}
use Rattle.serde_json.specs.Data as tree
use Rattle.serde_json.specs.Data.{Data, Items, no_items, item, Members, no_members, member, put}
use Rattle.serde_json.specs.Read.{number_of, of_json, of_items, of_members, read, max_depth}
use Rattle.es_model.specs.Rising.{is_before}
use Rattle.es_transcode.proofs.OutlineLemmas.{IsFirst, HasRising, ItemsHaveRising, MembersHaveRising}
use Rattle.es_lines.proofs.ContentLemmas.{content-utf8, back, found}

-- ---- tokens

abbrev IsSoundToken : Token → Type 0
IsSoundToken (key s) = IsUtf8 s
IsSoundToken (string s) = IsUtf8 s
IsSoundToken t = Unit {0}

abbrev AreSoundTokens : List Token → Type 0
AreSoundTokens [] = Unit {0}
AreSoundTokens (t ∷ ts) = IsSoundToken t × AreSoundTokens ts

abbrev IsSoundLexeme : Lexeme → Type 0
IsSoundLexeme (token t) = IsSoundToken t
IsSoundLexeme comma = Unit {0}
IsSoundLexeme colon = Unit {0}

abbrev AreSoundLexemes : List Lexeme → Type 0
AreSoundLexemes [] = Unit {0}
AreSoundLexemes (l ∷ ls) = IsSoundLexeme l × AreSoundLexemes ls

either : (b : Bool) (t u : Token) → IsSoundToken t → IsSoundToken u → IsSoundToken (cond b t u)
either true t u first second = first
either false t u first second = second

either-lexeme : (b : Bool) (t u : Lexeme) → IsSoundLexeme t → IsSoundLexeme u → IsSoundLexeme (cond b t u)
either-lexeme true t u first second = first
either-lexeme false t u first second = second

sound-number : (t : List ℕ) (o : Option (List ℕ)) → IsSoundToken (number_before t o)
sound-number t None = tt
sound-number t (Some rest) = either (ends_word rest) _ bad tt tt

sound-word : (t : List ℕ) → IsSoundToken (word t)
unfolding word
sound-word t =
    either (head t == ascii.lower_t) _ _ (either _ (boolean true) bad tt tt)
    (either (head t == ascii.lower_f) _ _ (either _ (boolean false) bad tt tt)
    (either (head t == ascii.lower_n) _ _ (either _ null bad tt tt) (sound-number t (after_number t))))

sound-operator : (x : ℕ) → IsSoundLexeme (operator_lexeme x)
sound-operator x =
    either-lexeme (x == ascii.open_brace) _ _ tt (either-lexeme (x == ascii.close_brace) _ _ tt (either-lexeme (x == ascii.open_bracket) _ _ tt
    (either-lexeme (x == ascii.close_bracket) _ _ tt (either-lexeme (x == ascii.comma) comma colon tt tt))))

sound-string : (o : Option (List ℕ)) → ((s : List ℕ) → o ≡ Some s → IsUtf8 s) → IsSoundToken (string_token o)
sound-string None utf8 = tt
sound-string (Some s) utf8 = utf8 s refl

sound-byte : (m : Mode) (c : Class) (x : ℕ) (xs : List ℕ) (k : Mode → List Lexeme) → (c ≡ quote → IsSoundToken (string_token (content plain xs))) → ((next : Mode) → AreSoundLexemes (k next))
    → AreSoundLexemes (lex_byte m c x xs k)
sound-byte between quote x xs k text rest = (text refl, rest in_string)
sound-byte between backslash x xs k text rest = (tt, rest in_word)
sound-byte between operator x xs k text rest = (sound-operator x, rest between)
sound-byte between space x xs k text rest = rest between
sound-byte between other x xs k text rest = (sound-word (x ∷ xs), rest in_word)
sound-byte in_word quote x xs k text rest = rest in_word
sound-byte in_word backslash x xs k text rest = rest in_word
sound-byte in_word operator x xs k text rest = (sound-operator x, rest between)
sound-byte in_word space x xs k text rest = rest between
sound-byte in_word other x xs k text rest = rest in_word
sound-byte in_string quote x xs k text rest = rest between
sound-byte in_string backslash x xs k text rest = rest in_escape
sound-byte in_string operator x xs k text rest = rest in_string
sound-byte in_string space x xs k text rest = rest in_string
sound-byte in_string other x xs k text rest = rest in_string
sound-byte in_escape c x xs k text rest = rest in_string

class-quote : (q b o s : Bool) → cond q quote (cond b backslash (cond o operator (cond s space other))) ≡ quote → q ≡ true
class-quote true b o s is = refl
class-quote false true o s is = absurd (cc is)
class-quote false false true s is = absurd (cc is)
class-quote false false false true is = absurd (cc is)
class-quote false false false false is = absurd (cc is)

sound-lex : (m : Mode) (xs p : List ℕ) → IsUtf8 (p ++ xs) → AreSoundLexemes (lex m xs)
unfolding lex
sound-lex m [] p utf8 = tt
sound-lex m (x ∷ xs) p utf8 =
    let text : class x ≡ quote → IsSoundToken (string_token (content plain xs)) = λ is.
    let small : x < 128 = omega (arith, eqb-true x 34 (class-quote (x == ascii.quote) (x == ascii.backslash) (is_operator x) (is_space x) is)) in
    sound-string (content plain xs) (λ s e. content-utf8 xs s (back p x xs small utf8) e)
    in
    sound-byte m (class x) x xs (λ next. lex next xs) text (λ next. sound-lex next xs (p ++ x ∷ []) (subst IsUtf8 (sym (append_assoc p (x ∷ []) xs)) utf8))

sound-if : (b : Bool) (t : Token) (k : Place → List Token) (next : Place) → IsSoundToken t → ((p : Place) → AreSoundTokens (k p)) → AreSoundTokens (if_allowed b t k next)
sound-if true t k next here rest = (here, rest next)
sound-if false t k next here rest = (tt, tt)

sound-place : (p : Place) (t : Token) (before_colon : Bool) (k : Place → List Token) → IsSoundToken t → ((q : Place) → AreSoundTokens (k q)) → AreSoundTokens (place_token p t before_colon k)
sound-place p begin_object b k here rest = sound-if (may_begin p) begin_object k fresh tt rest
sound-place p end_object b k here rest = sound-if (may_close p) end_object k after_value tt rest
sound-place p begin_array b k here rest = sound-if (may_begin p) begin_array k fresh tt rest
sound-place p end_array b k here rest = sound-if (may_close p) end_array k after_value tt rest
sound-place p (key s) b k here rest = (tt, tt)
sound-place p (string s) true k here rest = sound-if (may_begin p) (key s) k after_key here rest
sound-place p (string s) false k here rest = sound-if (may_begin p) (string s) k after_value here rest
sound-place p (number s) b k here rest = sound-if (may_begin p) (number s) k after_value tt rest
sound-place p (boolean t) b k here rest = sound-if (may_begin p) (boolean t) k after_value tt rest
sound-place p null b k here rest = sound-if (may_begin p) null k after_value tt rest
sound-place p bad b k here rest = (tt, tt)

sound-punctuate : (p : Place) (ls : List Lexeme) → AreSoundLexemes ls → AreSoundTokens (punctuate p ls)
unfolding punctuate
sound-punctuate fresh [] sound = tt
sound-punctuate after_value [] sound = tt
sound-punctuate after_comma [] sound = (tt, tt)
sound-punctuate after_key [] sound = (tt, tt)
sound-punctuate fresh (token t ∷ ls) sound = sound-place fresh t (begins_colon ls) _ sound.0 (λ q. sound-punctuate q ls sound.1)
sound-punctuate after_value (token t ∷ ls) sound = sound-place after_value t (begins_colon ls) _ sound.0 (λ q. sound-punctuate q ls sound.1)
sound-punctuate after_comma (token t ∷ ls) sound = sound-place after_comma t (begins_colon ls) _ sound.0 (λ q. sound-punctuate q ls sound.1)
sound-punctuate after_key (token t ∷ ls) sound = sound-place after_key t (begins_colon ls) _ sound.0 (λ q. sound-punctuate q ls sound.1)
sound-punctuate fresh (comma ∷ ls) sound = (tt, tt)
sound-punctuate after_value (comma ∷ ls) sound = sound-punctuate after_comma ls sound.1
sound-punctuate after_comma (comma ∷ ls) sound = (tt, tt)
sound-punctuate after_key (comma ∷ ls) sound = (tt, tt)
sound-punctuate fresh (colon ∷ ls) sound = (tt, tt)
sound-punctuate after_value (colon ∷ ls) sound = (tt, tt)
sound-punctuate after_comma (colon ∷ ls) sound = (tt, tt)
sound-punctuate after_key (colon ∷ ls) sound = sound-punctuate fresh ls sound.1

sound-tokens : (text : List ℕ) → IsUtf8 text → AreSoundTokens (tokens text)
sound-tokens text utf8 = sound-punctuate fresh (lex between text) (sound-lex between text [] utf8)

-- ---- values

abbrev mutual
  IsSoundJson : json.Json → Type 0
  IsSoundJson json.null = Unit {0}
  IsSoundJson (json.boolean b) = Unit {0}
  IsSoundJson (json.number s) = Unit {0}
  IsSoundJson (json.string s) = IsUtf8 s
  IsSoundJson (json.array js) = AreSoundJsons js
  IsSoundJson (json.object ms) = AreSoundMembers ms

  AreSoundJsons : json.Items → Type 0
  AreSoundJsons json.no_items = Unit {0}
  AreSoundJsons (json.item j js) = IsSoundJson j × AreSoundJsons js

  AreSoundMembers : json.Members → Type 0
  AreSoundMembers json.no_members = Unit {0}
  AreSoundMembers (json.member k j ms) = IsUtf8 k × IsSoundJson j × AreSoundMembers ms

mutual
  sound-json : (j : json.Json) (rest : List Token) → AreSoundTokens (json_tokens j ++ rest) → IsSoundJson j × AreSoundTokens rest
  sound-json json.null rest sound = (tt, sound.1)
  sound-json (json.boolean b) rest sound = (tt, sound.1)
  sound-json (json.number s) rest sound = (tt, sound.1)
  sound-json (json.string s) rest sound = (sound.0, sound.1)
  sound-json (json.array js) rest sound = sound-jsons js rest sound.1
  sound-json (json.object ms) rest sound = sound-members ms rest sound.1

  sound-jsons : (js : json.Items) (rest : List Token) → AreSoundTokens (items_tokens js ++ rest) → AreSoundJsons js × AreSoundTokens rest
  sound-jsons json.no_items rest sound = (tt, sound.1)
  sound-jsons (json.item j js) rest sound =
      let first = sound-json j (items_tokens js ++ rest) (subst AreSoundTokens (append_assoc (json_tokens j) (items_tokens js) rest) sound) in
      let others = sound-jsons js rest first.1 in
      ((first.0, others.0), others.1)

  sound-members : (ms : json.Members) (rest : List Token) → AreSoundTokens (members_tokens ms ++ rest) → AreSoundMembers ms × AreSoundTokens rest
  sound-members json.no_members rest sound = (tt, sound.1)
  sound-members (json.member k j ms) rest sound =
      let first = sound-json j (members_tokens ms ++ rest) (subst AreSoundTokens (append_assoc (json_tokens j) (members_tokens ms) rest) sound.1) in
      let others = sound-members ms rest first.1 in
      ((sound.0, first.0, others.0), others.1)

-- ---- trees

-- each text is UTF-8, and the names of each object rise
abbrev mutual
  pub IsSound : Data → Type 0
  IsSound tree.null = Unit {0}
  IsSound (tree.boolean b) = Unit {0}
  IsSound (tree.number n) = Unit {0}
  IsSound (tree.string s) = IsUtf8 s
  IsSound (tree.array ds) = AreSound ds
  IsSound (tree.object ms) = HasSound ms

  pub AreSound : Items → Type 0
  AreSound no_items = Unit {0}
  AreSound (item d ds) = IsSound d × AreSound ds

  pub HasSound : Members → Type 0
  HasSound no_members = Unit {0}
  HasSound (member k d ms) = IsUtf8 k × IsFirst k ms × IsSound d × HasSound ms

mutual
  pub rising-sound : (d : Data) → IsSound d → HasRising d
  rising-sound tree.null sound = tt
  rising-sound (tree.boolean b) sound = tt
  rising-sound (tree.number n) sound = tt
  rising-sound (tree.string s) sound = tt
  rising-sound (tree.array ds) sound = rising-items ds sound
  rising-sound (tree.object ms) sound = rising-members ms sound

  rising-items : (ds : Items) → AreSound ds → ItemsHaveRising ds
  rising-items no_items sound = tt
  rising-items (item d ds) sound = (rising-sound d sound.0, rising-items ds sound.1)

  rising-members : (ms : Members) → HasSound ms → MembersHaveRising ms
  rising-members no_members sound = tt
  rising-members (member k d ms) sound = (sound.1, rising-sound d sound.2, rising-members ms sound.3)

less : (o : Ordering) → o ≡ Less → IsTrue (is_lt o)
less o is = ap is_lt is

greater-less : (k l : List ℕ) → slice_cmp nat_cmp k l ≡ Greater → IsTrue (is_before l k)
greater-less k l is = less (slice_cmp nat_cmp l k) (nat_list_cmp_total.antisymm l k ∙ ap ordering_reverse is)

first-put : (l k : List ℕ) (d : Data) (ms : Members) → IsTrue (is_before l k) → IsFirst l ms → IsFirst l (put k d ms)
first-put l k d no_members before first = before
first-put l k d (member m e ms) before first = step (slice_cmp nat_cmp k m)
  where
    step : (c : Ordering) → IsFirst l (match_ordering c (member k d (member m e ms)) (member m d ms) (member m e (put k d ms)))
    step Less = before
    step Equal = first
    step Greater = first

has-put-step : (o : Ordering) (k l : List ℕ) (d e : Data) (ms : Members) → slice_cmp nat_cmp k l ≡ o → IsUtf8 k → IsSound d → HasSound (member l e ms) → HasSound (put k d ms)
    → HasSound (match_ordering o (member k d (member l e ms)) (member l d ms) (member l e (put k d ms)))
has-put-step Less k l d e ms is utf8 sound all rest = (utf8, less (slice_cmp nat_cmp k l) is, sound, all)
has-put-step Equal k l d e ms is utf8 sound all rest = (all.0, all.1, sound, all.3)
has-put-step Greater k l d e ms is utf8 sound all rest = (all.0, first-put l k d ms (greater-less k l is) all.1, all.2, rest)

has-put : (k : List ℕ) (d : Data) (ms : Members) → IsUtf8 k → IsSound d → HasSound ms → HasSound (put k d ms)
has-put k d no_members utf8 sound all = (utf8, tt, sound, tt)
has-put k d (member l e ms) utf8 sound all = has-put-step (slice_cmp nat_cmp k l) k l d e ms refl utf8 sound all (has-put k d ms utf8 sound all.3)

mapped : {A B : Type 0} (f : A → B) (o : Option A) (b : B) → option_map f o ≡ Some b → (a : A) × (o ≡ Some a) × (f a ≡ b)
mapped f None b is = absurd (cc is)
mapped f (Some a) b is = (a, refl, cc is)

mutual
  sound-tree : (j : json.Json) (d : Data) → IsSoundJson j → of_json j ≡ Some d → IsSound d
  sound-tree json.null d sound is = let same : tree.null ≡ d = cc is in subst IsSound same tt
  sound-tree (json.boolean b) d sound is = let same : tree.boolean b ≡ d = cc is in subst IsSound same tt
  sound-tree (json.number s) d sound is = let m = mapped tree.number (number_of s) d is in subst IsSound m.2 tt
  sound-tree (json.string s) d sound is = let same : tree.string s ≡ d = cc is in subst IsSound same sound
  sound-tree (json.array js) d sound is = let m = mapped tree.array (of_items js) d is in subst IsSound m.2 (sound-items js m.0 sound m.1)
  sound-tree (json.object ms) d sound is = let m = mapped tree.object (of_members ms no_members) d is in subst IsSound m.2 (sound-found ms no_members m.0 sound tt m.1)

  sound-items : (js : json.Items) (ds : Items) → AreSoundJsons js → of_items js ≡ Some ds → AreSound ds
  sound-items json.no_items ds sound is = let same : no_items ≡ ds = cc is in subst AreSound same tt
  sound-items (json.item j js) ds sound is =
      let e = found (λ d. option_map (item d) (of_items js)) (of_json j) ds is in
      let m = mapped (item e.0) (of_items js) ds e.2 in
      subst AreSound m.2 (sound-tree j e.0 sound.0 e.1, sound-items js m.0 sound.1 m.1)

  sound-found : (ms : json.Members) (before all : Members) → AreSoundMembers ms → HasSound before → of_members ms before ≡ Some all → HasSound all
  sound-found json.no_members before all sound known is = let same : before ≡ all = cc is in subst HasSound same known
  sound-found (json.member k j ms) before all sound known is =
      let e = found (λ d. of_members ms (put k d before)) (of_json j) all is in
      sound-found ms (put k e.0 before) all sound.2 (has-put k e.0 before sound.0 (sound-tree j e.0 sound.1 e.1) known) e.2

last-one : (j k : json.Json) (ts : List Token) → json.if_last j ts ≡ Some k → (ts ≡ []) × (j ≡ k)
last-one j k [] is = (refl, cc is)
last-one j k (t ∷ ts) is = absurd (cc is)

-- a tree that is read from UTF-8
pub sound-read : (text : List ℕ) (d : Data) → IsUtf8 text → read text ≡ Some d → IsSound d
sound-read text d utf8 is =
    let j = found of_json (option_and_then (λ p. json.if_last p.0 p.1) (json.value max_depth (tokens text))) d is in
    let p = found (λ p. json.if_last p.0 p.1) (json.value max_depth (tokens text)) j.0 j.1 in
    let end = last-one p.0.0 j.0 p.0.1 p.2 in
    let spelled : tokens text ≡ json_tokens p.0.0 ++ p.0.1 = value-json_tokens_back max_depth (tokens text) p.0.1 p.0.0 p.1 in
    let all = sound-json p.0.0 p.0.1 (subst AreSoundTokens spelled (sound-tokens text utf8)) in
    sound-tree j.0 d (subst IsSoundJson end.1 all.0) j.2
