-- The canonical text of what a line asks asks for the same.
use Rattle.std.proofs.Common.{◌≡◌, ◌∙◌, ℕ, Bool, true, false, IsTrue, List, [], ◌∷◌, ◌++◌, codes, Option, Some, None, option_map, IsUtf8, if◌then◌else◌, refl, ap, subst}
use Rattle.std.proofs.lemmas.Str.{IsUtf8-from_is_utf8}
use Rattle.std.specs.Str.{is_utf8}
use Rattle.std.specs.Ordering.{nat_cmp, match_ordering}
use Rattle.std.specs.declared.cmp.Ordering.{Ordering}
use Rattle.std.specs.declared.cmp.Ordering.TheVariants.{Less, Equal, Greater}
use Rattle.std.specs.Cmp.Lexicographic.{slice_cmp}
use Rattle.json.proofs.Printed.Utf8.{IsUtf8-are_ascii}
use Rattle.uuid.specs.Text.{parsed}
use Rattle.serde_json.specs.Data.{Data, null, boolean, number, string, array, object, Members, no_members, member}
use Rattle.serde_json.specs.Find.{get, get_member, as_u64}
use Rattle.serde_json.specs.Read.{read}
use Rattle.es_model.specs.Names.{halves, topic_of}
use Rattle.es_model.specs.Values.{Name}
use Rattle.es_model.specs.declared.declaration.System.{System}
use Rattle.es_transcode.specs.CanonicalText.{record_tree}
use Rattle.es_transcode.specs.Decoded.{tree_in, record_in}
use Rattle.es_transcode.specs.RecordText.{IsRecordTree}
use Rattle.es_transcode.proofs.CanonicalLemmas.{only-record_tree}
use Rattle.es_transcode.proofs.DecodedLemmas.{tree-of-record}
use Rattle.es_transcode.proofs.OutlineLemmas.{HasWhole}
use Rattle.es_transcode.proofs.RecordLemmas.{whole-record}
use Rattle.es_domain.specs.declared.command.Command.{Command}
use Rattle.es_lines.specs.CommandText.{command_tree, command_text, is_absent_or_expectable}
use Rattle.es_lines.specs.Requests.{asks, and_then, has_only, text_in, is_expectable, number_if, number_in, optional, text_of, names, id_of, args, target, command, is_true, aggregate, app_and, has, do_line, get_line, log_line, tracking_line, snapshot_line, word_line, spelled, request_in, IsDeclared}
use Rattle.es_lines.specs.declared.request.Request.{Request}
use Rattle.es_lines.specs.declared.request.Request.TheVariants.{Do, Get, Log, Tracking, Snapshot, Sync, Stop}
use Rattle.es_lines.proofs.IdLemmas.{parsed-again, utf8-simple}
use Rattle.es_lines.proofs.PointLemmas.{halves-joined}
use Rattle.es_lines.proofs.RequestLemmas.{asked-of}
use Rattle.es_lines.proofs.TextLemmas.{utf8-text, read-compact}
use Rattle.es_lines.proofs.TokenLemmas.{IsSound, HasSound, sound-read}
use Rattle.es_lines.proofs.TreeLemmas.{IsWritable, asked-by, flat-tree, small, tree_with}

-- ---- parts that are there

one : {A : Type 0} (x y : A) → Some x ≡ Some y → x ≡ y
one x y is = cc is

taken : {A B : Type 0} (o : Option A) (f : A → Option B) (b : B) → and_then o f ≡ Some b → (a : A) × (o ≡ Some a) × (f a ≡ Some b)
taken None f b is = absurd (cc is)
taken (Some a) f b is = (a, refl, is)

chosen : {A : Type 0} (b : Bool) (o : Option A) (x : A) → (if b then o else None) ≡ Some x → (b ≡ true) × (o ≡ Some x)
chosen true o x is = (refl, is)
chosen false o x is = absurd (cc is)

text-is : (d : Data) (s : List ℕ) → text_in d ≡ Some s → d ≡ string s
text-is null s is = absurd (cc is)
text-is (boolean b) s is = absurd (cc is)
text-is (number n) s is = absurd (cc is)
text-is (string t) s is = let same : t ≡ s = cc is in ap string same
text-is (array ds) s is = absurd (cc is)
text-is (object ms) s is = absurd (cc is)

-- ---- what stands in a sound tree is sound

sound-step : (o : Ordering) (k : List ℕ) (e d : Data) (ms : Members) → IsSound e → (get_member k ms ≡ Some d → IsSound d) → match_ordering o (get_member k ms) (Some e) (get_member k ms) ≡ Some d → IsSound d
sound-step Less k e d ms sound rest is = rest is
sound-step Equal k e d ms sound rest is = let same : e ≡ d = cc is in subst IsSound same sound
sound-step Greater k e d ms sound rest is = rest is

sound-member : (k : List ℕ) (ms : Members) (d : Data) → HasSound ms → get_member k ms ≡ Some d → IsSound d
sound-member k no_members d sound is = absurd (cc is)
sound-member k (member l e ms) d sound is = sound-step (slice_cmp nat_cmp k l) k e d ms sound.2 (sound-member k ms d sound.3) is

sound-get : (k : List ℕ) (t d : Data) → IsSound t → get k t ≡ Some d → IsSound d
sound-get k null d sound is = absurd (cc is)
sound-get k (boolean b) d sound is = absurd (cc is)
sound-get k (number n) d sound is = absurd (cc is)
sound-get k (string s) d sound is = absurd (cc is)
sound-get k (array ds) d sound is = absurd (cc is)
sound-get k (object ms) d sound is = sound-member k ms d sound is

utf8-of : (k : List ℕ) (t : Data) (s : List ℕ) → IsSound t → text_of k t ≡ Some s → IsUtf8 s
utf8-of k t s sound is =
    let m = taken (get k t) text_in s is in
    subst IsSound (text-is m.0 s m.2) (sound-get k t m.0 sound m.1)

-- ---- the version that a line expects

version-is : (o : Option ℕ) (n : ℕ) → number_if is_expectable o ≡ Some n → IsTrue (is_expectable n)
version-is None n is = absurd (cc is)
version-is (Some m) n is = let c = chosen (is_expectable m) (Some m) n is in let same : m ≡ n = cc c.1 in subst (λ k. IsTrue (is_expectable k)) same c.0

version-in : (d : Data) (n : ℕ) → number_in is_expectable d ≡ Some n → IsTrue (is_expectable n)
version-in null n is = absurd (cc is)
version-in (boolean b) n is = absurd (cc is)
version-in (number k) n is = version-is (as_u64 k) n is
version-in (string s) n is = absurd (cc is)
version-in (array ds) n is = absurd (cc is)
version-in (object ms) n is = absurd (cc is)

some-version : (o v : Option ℕ) → ((n : ℕ) → o ≡ Some n → IsTrue (is_expectable n)) → option_map {U = Option ℕ} (λ n. Some n) o ≡ Some v → IsTrue (is_absent_or_expectable v)
some-version None v fits is = absurd (cc is)
some-version (Some n) v fits is = let same : Some n ≡ v = cc is in subst (λ w. IsTrue (is_absent_or_expectable w)) same (fits n refl)

expected-fits : (o : Option Data) (v : Option ℕ) → optional is_expectable o ≡ Some v → IsTrue (is_absent_or_expectable v)
expected-fits None v is = let same : None ≡ v = cc is in subst (λ w. IsTrue (is_absent_or_expectable w)) same refl
expected-fits (Some d) v is = some-version (number_in is_expectable d) v (λ n e. version-in d n e) is

-- ---- a command that a sound tree spells

-- it can be written, and what is written of it is sound
record IsSpelled (c : Command) : Type 0 where
  writable : IsWritable c
  names : IsUtf8 (topic_of c.class c.name)
  args : IsSound (record_tree c.args)
  whole : HasWhole (record_tree c.args)

spelled-command : (d : Data) (c : Command) → IsSound d → command d ≡ Some c → IsSpelled c
spelled-command d c sound is =
    let t = taken (target d) _ c is in
    let a = taken (args d) _ c t.2 in
    let v = taken (optional is_expectable (get (codes "expect") d)) _ c a.2 in
    let n = taken (names d) _ t.0 t.1 in
    let i = taken (id_of (codes "id") d) _ t.0 n.2 in
    let both : (n.0, i.0) ≡ t.0 = cc i.2 in
    let s = taken (text_of (codes "do") d) halves n.0 n.1 in
    let u = taken (text_of (codes "id") d) parsed i.0 i.1 in
    let r = taken (get (codes "args") d) record_in a.0 a.1 in
    let tree : IsRecordTree a.0 r.0 = tree-of-record r.0 a.0 r.2 in
    let same_tree : r.0 ≡ record_tree a.0 = only-record_tree a.0 r.0 tree in
    let joined : s.0 ≡ n.0.0 ++ 46 ∷ n.0.1 = halves-joined s.0 n.0.0 n.0.1 s.2 in
    let made : IsSpelled (record { class = n.0.0; name = n.0.1; id = i.0; args = a.0; expect = v.0 }) = record {
      writable = record {
        names = subst (λ z. halves z ≡ Some n.0) joined s.2;
        id = parsed-again u.0 i.0 u.2;
        args = subst (λ z. record_in z ≡ Some a.0) same_tree r.2;
        expect = expected-fits (get (codes "expect") d) v.0 v.1;
      };
      names = subst IsUtf8 joined (utf8-of (codes "do") d s.0 sound s.1);
      args = subst IsSound same_tree (sound-get (codes "args") d r.0 sound r.1);
      whole = subst HasWhole same_tree (whole-record a.0 r.0 tree);
    } in
    let whole_command : record { class = n.0.0; name = n.0.1; id = i.0; args = a.0; expect = v.0 } ≡ c =
    ap (λ p. record { class = p.0.0; name = p.0.1; id = p.1; args = a.0; expect = v.0 }) both ∙ one _ c v.2 in
    subst IsSpelled whole_command made

-- ---- a line of another form is no command

abbrev app_or : Name → Option Request → Name
app_or app (Some (Do a c)) = a
app_or app o = app

abbrev command_or : Command → Option Request → Command
command_or command (Some (Do a c)) = c
command_or command o = command

abbrev do_names : List Name
do_names = codes "app" ∷ codes "args" ∷ codes "do" ∷ codes "expect" ∷ codes "id" ∷ []

either : (b : Bool) (x y : Option Request) (r : Request) → ¬ (x ≡ Some r) → ¬ (y ≡ Some r) → ¬ ((if b then x else y) ≡ Some r)
either true x y r no_x no_y is = no_x is
either false x y r no_x no_y is = no_y is

first : (b : Bool) (x y : Option Request) (r : Request) → ¬ (y ≡ Some r) → (if b then x else y) ≡ Some r → x ≡ Some r
first true x y r no_y is = is
first false x y r no_y is = absurd (no_y is)

no-get : (d : Data) (app : Name) (c : Command) → ¬ (get_line d ≡ Some (Do app c))
no-get d app c is =
    let m = chosen (has_only (codes "app" ∷ codes "get" ∷ codes "version" ∷ []) d) (and_then (text_of (codes "app") d) (λ app. and_then (aggregate d) (λ a. Some (Get app a.0 a.1)))) (Do app c) is in
    let a = taken (text_of (codes "app") d) _ (Do app c) m.1 in
    let b = taken (aggregate d) _ (Do app c) a.2 in
    absurd (cc b.2)

no-log : (d : Data) (app : Name) (c : Command) → ¬ (log_line d ≡ Some (Do app c))
no-log d app c is =
    let m = chosen (has_only (codes "app" ∷ codes "log" ∷ []) d) (and_then (app_and (codes "log") d) (λ p. Some (Log p.0 p.1))) (Do app c) is in
    let a = taken (app_and (codes "log") d) _ (Do app c) m.1 in
    absurd (cc a.2)

no-tracking : (d : Data) (app : Name) (c : Command) → ¬ (tracking_line d ≡ Some (Do app c))
no-tracking d app c is =
    let m = chosen (has_only (codes "app" ∷ codes "tracking" ∷ []) d) (and_then (app_and (codes "tracking") d) (λ p. Some (Tracking p.0 p.1))) (Do app c) is in
    let a = taken (app_and (codes "tracking") d) _ (Do app c) m.1 in
    absurd (cc a.2)

no-snapshot : (d : Data) (app : Name) (c : Command) → ¬ (snapshot_line d ≡ Some (Do app c))
no-snapshot d app c is =
    let m = chosen (has_only (codes "app" ∷ codes "snapshot" ∷ []) d) (and_then (text_of (codes "app") d) (λ app. and_then (id_of (codes "snapshot") d) (λ i. Some (Snapshot app i)))) (Do app c) is in
    let a = taken (text_of (codes "app") d) _ (Do app c) m.1 in
    let b = taken (id_of (codes "snapshot") d) _ (Do app c) a.2 in
    absurd (cc b.2)

no-word : (word : Name) (r : Request) (d : Data) (app : Name) (c : Command) → ¬ (r ≡ Do app c) → ¬ (word_line word r d ≡ Some (Do app c))
no-word word r d app c other is =
    let m = chosen (has_only (word ∷ []) d) (if is_true (get word d) then Some r else None) (Do app c) is in
    let a = chosen (is_true (get word d)) (Some r) (Do app c) m.1 in
    other (one r (Do app c) a.1)

of-do : (d : Data) (app : Name) (c : Command) → spelled d ≡ Some (Do app c) → do_line d ≡ Some (Do app c)
of-do d app c is =
    first (has (codes "do") d) (do_line d) _ (Do app c)
    (either (has (codes "get") d) (get_line d) _ (Do app c) (no-get d app c)
    (either (has (codes "log") d) (log_line d) _ (Do app c) (no-log d app c)
    (either (has (codes "tracking") d) (tracking_line d) _ (Do app c) (no-tracking d app c)
    (either (has (codes "snapshot") d) (snapshot_line d) _ (Do app c) (no-snapshot d app c)
    (either (has (codes "sync") d) (word_line (codes "sync") Sync d) _ (Do app c) (no-word (codes "sync") Sync d app c (λ e. absurd (cc e)))
    (no-word (codes "stop") Stop d app c (λ e. absurd (cc e)))))))) is

-- ---- its text

sound-tree : (app : Name) (c : Command) (v : Option ℕ) → IsUtf8 app → IsSpelled c → IsSound (tree_with app c v)
sound-tree app c None utf8 s =
    (IsUtf8-are_ascii (codes "app") refl, refl, utf8, (IsUtf8-are_ascii (codes "args") refl, refl, s.args, (IsUtf8-are_ascii (codes "do") refl, refl, s.names, (IsUtf8-are_ascii (codes "id") refl, tt, utf8-simple c.id, tt))))
sound-tree app c (Some n) utf8 s =
    (IsUtf8-are_ascii (codes "app") refl, refl, utf8, (IsUtf8-are_ascii (codes "args") refl, refl, s.args, (IsUtf8-are_ascii (codes "do") refl, refl, s.names, (IsUtf8-are_ascii (codes "expect") refl, refl, tt, (IsUtf8-are_ascii (codes "id") refl, tt, utf8-simple c.id, tt)))))

whole-tree : (app : Name) (c : Command) (v : Option ℕ) → IsTrue (is_absent_or_expectable v) → IsSpelled c → HasWhole (tree_with app c v)
whole-tree app c None fits s = (tt, (s.whole, (tt, (tt, tt))))
whole-tree app c (Some n) fits s = (tt, (s.whole, (tt, (small n fits, (tt, tt)))))

written : (sys : System) (app : Name) (c : Command) → IsUtf8 app → IsSpelled c → IsDeclared sys app c → request_in sys (command_text app c) ≡ asks (Do app c)
unfolding command_text
written sys app c utf8 s declared =
    let sound : IsSound (command_tree app c) = sound-tree app c c.expect utf8 s in
    let whole : HasWhole (command_tree app c) = whole-tree app c c.expect s.writable.expect s in
    asked-by sys app c (command_text app c) (utf8-text (command_tree app c) sound whole) (read-compact (command_tree app c) sound whole (flat-tree app c)) s.writable declared

pub canonical : (sys : System) (line : List ℕ) (app : Name) (c : Command) → request_in sys line ≡ asks (Do app c) → request_in sys (command_text app c) ≡ asks (Do app c)
canonical sys line app c is =
    let asked = asked-of sys (and_then (tree_in line) spelled) (Do app c) is in
    let tree = taken (tree_in line) spelled (Do app c) asked.1 in
    let text = chosen (is_utf8 line) (read line) tree.0 tree.1 in
    let sound : IsSound tree.0 = sound-read line tree.0 (IsUtf8-from_is_utf8 line text.0) text.1 in
    let m = chosen (has_only do_names tree.0) (and_then (text_of (codes "app") tree.0) (λ app. and_then (command tree.0) (λ c. Some (Do app c)))) (Do app c) (of-do tree.0 app c tree.2) in
    let a = taken (text_of (codes "app") tree.0) _ (Do app c) m.1 in
    let o = taken (command tree.0) _ (Do app c) a.2 in
    let same_app : a.0 ≡ app = ap (app_or app) o.2 in
    let same_command : o.0 ≡ c = ap (command_or c) o.2 in
    let utf8 : IsUtf8 app = subst IsUtf8 same_app (utf8-of (codes "app") tree.0 a.0 sound a.1) in
    let s : IsSpelled c = subst IsSpelled same_command (spelled-command tree.0 o.0 sound o.1) in
    written sys app c utf8 s asked.0
