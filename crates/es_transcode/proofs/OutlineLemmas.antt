-- A tree with whole numbers, in whose objects the names rise, is read from its outline.
use Rattle.std.proofs.Common.{◌≡◌, ◌∙◌, ◌^◌, ◌<◌, ℕ, pos, negsuc, List, Some, option_map, option_and_then, IsTrue, refl, sym, ap}
use Rattle.std.specs.Ordering.{nat_cmp, is_lt, ordering_reverse, match_ordering}
use Rattle.std.specs.declared.cmp.Ordering.{Ordering}
use Rattle.std.specs.declared.cmp.Ordering.TheVariants.{Less, Equal, Greater}
use Rattle.std.specs.Cmp.Lexicographic.{slice_cmp}
use Rattle.std.proofs.lemmas.Cmp.{nat_list_cmp_total}
use Rattle.serde_json.specs.Data.{Num, unsigned, negative, float, Data, null, boolean, number, string, array, object, Items, no_items, item, Members, no_members, member, put}
use Rattle.serde_json.specs.Read as tree
use Rattle.serde_json.specs.Read.{of_json, of_items, of_members}
use Rattle.serde_json.specs.Written.{number_text, outline, items_outline, members_outline}
use Rattle.serde_json.proofs.Numbers.{number_of-decimal, number_of-negative}
use Rattle.es_model.specs.Rising.{is_before}
use Rattle.es_model.proofs.RisingLemmas.{before-trans}

-- each number is a whole one of 64 bits
abbrev pub IsWhole : Num → Type 0
IsWhole (unsigned n) = n < 2 ^ 64
IsWhole (negative (pos n)) = ⊥
IsWhole (negative (negsuc n)) = n < 2 ^ 63
IsWhole (float x) = ⊥

abbrev mutual
  pub HasWhole : Data → Type 0
  HasWhole null = Unit {0}
  HasWhole (boolean b) = Unit {0}
  HasWhole (number n) = IsWhole n
  HasWhole (string s) = Unit {0}
  HasWhole (array ds) = ItemsHaveWhole ds
  HasWhole (object ms) = MembersHaveWhole ms

  pub ItemsHaveWhole : Items → Type 0
  ItemsHaveWhole no_items = Unit {0}
  ItemsHaveWhole (item d ds) = HasWhole d × ItemsHaveWhole ds

  pub MembersHaveWhole : Members → Type 0
  MembersHaveWhole no_members = Unit {0}
  MembersHaveWhole (member k d ms) = HasWhole d × MembersHaveWhole ms

-- a name comes before the first of these
abbrev pub IsFirst : List ℕ → Members → Type 0
IsFirst k no_members = Unit {0}
IsFirst k (member l d ms) = IsTrue (is_before k l)

-- the names of each object rise
abbrev mutual
  pub HasRising : Data → Type 0
  HasRising null = Unit {0}
  HasRising (boolean b) = Unit {0}
  HasRising (number n) = Unit {0}
  HasRising (string s) = Unit {0}
  HasRising (array ds) = ItemsHaveRising ds
  HasRising (object ms) = MembersHaveRising ms

  pub ItemsHaveRising : Items → Type 0
  ItemsHaveRising no_items = Unit {0}
  ItemsHaveRising (item d ds) = HasRising d × ItemsHaveRising ds

  pub MembersHaveRising : Members → Type 0
  MembersHaveRising no_members = Unit {0}
  MembersHaveRising (member k d ms) = IsFirst k ms × HasRising d × MembersHaveRising ms

-- ---- members one after another

joined : Members → Members → Members
joined no_members ms = ms
joined (member k d rest) ms = member k d (joined rest ms)

-- each of these comes before a name
abbrev AreBefore : Members → List ℕ → Type 0
AreBefore no_members k = Unit {0}
AreBefore (member l d ms) k = IsTrue (is_before l k) × AreBefore ms k

-- and before the first of others
abbrev ComeBefore : Members → Members → Type 0
ComeBefore before no_members = Unit {0}
ComeBefore before (member k d ms) = AreBefore before k

less : (o : Ordering) → IsTrue (is_lt o) → o ≡ Less
less Less h = refl
less Equal h = absurd (cc h)
less Greater h = absurd (cc h)

after : (l k : List ℕ) → IsTrue (is_before l k) → slice_cmp nat_cmp k l ≡ Greater
after l k h = nat_list_cmp_total.antisymm k l ∙ ap ordering_reverse (less (slice_cmp nat_cmp l k) h)

put-last : (k : List ℕ) (d : Data) (before : Members) → AreBefore before k → put k d before ≡ joined before (member k d no_members)
unfolding joined
put-last k d no_members are = refl
put-last k d (member l e ms) are =
    ap (λ o. match_ordering o (member k d (member l e ms)) (member l d ms) (member l e (put k d ms))) (after l k are.0) ∙ ap (member l e) (put-last k d ms are.1)

before-last : (before : Members) (k l : List ℕ) (d : Data) → AreBefore before k → IsTrue (is_before k l) → AreBefore (joined before (member k d no_members)) l
unfolding joined
before-last no_members k l d are first = (first, tt)
before-last (member m e ms) k l d are first = (before-trans m k l are.0 first, before-last ms k l d are.1 first)

come-before : (before : Members) (k : List ℕ) (d : Data) (ms : Members) → AreBefore before k → IsFirst k ms → ComeBefore (joined before (member k d no_members)) ms
come-before before k d no_members are first = tt
come-before before k d (member l e ms) are first = before-last before k l d are first

joined-joined : (before : Members) (k : List ℕ) (d : Data) (ms : Members) → joined (joined before (member k d no_members)) ms ≡ joined before (member k d ms)
unfolding joined
joined-joined no_members k d ms = refl
joined-joined (member l e rest) k d ms = ap (member l e) (joined-joined rest k d ms)

joined-none : (before : Members) → joined before no_members ≡ before
unfolding joined
joined-none no_members = refl
joined-none (member k d ms) = ap (member k d) (joined-none ms)

-- ---- and the tree is read from its outline

number-back : (n : Num) → IsWhole n → option_map number (tree.number_of (number_text n)) ≡ Some (number n)
number-back (unsigned n) small = ap (option_map number) (number_of-decimal n small)
number-back (negative (pos n)) small = absurd small
number-back (negative (negsuc n)) small = ap (option_map number) (number_of-negative n small)
number-back (float x) small = absurd small

mutual
  unfolding joined

  pub tree-back : (d : Data) → HasRising d → HasWhole d → of_json (outline d) ≡ Some d
  tree-back null rising whole = refl
  tree-back (boolean b) rising whole = refl
  tree-back (number n) rising whole = number-back n whole
  tree-back (string s) rising whole = refl
  tree-back (array ds) rising whole = ap (option_map array) (items-back ds rising whole)
  tree-back (object ms) rising whole = ap (option_map object) (members-back ms no_members rising whole (come-first ms))

  items-back : (ds : Items) → ItemsHaveRising ds → ItemsHaveWhole ds → of_items (items_outline ds) ≡ Some ds
  items-back no_items rising whole = refl
  items-back (item d ds) rising whole =
      (λ i. option_and_then (λ e. option_map (item e) (of_items (items_outline ds))) (tree-back d rising.0 whole.0 i)) ∙ ap (option_map (item d)) (items-back ds rising.1 whole.1)

  members-back : (ms before : Members) → MembersHaveRising ms → MembersHaveWhole ms → ComeBefore before ms → of_members (members_outline ms) before ≡ Some (joined before ms)
  members-back no_members before rising whole come = ap (λ m. Some m) (sym (joined-none before))
  members-back (member k d ms) before rising whole come =
      (λ i. option_and_then (λ e. of_members (members_outline ms) (put k e before)) (tree-back d rising.1 whole.0 i))
      ∙ ap (of_members (members_outline ms)) (put-last k d before come)
      ∙ members-back ms (joined before (member k d no_members)) rising.2 whole.1 (come-before before k d ms come rising.0)
      ∙ ap (λ m. Some m) (joined-joined before k d ms)

  come-first : (ms : Members) → ComeBefore no_members ms
  come-first no_members = tt
  come-first (member k d ms) = tt
