-- The rules of a declared system are lawful.
use Rattle.std.proofs.Common.{◌≡◌, inl, inr, ℕ, zero, suc, Bool, true, false, List, [], ◌∷◌, map, find, Contains, Some, option_map, if◌then◌else◌, refl, sym, ap, ◌∙◌, subst}
use Rattle.std.specs.Str.{bytes_eq}
use Rattle.es_model.specs.Rising.{with_item, item_of}
use Rattle.es_model.proofs.ItemLemmas.{item-with, item-with_other}
use Rattle.es_model.specs.Values.{Name}
use Rattle.es_model.specs.declared.declaration.System.{System}
use Rattle.es_expr.specs.Checked.{IsCheckedSystem}
use Rattle.es_decl.specs.Distinct.{AreDistinct as IsListDistinct}
use Rattle.es_decl.proofs.CheckedSystemLemmas.{pair-declared, names-distinct}
use Rattle.es_lines.specs.Requests.{asks, request_in, app_asked}
use Rattle.es_lines.specs.declared.request.Request.{Request}
use Rattle.es_lines.specs.declared.request.Request.TheVariants.{Do, Get, Log, Tracking, Snapshot, Sync, Stop}
use Rattle.es_lines.proofs.CanonicalLemmas as canon
use Rattle.es_lines.proofs.RequestLemmas as request
use Rattle.es_process.specs.SystemRules.{rules_of, names_of, app_names, in_order, decide_entry}
use Rattle.es_process.specs.inner.Lawful.{IsLocal, IsLawful}
use Rattle.es_process.specs.Standing.{AreDistinct}
use Rattle.es_process.proofs.HoldsLemmas.{contains-at}
use Rattle.es_process.proofs.AmongLemmas.{contains-here, contains-later, contains-cases, contains-none, same-name, is-same}

-- an entry of a name is there under that name
named-entry : {A : Type 0} (xs : List (Name × A)) (n : Name) (x : A) → item_of xs n ≡ Some x → Contains (map (λ y. y.0) xs) n
named-entry [] n x is = absurd (cc is)
named-entry (y ∷ ys) n x is = by (named-entry ys n x) (bytes_eq y.0 n) refl is
  where
    by : (item_of ys n ≡ Some x → Contains (map (λ z. z.0) ys) n) → (v : Bool) → bytes_eq y.0 n ≡ v → option_map (λ z. z.1) (if v then Some y else find (λ z. bytes_eq z.0 n) ys) ≡ Some x → Contains (map (λ z. z.0) (y ∷ ys)) n
    by behind true same found = subst (Contains (map (λ z. z.0) (y ∷ ys))) (same-name y.0 n same) (contains-here y.0 (map (λ z. z.0) ys))
    by behind false other found = contains-later y.0 (map (λ z. z.0) ys) n (behind found)

-- each of some names has its entry
entry-in-order : {A : Type 0} (f : Name → A) (ns : List Name) (n : Name) → Contains ns n → item_of (in_order f ns) n ≡ Some (f n)
entry-in-order f [] n there = contains-none n there
entry-in-order f (m ∷ ms) n there = by (entry-in-order f ms n) (bytes_eq n m) refl
  where
    by : (Contains ms n → item_of (in_order f ms) n ≡ Some (f n)) → (v : Bool) → bytes_eq n m ≡ v → item_of (with_item (in_order f ms) m (f m)) n ≡ Some (f n)
    by later true same = let is : n ≡ m = same-name n m same in ap (item_of (with_item (in_order f ms) m (f m))) is ∙ item-with m (in_order f ms) (f m) ∙ ap (λ k. Some (f k)) (sym is)
    by later false other = item-with_other m n (in_order f ms) (f m) other ∙ later (elim (contains-cases m ms n there) [
      | inl is ↦ (let clash : false ≡ true = sym other ∙ is-same n m (sym is) in absurd (cc clash))
      | inr behind ↦ behind
    ])

-- each application is among the names in byte order
pub names-contain : (sys : System) (n : Name) → Contains (app_names sys) n → Contains (names_of sys) n
names-contain sys n there = named-entry (in_order (λ m. tt {0}) (app_names sys)) n (tt {0}) (entry-in-order (λ m. tt {0}) (app_names sys) n there)

-- the application of which a line asks something is declared
asked-app : (sys : System) (line : List ℕ) (r : Request) (app : Name) → request_in sys line ≡ asks r → app_asked r ≡ Some app → Contains (app_names sys) app
asked-app sys line (Do other c) app is about = let same : other ≡ app = cc about in subst (Contains (app_names sys)) same (request.named sys line other c is)
asked-app sys line (Get other i version) app is about = let same : other ≡ app = cc about in subst (Contains (app_names sys)) same (request.named-app sys other (request.of-system sys line (Get other i version) is))
asked-app sys line (Log other section) app is about = let same : other ≡ app = cc about in subst (Contains (app_names sys)) same (request.named-app sys other (request.of-system sys line (Log other section) is))
asked-app sys line (Tracking other leader) app is about = let same : other ≡ app = cc about in subst (Contains (app_names sys)) same (request.named-app sys other (request.of-system sys line (Tracking other leader) is))
asked-app sys line (Snapshot other i) app is about = let same : other ≡ app = cc about in subst (Contains (app_names sys)) same (request.named-app sys other (request.of-system sys line (Snapshot other i) is))
asked-app sys line Sync app is about = absurd (cc about)
asked-app sys line Stop app is about = absurd (cc about)

module _ (sys : System) where
  pub declared-local : IsLocal (rules_of sys)
  declared-local = record {
    commands = λ app before logs others asked at. refl;
    notifications = λ app before logs others leader id at same. ap (decide_entry sys app before leader id at) same;
  }

  pub declared-lawful : IsCheckedSystem sys → IsLawful (rules_of sys)
  declared-lawful checked = record {
    local = declared-local;
    canonical = canon.canonical sys;
    named = λ line r app is about. names-contain sys app (asked-app sys line r app is about);
    paired = λ p there. let d = pair-declared sys p checked there in (names-contain sys p.0 d.0, names-contain sys p.1 d.1);
  }

-- names that are distinct stand at one place each
distinct-places : (names : List Name) → IsListDistinct names → AreDistinct names
distinct-places [] distinct i j n a b = absurd (cc a)
distinct-places (x ∷ xs) distinct zero zero n a b = refl
distinct-places (x ∷ xs) distinct zero (suc j) n a b =
    let is : x ≡ n = cc in absurd (distinct.0 (subst (Contains xs) (sym is) (contains-at xs j n b)))
distinct-places (x ∷ xs) distinct (suc i) zero n a b =
    let is : x ≡ n = cc in absurd (distinct.0 (subst (Contains xs) (sym is) (contains-at xs i n a)))
distinct-places (x ∷ xs) distinct (suc i) (suc j) n a b = ap suc (distinct-places xs distinct.1 i j n a b)

-- the applications of a checked system have distinct names
pub distinct-apps : (sys : System) → IsCheckedSystem sys → AreDistinct (app_names sys)
distinct-apps sys checked = distinct-places (app_names sys) (names-distinct sys checked)
