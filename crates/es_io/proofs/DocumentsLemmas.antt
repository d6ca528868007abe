-- The first document of a name, in a list that is gone through.
use Rattle.std.proofs.Common.{◌≡◌, ◌<◌, ◌+◌, ℕ, true, false, List, length, get_or, drop, drop-cons, add-one, Some, if◌then◌else◌, sym, ap, ◌∙◌}
use Rattle.std.specs.Str.{bytes_eq}
use Rattle.es_model.specs.Values.{Name}
use Rattle.es_io.specs.Documents.{first_named}

here : (ds : List (Name × List ℕ)) (i : ℕ) (d : Name × List ℕ) (name : Name) → i < length ds → d ≡ get_or ds i d
    → first_named (drop i ds) name ≡ (if bytes_eq name d.0 then Some d.1 else first_named (drop (i + 1) ds) name)
here ds i d name within is =
    ap (λ (t : List (Name × List ℕ)). first_named t name) (drop-cons ds i d within)
    ∙ (λ k. if bytes_eq name (sym is k).0 then Some (sym is k).1 else first_named (drop (sym (add-one i) k) ds) name)

pub first_named-hit : (ds : List (Name × List ℕ)) (i : ℕ) (d : Name × List ℕ) (name : Name) → i < length ds → d ≡ get_or ds i d → bytes_eq name d.0 ≡ true
    → first_named (drop i ds) name ≡ Some d.1
first_named-hit ds i d name within is same = here ds i d name within is ∙ (λ k. if same k then Some d.1 else first_named (drop (i + 1) ds) name)

pub first_named-miss : (ds : List (Name × List ℕ)) (i : ℕ) (d : Name × List ℕ) (name : Name) → i < length ds → d ≡ get_or ds i d → bytes_eq name d.0 ≡ false
    → first_named (drop i ds) name ≡ first_named (drop (i + 1) ds) name
first_named-miss ds i d name within is other = here ds i d name within is ∙ (λ k. if other k then Some d.1 else first_named (drop (i + 1) ds) name)
