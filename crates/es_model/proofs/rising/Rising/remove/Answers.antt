use Rattle.std.proofs.Common.{◌≡◌, ◌∙◌, sym, subst, true, false, not, slice_get, count_by, ap}
use Rattle.std.specs.Str.{bytes_eq}
use Rattle.es_model.specs.Rising.{IsRising, without, item_of, is_before}
use Rattle.es_model.specs.inner.Entries.{has_name}
use Rattle.es_model.proofs.RisingLemmas.{removed, removed_item, kept, absent_item, IsRising-filter}
use Rattle.es_model.proofs.rising.Rising.remove.Goals as goal

pub invariant_of-self : goal.invariant_of-self
invariant_of-self g c =
    let n : c.place_of-place.result ≡ count_by (λ x. is_before x.0 c.args.name.now) c.self.inside.entries.items = rw c.as_slice.ensures.value at c.place_of-place.ensures in
    let there : has_name (slice_get c.self.inside.entries.items c.place_of-place.result) c.args.name.now ≡ true = cc in
    subst IsRising (sym (c.remove-item.ensures.items ∙ removed c.self.inside.entries.items c.place_of-place.result c.args.name.now c.self.invariant n there))
    (IsRising-filter (λ x. not (bytes_eq x.0 c.args.name.now)) c.self.inside.entries.items c.self.invariant)

pub returns-then-is_at-clause-item : goal.returns-then-is_at-clause-item
returns-then-is_at-clause-item g c =
    let n : c.place_of-place.result ≡ count_by (λ x. is_before x.0 c.args.name.now) c.self.inside.entries.items = rw c.as_slice.ensures.value at c.place_of-place.ensures in
    let there : has_name (slice_get c.self.inside.entries.items c.place_of-place.result) c.args.name.now ≡ true = cc in
    removed_item c.self.inside.entries.items c.place_of-place.result c.args.name.now c.self.invariant n c.remove-item.result c.remove-item.ensures.value there
    ∙ ap (λ xs. item_of xs c.args.name.now) c.self.view_is

pub returns-then-is_at-clause-rest : goal.returns-then-is_at-clause-rest
returns-then-is_at-clause-rest g c =
    let n : c.place_of-place.result ≡ count_by (λ x. is_before x.0 c.args.name.now) c.self.inside.entries.items = rw c.as_slice.ensures.value at c.place_of-place.ensures in
    let there : has_name (slice_get c.self.inside.entries.items c.place_of-place.result) c.args.name.now ≡ true = cc in
    c.remove-item.ensures.items ∙ removed c.self.inside.entries.items c.place_of-place.result c.args.name.now c.self.invariant n there
    ∙ ap (λ xs. without xs c.args.name.now) c.self.view_is

pub returns-else-is_at-clause-item : goal.returns-else-is_at-clause-item
returns-else-is_at-clause-item g c =
    let n : c.place_of-place.result ≡ count_by (λ x. is_before x.0 c.args.name.now) c.self.inside.entries.items = rw c.as_slice.ensures.value at c.place_of-place.ensures in
    let absent : has_name (slice_get c.self.inside.entries.items c.place_of-place.result) c.args.name.now ≡ false = cc in
    absent_item c.self.inside.entries.items c.place_of-place.result c.args.name.now c.self.invariant n absent
    ∙ ap (λ xs. item_of xs c.args.name.now) c.self.view_is

pub returns-else-is_at-clause-rest : goal.returns-else-is_at-clause-rest
returns-else-is_at-clause-rest g c =
    let n : c.place_of-place.result ≡ count_by (λ x. is_before x.0 c.args.name.now) c.self.inside.entries.items = rw c.as_slice.ensures.value at c.place_of-place.ensures in
    let absent : has_name (slice_get c.self.inside.entries.items c.place_of-place.result) c.args.name.now ≡ false = cc in
    sym c.self.view_is ∙ kept c.self.inside.entries.items c.place_of-place.result c.args.name.now c.self.invariant n absent
    ∙ ap (λ xs. without xs c.args.name.now) c.self.view_is
