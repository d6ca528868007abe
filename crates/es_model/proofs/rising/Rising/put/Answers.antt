use Rattle.std.proofs.Common.{◌≡◌, ◌∙◌, sym, subst, true, false, slice_get, count_by, ap}
use Rattle.es_model.specs.Rising.{IsRising, with_item, is_before}
use Rattle.es_model.specs.inner.Entries.{has_name}
use Rattle.es_model.proofs.RisingLemmas.{replaced, inserted, IsRising-with_item}
use Rattle.es_model.proofs.rising.Rising.put.Goals as goal

pub invariant_of-self : goal.invariant_of-self
invariant_of-self g c =
    let n : c.place_of-place.result ≡ count_by (λ x. is_before x.0 c.args.name) c.self.inside.entries.items = rw c.as_str.ensures at (rw c.as_slice.ensures.value at c.place_of-place.ensures) in
    let there : has_name (slice_get c.self.inside.entries.items c.place_of-place.result) c.args.name ≡ true = cc in
    subst IsRising (sym (replaced c.self.inside.entries.items c.place_of-place.result c.args.name c.self.invariant n c.args.item there))
    (IsRising-with_item c.self.inside.entries.items c.args.name c.args.item c.self.invariant)

pub invariant_of-self-in-Continue-1 : goal.invariant_of-self-in-Continue-1
invariant_of-self-in-Continue-1 g c =
    let n : c.place_of-place.result ≡ count_by (λ x. is_before x.0 c.args.name) c.self.inside.entries.items = rw c.as_str.ensures at (rw c.as_slice.ensures.value at c.place_of-place.ensures) in
    let absent : has_name (slice_get c.self.inside.entries.items c.place_of-place.result) c.args.name ≡ false = cc in
    subst IsRising (sym (c.in_ok-insert.ensures.items ∙ inserted c.self.inside.entries.items c.place_of-place.result c.args.name c.self.invariant n c.args.item absent))
    (IsRising-with_item c.self.inside.entries.items c.args.name c.args.item c.self.invariant)

pub returns-then-is_at-clause-ok : goal.returns-then-is_at-clause-ok
returns-then-is_at-clause-ok g c =
    let n : c.place_of-place.result ≡ count_by (λ x. is_before x.0 c.args.name) c.self.inside.entries.items = rw c.as_str.ensures at (rw c.as_slice.ensures.value at c.place_of-place.ensures) in
    let there : has_name (slice_get c.self.inside.entries.items c.place_of-place.result) c.args.name ≡ true = cc in
    replaced c.self.inside.entries.items c.place_of-place.result c.args.name c.self.invariant n c.args.item there
    ∙ ap (λ xs. with_item xs c.args.name c.args.item) c.self.view_is

pub returns-in_ok-insert-clause-ok : goal.returns-in_ok-insert-clause-ok
returns-in_ok-insert-clause-ok g c =
    let n : c.place_of-place.result ≡ count_by (λ x. is_before x.0 c.args.name) c.self.inside.entries.items = rw c.as_str.ensures at (rw c.as_slice.ensures.value at c.place_of-place.ensures) in
    let absent : has_name (slice_get c.self.inside.entries.items c.place_of-place.result) c.args.name ≡ false = cc in
    c.in_ok-insert.ensures.items ∙ inserted c.self.inside.entries.items c.place_of-place.result c.args.name c.self.invariant n c.args.item absent
    ∙ ap (λ xs. with_item xs c.args.name c.args.item) c.self.view_is
