use Rattle.std.proofs.Common.{ap, sym, ◌∙◌, Some, ◌≡◌, true, false}
use Rattle.std.specs.Str.{bytes_eq}
use Rattle.es_io.proofs.DocumentsLemmas.{first_named-hit, first_named-miss}
use Rattle.es_io.proofs.memory.find_document.Goals as goal

pub returns-then-eq : goal.returns-then-eq
returns-then-eq c =
    let same : bytes_eq c.args.name.now c.loop-known-item.result.0 ≡ true = (λ i. bytes_eq (sym c.as_str.ensures i) (sym c.as_str-in-loop-known.ensures i)) ∙ sym c.eq.ensures ∙ c.if-eq.true in
    ap Some (c.in_ok-copy.ensures {u = tt}) ∙ sym (first_named-hit _ _ _ _ c.loop-known-test.true c.loop-known-item.is same) ∙ c.loop-known.invariant

pub loop-known-preserved : goal.loop-known-preserved
loop-known-preserved c =
    let other : bytes_eq c.args.name.now c.loop-known-item.result.0 ≡ false = (λ i. bytes_eq (sym c.as_str.ensures i) (sym c.as_str-in-loop-known.ensures i)) ∙ sym c.eq.ensures ∙ c.if-eq.false in
    sym (first_named-miss _ _ _ _ c.loop-known-test.true c.loop-known-item.is other) ∙ c.loop-known.invariant
