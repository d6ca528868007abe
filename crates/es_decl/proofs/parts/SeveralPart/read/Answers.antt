use Rattle.std.proofs.Common.{◌∙◌, true, false, sym, subst}
use Rattle.es_decl.specs.Readings.{Reads}
use Rattle.es_decl.proofs.PartLemmas.{several-array}
use Rattle.es_decl.proofs.parts.SeveralPart.read.Goals as goal

pub returns-then-is_within : goal.returns-then-is_within
returns-then-is_within g c =
    let s = c.args.self.now in
    let e = several-array s.least s.most (g.P.Part.meaning s.part) c.args.tree.now c.in-Array.trees c.as_slice-trees.result.now c.in-Array.is c.as_slice-trees.ensures.value true (sym c.is_within.ensures ∙ c.if-is_within.true) in
    subst (λ r. Reads r c.each_item.result) (sym e) c.each_item.ensures

pub returns-else-is_within : goal.returns-else-is_within
returns-else-is_within g c =
    let s = c.args.self.now in
    let e = several-array s.least s.most (g.P.Part.meaning s.part) c.args.tree.now c.in-Array.trees c.as_slice-trees.result.now c.in-Array.is c.as_slice-trees.ensures.value false (sym c.is_within.ensures ∙ c.if-is_within.false) in
    subst (λ r. Reads r c.here.result) (sym e) c.here.ensures
