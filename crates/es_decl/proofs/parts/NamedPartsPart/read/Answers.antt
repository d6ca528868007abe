use Rattle.std.proofs.Common.{◌∙◌, true, false, sym, subst}
use Rattle.es_decl.specs.Readings.{Reads}
use Rattle.es_decl.proofs.PartLemmas.{named-object}
use Rattle.es_decl.proofs.parts.NamedPartsPart.read.Goals as goal

pub returns-then-is_within : goal.returns-then-is_within
returns-then-is_within g c =
    let s = c.args.self.now in
    let e = named-object s.form s.most (g.P.Part.meaning s.part) c.args.tree.now c.in-Object.members c.in-Object.is c.len.result c.len.ensures.len true (sym c.is_within.ensures ∙ c.if-is_within.true) in
    subst (λ r. Reads r c.each_member.result) (sym e) c.each_member.ensures

pub returns-else-is_within : goal.returns-else-is_within
returns-else-is_within g c =
    let s = c.args.self.now in
    let e = named-object s.form s.most (g.P.Part.meaning s.part) c.args.tree.now c.in-Object.members c.in-Object.is c.len.result c.len.ensures.len false (sym c.is_within.ensures ∙ c.if-is_within.false) in
    subst (λ r. Reads r c.here.result) (sym e) c.here.ensures
