use Rattle.std.proofs.Common.{subst}
use Rattle.serde_json.specs.View.{view}
use Rattle.es_decl.specs.Readings.{Reads}
use Rattle.es_decl.specs.Parts.{found}
use Rattle.es_decl.proofs.parts.member.Goals as goal

pub returns-in-Some : goal.returns-in-Some
returns-in-Some g c =
    let m = g.P.Part.meaning c.args.part.now in
    subst (λ o. Reads (found c.args.name.now m o) c.in_member.result) c.in-Some.ensures (c.in_member.ensures (m (view c.in-Some.value.now)) c.read.ensures)
