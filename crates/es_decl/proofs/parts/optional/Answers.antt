use Rattle.std.proofs.Common.{subst}
use Rattle.serde_json.specs.View.{view}
use Rattle.es_decl.specs.Readings.{Reads}
use Rattle.es_decl.specs.Parts.{if_found, some}
use Rattle.es_decl.proofs.parts.optional.Goals as goal

pub returns-in-Some : goal.returns-in-Some
returns-in-Some g c =
    let m = g.P.Part.meaning c.args.part.now in
    subst (λ o. Reads (if_found c.args.name.now m o) c.in_member.result) c.in-Some.ensures (c.in_member.ensures (some m (view c.in-Some.value.now)) c.some.ensures)
