use Rattle.std.proofs.Common.{Ok}
use Rattle.serde_json.specs.View.{view}
use Rattle.es_decl.specs.Names.{name_test}
use Rattle.es_decl.specs.Readings.{around}
use Rattle.es_decl.proofs.ReadingLemmas.{fails}
use Rattle.es_decl.proofs.parts.with_name.Goals as goal

pub returns-in-Err : goal.returns-in-Err
returns-in-Err g c =
    let r = g.P.Part.meaning c.args.part.now (view c.args.tree.now) in
    let t = name_test c.args.form c.args.name.now in
    fails (around r t) (λ x. Ok (c.args.name.now, x)) c.in-Err.fault (c.in-Err.ensures r t c.read.ensures c.test_name.ensures)
