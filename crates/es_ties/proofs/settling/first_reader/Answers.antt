use Rattle.std.proofs.Common.{◌∙◌, arith}
use Rattle.es_ties.proofs.Gathering.{set_back, get_read}
use Rattle.es_ties.proofs.Order.{some_pen}
use Rattle.es_ties.proofs.settling.first_reader.Goals as goal

pub index_mut-requires : goal.index_mut-requires
index_mut-requires g c = let some = some_pen c.args.ties.now c.args.pens.now.items c.logs.ensures.2 c.requires.all in omega (arith, some)

pub reader-requires : goal.reader-requires
reader-requires g c =
    let some = some_pen c.args.ties.now c.args.pens.now.items c.logs.ensures.2 c.requires.all in
    c.requires.pens 0 c.index_mut.result.now (get_read c.args.pens.now.items 0 c.index_mut.result.now some c.index_mut.ensures.value)

pub returns-clause-same : goal.returns-clause-same
returns-clause-same g c = set_back c.args.pens.now.items 0 c.index_mut.result.now c.reader.new.self c.reader.ensures.same c.index_mut.ensures.value

pub returns-clause-reader : goal.returns-clause-reader
returns-clause-reader g c =
    let some = some_pen c.args.ties.now c.args.pens.now.items c.logs.ensures.2 c.requires.all in
    c.reader.ensures.reader.0 ∙ c.requires.pens 0 c.index_mut.result.now (get_read c.args.pens.now.items 0 c.index_mut.result.now some c.index_mut.ensures.value)
