use Rattle.std.proofs.Common.{rules, ◌≡◌, subst, sym, length, take, ◌-◌}
use Rattle.es_model.specs.History.{IsFormed}
use Rattle.es_world.proofs.StopLemmas.{formed-taken}
use Rattle.es_world.proofs.stopping.drop_last.Goals as goal

pub returns-clause-formed : goal.returns-clause-formed
returns-clause-formed c =
    let left : c.from_vec.result ≡ take (length c.args.held.now.recordings - 1) c.args.held.now.recordings = search rules in
    subst IsFormed (sym left) (formed-taken (length c.args.held.now.recordings - 1) c.args.held.now.recordings c.requires)
