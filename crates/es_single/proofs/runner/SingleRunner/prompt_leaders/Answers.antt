use Rattle.std.proofs.Common.{rules, All, Contains, subst, sym, List, ◌≡◌}
use Rattle.es_model.specs.Values.{Name}
use Rattle.es_decl.specs.Pairs.{leaders_in, pairs_of}
use Rattle.es_process.specs.Standing.{names_in}
use Rattle.es_single.proofs.RunnerLemmas.{leaders-declared}
use Rattle.es_single.proofs.runner.SingleRunner.prompt_leaders.Goals as goal

pub places_of-requires : goal.places_of-requires
places_of-requires g c =
    let found : c.as_slice-2.result.now ≡ leaders_in (pairs_of c.args.self.now.sys.pipes) = search rules in
    let named : names_in c.as_slice.result.now ≡ names_in c.args.self.now.apps.items = search rules in
    subst (λ (ns : List Name). All (Contains (names_in c.as_slice.result.now)) ns) (sym found)
    (subst (λ (ms : List Name). All (Contains ms) (leaders_in (pairs_of c.args.self.now.sys.pipes))) (sym named) (leaders-declared c.args.self.now.sys _ c.requires.apps))
