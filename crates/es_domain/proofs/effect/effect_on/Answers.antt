use Rattle.std.proofs.Common.{◌≡◌, Some, rules}
use Rattle.es_model.specs.Declaration.{class_named}
use Rattle.es_domain.proofs.FiringLemmas.{effect_changed_ok}
use Rattle.es_domain.proofs.FoldLemmas.{created_class}
use Rattle.es_domain.proofs.effect.effect_on.Goals as goal

pub returns-clause-ready : goal.returns-clause-ready
returns-clause-ready c =
    let is : class_named c.args.sys.now.classes c.args.command.now.class ≡ Some c.in-Some.class.now = search rules in
    effect_changed_ok c.args.sys.now c.in-Some.class.now c.effect_in.result
    (created_class c.args.sys.now c.args.command.now.class c.in-Some.class.now c.requires.checked is) c.effect_in.ensures.ready
