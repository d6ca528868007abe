use Rattle.std.proofs.Common.{◌≡◌, Some, rules}
use Rattle.es_model.specs.Declaration.{class_named}
use Rattle.es_repo.proofs.NumbersLemmas.{small-version}
use Rattle.es_repo.proofs.snapshots.class_version.Goals as goal

pub returns-in-Some-clause-small : goal.returns-in-Some-clause-small
returns-in-Some-clause-small c =
    let is : class_named c.args.sys.now.classes c.args.name.now ≡ Some c.in-Some.class.now = search rules in
    small-version c.args.sys.now c.args.name.now c.in-Some.class.now c.requires is
