use Rattle.std.proofs.Common.{rules, Err, subst}
use Rattle.es_domain.specs.Effect.{fired}
use Rattle.es_domain.specs.inner.Firing.{MakesOf}
use Rattle.es_domain.proofs.FiringLemmas.{fired_err, rest_ready, rest_fires}
use Rattle.es_domain.proofs.effect.+fire_all.Goals as goal

pub fire_all-requires : goal.fire_all-requires
fire_all-requires t c = (
  search rules,
  (
    c.requires.checked,
    (
      c.requires.class,
      (
        rest_ready c.args.sys.now c.args.class.now c.args.command.now c.args.at c.args.aggregate.now c.args.triggers.now c.fire.new.aggregate c.in-len1-up.len_at_least c.requires.ready c.in_ok-fire-in-len1-up.ensures.ready,
        rest_fires c.args.class.now c.args.command.now c.args.at c.args.triggers.now c.in-len1-up.len_at_least c.requires.fields,
      ),
    ),
  ),
)

pub returns-in_err-fire-in-len1-up-clause-made : goal.returns-in_err-fire-in-len1-up-clause-made
returns-in_err-fire-in-len1-up-clause-made t c =
    let h = fired_err c.args.sys.now c.args.class.now c.args.command.now c.args.at c.args.aggregate.now c.args.triggers.now c.trigger-item.result c.fire.new.aggregate c.in_err-fire-in-len1-up.field-0.0
    c.in-len1-up.len_at_least
    (subst (λ t. MakesOf (fired c.args.sys.now c.args.class.now c.args.command.now c.args.at t c.args.aggregate.now) c.fire.new.aggregate (Err c.in_err-fire-in-len1-up.field-0.0)) c.trigger-item.is c.in_err-fire-in-len1-up.ensures.made) in
    search (rules, h)
