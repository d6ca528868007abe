use Rattle.std.proofs.Common.{◌++◌, ◌∙◌, ap}
use Rattle.es_model.specs.Rising.{IsRising}
use Rattle.es_expr.specs.Environments.{prefixed}
use Rattle.es_expr.proofs.EnvironmentsLemmas.{comes_last-next}
use Rattle.es_expr.proofs.environments.+extend.Goals as goal

pub push-requires : goal.push-requires
push-requires g t c =
    let rising : IsRising (c.args.env.now ++ prefixed c.args.word.now c.args.items.now) = assumption c.requires in
    comes_last-next c.args.env.now c.args.items.now c.args.word.now _ c.index-items-0.result rising c.in-len1-up.len_at_least
    (c.in_ok-joined-in-len1-up.ensures ∙ ap (λ n. c.args.word.now ++ n) c.as_str.ensures)
