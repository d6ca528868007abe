use Rattle.std.proofs.Common.{◌≡◌, ◌∙◌, None, Some, ap, subst, sym}
use Rattle.std.proofs.lemmas.Result.{IfOk-weaker}
use Rattle.es_process.specs.Reached.{ahead}
use Rattle.es_process.specs.SystemRules.{rules_of}
use Rattle.es_top.specs.inner.Begins.{AheadEnd}
use Rattle.es_top.specs.inner.Counts.{lengths}
use Rattle.es_top.specs.Limits.{limits}
use Rattle.es_top.specs.Runs.{state_of}
use Rattle.es_top.proofs.TopLemmas.{held_histories}
use Rattle.es_top.proofs.running.begin.Goals as goal

pub returns-in-Ok-None-clause-begun : goal.returns-in-Ok-None-clause-begun
returns-in-Ok-None-clause-begun g c = λ opening r held.
    let none : ahead (rules_of c.args.sys.now).pairs opening.histories ≡ None = sym ((c.in-Ok-None.ensures {u = tt}).told opening limits (Some r) (state_of opening r) held) ∙ c.in-Ok-None.field-0-is in
    IfOk-weaker c.count_first.result _ _ (λ counts is. (none, is ∙ ap (lengths opening.histories) c.find_ahead.ensures.same.names))
    (c.count_first.ensures.counted opening.histories (held_histories _ _ _ _ opening limits _ _ (state_of opening r) (c.find_ahead.ensures.holds opening limits (Some r) (state_of opening r) held)))

pub returns-in-Ok-None-clause-ended : goal.returns-in-Ok-None-clause-ended
returns-in-Ok-None-clause-ended g c = λ opening r held. c.count_first.ensures.silent (ahead (rules_of c.args.sys.now).pairs opening.histories)

pub returns-in-Ok-None-clause-holds : goal.returns-in-Ok-None-clause-holds
returns-in-Ok-None-clause-holds g c = λ opening r held. c.count_first.ensures.kept.holds opening limits (Some r) (state_of opening r) (c.find_ahead.ensures.holds opening limits (Some r) (state_of opening r) held)

pub returns-in-Ok-Some-clause-ended : goal.returns-in-Ok-Some-clause-ended
returns-in-Ok-Some-clause-ended g c = λ opening r held.
    subst (AheadEnd (ahead (rules_of c.args.sys.now).pairs opening.histories)) (sym c.ahead_end.ensures) (sym ((c.in-Ok-Some.ensures {u = tt}).told opening limits (Some r) (state_of opening r) held) ∙ c.in-Ok-Some.field-0-is)

pub returns-in-Ok-Some-clause-holds : goal.returns-in-Ok-Some-clause-holds
returns-in-Ok-Some-clause-holds g c = λ opening r held. c.find_ahead.ensures.holds opening limits (Some r) (state_of opening r) held

pub returns-in-Err-clause-ended : goal.returns-in-Err-clause-ended
returns-in-Err-clause-ended g c = λ opening r held. c.call_end.ensures.silent (ahead (rules_of c.args.sys.now).pairs opening.histories)

pub returns-in-Err-clause-holds : goal.returns-in-Err-clause-holds
returns-in-Err-clause-holds g c = λ opening r held. c.find_ahead.ensures.holds opening limits (Some r) (state_of opening r) held
