use Rattle.std.proofs.Common.{◌≡◌, ◌<◌, arith, get_or, length, rules, subst, sym}
use Rattle.std.proofs.lemmas.Grind.{common_steps}
use Rattle.std.proofs.lemmas.List.Elements.{All-get_or, All-more}
use Rattle.es_domain.specs.Decision.{IsNewEvent}
use Rattle.es_repo.specs.inner.Stored.{IsReadBack}
use Rattle.es_repo.proofs.verdict.all_stored.Goals as goal

pub loop-event-preserved : goal.loop-event-preserved
loop-event-preserved c = record {
  stored = grind (arith, common_steps);
  back = λ checked new.
      let sys = c.args.sys.now in
      let events = c.args.events.now in
      let e = c.event-item.result in
      let within : c.loop-event.event-index < length events = search rules in
      let here : e ≡ get_or events c.loop-event.event-index e = search rules in
      let is_new : IsNewEvent sys e = subst (IsNewEvent sys) (sym here) (All-get_or (IsNewEvent sys) events c.loop-event.event-index e within new) in
      All-more (IsReadBack sys) events c.loop-event.event-index e within (c.loop-event.invariant.back checked new)
      (subst (IsReadBack sys) here (c.in_ok-one_stored.ensures.back checked is_new));
}
