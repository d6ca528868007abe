use Rattle.std.proofs.Common.{rules, ◌≡◌, [], Err, Some, subst, sym}
use Rattle.es_model.specs.declared.declaration.System.{System}
use Rattle.es_decl.specs.Pairs.{leaders_in, pairs_of}
use Rattle.es_process.specs.declared.faults.RunFault.TheVariants as fault
use Rattle.es_process.specs.Drains.{Drains}
use Rattle.es_process.specs.Standing.{Holds, HoldContents}
use Rattle.es_process.specs.SystemRules.{rules_of}
use Rattle.es_process.specs.Terms.{terms}
use Rattle.es_process.proofs.HoldsLemmas.{held-contents}
use Rattle.es_single.specs.Runner.{HoldsPrompted}
use Rattle.es_single.proofs.RunnerLemmas.{starved_drain}
use Rattle.es_single.proofs.runner.SingleRunner.first.Goals as goal

pub returns-in_err-self-clause-drained : goal.returns-in_err-self-clause-drained
returns-in_err-self-clause-drained g c = λ after may. (
  after,
  may,
  λ base options s u held.
      let starved : c.from_residual.result ≡ Err fault.NoMemory = search rules in
      starved_drain (terms (rules_of c.args.self.now.sys) options) s _ _ (leaders_in (pairs_of c.args.self.now.sys.pipes)) u c.from_residual.result starved (held-contents _ _ _ g.met.R.AggregateRecorder.settled_is_whole _ _ base options _ _ s held),
)

pub returns-in_err-prompt_leaders-clause-drained : goal.returns-in_err-prompt_leaders-clause-drained
returns-in_err-prompt_leaders-clause-drained g c = λ after may. (
  after,
  may,
  λ base options s u held.
      let starved : c.from_residual-in_err-prompt_leaders.result ≡ Err fault.NoMemory = search rules in
      starved_drain (terms (rules_of c.args.self.now.sys) options) s _ _ (leaders_in (pairs_of c.args.self.now.sys.pipes)) u c.from_residual-in_err-prompt_leaders.result starved
      (subst (λ (xs : _). HoldContents g.R.AggregateRecorder.history g.R.AggregateRecorder.stable g.R.AggregateRecorder.snapshots base xs s.contents) (sym c.prompt_leaders.ensures.same.applications) (held-contents _ _ _ g.met.R.AggregateRecorder.settled_is_whole _ _ base options _ _ s held)),
)

pub returns-clause-drained : goal.returns-clause-drained
returns-clause-drained g c = λ after may.
    let x = c.after.ensures.drained after may in
    let same = c.prompt_leaders.ensures.same in (
      x.0,
      x.1,
      λ base options s u held.
          subst (λ (sys : System). Drains (terms (rules_of sys) options) s
          (λ next. HoldsPrompted g.R.AggregateRecorder.history g.R.AggregateRecorder.settled g.R.AggregateRecorder.snapshots g.R.AggregateRecorder.capacity base options c.after.new.self (Some after) next [])
          (HoldContents g.R.AggregateRecorder.history g.R.AggregateRecorder.stable g.R.AggregateRecorder.snapshots base c.after.new.self.apps.items) (leaders_in (pairs_of c.args.self.now.sys.pipes)) u c.after.result) same.system
          (x.2 base options s (leaders_in (pairs_of c.args.self.now.sys.pipes)) u (record {
            holds = subst (λ (xs : _). Holds g.R.AggregateRecorder.history g.R.AggregateRecorder.settled g.R.AggregateRecorder.snapshots g.R.AggregateRecorder.capacity base options xs (Some x.0) s) (sym same.applications) held;
            prompts = (c.in_ok-prompt_leaders.ensures {u = tt}).prompts;
          })),
    )
