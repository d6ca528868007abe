use Rattle.std.proofs.Common.{◌≡◌, ◌∙◌, inl, inr, Ok, Some, ap, refl}
use Rattle.es_model.specs.Causes.{Rose}
use Rattle.es_lines.specs.declared.ends.End.{End}
use Rattle.es_lines.specs.declared.ends.End.TheVariants as end
use Rattle.es_process.specs.Contents.{Contents}
use Rattle.es_process.specs.Reached.{ahead}
use Rattle.es_process.specs.SystemRules.{rules_of}
use Rattle.es_top.specs.declared.status.Status.TheVariants as status
use Rattle.es_top.specs.Traced.{OfInput}
use Rattle.es_top.specs.Sorts.{unbegun}
use Rattle.es_top.specs.Ends.{ended}
use Rattle.es_top.specs.Top.{Ran, StoresTell}
use Rattle.es_top.proofs.EndLemmas.{ahead_cut, ahead_exactly, ran_stood, ran_text, of_sort, same_end}
use Rattle.es_top.proofs.TopLemmas.{of_then}
use Rattle.es_top.proofs.top.run_to_end.Given as given
use Rattle.es_top.proofs.top.run_to_end.Goals as goal

-- the end of the run over the stores is the one that the status tells
end_is : (g : given.Over) (c : goal.After-finish g) (k : End) → (k ≡ end.Memory → ⊥) → ended c.finish.result ≡ Some k → c.run_system.result ≡ Ok k
end_is g c k not told = c.in-Ok.is ∙ ap Ok (same_end c.in-Ok.end k c.finish.result (g.T.Sink.written c.run_system.new.out) (g.T.Sink.written c.finish.new.out) not c.finish.ensures.told told)

-- all that is said of a run that came to its end
ran_so : (g : given.Over) (c : goal.After-finish g) (h : Contents) → StoresTell h (g.M.Stores.held c.args.stores.now) (g.M.Stores.snapshots c.args.stores.now) → OfInput (g.S.Source.left c.args.lines.now) (g.S.Source.left c.run_system.new.lines) (g.C.Clock.readings c.args.clock.now)
    (λ i rest r. Ran (Rose (g.S.Source.faults c.args.lines.now) (g.S.Source.faults c.run_system.new.lines)) (Rose (g.M.Stores.faults c.args.stores.now) (g.M.Stores.faults c.run_system.new.stores)) ⊥ c.args.sys i rest r h (g.M.Stores.held c.run_system.new.stores) (g.M.Stores.snapshots c.run_system.new.stores) (g.T.Sink.written c.args.out.now) (g.T.Sink.written c.finish.new.out) c.finish.result)
ran_so g c h held = of_then (c.in-Ok.ensures {u = tt}).stands (λ i rest r stands.
    ran_stood (Rose (g.S.Source.faults c.args.lines.now) (g.S.Source.faults c.run_system.new.lines)) (Rose (g.M.Stores.faults c.args.stores.now) (g.M.Stores.faults c.run_system.new.stores)) ⊥ c.args.sys c.requires i rest r h (g.M.Stores.held c.run_system.new.stores) (g.M.Stores.snapshots c.run_system.new.stores) (g.T.Sink.written c.args.out.now) (g.T.Sink.written c.run_system.new.out) (g.T.Sink.written c.finish.new.out) c.in-Ok.end c.finish.result
    (λ is. c.run_system.ensures.input (c.in-Ok.is ∙ ap Ok is)) (λ is. c.run_system.ensures.recorder (c.in-Ok.is ∙ ap Ok is)) c.finish.ensures.told (stands h held))

pub returns-in-Ok-clause-ran : goal.returns-in-Ok-clause-ran
returns-in-Ok-clause-ran g c = ran_so g c

pub returns-in-Err-clause-ran : goal.returns-in-Err-clause-ran
returns-in-Err-clause-ran g c = λ h held. of_then (c.in-Err.ensures {u = tt}).stands (λ i rest r stands.
    let x = stands h held in
    ran_text (Rose (g.S.Source.faults c.args.lines.now) (g.S.Source.faults c.run_system.new.lines)) (Rose (g.M.Stores.faults c.args.stores.now) (g.M.Stores.faults c.run_system.new.stores)) ⊥ c.args.sys c.requires i rest r h (g.M.Stores.held c.run_system.new.stores) (g.M.Stores.snapshots c.run_system.new.stores) (g.T.Sink.written c.args.out.now) (g.T.Sink.written c.run_system.new.out) x.0 x.1 x.2)

pub returns-in-Ok-clause-begun : goal.returns-in-Ok-clause-begun
returns-in-Ok-clause-begun g c = λ is. (c.in-Ok.ensures {u = tt}).of_system (of_sort unbegun c.in-Ok.end c.finish.result (g.T.Sink.written c.run_system.new.out) (g.T.Sink.written c.finish.new.out) (λ same. absurd (cc same)) c.finish.ensures.told is).1

pub returns-in-Ok-clause-input : goal.returns-in-Ok-clause-input
returns-in-Ok-clause-input g c = λ is. c.run_system.ensures.input (end_is g c end.Input (λ same. absurd (cc same)) (ap ended is))

pub returns-in-Ok-clause-recorder : goal.returns-in-Ok-clause-recorder
returns-in-Ok-clause-recorder g c = λ is. c.run_system.ensures.recorder (end_is g c end.Recorder (λ same. absurd (cc same)) (ap ended is))

pub returns-in-Ok-clause-ahead : goal.returns-in-Ok-clause-ahead
returns-in-Ok-clause-ahead g c = λ h held. ahead_exactly _ c.in-Ok.end c.finish.result (g.T.Sink.written c.run_system.new.out) (g.T.Sink.written c.finish.new.out) ((c.in-Ok.ensures {u = tt}).ahead h held) c.finish.ensures.told

pub returns-in-Err-clause-ahead : goal.returns-in-Err-clause-ahead
returns-in-Err-clause-ahead g c = λ h held. ahead_cut (ahead (rules_of c.args.sys).pairs h.histories) status.Sink (inr (inl refl))
