use Rattle.std.proofs.Common.{rules, ◌≡◌, pos, ℕ, List, [], None, Some, Ok, Option, IfSome, refl, sym, subst, ap, Err}
use Rattle.es_model.specs.Causes.{Rose}
use Rattle.es_model.specs.declared.declaration.System.{System}
use Rattle.es_model.specs.Values.{Name}
use Rattle.es_io.specs.Readings.{Readings}
use Rattle.es_process.specs.Contents.{Contents}
use Rattle.es_process.specs.Reached.{ahead}
use Rattle.es_process.specs.SystemRules.{rules_of}
use Rattle.es_process.proofs.RunOverLemmas.{one_run_over}
use Rattle.es_top.specs.Limits.{limits}
use Rattle.es_top.specs.Traced.{OfInput}
use Rattle.es_top.proofs.TakenLemmas.{took_nothing}
use Rattle.es_lines.specs.declared.ends.End.TheVariants as end
use Rattle.es_top.specs.Declares.{IsEndUnasked, declares, declares_for}
use Rattle.es_top.specs.Ends.{end_of_load, ended, Writes}
use Rattle.es_top.specs.Loads.{TakesDocument}
use Rattle.es_top.specs.Top.{AheadExactly, Ran, Restarts, StoresTell}
use Rattle.es_top.proofs.EndLemmas.{ahead_cut, early_front, ran_consistent, ran_weaker, usage_front, writes_so}
use Rattle.es_top.proofs.DeclaresLemmas.{asked, fault_ran, fault_unasked, loaded_same, refused_so, stopped_fault}
use Rattle.es_top.proofs.StableLemmas.{restarts_same}
use Rattle.es_top.proofs.TopLemmas.{of_input, of_then}
use Rattle.es_top.proofs.top.evsys_single.Given as given
use Rattle.es_top.proofs.top.evsys_single.Goals as goal

-- the system that was loaded is the one that the words ask for
same_system : (g : given.Over) (c : goal.After-run_to_end g) (sys : System) → declares (g.D.Source.documents c.args.system.now) c.args.words.now ≡ Some (Ok sys) → c.in-Ok.sys ≡ sys
same_system g c sys is = loaded_same (g.D.Source.documents c.args.system.now) c.args.words.now c.in-Some.name.now (sym (c.in-Some.ensures {u = tt})) c.in-Ok.sys sys (c.in-Ok.ensures {u = tt}).loads is

-- the line of the end of a run whose system couldn't be loaded
line_told : (g : given.Over) (c : goal.After-end_unloaded g) → Writes (end_of_load c.in-Err.fault) (g.T.Sink.written c.args.out.now) (g.T.Sink.written c.end_unloaded.new.out) (ended c.end_unloaded.result)
line_told g c = c.end_unloaded.ensures.told

pub returns-in_default-clause-one_run : goal.returns-in_default-clause-one_run
returns-in_default-clause-one_run g c = λ sys opening readings lines. one_run_over (rules_of sys) limits opening readings lines

pub returns-in-Ok-clause-one_run : goal.returns-in-Ok-clause-one_run
returns-in-Ok-clause-one_run g c = λ sys opening readings lines. one_run_over (rules_of sys) limits opening readings lines

pub returns-in-Err-clause-one_run : goal.returns-in-Err-clause-one_run
returns-in-Err-clause-one_run g c = λ sys opening readings lines. one_run_over (rules_of sys) limits opening readings lines

-- all that is said of a run of the system that was loaded, which is the one that the words ask for
loaded : (g : given.Over) (c : goal.After-run_to_end g) (sys : System) → declares (g.D.Source.documents c.args.system.now) c.args.words.now ≡ Some (Ok sys) → (h : Contents) → StoresTell h (g.M.Stores.held c.args.stores.now) (g.M.Stores.snapshots c.args.stores.now)
    → OfInput (g.S.Source.left c.args.lines.now) (g.S.Source.left c.run_to_end.new.lines) (g.C.Clock.readings c.args.clock.now) (λ i rest r. Ran (Rose (g.S.Source.faults c.args.lines.now) (g.S.Source.faults c.run_to_end.new.lines)) (Rose (g.M.Stores.faults c.args.stores.now) (g.M.Stores.faults c.run_to_end.new.stores)) (Rose (g.D.Source.faults c.args.system.now) (g.D.Source.faults c.load.new.system)) sys i rest r h (g.M.Stores.held c.run_to_end.new.stores) (g.M.Stores.snapshots c.run_to_end.new.stores) (g.T.Sink.written c.args.out.now) (g.T.Sink.written c.run_to_end.new.out) c.run_to_end.result)
loaded g c sys is h held = of_then (c.run_to_end.ensures.ran h held) (λ i rest r ran.
    ran_weaker (Rose (g.S.Source.faults c.args.lines.now) (g.S.Source.faults c.run_to_end.new.lines)) (Rose (g.M.Stores.faults c.args.stores.now) (g.M.Stores.faults c.run_to_end.new.stores)) (Rose (g.D.Source.faults c.args.system.now) (g.D.Source.faults c.load.new.system)) sys i rest r h (g.M.Stores.held c.run_to_end.new.stores) (g.M.Stores.snapshots c.run_to_end.new.stores) (g.T.Sink.written c.args.out.now) (g.T.Sink.written c.run_to_end.new.out) c.run_to_end.result (subst (λ x. Ran (Rose (g.S.Source.faults c.args.lines.now) (g.S.Source.faults c.run_to_end.new.lines)) (Rose (g.M.Stores.faults c.args.stores.now) (g.M.Stores.faults c.run_to_end.new.stores)) ⊥ x i rest r h (g.M.Stores.held c.run_to_end.new.stores) (g.M.Stores.snapshots c.run_to_end.new.stores) (g.T.Sink.written c.args.out.now) (g.T.Sink.written c.run_to_end.new.out) c.run_to_end.result) (same_system g c sys is) ran))

-- all that is said where it couldn't be loaded: no step was made
unloaded : (g : given.Over) (c : goal.After-end_unloaded g) (sys : System) → declares (g.D.Source.documents c.args.system.now) c.args.words.now ≡ Some (Ok sys) → (h : Contents) → StoresTell h (g.M.Stores.held c.args.stores.now) (g.M.Stores.snapshots c.args.stores.now)
    → (i : List ℕ) (r : Readings) → Ran (Rose (g.S.Source.faults c.args.lines.now) (g.S.Source.faults c.args.lines.now)) (Rose (g.M.Stores.faults c.args.stores.now) (g.M.Stores.faults c.args.stores.now)) (Rose (g.D.Source.faults c.args.system.now) (g.D.Source.faults c.load.new.system)) sys i i r h (g.M.Stores.held c.args.stores.now) (g.M.Stores.snapshots c.args.stores.now) (g.T.Sink.written c.args.out.now) (g.T.Sink.written c.end_unloaded.new.out) c.end_unloaded.result
unloaded g c sys is h held i r =
    fault_ran (g.D.Source.documents c.args.system.now) c.args.words.now c.in-Some.name.now (sym (c.in-Some.ensures {u = tt})) (Rose (g.S.Source.faults c.args.lines.now) (g.S.Source.faults c.args.lines.now)) (Rose (g.M.Stores.faults c.args.stores.now) (g.M.Stores.faults c.args.stores.now)) (Rose (g.D.Source.faults c.args.system.now) (g.D.Source.faults c.load.new.system)) c.in-Err.fault (λ same. (c.in-Err.ensures {u = tt}).failed (ap Err same)) (c.in-Err.ensures {u = tt}).loads sys is i i r h (g.M.Stores.held c.args.stores.now) (g.M.Stores.snapshots c.args.stores.now) (g.T.Sink.written c.args.out.now) (g.T.Sink.written c.end_unloaded.new.out) c.end_unloaded.result (line_told g c) held

pub returns-in-Ok-clause-ran : goal.returns-in-Ok-clause-ran
returns-in-Ok-clause-ran g c = λ sys h is held. loaded g c sys is h held

pub returns-in-Err-clause-ran : goal.returns-in-Err-clause-ran
returns-in-Err-clause-ran g c = λ sys h is held. of_input _ _ _ (unloaded g c sys is h held)

pub returns-in-Ok-clause-consistent : goal.returns-in-Ok-clause-consistent
returns-in-Ok-clause-consistent g c = λ sys h is held. let x = loaded g c sys is h held in ran_consistent (Rose (g.S.Source.faults c.args.lines.now) (g.S.Source.faults c.run_to_end.new.lines)) (Rose (g.M.Stores.faults c.args.stores.now) (g.M.Stores.faults c.run_to_end.new.stores)) (Rose (g.D.Source.faults c.args.system.now) (g.D.Source.faults c.load.new.system)) sys x.input x.rest x.readings h (g.M.Stores.held c.run_to_end.new.stores) (g.M.Stores.snapshots c.run_to_end.new.stores) (g.T.Sink.written c.args.out.now) (g.T.Sink.written c.run_to_end.new.out) c.run_to_end.result x.holds

pub returns-in-Err-clause-consistent : goal.returns-in-Err-clause-consistent
returns-in-Err-clause-consistent g c = λ sys h is held. ran_consistent (Rose (g.S.Source.faults c.args.lines.now) (g.S.Source.faults c.args.lines.now)) (Rose (g.M.Stores.faults c.args.stores.now) (g.M.Stores.faults c.args.stores.now)) (Rose (g.D.Source.faults c.args.system.now) (g.D.Source.faults c.load.new.system)) sys [] [] (record { next = []; after = pos 0 }) h (g.M.Stores.held c.args.stores.now) (g.M.Stores.snapshots c.args.stores.now) (g.T.Sink.written c.args.out.now) (g.T.Sink.written c.end_unloaded.new.out) c.end_unloaded.result (unloaded g c sys is h held [] (record { next = []; after = pos 0 }))

pub returns-in-Err-clause-early_line : goal.returns-in-Err-clause-early_line
returns-in-Err-clause-early_line g c = λ e told early. (writes_so (end_of_load c.in-Err.fault) c.end_unloaded.result (g.T.Sink.written c.args.out.now) (g.T.Sink.written c.end_unloaded.new.out) (line_told g c) e told).1

pub returns-in-Err-clause-declaration_of : goal.returns-in-Err-clause-declaration_of
returns-in-Err-clause-declaration_of g c = λ d code path asks told. refused_so (g.D.Source.documents c.args.system.now) c.args.words.now c.in-Some.name.now (sym (c.in-Some.ensures {u = tt})) c.in-Err.fault (c.in-Err.ensures {u = tt}).loads (g.T.Sink.written c.args.out.now) (g.T.Sink.written c.end_unloaded.new.out) c.end_unloaded.result (line_told g c) d code path asks told

pub returns-in-Ok-clause-not_run_stores : goal.returns-in-Ok-clause-not_run_stores
returns-in-Ok-clause-not_run_stores g c = λ unasked. asked (g.D.Source.documents c.args.system.now) c.args.words.now c.in-Some.name.now (sym (c.in-Some.ensures {u = tt})) c.in-Ok.sys (c.in-Ok.ensures {u = tt}).loads unasked

pub returns-in-Ok-clause-not_run_lines : goal.returns-in-Ok-clause-not_run_lines
returns-in-Ok-clause-not_run_lines g c = λ unasked. asked (g.D.Source.documents c.args.system.now) c.args.words.now c.in-Some.name.now (sym (c.in-Some.ensures {u = tt})) c.in-Ok.sys (c.in-Ok.ensures {u = tt}).loads unasked

pub returns-in-Ok-clause-not_run_line : goal.returns-in-Ok-clause-not_run_line
returns-in-Ok-clause-not_run_line g c = λ unasked told. asked (g.D.Source.documents c.args.system.now) c.args.words.now c.in-Some.name.now (sym (c.in-Some.ensures {u = tt})) c.in-Ok.sys (c.in-Ok.ensures {u = tt}).loads unasked

pub returns-in-Ok-clause-not_run_front : goal.returns-in-Ok-clause-not_run_front
returns-in-Ok-clause-not_run_front g c = λ unasked told. asked (g.D.Source.documents c.args.system.now) c.args.words.now c.in-Some.name.now (sym (c.in-Some.ensures {u = tt})) c.in-Ok.sys (c.in-Ok.ensures {u = tt}).loads unasked

pub returns-in-Err-clause-not_run_front : goal.returns-in-Err-clause-not_run_front
returns-in-Err-clause-not_run_front g c = λ unasked told. early_front (IsEndUnasked (g.D.Source.documents c.args.system.now) c.args.words.now (Rose (g.D.Source.faults c.args.system.now) (g.D.Source.faults c.load.new.system))) (end_of_load c.in-Err.fault) c.end_unloaded.result (g.T.Sink.written c.args.out.now) (g.T.Sink.written c.end_unloaded.new.out) (fault_unasked (g.D.Source.documents c.args.system.now) c.args.words.now c.in-Some.name.now (sym (c.in-Some.ensures {u = tt})) (Rose (g.D.Source.faults c.args.system.now) (g.D.Source.faults c.load.new.system)) c.in-Err.fault (λ same. (c.in-Err.ensures {u = tt}).failed (ap Err same)) (c.in-Err.ensures {u = tt}).loads) tt (line_told g c) told

pub returns-in_default-clause-not_run_front : goal.returns-in_default-clause-not_run_front
returns-in_default-clause-not_run_front g c = λ unasked told. (end.Usage, search rules, usage_front c.end_usage.result (g.T.Sink.written c.args.out.now) (g.T.Sink.written c.end_usage.new.out) c.end_usage.ensures.told told)

pub returns-in_default-clause-usage_front : goal.returns-in_default-clause-usage_front
returns-in_default-clause-usage_front g c = λ told unasked. usage_front c.end_usage.result (g.T.Sink.written c.args.out.now) (g.T.Sink.written c.end_usage.new.out) c.end_usage.ensures.told told

pub returns-in_default-clause-early_line : goal.returns-in_default-clause-early_line
returns-in_default-clause-early_line g c = λ e told early. (writes_so end.Usage c.end_usage.result (g.T.Sink.written c.args.out.now) (g.T.Sink.written c.end_usage.new.out) c.end_usage.ensures.told e told).1

pub returns-in_default-clause-lines_bound : goal.returns-in_default-clause-lines_bound
returns-in_default-clause-lines_bound g c = took_nothing (g.S.Source.left c.args.lines.now) _ refl

pub returns-in-Err-clause-lines_bound : goal.returns-in-Err-clause-lines_bound
returns-in-Err-clause-lines_bound g c = took_nothing (g.S.Source.left c.args.lines.now) _ refl

-- what was taken of the document that the words name
pub returns-in-Ok-clause-document_bound : goal.returns-in-Ok-clause-document_bound
returns-in-Ok-clause-document_bound g c = subst (λ (o : Option Name). IfSome o (λ name. TakesDocument (g.D.Source.documents c.args.system.now) name (g.D.Source.left c.args.system.now) (g.D.Source.left c.load.new.system))) (c.in-Some.ensures {u = tt}) c.load.ensures.bound

pub returns-in-Err-clause-document_bound : goal.returns-in-Err-clause-document_bound
returns-in-Err-clause-document_bound g c = subst (λ (o : Option Name). IfSome o (λ name. TakesDocument (g.D.Source.documents c.args.system.now) name (g.D.Source.left c.args.system.now) (g.D.Source.left c.load.new.system))) (c.in-Some.ensures {u = tt}) c.load.ensures.bound

-- whether a follower is ahead
pub returns-in-Ok-clause-ahead : goal.returns-in-Ok-clause-ahead
returns-in-Ok-clause-ahead g c = λ sys h is held. subst (λ x. AheadExactly (ahead (rules_of x).pairs h.histories) c.run_to_end.result) (same_system g c sys is) (c.run_to_end.ensures.ahead h held)

pub returns-in-Err-clause-ahead : goal.returns-in-Err-clause-ahead
returns-in-Err-clause-ahead g c = λ sys h is held. ahead_cut (ahead (rules_of sys).pairs h.histories) c.end_unloaded.result
    (stopped_fault (g.D.Source.documents c.args.system.now) c.args.words.now c.in-Some.name.now (sym (c.in-Some.ensures {u = tt})) c.in-Err.fault (c.in-Err.ensures {u = tt}).loads sys is c.end_unloaded.result c.end_unloaded.ensures.ends)

pub returns-in_default-clause-ahead : goal.returns-in_default-clause-ahead
returns-in_default-clause-ahead g c = λ sys h is held.
    let clash : None ≡ Some (Ok sys) = subst (λ o. declares_for (g.D.Source.documents c.args.system.now) o ≡ Some (Ok sys)) (sym (c.in_default.ensures {u = tt})) is in absurd (cc clash)

-- that no follower comes ahead of what is stable
pub returns-in-Ok-clause-restarts : goal.returns-in-Ok-clause-restarts
returns-in-Ok-clause-restarts g c = λ sys is. subst (λ x. Restarts (rules_of x).pairs (g.M.Stores.held c.args.stores.now) (g.M.Stores.stable c.args.stores.now) (g.M.Stores.snapshots c.args.stores.now) (g.M.Stores.held c.run_to_end.new.stores) (g.M.Stores.stable c.run_to_end.new.stores)) (same_system g c sys is)
    c.run_to_end.ensures.restarts

pub returns-in-Err-clause-restarts : goal.returns-in-Err-clause-restarts
returns-in-Err-clause-restarts g c = λ sys is. restarts_same (rules_of sys).pairs _ _ _ _ _ refl refl

pub returns-in_default-clause-restarts : goal.returns-in_default-clause-restarts
returns-in_default-clause-restarts g c = λ sys is. restarts_same (rules_of sys).pairs _ _ _ _ _ refl refl
