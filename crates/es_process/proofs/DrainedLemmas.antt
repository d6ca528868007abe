-- A drain in which all leaders are prompted leaves each follower at its leaders' last notifications, where none was ahead.
use Rattle.std.proofs.Common.{◌≡◌, ℕ, Bool, true, false, List, [], Option, Some, None, Result, Ok, Err, OnOk, length, refl, sym, ap, ◌∙◌, subst}
use Rattle.es_model.specs.declared.event.Recording.{Recording}
use Rattle.es_model.specs.declared.snapshot.Snapshot.{Snapshot}
use Rattle.es_model.specs.History.{log}
use Rattle.es_model.specs.Tracking.{tracked_in}
use Rattle.es_model.specs.Values.{Name}
use Rattle.es_io.specs.Readings.{Readings}
use Rattle.es_decl.specs.Pairs.{leaders_in}
use Rattle.es_lines.specs.declared.ends.End.TheVariants.{Ok as ok}
use Rattle.es_process.specs.declared.application.Application.{Application}
use Rattle.es_process.specs.declared.faults.RunFault.{RunFault}
use Rattle.es_process.specs.Answer.{Options}
use Rattle.es_process.specs.Contents.{Contents}
use Rattle.es_process.specs.Drains.{Drains}
use Rattle.es_process.specs.Reached.{IsReached, ahead}
use Rattle.es_process.specs.SingleThread.{Step, Goes, is_among, added_counts}
use Rattle.es_process.specs.Standing.{State, Holds, HoldContents, names_in, stand, standing, Came}
use Rattle.es_process.specs.Terms.{Terms}
use Rattle.es_process.proofs.AmongLemmas.{among-contains}
use Rattle.es_process.proofs.HoldsLemmas.{app-at, at-contains}
use Rattle.es_process.proofs.RunReachedLemmas.{leaders-chase, reached-from}
use Rattle.es_process.proofs.SingleThreadLemmas.{Goes-end}

-- nobody is prompted any more, and no line is to come, so the run ends well there
came_reached : (t : Terms) (s next : State) (steps : List Step) → Goes t.rules t.options s.contents.histories (stand s (leaders_in t.rules.pairs) [] [] 0) (stand next [] [] [] 0) steps
    → ahead t.rules.pairs s.contents.histories ≡ None → IsReached t.rules.pairs next.contents.histories
came_reached t s next steps goes none =
    let counts : List (Name × ℕ) = added_counts t.rules.names s.contents.histories next.contents.histories in
    let run = Goes-end t.rules t.options s.contents.histories (stand s (leaders_in t.rules.pairs) [] [] 0) (stand next [] [] [] 0) steps (ok counts 0) goes refl in
    subst (λ (c : Contents). IsReached t.rules.pairs c.histories) goes.left
    (reached-from t.rules t.options s.contents (stand s (leaders_in t.rules.pairs) [] [] 0) (record { steps = steps; end = ok counts 0 }) (leaders-chase t.rules t.options s.contents s.readings s.used [] 0) run counts 0 refl none)

module _ {R : Type 0} (history stable : R → Option (List Recording)) (settled : R → Bool) (snapshots : R → Option (List Snapshot)) (capacity : R → ℕ) (base : Contents) (o : Options) (apps : List (Application R)) (readings : Option Readings) where
  -- what the applications tell is what the state has
  told_alike : (s : State) (c : Contents) → Holds history settled snapshots capacity base o apps readings s → HoldContents history stable snapshots base apps c → (n : Name) → c.histories n ≡ s.contents.histories n
  told_alike s c held kept n = by (is_among n (names_in apps)) refl
    where
      by : (b : Bool) → is_among n (names_in apps) ≡ b → c.histories n ≡ s.contents.histories n
      by true is =
          let here = at-contains (names_in apps) n (among-contains n (names_in apps) is) in
          let a = app-at apps here.0 n here.1 in
          let told : Some (c.histories a.0.name) ≡ Some (s.contents.histories a.0.name) = sym (kept.each here.0 a.0 a.1).told ∙ (held.each here.0 a.0 a.1).told in
          let same : c.histories a.0.name ≡ s.contents.histories a.0.name = cc told in
          ap c.histories (sym a.2) ∙ same ∙ ap s.contents.histories a.2
      by false is = kept.elsewhere.histories n is ∙ sym (held.elsewhere.histories n is)

  pub drained-reached : (t : Terms) (s : State) (prompted : List Name) (u : Option (List ℕ)) (result : Result (Unit {0}) RunFault) → Drains t s (Holds history settled snapshots capacity base o apps readings) (HoldContents history stable snapshots base apps) prompted u result
      → prompted ≡ leaders_in t.rules.pairs → ahead t.rules.pairs s.contents.histories ≡ None → OnOk result ((left : Contents) → HoldContents history stable snapshots base apps left → IsReached t.rules.pairs left.histories)
  drained-reached t s prompted u (Ok x) so all none =
      let came = subst (λ ns. Came t (standing s ns []) (Holds history settled snapshots capacity base o apps readings) u u (λ next. standing next [] [])) all so in
      let reached = came_reached t s came.state came.steps (came.goes (record { openings = s.contents.histories; lines = []; answered = 0 })) none in
      λ left kept p declared.
      ap (λ h. tracked_in h p.0) (told_alike came.state left came.held kept p.1) ∙ reached p declared ∙ ap (λ h. length (log h)) (sym (told_alike came.state left came.held kept p.0))
  drained-reached t s prompted u (Err f) so all none = tt
