-- What rules leave, one after the other.
use Rattle.std.proofs.Common.{ℤ, ℕ, ◌≡◌, ◌≤◌, ◌+◌, ◌-◌, length, take, drop, get_or, List, [], ◌∷◌, ◌++◌, Option, None, Some, Result, Ok, Err, refl, sym, ap, subst, ◌∙◌, arith}
use Rattle.es_model.specs.declared.declaration.Otherwise.{Otherwise}
use Rattle.es_model.specs.declared.declaration.System.{System}
use Rattle.es_model.specs.declared.domain_event.DomainEvent.{DomainEvent}
use Rattle.es_model.specs.Values.{Name}
use Rattle.es_model.specs.declared.declaration.Rule.{Rule}
use Rattle.es_domain.specs.inner.Asking.{AllMayBeAsked}
use Rattle.es_domain.specs.Decision.{Decided, DecidesTold, Notice, after_asked, after_change, after_effect, after_reading, asked, joined, rules_from}
use Rattle.es_domain.specs.Effect.{effect}
use Rattle.es_domain.specs.inner.Overlay.{AnswersTold, AreBelow, IsBelow, IsChangedBelow, IsEffectBelow, LeavesTold, after_outcome, after_step, effect_asked, effect_by, found_of, overlaid}
use Rattle.es_domain.specs.Readings.{AreReadings, Readings, Reading, TellsOn, TellsOnTold, Told, folded, unreadable}
use Rattle.es_domain.specs.declared.command.Command.{Command}
use Rattle.es_domain.specs.declared.command.Decision.{Decision}
use Rattle.es_domain.specs.declared.command.Decision.TheVariants as decision
use Rattle.es_domain.specs.declared.find.FindFault.{FindFault}
use Rattle.es_domain.specs.declared.find.FindFault.TheVariants.{Unreadable, Failed, NoMemory}
use Rattle.es_domain.specs.declared.policy.Asked.{Asked}
use Rattle.es_domain.specs.declared.policy.Asked.TheVariants.{Nothing, Overflows, Asks}
use Rattle.es_domain.specs.declared.rules.Step.{Step}
use Rattle.es_domain.specs.Steps.{collected}
use Rattle.es_domain.specs.declared.aggregate.Aggregate.{Aggregate}
use Rattle.es_domain.specs.declared.effect.Effect.{Effect}
use Rattle.es_domain.specs.declared.effect.Effect.TheVariants.{Changed}
use Rattle.es_domain.specs.declared.rules.Step.TheVariants.{Goes, Stops}
use Rattle.es_domain.proofs.OverlayLemmas.{overlaid_push, are_below_push, readings_before}
use Rattle.es_domain.proofs.ValuesLemmas.{rest-is}

-- ---- an effect that changed an aggregate

pushed-readings : (old new : List Aggregate) (a b : Aggregate) (readings : Readings) → b ≡ collected a → new ≡ old ++ b ∷ [] → overlaid new readings ≡ after_change (overlaid old readings) a
pushed-readings old new a b readings rest push =
    ap (λ (l : List Aggregate). overlaid l readings) push ∙ overlaid_push old readings b ∙ ap (after_change (overlaid old readings)) rest

pub pushed : (otherwise : Otherwise) (rule : ℕ) (readings : Readings) (rest : Readings → Decided) (old new : List Aggregate) (a b : Aggregate) (e : Effect) (events : List DomainEvent)
    → e ≡ Changed a → events ≡ a.pending → b ≡ collected a → new ≡ old ++ b ∷ [] → after_effect otherwise rule (overlaid old readings) e rest ≡ joined events (rest (overlaid new readings))
pushed otherwise rule readings rest old new a b e events is events_are left push =
    ap (λ (x : Effect). after_effect otherwise rule (overlaid old readings) x rest) is
    ∙ ap (λ (r : Readings). joined a.pending (rest r)) (sym (pushed-readings old new a b readings left push))
    ∙ ap (λ (es : List DomainEvent). joined es (rest (overlaid new readings))) (sym events_are)

pub pushed_below : (sys : System) (limit : ℕ) (old new : List Aggregate) (a b : Aggregate) (e : Effect) → e ≡ Changed a → b ≡ collected a → new ≡ old ++ b ∷ [] → AreBelow sys limit old → IsEffectBelow sys limit (Some e) → AreBelow sys limit new
pushed_below sys limit old new a b e is left push are below =
    let its : IsChangedBelow sys limit a = subst (λ (x : Effect). IsEffectBelow sys limit (Some x)) is below in
    let collected_below : IsBelow sys limit (collected a) = record { fields = its.fields; version = its.version; pending = refl } in
    subst (AreBelow sys limit) (sym push) (are_below_push sys limit old b are (subst (IsBelow sys limit) (sym left) collected_below))

-- ---- the effect of what a rule asks

module _ (sys : System) (c : Command) (at : ℤ) where
  by-found : (r : Reading) (found : Option Aggregate) → found_of r ≡ Ok found → effect_by sys c at r ≡ Ok (Some (effect sys c at found))
  by-found (folded f) found is = let same : f ≡ found = cc in ap (λ (o : Option Aggregate). Ok (Some (effect sys c at o))) same
  by-found (unreadable n) found is = absurd (cc is)

  by-fault : (r : Reading) (n : ℕ) → found_of r ≡ Err (Unreadable n) → effect_by sys c at r ≡ Err (Unreadable n)
  by-fault (folded f) n is = absurd (cc is)
  by-fault (unreadable m) n is = let same : m ≡ n = cc in ap (λ (i : ℕ). Err (Unreadable i)) same

  pub effect_told : (told : Option Told) (read : Readings → Reading) (found : Option Aggregate) (e : Effect) → AnswersTold sys told (λ readings. found_of (read readings)) (Ok found) → e ≡ effect sys c at found
      → AnswersTold sys told (λ readings. effect_by sys c at (read readings)) (Ok (Some e))
  effect_told None read found e answers is = tt
  effect_told (Some told) read found e answers is = λ readings are. by-found (read readings) found (answers readings are) ∙ ap (λ (x : Effect). Ok (Some x)) (sym is)

  pub effect_fault : (told : Option Told) (read : Readings → Reading) (fault : FindFault) → AnswersTold sys told (λ readings. found_of (read readings)) (Err fault)
      → AnswersTold sys told (λ readings. effect_by sys c at (read readings)) (Err fault)
  effect_fault None read fault answers = tt
  effect_fault (Some told) read (Unreadable n) answers = λ readings are. by-fault (read readings) n (answers readings are)
  effect_fault (Some told) read Failed answers = λ readings are. tt
  effect_fault (Some told) read NoMemory answers = λ readings are. tt

-- ---- one rule

reading-outcome : (sys : System) (c : Command) (at : ℤ) (otherwise : Otherwise) (rule : ℕ) (readings : Readings) (r : Reading) (rest : Readings → Decided)
    → after_reading sys c at otherwise rule readings r rest ≡ after_outcome otherwise rule readings (effect_by sys c at r) rest
reading-outcome sys c at otherwise rule readings (folded found) rest = refl
reading-outcome sys c at otherwise rule readings (unreadable n) rest = refl

asked-outcome : (sys : System) (at : ℤ) (otherwise : Otherwise) (rule : ℕ) (readings : Readings) (a : Asked) (rest : Readings → Decided)
    → after_asked sys at otherwise rule readings a rest ≡ after_outcome otherwise rule readings (effect_asked sys at a readings) rest
asked-outcome sys at otherwise rule readings Nothing rest = refl
asked-outcome sys at otherwise rule readings Overflows rest = refl
asked-outcome sys at otherwise rule readings (Asks c) rest = reading-outcome sys c at otherwise rule readings (readings c.id) rest

pub rule_fault : (sys : System) (at : ℤ) (otherwise : Otherwise) (number : ℕ) (rest : Readings → Decided) (told : Option Told) (old : List Aggregate) (left : Step → Readings → Decided) (a wanted : Asked) (fault : FindFault) → a ≡ wanted
    → AnswersTold sys told (λ readings. effect_asked sys at a (overlaid old readings)) (Err fault)
    → LeavesTold sys told (λ readings. after_asked sys at otherwise number (overlaid old readings) wanted rest) left (Err fault)
rule_fault sys at otherwise number rest None old left a wanted fault is answers = tt
rule_fault sys at otherwise number rest (Some told) old left a wanted (Unreadable n) is answers = λ readings are.
    ap (λ (x : Asked). after_asked sys at otherwise number (overlaid old readings) x rest) (sym is)
    ∙ asked-outcome sys at otherwise number (overlaid old readings) a rest
    ∙ ap (λ (r : Result (Option Effect) FindFault). after_outcome otherwise number (overlaid old readings) r rest) (answers readings are)
rule_fault sys at otherwise number rest (Some told) old left a wanted Failed is answers = λ readings are. tt
rule_fault sys at otherwise number rest (Some told) old left a wanted NoMemory is answers = λ readings are. tt

-- ---- all rules

module _ (sys : System) (n : Notice) (at : ℤ) (number : ℕ) where
  -- what the first rule leaves, and what follows from it
  abbrev pub Follows : Option Told → List Rule → Rule → List Aggregate → List Aggregate → Result Step FindFault → Type 0
  Follows told rest r old new result =
      LeavesTold sys told (λ readings. after_asked sys at r.otherwise number (overlaid old readings) (asked r n) (rules_from sys n at (number + 1) rest)) (λ s readings. after_step number s (rules_from sys n at (number + 1) rest (overlaid new readings))) result

  first-rule : (rules : List Rule) (d : Rule) (readings : Readings) → 1 ≤ length rules
      → rules_from sys n at number rules readings ≡ after_asked sys at (get_or rules 0 d).otherwise number readings (asked (get_or rules 0 d) n) (rules_from sys n at (number + 1) (take (length rules - 1) (drop 1 rules)))
  first-rule [] d readings long = absurd (omega arith)
  first-rule (r ∷ rules) d readings long =
      ap (λ (rs : List Rule). after_asked sys at r.otherwise number readings (asked r n) (rules_from sys n at (number + 1) rs)) (sym (rest-is r rules))

  pub rule_fails : (told : Option Told) (rules : List Rule) (d : Rule) (old new : List Aggregate) (fault : FindFault) → 1 ≤ length rules
      → Follows told (take (length rules - 1) (drop 1 rules)) (get_or rules 0 d) old new (Err fault)
      → DecidesTold sys told (λ readings. rules_from sys n at number rules (overlaid old readings)) (Err fault)
  rule_fails None rules d old new fault long follows = tt
  rule_fails (Some told) rules d old new (Unreadable i) long follows = λ readings are. first-rule rules d (overlaid old readings) long ∙ follows readings are
  rule_fails (Some told) rules d old new Failed long follows = λ readings are. tt
  rule_fails (Some told) rules d old new NoMemory long follows = λ readings are. tt

  pub rule_stops : (told : Option Told) (rules : List Rule) (d : Rule) (old new : List Aggregate) (s : Step) (code : Name) → 1 ≤ length rules → s ≡ Stops code
      → Follows told (take (length rules - 1) (drop 1 rules)) (get_or rules 0 d) old new (Ok s)
      → DecidesTold sys told (λ readings. rules_from sys n at number rules (overlaid old readings)) (Ok (decision.Refused code number))
  rule_stops None rules d old new s code long is follows = tt
  rule_stops (Some told) rules d old new s code long is follows = λ readings are.
      first-rule rules d (overlaid old readings) long ∙ follows readings are
      ∙ ap (λ (x : Step). after_step number x (rules_from sys n at (number + 1) (take (length rules - 1) (drop 1 rules)) (overlaid new readings))) is

  -- the first rule goes on, over what is told by then
  goes-on : (before told : Told) (rules : List Rule) (d : Rule) (old new : List Aggregate) (s : Step) (events : List DomainEvent) → 1 ≤ length rules → s ≡ Goes events → TellsOn before told
      → Follows (Some before) (take (length rules - 1) (drop 1 rules)) (get_or rules 0 d) old new (Ok s)
      → (readings : Readings) → AreReadings sys told readings
      → rules_from sys n at number rules (overlaid old readings) ≡ joined events (rules_from sys n at (number + 1) (take (length rules - 1) (drop 1 rules)) (overlaid new readings))
  goes-on before told rules d old new s events long is on follows readings are =
      first-rule rules d (overlaid old readings) long ∙ follows readings (readings_before sys before told readings on are)
      ∙ ap (λ (x : Step). after_step number x (rules_from sys n at (number + 1) (take (length rules - 1) (drop 1 rules)) (overlaid new readings))) is

  abbrev pub Goes_on : Option Told → Option Told → List Rule → Rule → List Aggregate → List Aggregate → Step → List DomainEvent → Result Decision FindFault → Type 0
  Goes_on before told rules d old new s events after =
      (1 ≤ length rules) × (s ≡ Goes events) × TellsOnTold before told
      × Follows before (take (length rules - 1) (drop 1 rules)) (get_or rules 0 d) old new (Ok s)
      × DecidesTold sys told (λ readings. rules_from sys n at (number + 1) (take (length rules - 1) (drop 1 rules)) (overlaid new readings)) after

  pub rule_goes : (before told : Option Told) (rules : List Rule) (d : Rule) (old new : List Aggregate) (s : Step) (events : List DomainEvent) (more both : Decision) → Goes_on before told rules d old new s events (Ok more) → joined events (Ok more) ≡ Ok both
      → DecidesTold sys told (λ readings. rules_from sys n at number rules (overlaid old readings)) (Ok both)
  rule_goes before None rules d old new s events more both goes is = tt
  rule_goes None (Some told) rules d old new s events more both (long, s_is, on, follows, after) is = absurd (cc on)
  rule_goes (Some before) (Some told) rules d old new s events more both (long, s_is, on, follows, after) is = λ readings are.
      goes-on before told rules d old new s events long s_is on follows readings are ∙ ap (joined events) (after readings are) ∙ is

  pub rest_fails : (before told : Option Told) (rules : List Rule) (d : Rule) (old new : List Aggregate) (s : Step) (events : List DomainEvent) (fault : FindFault) → Goes_on before told rules d old new s events (Err fault)
      → DecidesTold sys told (λ readings. rules_from sys n at number rules (overlaid old readings)) (Err fault)
  rest_fails before None rules d old new s events fault goes = tt
  rest_fails None (Some told) rules d old new s events fault (long, s_is, on, follows, after) = absurd (cc on)
  rest_fails (Some before) (Some told) rules d old new s events (Unreadable i) (long, s_is, on, follows, after) = λ readings are.
      goes-on before told rules d old new s events long s_is on follows readings are ∙ ap (joined events) (after readings are)
  rest_fails (Some before) (Some told) rules d old new s events Failed goes = λ readings are. tt
  rest_fails (Some before) (Some told) rules d old new s events NoMemory goes = λ readings are. tt

pub rest_may : (sys : System) (n : Notice) (rules : List Rule) → 1 ≤ length rules → AllMayBeAsked sys n rules → AllMayBeAsked sys n (take (length rules - 1) (drop 1 rules))
rest_may sys n [] long all = absurd (omega arith)
rest_may sys n (r ∷ rules) long all = subst (AllMayBeAsked sys n) (sym (rest-is r rules)) all.1

pub rest_few : (number : ℕ) (rules : List Rule) → 1 ≤ length rules → number + length rules ≤ 65 → number + 1 + length (take (length rules - 1) (drop 1 rules)) ≤ 65
rest_few number [] long few = absurd (omega arith)
rest_few number (r ∷ rules) long few = subst (λ (rs : List Rule). number + 1 + length rs ≤ 65) (sym (rest-is r rules)) (omega (arith, few))
