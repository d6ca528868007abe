-- What is decided comes next: each new event has the version after the latest of its originator.
use Rattle.std.proofs.Common.{ℤ, ℕ, ◌≡◌, ◌∙◌, ◌+◌, ◌==◌, Bool, true, false, List, [], ◌∷◌, ◌++◌, Option, None, Some, Result, Ok, Err, length, IfSome, refl, sym, ap, subst, arith, if◌then◌else◌, length-append}
use Rattle.std.specs.Str.{bytes_eq}
use Rattle.std.proofs.lemmas.Bool.Decides.{Decides-eqb}
use Rattle.std.proofs.lemmas.Slice.Eq.{bytes_eq-Decides}
use Rattle.es_model.specs.Declaration.{app_named, class_named, event_named, is_created, is_creating}
use Rattle.es_model.specs.Values.{Name, Id, Record}
use Rattle.es_model.specs.declared.declaration.Class.{Class}
use Rattle.es_model.specs.declared.declaration.CommandDef.{CommandDef}
use Rattle.es_model.specs.declared.declaration.EventClass.{EventClass}
use Rattle.es_model.specs.declared.declaration.Otherwise.{Otherwise}
use Rattle.es_model.specs.declared.declaration.Otherwise.TheVariants.{Skip, Refuse}
use Rattle.es_model.specs.declared.declaration.Rule.{Rule}
use Rattle.es_model.specs.declared.declaration.System.{System}
use Rattle.es_model.specs.declared.declaration.Trigger.{Trigger}
use Rattle.es_model.specs.declared.domain_event.DomainEvent.{DomainEvent}
use Rattle.es_model.specs.Names.{topic_of}
use Rattle.es_domain.specs.Decision.{Decided, Notice, command_on, decision_of, asked, after_change, joined, after_effect, after_reading, after_asked, rules_from, rules_of, policy_decision, command_decision}
use Rattle.es_domain.specs.Effect.{made, misplaced, seen, guarded, opened_with, opened, fired_with, fired, all_fired, triggered, effect_of, unless_refused, effect_declared, command_named, effect, overflow_code}
use Rattle.es_domain.specs.Fold.{advanced, begun, begun_by, created_with, fields_at_first, stepped, stepped_by, later_in, changed_to, fields_then, values_of}
use Rattle.es_domain.specs.Readings.{Readings, Reading, folded, unreadable}
use Rattle.es_domain.specs.Steps.{first_event, next_event, with_pending, collected}
use Rattle.es_domain.specs.declared.aggregate.Aggregate.{Aggregate}
use Rattle.es_domain.specs.declared.aggregate.ApplyFault.{ApplyFault}
use Rattle.es_domain.specs.declared.aggregate.ApplyFault.TheVariants.{Topic, OriginatorId, OriginatorVersion, Overflow}
use Rattle.es_domain.specs.declared.command.Command.{Command}
use Rattle.es_domain.specs.declared.command.Decision.TheVariants as decision
use Rattle.es_domain.specs.declared.effect.Effect.{Effect}
use Rattle.es_domain.specs.declared.effect.Effect.TheVariants.{Changed, Refused}
use Rattle.es_domain.specs.declared.find.FindFault.TheVariants.{Unreadable, Failed, NoMemory}
use Rattle.es_domain.specs.declared.policy.Asked.{Asked}
use Rattle.es_domain.specs.declared.policy.Asked.TheVariants.{Nothing, Overflows, Asks}

-- ---- what an event makes

abbrev pub next_version : Option Aggregate → ℕ
next_version None = 1
next_version (Some a) = a.version + 1

-- the new events of an aggregate, none where there is no aggregate
abbrev pub new_events : Option Aggregate → List DomainEvent
new_events None = []
new_events (Some a) = a.pending

-- an aggregate as an event makes it, apart from its fields
pub record IsMade (found : Option Aggregate) (e : DomainEvent) (b : Aggregate) : Type 0 where
  pub id_is : b.id ≡ e.originator_id
  pub version_is : b.version ≡ e.originator_version
  pub next : e.originator_version ≡ next_version found
  pub pending : b.pending ≡ new_events found
  pub same : IfSome found (λ a. e.originator_id ≡ a.id)
  pub class : IfSome found (λ a. b.class ≡ a.class)

chosen : (p q : Bool) (x f g : Result Aggregate ApplyFault) (b : Aggregate) → (f ≡ Ok b → ⊥) → (g ≡ Ok b → ⊥) → (if p then (if q then x else f) else g) ≡ Ok b → (p ≡ true) × (q ≡ true) × (x ≡ Ok b)
chosen true true x f g b nf ng is = (refl, refl, is)
chosen true false x f g b nf ng is = absurd (nf is)
chosen false q x f g b nf ng is = absurd (ng is)

never : (f : ApplyFault) (b : Aggregate) → ◌≡◌ {A = Result Aggregate ApplyFault} (Err f) (Ok b) → ⊥
never f b h = cc

one-made : (a b : Aggregate) → ◌≡◌ {A = Result Aggregate ApplyFault} (Ok a) (Ok b) → a ≡ b
one-made a b h = cc

created-made : (c : Class) (e : DomainEvent) (o : Option Record) (b : Aggregate) → e.originator_version ≡ 1 → created_with c e o ≡ Ok b → IsMade None e b
created-made c e None b one is = absurd (never Overflow b is)
created-made c e (Some fields) b one is =
    let a : Aggregate = record { id = e.originator_id; version = 1; class = c.name; created_on = e.timestamp; modified_on = e.timestamp; fields = fields; pending = [] } in
    let same : a ≡ b = one-made a b is in
    subst (IsMade None e) same (record { id_is = refl; version_is = sym one; next = one; pending = refl; same = tt; class = tt })

begun-made : (o : Option (Class × EventClass)) (e : DomainEvent) (b : Aggregate) → begun_by o e ≡ Ok b → IsMade None e b
begun-made None e b is = absurd (never Topic b is)
begun-made (Some p) e b is =
    let parts = chosen (is_created p.0 e.topic) (e.originator_version == 1) (created_with p.0 e (fields_at_first p.1 e)) (Err (OriginatorVersion 1 e.originator_version)) (Err Topic) b (never (OriginatorVersion 1 e.originator_version) b) (never Topic b) is in
    created-made p.0 e (fields_at_first p.1 e) b ((Decides-eqb e.originator_version 1).0 parts.1) parts.2

changed-made : (a : Aggregate) (e : DomainEvent) (o : Option Record) (b : Aggregate) → e.originator_id ≡ a.id → e.originator_version ≡ a.version + 1 → changed_to a e o ≡ Ok b → IsMade (Some a) e b
changed-made a e None b id next is = absurd (never Overflow b is)
changed-made a e (Some fields) b id next is =
    let x : Aggregate = record a { version = e.originator_version; modified_on = e.timestamp; fields = fields } in
    let same : x ≡ b = one-made x b is in
    subst (IsMade (Some a) e) same (record { id_is = sym id; version_is = refl; next = next; pending = refl; same = id; class = refl })

stepped-made : (a : Aggregate) (o : Option EventClass) (e : DomainEvent) (b : Aggregate) → stepped_by a o e ≡ Ok b → IsMade (Some a) e b
stepped-made a None e b is = absurd (never Topic b is)
stepped-made a (Some k) e b is =
    let changed = changed_to a e (fields_then a k e.fields e.timestamp) in
    let late : ApplyFault = OriginatorVersion (a.version + 1) e.originator_version in
    let parts = chosen (bytes_eq e.originator_id a.id) (e.originator_version == a.version + 1) changed (Err late) (Err OriginatorId) b (never late b) (never OriginatorId b) is in
    changed-made a e (fields_then a k e.fields e.timestamp) b ((bytes_eq-Decides e.originator_id a.id).0 parts.0) ((Decides-eqb e.originator_version (a.version + 1)).0 parts.1) parts.2

-- what an event makes of no aggregate, or of one
pub made-by : (sys : System) (found : Option Aggregate) (e : DomainEvent) (b : Aggregate) → advanced sys found e ≡ Ok b → IsMade found e b
made-by sys None e b is = begun-made (event_named sys.classes e.topic) e b is
made-by sys (Some a) e b is = stepped-made a (later_in (class_named sys.classes a.class) e.topic) e b is

pub made-is : (r : Result Aggregate ApplyFault) (b : Aggregate) → made r ≡ Some b → r ≡ Ok b
made-is (Ok a) b is = let same : a ≡ b = cc in ap Ok same
made-is (Err f) b is = absurd (cc is)

-- an event that is pending besides
pub pended : (e : DomainEvent) (r : Result Aggregate ApplyFault) (b : Aggregate) → made (with_pending e r) ≡ Some b → (x : Aggregate) × (r ≡ Ok x) × (record x { pending = x.pending ++ e ∷ [] } ≡ b)
pended e (Ok x) b is = (x, refl, cc)
pended e (Err f) b is = absurd (cc is)

-- an effect that isn't refused
pub unless-changed : (o : Option Name) (e : Effect) (b : Aggregate) → unless_refused o e ≡ Changed b → e ≡ Changed b
unless-changed None e b is = is
unless-changed (Some code) e b is = absurd (cc is)

pub changed-of : (o : Option Aggregate) (b : Aggregate) → effect_of o ≡ Changed b → o ≡ Some b
changed-of None b is = absurd (cc is)
changed-of (Some a) b is = let same : a ≡ b = cc in ap Some same

-- ---- where an aggregate stands

-- an aggregate of an id at a version with nothing pending, or none at 0
pub record StandsAs (id : Id) (version : ℕ) (a : Aggregate) : Type 0 where
  pub id_is : a.id ≡ id
  pub version_is : a.version ≡ version
  pub pending : a.pending ≡ []

abbrev pub StandsAt : Id → ℕ → Option Aggregate → Type 0
StandsAt id version None = version ≡ 0
StandsAt id version (Some a) = StandsAs id version a

-- ---- versions that come next

-- the latest version of each originator, after one event more of one of them
abbrev pub raised : (Id → ℕ) → Id → Id → ℕ
raised latest id other = if bytes_eq id other then latest other + 1 else latest other

-- the same after some events
abbrev pub raised_by : (Id → ℕ) → List DomainEvent → Id → ℕ
raised_by latest [] = latest
raised_by latest (e ∷ es) = raised_by (raised latest e.originator_id) es

-- each event has the version after the latest of its originator
abbrev pub AreNext : (Id → ℕ) → List DomainEvent → Type 0
AreNext latest [] = Unit {0}
AreNext latest (e ∷ es) = (e.originator_version ≡ latest e.originator_id + 1) × AreNext (raised latest e.originator_id) es

next-append : (latest : Id → ℕ) (xs ys : List DomainEvent) → AreNext latest xs → AreNext (raised_by latest xs) ys → AreNext latest (xs ++ ys)
next-append latest [] ys are more = more
next-append latest (x ∷ xs) ys are more = (are.0, next-append (raised latest x.originator_id) xs ys are.1 more)

-- events of one originator, one version after the other
abbrev IsChain : Id → ℕ → List DomainEvent → Type 0
IsChain id version [] = Unit {0}
IsChain id version (e ∷ es) = (e.originator_id ≡ id) × (e.originator_version ≡ version + 1) × IsChain id (version + 1) es

chain-push : (id : Id) (version : ℕ) (es : List DomainEvent) (e : DomainEvent) → IsChain id version es → e.originator_id ≡ id → e.originator_version ≡ version + length es + 1 → IsChain id version (es ++ e ∷ [])
chain-push id version [] e chain of next = (of, omega (arith, next), tt)
chain-push id version (x ∷ es) e chain of next = (chain.0, chain.1, chain-push id (version + 1) es e chain.2 of (omega (arith, next)))

raised-own : (latest : Id → ℕ) (own id : Id) → own ≡ id → raised latest own id ≡ latest id + 1
raised-own latest own id is = ap (λ b. if b then latest id + 1 else latest id) ((bytes_eq-Decides own id).1 is)

raised-other : (latest : Id → ℕ) (own other : Id) → bytes_eq own other ≡ false → raised latest own other ≡ latest other
raised-other latest own other is = ap (λ b. if b then latest other + 1 else latest other) is

chain-next : (latest : Id → ℕ) (id : Id) (version : ℕ) (es : List DomainEvent) → IsChain id version es → latest id ≡ version → AreNext latest es
chain-next latest id version [] chain is = tt
chain-next latest id version (e ∷ es) chain is =
    let last : latest e.originator_id ≡ version = ap latest chain.0 ∙ is in
    (omega (arith, chain.1, last), chain-next (raised latest e.originator_id) id (version + 1) es chain.2 (raised-own latest e.originator_id id chain.0 ∙ ap (λ n. n + 1) is))

-- what a chain adds to its originator, and to the others
chain-raises : (latest : Id → ℕ) (id : Id) (version : ℕ) (es : List DomainEvent) → IsChain id version es → raised_by latest es id ≡ latest id + length es
chain-raises latest id version [] chain = omega arith
chain-raises latest id version (e ∷ es) chain =
    let rest = chain-raises (raised latest e.originator_id) id (version + 1) es chain.2 in
    let one = raised-own latest e.originator_id id chain.0 in
    rest ∙ omega (arith, one)

chain-leaves : (latest : Id → ℕ) (id other : Id) (version : ℕ) (es : List DomainEvent) → IsChain id version es → bytes_eq id other ≡ false → raised_by latest es other ≡ latest other
chain-leaves latest id other version [] chain is = refl
chain-leaves latest id other version (e ∷ es) chain is =
    chain-leaves (raised latest e.originator_id) id other (version + 1) es chain.2 is ∙ raised-other latest e.originator_id other (ap (λ x. bytes_eq x other) chain.0 ∙ is)

-- a decision's events come next
abbrev pub IsNext : (Id → ℕ) → Decided → Type 0
IsNext latest (Ok (decision.Events es)) = AreNext latest es
IsNext latest (Ok (decision.Refused code rule)) = Unit {0}
IsNext latest (Err (Unreadable id)) = Unit {0}
IsNext latest (Err Failed) = Unit {0}
IsNext latest (Err NoMemory) = Unit {0}

-- what is read stands at the latest versions
abbrev pub AreOver : (Id → ℕ) → Readings → Type 0
AreOver latest readings = (id : Id) (now : Option Aggregate) → readings id ≡ folded now → StandsAt id (latest id) now

module _ (sys : System) where
  -- ---- what triggers add

  -- an aggregate whose new events begin after a version
  pub record Grows (id : Id) (version : ℕ) (a : Aggregate) : Type 0 where
    pub id_is : a.id ≡ id
    pub version_is : a.version ≡ version + length a.pending
    pub chain : IsChain id version a.pending

  grown : (id : Id) (version : ℕ) (x : Aggregate) (e : DomainEvent) → x.id ≡ id → x.version ≡ e.originator_version → e.originator_id ≡ id → e.originator_version ≡ version + length x.pending + 1 → IsChain id version x.pending → Grows id version (record x { pending = x.pending ++ e ∷ [] })
  grown id version x e id_is version_is of next chain =
      let longer = length-append x.pending (e ∷ []) in
      record { id_is = id_is; version_is = omega (arith, version_is, next, longer); chain = chain-push id version x.pending e chain of next }

  fired-grows : (topic : Name) (at : ℤ) (id : Id) (version : ℕ) (a : Aggregate) (o : Option Record) (b : Aggregate) → Grows id version a → fired_with sys topic at a o ≡ Some b → Grows id version b
  fired-grows topic at id version a None b grows is = absurd (cc is)
  fired-grows topic at id version a (Some fields) b grows is =
      let e = next_event a topic fields at in
      let p = pended e (stepped sys a e) b is in
      let x = p.0 in
      let m : IsMade (Some a) e x = made-by sys (Some a) e x p.1 in
      let events : x.pending ≡ a.pending = m.pending in
      let count : length x.pending ≡ length a.pending = ap length events in
      subst (Grows id version) p.2 (grown id version x e (m.id_is ∙ grows.id_is) m.version_is grows.id_is (omega (arith, grows.version_is, count)) (subst (IsChain id version) (sym events) grows.chain))

  opened-grows : (c : Command) (at : ℤ) (o : Option Record) (b : Aggregate) → opened_with sys c at o ≡ Some b → Grows c.id 0 b
  opened-grows c at None b is = absurd (cc is)
  opened-grows c at (Some fields) b is =
      let e = first_event sys c.class c.id fields at in
      let p = pended e (begun sys e) b is in
      let x = p.0 in
      let m : IsMade None e x = made-by sys None e x p.1 in
      let events : x.pending ≡ [] = m.pending in
      let count : length x.pending ≡ 0 = ap length events in
      subst (Grows c.id 0) p.2 (grown c.id 0 x e m.id_is m.version_is refl (omega (arith, count)) (subst (IsChain c.id 0) (sym events) tt))

  module _ (k : Class) (c : Command) (at : ℤ) where
    all-grow : (id : Id) (version : ℕ) (ts : List Trigger) (o : Option Aggregate) (b : Aggregate) → IfSome o (Grows id version) → all_fired sys k c at ts o ≡ Some b → Grows id version b
    all-grow id version [] None b grows is = absurd (cc is)
    all-grow id version [] (Some a) b grows is = let same : a ≡ b = cc in subst (Grows id version) same grows
    all-grow id version (t ∷ ts) None b grows is = absurd (cc is)
    all-grow id version (t ∷ ts) (Some a) b grows is = all-grow id version ts (fired sys k c at t a) b (fired-some (fired sys k c at t a) (λ x. fired-grows (topic_of k.name t.event) at id version a (values_of t.fields (seen c at (Some a))) x grows)) is
      where
        fired-some : (o : Option Aggregate) → ((x : Aggregate) → o ≡ Some x → Grows id version x) → IfSome o (Grows id version)
        fired-some None all = tt
        fired-some (Some x) all = all x refl

    opened-some : (o : Option Aggregate) → ((x : Aggregate) → o ≡ Some x → Grows c.id 0 x) → IfSome o (Grows c.id 0)
    opened-some None all = tt
    opened-some (Some x) all = all x refl

    begins : (version : ℕ) (a : Aggregate) → StandsAs c.id version a → Grows c.id version a
    begins version a stands =
        let none : length a.pending ≡ 0 = ap length stands.pending in
        record { id_is = stands.id_is; version_is = omega (arith, stands.version_is, none); chain = subst (IsChain c.id version) (sym stands.pending) tt }

    triggered-grow : (version : ℕ) (ts : List Trigger) (found : Option Aggregate) (b : Aggregate) → StandsAt c.id version found → triggered sys k c at ts found ≡ Some b → Grows c.id version b
    triggered-grow version ts (Some a) b stands is = all-grow c.id version ts (Some a) b (begins version a stands) is
    triggered-grow version [] None b stands is = absurd (cc is)
    triggered-grow version (t ∷ ts) None b stands is =
        subst (λ v. Grows c.id v b) (sym stands) (all-grow c.id 0 ts (opened sys c at t) b (opened-some (opened sys c at t) (opened-grows c at (values_of t.fields (seen c at None)))) is)

  declared-grows : (o : Option (Class × CommandDef)) (c : Command) (at : ℤ) (version : ℕ) (found : Option Aggregate) (b : Aggregate) → StandsAt c.id version found → effect_declared sys o c at found ≡ Changed b → Grows c.id version b
  declared-grows None c at version found b stands is = absurd (cc is)
  declared-grows (Some p) c at version found b stands is =
      let ts = p.1.triggers in
      let last = unless-changed (misplaced (is_creating p.0 ts) p.0 found) (unless_refused (guarded p.1.guards (seen c at found)) (effect_of (triggered sys p.0 c at ts found))) b is in
      let run = unless-changed (guarded p.1.guards (seen c at found)) (effect_of (triggered sys p.0 c at ts found)) b last in
      triggered-grow p.0 c at version ts found b stands (changed-of (triggered sys p.0 c at ts found) b run)

  effect-grows : (c : Command) (at : ℤ) (version : ℕ) (found : Option Aggregate) (b : Aggregate) → StandsAt c.id version found → effect sys c at found ≡ Changed b → Grows c.id version b
  effect-grows c at version found b = declared-grows (command_named sys c.class c.name) c at version found b

  -- ---- a command

  effect-next : (latest : Id → ℕ) (rule : ℕ) (c : Command) (at : ℤ) (found : Option Aggregate) → StandsAt c.id (latest c.id) found → (e : Effect) → effect sys c at found ≡ e → IsNext latest (Ok (decision_of rule e))
  effect-next latest rule c at found stands (Changed b) is = chain-next latest c.id (latest c.id) b.pending (effect-grows c at (latest c.id) found b stands is).chain refl
  effect-next latest rule c at found stands (Refused code) is = tt

  command-by : (latest : Id → ℕ) (readings : Readings) (c : Command) (at : ℤ) (r : Reading) → AreOver latest readings → readings c.id ≡ r → IsNext latest (command_on sys c at r)
  command-by latest readings c at (folded found) over is = effect-next latest 0 c at found (over c.id found is) (effect sys c at found) refl
  command-by latest readings c at (unreadable id) over is = tt

  -- what a command decides comes next
  pub command-next : (latest : Id → ℕ) (readings : Readings) (c : Command) (at : ℤ) → AreOver latest readings → IsNext latest (command_decision sys c at readings)
  command-next latest readings c at over = command-by latest readings c at (readings c.id) over refl

  -- ---- a policy

  folded-is : (a : Aggregate) (now : Option Aggregate) → folded (Some a) ≡ folded now → Some a ≡ now
  folded-is a now h = cc

  module _ (latest : Id → ℕ) (readings : Readings) (id : Id) (b : Aggregate) (over : AreOver latest readings) (grows : Grows id (latest id) b) where
    changed-at : (other : Id) (t : Bool) (now : Option Aggregate) → bytes_eq b.id other ≡ t → (if t then folded (Some (collected b)) else readings other) ≡ folded now → StandsAt other (raised_by latest b.pending other) now
    changed-at other true now same h =
        let here : b.id ≡ other = (bytes_eq-Decides b.id other).0 same in
        let of : id ≡ other = sym grows.id_is ∙ here in
        let count : raised_by latest b.pending other ≡ latest other + length b.pending = chain-raises latest other (latest id) b.pending (subst (λ i. IsChain i (latest id) b.pending) of grows.chain) in
        let version : b.version ≡ latest other + length b.pending = grows.version_is ∙ ap (λ i. latest i + length b.pending) of in
        let stands : StandsAs other (raised_by latest b.pending other) (collected b) = record { id_is = here; version_is = version ∙ sym count; pending = refl } in
        subst (StandsAt other (raised_by latest b.pending other)) (folded-is (collected b) now h) stands
    changed-at other false now same h =
        let away : bytes_eq id other ≡ false = ap (λ i. bytes_eq i other) (sym grows.id_is) ∙ same in
        subst (λ v. StandsAt other v now) (sym (chain-leaves latest id other (latest id) b.pending grows.chain away)) (over other now h)

    changed-over : AreOver (raised_by latest b.pending) (after_change readings b)
    changed-over = λ other now is. changed-at other (bytes_eq b.id other) now refl is

  joined-next : (latest : Id → ℕ) (es : List DomainEvent) (d : Decided) → AreNext latest es → IsNext (raised_by latest es) d → IsNext latest (joined es d)
  joined-next latest es (Ok (decision.Events more)) are more_next = next-append latest es more are more_next
  joined-next latest es (Ok (decision.Refused code rule)) are more_next = tt
  joined-next latest es (Err (Unreadable id)) are more_next = tt
  joined-next latest es (Err Failed) are more_next = tt
  joined-next latest es (Err NoMemory) are more_next = tt

  -- whatever the readings, what follows them comes next over them
  abbrev AlwaysNext : (Readings → Decided) → Type 0
  AlwaysNext rest = (latest : Id → ℕ) (readings : Readings) → AreOver latest readings → IsNext latest (rest readings)

  module _ (at : ℤ) (otherwise : Otherwise) (rule : ℕ) (rest : Readings → Decided) (always : AlwaysNext rest) (latest : Id → ℕ) (readings : Readings) (over : AreOver latest readings) where
    refused-next : (o : Otherwise) (code : Name) → IsNext latest (after_effect o rule readings (Refused code) rest)
    refused-next Skip code = always latest readings over
    refused-next Refuse code = tt

    after-effect-next : (c : Command) (found : Option Aggregate) → StandsAt c.id (latest c.id) found → (e : Effect) → effect sys c at found ≡ e → IsNext latest (after_effect otherwise rule readings e rest)
    after-effect-next c found stands (Changed b) is =
        let grows = effect-grows c at (latest c.id) found b stands is in
        joined-next latest b.pending (rest (after_change readings b)) (chain-next latest c.id (latest c.id) b.pending grows.chain refl)
        (always (raised_by latest b.pending) (after_change readings b) (changed-over latest readings c.id b over grows))
    after-effect-next c found stands (Refused code) is = refused-next otherwise code

    reading-next : (c : Command) (r : Reading) → readings c.id ≡ r → IsNext latest (after_reading sys c at otherwise rule readings r rest)
    reading-next c (folded found) is = after-effect-next c found (over c.id found is) (effect sys c at found) refl
    reading-next c (unreadable id) is = tt

    asked-next : (a : Asked) → IsNext latest (after_asked sys at otherwise rule readings a rest)
    asked-next Nothing = always latest readings over
    asked-next Overflows = refused-next otherwise overflow_code
    asked-next (Asks c) = reading-next c (readings c.id) refl

  rules-next : (n : Notice) (at : ℤ) (rule : ℕ) (rules : List Rule) → AlwaysNext (rules_from sys n at rule rules)
  rules-next n at rule [] = λ latest readings over. tt
  rules-next n at rule (r ∷ rules) = λ latest readings over.
      asked-next at r.otherwise rule (rules_from sys n at (rule + 1) rules) (rules-next n at (rule + 1) rules) latest readings over (asked r n)

  -- what a policy decides comes next
  pub policy-next : (latest : Id → ℕ) (readings : Readings) (app : Name) (n : Notice) (at : ℤ) → AreOver latest readings → IsNext latest (policy_decision sys app n at readings)
  policy-next latest readings app n at over = rules-next n at 1 (rules_of (app_named sys.apps app)) latest readings over
