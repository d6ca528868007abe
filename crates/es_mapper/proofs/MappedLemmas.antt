-- The function gives the one domain event of a stored one.
use Rattle.std.proofs.Common.{◌≡◌, ◌∙◌, ◌≤◌, ℤ, pos, negsuc, ℕ, Bool, true, false, not, ◌&&◌, IsTrue, List, Option, Some, None, Result, Ok, Err, nat_le, codes, if◌then◌else◌, refl, sym, ap, subst}
use Rattle.std.specs.Str.{bytes_eq}
use Rattle.std.proofs.lemmas.Bool.{leb-true, le-leb}
use Rattle.std.proofs.lemmas.Slice.Eq.{bytes_eq-Decides}
use Rattle.es_model.specs.Declaration.{is_created, event_named}
use Rattle.es_model.specs.Rising.{item_of}
use Rattle.es_model.specs.Values.{Name, Record, are_of_kinds}
use Rattle.es_model.specs.declared.value.Atom.TheVariants as atom
use Rattle.es_model.specs.declared.value.Value.{Value}
use Rattle.es_model.specs.declared.value.Value.TheVariants as value
use Rattle.es_model.specs.declared.declaration.Class.{Class}
use Rattle.es_model.specs.declared.declaration.EventClass.{EventClass}
use Rattle.es_model.specs.declared.declaration.System.{System}
use Rattle.es_model.specs.declared.domain_event.DomainEvent.{DomainEvent}
use Rattle.es_model.specs.declared.event.StoredEvent.{StoredEvent}
use Rattle.es_transcode.specs.Decoded.{record_of}
use Rattle.es_transcode.proofs.DecodedLemmas.{record-of-decoded, decoded-of-record}
use Rattle.es_mapper.specs.Mapping.{version_of, class_value, IsVersion, fields_of, IsEvent, IsMapped}
use Rattle.es_mapper.specs.Mapped.{at_least_one, version_in, moment_in, is_class_in, event_with, event_at, event_in_state, event_by, event_of, Gives}
use Rattle.es_mapper.specs.declared.fault.MapFault.{MapFault}
use Rattle.es_mapper.specs.declared.fault.MapFault.TheVariants as fault
use Rattle.es_mapper.proofs.MappingLemmas.{mapped-none}

same : (t : List ℕ) → bytes_eq t t ≡ true
same t = (bytes_eq-Decides t t).1 refl

-- what is chosen by a test
chosen : {A : Type 0} (b : Bool) (o : Option A) (z : A) → (if b then o else None) ≡ Some z → (b ≡ true) × (o ≡ Some z)
chosen true o z h = (refl, h)
chosen false o z h = cc

-- ---- the three members

version-is : (o : Option Value) (n : ℕ) → IsVersion n o → version_in o ≡ Some n
version-is None n is = ap Some (sym is)
version-is (Some v) n (least, is) =
    ap (λ w. version_in (Some w)) is ∙ ap (λ b. if b then Some n else None) (le-leb 1 n least)

is-version-int : (z : ℤ) (n : ℕ) → at_least_one z ≡ Some n → IsVersion n (Some (value.One (atom.Int z)))
is-version-int (pos m) n h =
    let found = chosen (nat_le 1 m) (Some m) n h in
    let is : m ≡ n = let both = found.1 in cc in
    (subst (λ k. 1 ≤ k) is (leb-true 1 m found.0), ap (λ k. value.One (atom.Int (pos k))) is)
is-version-int (negsuc m) n h = absurd (cc h)

is-version : (o : Option Value) (n : ℕ) → version_in o ≡ Some n → IsVersion n o
is-version None n h = let is : 1 ≡ n = cc in sym is
is-version (Some (value.One atom.Null)) n h = absurd (cc h)
is-version (Some (value.One (atom.Bool b))) n h = absurd (cc h)
is-version (Some (value.One (atom.Int z))) n h = is-version-int z n h
is-version (Some (value.One (atom.Text t))) n h = absurd (cc h)
is-version (Some (value.One (atom.Uuid u))) n h = absurd (cc h)
is-version (Some (value.One (atom.Moment m))) n h = absurd (cc h)
is-version (Some (value.One (atom.Decimal d))) n h = absurd (cc h)
is-version (Some (value.List items)) n h = absurd (cc h)

is-moment : (o : Option Value) (m : ℤ) → moment_in o ≡ Some m → o ≡ Some (value.One (atom.Moment m))
is-moment None m h = absurd (cc h)
is-moment (Some (value.One atom.Null)) m h = absurd (cc h)
is-moment (Some (value.One (atom.Bool b))) m h = absurd (cc h)
is-moment (Some (value.One (atom.Int z))) m h = absurd (cc h)
is-moment (Some (value.One (atom.Text t))) m h = absurd (cc h)
is-moment (Some (value.One (atom.Uuid u))) m h = absurd (cc h)
is-moment (Some (value.One (atom.Moment n))) m h = let is : n ≡ m = cc in ap (λ k. Some (value.One (atom.Moment k))) is
is-moment (Some (value.One (atom.Decimal d))) m h = absurd (cc h)
is-moment (Some (value.List items)) m h = absurd (cc h)

module _ (c : Class) (topic : Name) where
  class-is-at : (b : Bool) (o : Option Value) → is_created c topic ≡ b → o ≡ class_value c topic → is_class_in c topic o ≡ true
  class-is-at true o created is =
      let named : o ≡ Some (value.One (atom.Text c.name)) = is ∙ ap (λ d. if d then Some (value.One (atom.Text c.name)) else None) created in
      ap (is_class_in c topic) named ∙ rw (created, same c.name) refl
  class-is-at false o created is =
      let none : o ≡ None = is ∙ ap (λ d. if d then Some (value.One (atom.Text c.name)) else None) created in
      ap (is_class_in c topic) none ∙ ap not created

  class-is : (o : Option Value) → o ≡ class_value c topic → is_class_in c topic o ≡ true
  class-is o is = class-is-at (is_created c topic) o refl is

  no-class : (b : Bool) → is_created c topic ≡ b → not b ≡ true → None ≡ class_value c topic
  no-class true created h = absurd (cc h)
  no-class false created h = sym (ap (λ d. if d then Some (value.One (atom.Text c.name)) else None) created)

  some-class : (b : Bool) (name : Name) → is_created c topic ≡ b → (b && bytes_eq name c.name) ≡ true → Some (value.One (atom.Text name)) ≡ class_value c topic
  some-class true name created h =
      ap (λ (n : Name). Some (value.One (atom.Text n))) ((bytes_eq-Decides name c.name).0 h) ∙ sym (ap (λ d. if d then Some (value.One (atom.Text c.name)) else None) created)
  some-class false name created h = absurd (cc h)

  is-class : (o : Option Value) → is_class_in c topic o ≡ true → o ≡ class_value c topic
  is-class None h = no-class (is_created c topic) refl h
  is-class (Some (value.One atom.Null)) h = absurd (cc h)
  is-class (Some (value.One (atom.Bool b))) h = absurd (cc h)
  is-class (Some (value.One (atom.Int z))) h = absurd (cc h)
  is-class (Some (value.One (atom.Text t))) h = some-class (is_created c topic) t refl h
  is-class (Some (value.One (atom.Uuid u))) h = absurd (cc h)
  is-class (Some (value.One (atom.Moment m))) h = absurd (cc h)
  is-class (Some (value.One (atom.Decimal d))) h = absurd (cc h)
  is-class (Some (value.List items)) h = absurd (cc h)

-- ---- the event

module _ (sys : System) (s : StoredEvent) where
  with-fields : (k : EventClass) (e : DomainEvent) (fields : Record) → e.fields ≡ fields → IsTrue (are_of_kinds e.fields k.fields)
      → e.originator_id ≡ s.originator_id → e.originator_version ≡ s.originator_version → e.topic ≡ s.topic → event_with k s e.timestamp fields ≡ Some e
  with-fields k e fields are fit id version topic =
      let fits : are_of_kinds fields k.fields ≡ true = ap (λ r. are_of_kinds r k.fields) (sym are) ∙ fit in
      rw fits (λ i. Some (record {
        originator_id = sym id i;
        originator_version = sym version i;
        timestamp = e.timestamp;
        topic = sym topic i;
        fields = sym are i;
      }))

  -- the domain event of a stored one is the one that is given
  pub event-of : (e : DomainEvent) → IsEvent sys s e → event_of sys s ≡ Some e
  unfolding event_of
  event-of e is =
      let c = is.class in
      let k = is.event in
      let r = is.state in
      let head = is.headed.head in
      let record_is : record_of s.state ≡ Some r = record-of-decoded s.state r is.headed.read.decoded in
      let class_is : is_class_in c s.topic (item_of r (codes "originator_topic")) ≡ true = class-is c s.topic (item_of r (codes "originator_topic")) head.class_is in
      let version : version_in (item_of r (codes "class_version")) ≡ Some is.version = version-is (item_of r (codes "class_version")) is.version head.version_is in
      let moment : moment_in (item_of r (codes "timestamp")) ≡ Some e.timestamp = ap moment_in head.moment_is in
      let declared : nat_le is.version (version_of k) ≡ true = le-leb is.version (version_of k) is.headed.declared in
      (λ i. event_by (is.headed.read.declared i) s (record_is i))
      ∙ ap (λ b. if b then event_at k s r (version_in (item_of r (codes "class_version"))) (moment_in (item_of r (codes "timestamp"))) else None) class_is
      ∙ (λ i. event_at k s r (version i) (moment i))
      ∙ ap (λ b. if b then event_with k s e.timestamp (fields_of k is.version r) else None) declared
      ∙ with-fields k e (fields_of k is.version r) is.fields is.fits is.originator_id is.originator_version is.topic

  some-parts : (k : EventClass) (r : Record) (v : Option ℕ) (m : Option ℤ) (e : DomainEvent) → event_at k s r v m ≡ Some e
      → (version : ℕ) × (at : ℤ) × (v ≡ Some version) × (m ≡ Some at) × (nat_le version (version_of k) ≡ true) × (event_with k s at (fields_of k version r) ≡ Some e)
  some-parts k r None m e h = absurd (cc h)
  some-parts k r (Some version) None e h = absurd (cc h)
  some-parts k r (Some version) (Some at) e h =
      let found = chosen (nat_le version (version_of k)) (event_with k s at (fields_of k version r)) e h in
      (version, at, refl, refl, found.0, found.1)

  in-state : (c : Class) (k : EventClass) (r : Record) (e : DomainEvent) → event_named sys.classes s.topic ≡ Some (c, k) → record_of s.state ≡ Some r → event_in_state c k s r ≡ Some e → IsEvent sys s e
  in-state c k r e declared state h =
      let right = chosen (is_class_in c s.topic (item_of r (codes "originator_topic"))) (event_at k s r (version_in (item_of r (codes "class_version"))) (moment_in (item_of r (codes "timestamp")))) e h in
      let parts = some-parts k r (version_in (item_of r (codes "class_version"))) (moment_in (item_of r (codes "timestamp"))) e right.1 in
      let version = parts.0 in
      let at = parts.1 in
      let fields = fields_of k version r in
      let fits = chosen (are_of_kinds fields k.fields) (Some (record { originator_id = s.originator_id; originator_version = s.originator_version; timestamp = at; topic = s.topic; fields = fields })) e parts.5 in
      let made : DomainEvent = record { originator_id = s.originator_id; originator_version = s.originator_version; timestamp = at; topic = s.topic; fields = fields } in
      let is : made ≡ e = let both = fits.1 in cc in
      let event : IsEvent sys s made = record {
        class = c;
        event = k;
        state = r;
        version = version;
        headed = record {
          read = record { declared = declared; decoded = decoded-of-record s.state r state };
          head = record {
            version_is = is-version (item_of r (codes "class_version")) version parts.2;
            moment_is = is-moment (item_of r (codes "timestamp")) at parts.3;
            class_is = is-class c s.topic (item_of r (codes "originator_topic")) right.0;
          };
          declared = leb-true version (version_of k) parts.4;
        };
        fields = refl;
        fits = fits.0;
        originator_id = refl;
        originator_version = refl;
        topic = refl;
      } in
      subst (IsEvent sys s) is event

  by-parts : (o : Option (Class × EventClass)) (r : Option Record) (e : DomainEvent) → event_named sys.classes s.topic ≡ o → record_of s.state ≡ r → event_by o s r ≡ Some e → IsEvent sys s e
  by-parts None r e named state h = absurd (cc h)
  by-parts (Some p) None e named state h = absurd (cc h)
  by-parts (Some (c, k)) (Some r) e named state h = in-state c k r e named state h

  -- what is given is the domain event of a stored one
  pub is-event : (e : DomainEvent) → event_of sys s ≡ Some e → IsEvent sys s e
  unfolding event_of
  is-event e h = by-parts (event_named sys.classes s.topic) (record_of s.state) e refl refl h

  nothing : (o : Option DomainEvent) → ((e : DomainEvent) → o ≡ Some e → ⊥) → o ≡ None
  nothing None never = refl
  nothing (Some e) never = absurd (never e refl)

  -- where no event is given there is none
  pub no-event-of : ((e : DomainEvent) → ¬ IsEvent sys s e) → event_of sys s ≡ None
  no-event-of never = nothing (event_of sys s) (λ e is. never e (is-event e is))

  -- an answer is what is given
  pub mapped-gives : (a : Result DomainEvent MapFault) → IsMapped sys s a → Gives (event_of sys s) a
  mapped-gives (Ok e) is = event-of e is
  mapped-gives (Err fault.Topic) is = no-event-of (mapped-none sys s (Err fault.Topic) is (λ h. cc))
  mapped-gives (Err (fault.Decode f)) is = no-event-of (mapped-none sys s (Err (fault.Decode f)) is (λ h. cc))
  mapped-gives (Err fault.Fields) is = no-event-of (mapped-none sys s (Err fault.Fields) is (λ h. cc))
  mapped-gives (Err (fault.Newer stored declared)) is = no-event-of (mapped-none sys s (Err (fault.Newer stored declared)) is (λ h. cc))
  mapped-gives (Err fault.NoMemory) is = tt
