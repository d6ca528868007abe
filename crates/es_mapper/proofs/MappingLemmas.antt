-- A declared event is the one domain event of what it is stored as.
use Rattle.std.proofs.Common.{◌≡◌, ◌≢◌, ◌∙◌, ◌&&◌, ◌-◌, ℤ, pos, ℕ, zero, suc, IsTrue, Bool, true, false, List, [], ◌∷◌, drop, length, Option, Some, None, Result, Ok, Err, nat_lt, codes, refl, sym, ap, subst, arith, inl, inr}
use Rattle.std.specs.Prelude.{IfOk, IfErr}
use Rattle.std.proofs.Math.Seq.{drop-length}
use Rattle.std.proofs.lemmas.Bool.{and_parts}
use Rattle.std.specs.Str.{bytes_eq}
use Rattle.es_model.specs.Declaration.{event_named}
use Rattle.es_model.specs.Rising.{IsRising, item_of, without}
use Rattle.es_model.specs.Values.{Name, Record, are_of_kinds, fits}
use Rattle.es_model.specs.declared.value.Atom.TheVariants as atom
use Rattle.es_model.specs.declared.value.Kind.{Kind}
use Rattle.es_model.specs.declared.value.Value.{Value}
use Rattle.es_model.specs.declared.value.Value.TheVariants as value
use Rattle.es_model.specs.declared.declaration.Class.{Class}
use Rattle.es_model.specs.declared.declaration.EventClass.{EventClass}
use Rattle.es_model.specs.declared.declaration.System.{System}
use Rattle.es_model.specs.declared.domain_event.DomainEvent.{DomainEvent}
use Rattle.es_model.specs.declared.event.StoredEvent.{StoredEvent}
use Rattle.std.proofs.lemmas.Slice.Eq.{bytes_eq-Decides}
use Rattle.es_model.proofs.ItemLemmas.{item-with, item-with_other, without-with}
use Rattle.es_model.proofs.RisingLemmas.{IsRising-with_item}
use Rattle.es_transcode.specs.RecordText.{IsRecordText}
use Rattle.es_transcode.proofs.FaultLemmas.{no-fault}
use Rattle.es_transcode.proofs.OnlyLemmas.{one-decoded}
use Rattle.es_mapper.proofs.UpcastsLemmas.{alone}
use Rattle.es_mapper.specs.Mapping.{version_of, steps_from, upcast_by, class_value, version_value, with_some, stamped, state_record, state_of, IsVersion, HasHead, without_head, fields_of, IsRead, IsEvent, IsDeclared, IsHeadless, IsMisfit, IsMapFault, IsMapped}
use Rattle.es_mapper.specs.declared.fault.MapFault.{MapFault}
use Rattle.es_mapper.specs.declared.fault.MapFault.TheVariants as fault

-- a stored event is that of an event
pub record IsStored (sys : System) (e : DomainEvent) (s : StoredEvent) : Type 0 where
  pub originator_id : s.originator_id ≡ e.originator_id
  pub originator_version : s.originator_version ≡ e.originator_version
  pub topic : s.topic ≡ e.topic
  pub state : IsRecordText (state_of (event_named sys.classes e.topic) e) s.state

-- ---- a record of declared fields has no name that isn't declared

names-step : (b : Bool) (x : Name × Value) (xs : Record) (k : Name × Kind) (ks : List (Name × Kind)) (name : Name) → bytes_eq k.0 name ≡ b → x.0 ≡ k.0 → item_of (k ∷ ks) name ≡ None → (item_of ks name ≡ None → item_of xs name ≡ None) → item_of (x ∷ xs) name ≡ None
names-step true x xs k ks name is same none rest = let there = rw is at none in cc
names-step false x xs k ks name is same none rest = let apart : bytes_eq x.0 name ≡ false = ap (λ n. bytes_eq n name) same ∙ is in rw apart (rest (rw is at none))

no-name : (xs : Record) (ks : List (Name × Kind)) → IsTrue (are_of_kinds xs ks) → (name : Name) → item_of ks name ≡ None → item_of xs name ≡ None
no-name [] [] fit name none = refl
no-name [] (k ∷ ks) fit name none = refl
no-name (x ∷ xs) [] fit name none = cc
no-name (x ∷ xs) (k ∷ ks) fit name none =
    let all = and_parts (bytes_eq x.0 k.0 && fits x.1 k.1) (are_of_kinds xs ks) fit in
    let first = and_parts (bytes_eq x.0 k.0) (fits x.1 k.1) all.0 in
    names-step (bytes_eq k.0 name) x xs k ks name refl ((bytes_eq-Decides x.0 k.0).0 first.0) none (no-name xs ks all.1 name)

-- ---- a member that there may be

some-here : (o : Option Value) (name : Name) (r : Record) → item_of r name ≡ None → item_of (with_some o name r) name ≡ o
some-here None name r none = none
some-here (Some v) name r none = item-with name r v

some-other : (o : Option Value) (name m : Name) (r : Record) → bytes_eq m name ≡ false → item_of (with_some o name r) m ≡ item_of r m
some-other None name m r apart = refl
some-other (Some v) name m r apart = item-with_other name m r v apart

some-gone : (o : Option Value) (name : Name) (r : Record) → IsRising r → item_of r name ≡ None → without (with_some o name r) name ≡ r
some-gone None name r rising none = alone r name none
some-gone (Some v) name r rising none = without-with name r v rising none

some-rising : (o : Option Value) (name : Name) (r : Record) → IsRising r → IsRising (with_some o name r)
some-rising None name r rising = rising
some-rising (Some v) name r rising = IsRising-with_item r name v rising

-- ---- the state of a declared event

version-is : (k : EventClass) (n : ℕ) → length k.upcasts ≡ n → IsVersion (version_of k) (version_value k)
version-is k zero is = let low : nat_lt 1 (version_of k) ≡ false = grind (arith, is) in rw low (ap suc is)
version-is k (suc n) is = let high : nat_lt 1 (version_of k) ≡ true = grind (arith, is) in rw high (omega arith, refl)

module _ (c : Class) (k : EventClass) (e : DomainEvent) (rising : IsRising e.fields) (fit : IsTrue (are_of_kinds e.fields k.fields))
    (no_timestamp : item_of k.fields (codes "timestamp") ≡ None) (no_topic : item_of k.fields (codes "originator_topic") ≡ None) (no_version : item_of k.fields (codes "class_version") ≡ None) where
  free : (name : Name) → item_of k.fields name ≡ None → item_of e.fields name ≡ None
  free = no-name e.fields k.fields fit

  stamped-rising : IsRising (stamped e)
  stamped-rising = IsRising-with_item e.fields (codes "timestamp") (value.One (atom.Moment e.timestamp)) rising

  no-topic : item_of (stamped e) (codes "originator_topic") ≡ None
  no-topic = item-with_other (codes "timestamp") (codes "originator_topic") e.fields (value.One (atom.Moment e.timestamp)) refl ∙ free (codes "originator_topic") no_topic

  no-version : item_of (with_some (class_value c e.topic) (codes "originator_topic") (stamped e)) (codes "class_version") ≡ None
  no-version =
      some-other (class_value c e.topic) (codes "originator_topic") (codes "class_version") (stamped e) refl
      ∙ item-with_other (codes "timestamp") (codes "class_version") e.fields (value.One (atom.Moment e.timestamp)) refl
      ∙ free (codes "class_version") no_version

  pub has-head : HasHead c e.topic (state_record c k e) (version_of k) e.timestamp
  has-head =
      let r : Record = with_some (class_value c e.topic) (codes "originator_topic") (stamped e) in
      record {
        version_is = subst (IsVersion (version_of k)) (sym (some-here (version_value k) (codes "class_version") r no-version)) (version-is k (length k.upcasts) refl);
        moment_is = some-other (version_value k) (codes "class_version") (codes "timestamp") r refl
            ∙ some-other (class_value c e.topic) (codes "originator_topic") (codes "timestamp") (stamped e) refl
            ∙ item-with (codes "timestamp") e.fields (value.One (atom.Moment e.timestamp));
        class_is = some-other (version_value k) (codes "class_version") (codes "originator_topic") r refl
            ∙ some-here (class_value c e.topic) (codes "originator_topic") (stamped e) no-topic;
      }

  bare : without_head (state_record c k e) ≡ e.fields
  bare =
      let r : Record = with_some (class_value c e.topic) (codes "originator_topic") (stamped e) in
      ap (λ (s : Record). without (without s (codes "originator_topic")) (codes "timestamp"))
      (some-gone (version_value k) (codes "class_version") r (some-rising (class_value c e.topic) (codes "originator_topic") (stamped e) stamped-rising) no-version)
      ∙ ap (λ (s : Record). without s (codes "timestamp")) (some-gone (class_value c e.topic) (codes "originator_topic") (stamped e) stamped-rising no-topic)
      ∙ without-with (codes "timestamp") e.fields (value.One (atom.Moment e.timestamp)) rising (free (codes "timestamp") no_timestamp)

  no-steps : steps_from (version_of k) k.upcasts ≡ []
  no-steps = let same : version_of k - 1 ≡ length k.upcasts = omega arith in ap (λ n. drop n k.upcasts) same ∙ drop-length k.upcasts

  pub same-fields : e.fields ≡ fields_of k (version_of k) (state_record c k e)
  same-fields = sym ((λ i. upcast_by (no-steps i) (without_head (state_record c k e))) ∙ bare)

-- the domain event of what a declared event is stored as
pub stored-event : (sys : System) (e : DomainEvent) (s : StoredEvent) → IsDeclared sys e → IsStored sys e s → IsEvent sys s e
stored-event sys e s d is =
    let r : Record = state_record d.class d.event e in
    let text : IsRecordText r s.state = subst (λ (o : Option (Class × EventClass)). IsRecordText (state_of o e) s.state) d.declared is.state in
    let named : event_named sys.classes s.topic ≡ Some (d.class, d.event) = ap (event_named sys.classes) is.topic ∙ d.declared in
    record {
      class = d.class;
      event = d.event;
      state = r;
      version = version_of d.event;
      headed = record {
        read = record { declared = named; decoded = (text.0, text.1, text.2) };
        head = subst (λ t. HasHead d.class t r (version_of d.event) e.timestamp) (sym is.topic) (has-head d.class d.event e d.rising d.fits d.no_timestamp d.no_topic d.no_version);
        declared = omega arith;
      };
      fields = same-fields d.class d.event e d.rising d.fits d.no_timestamp d.no_topic d.no_version;
      fits = d.fits;
      originator_id = sym is.originator_id;
      originator_version = sym is.originator_version;
      topic = sym is.topic;
    }

-- ---- a stored event has one domain event at most

same-pair : (c d : Class) (k l : EventClass) → ◌≡◌ {A = Option (Class × EventClass)} (Some (c, k)) (Some (d, l)) → (c ≡ d) × (k ≡ l)
same-pair c d k l is = let pairs : ◌≡◌ {A = Class × EventClass} (c, k) (d, l) = cc in (ap (λ (p : Class × EventClass). p.0) pairs, ap (λ (p : Class × EventClass). p.1) pairs)

one-version : (o : Option Value) (m n : ℕ) → IsVersion m o → IsVersion n o → m ≡ n
one-version None m n is so = is ∙ sym so
one-version (Some v) m n is so = let both : value.One (atom.Int (pos m)) ≡ value.One (atom.Int (pos n)) = sym is.1 ∙ so.1 in cc

one-moment : (o : Option Value) (m n : ℤ) → o ≡ Some (value.One (atom.Moment m)) → o ≡ Some (value.One (atom.Moment n)) → m ≡ n
one-moment o m n is so = let both : Some (value.One (atom.Moment m)) ≡ Some (value.One (atom.Moment n)) = sym is ∙ so in cc

-- what two readings of one stored event have in common
pub record AreSame (c d : Class) (k l : EventClass) (r s : Record) : Type 0 where
  pub classes : c ≡ d
  pub events : k ≡ l
  pub states : r ≡ s

module _ (sys : System) (s : StoredEvent) where
  one-reading : (c d : Class) (k l : EventClass) (r t : Record) → IsRead sys s c k r → IsRead sys s d l t → AreSame c d k l r t
  one-reading c d k l r t is so =
      let named = same-pair c d k l (sym is.declared ∙ so.declared) in
      record { classes = named.0; events = named.1; states = one-decoded s.state r t is.decoded so.decoded }

  same-head : (c d : Class) (k l : EventClass) (r t : Record) (m n : ℕ) (y z : ℤ) → AreSame c d k l r t → HasHead c s.topic r m y → HasHead d s.topic t n z → (m ≡ n) × (y ≡ z)
  same-head c d k l r t m n y z same is so = (
    one-version (item_of t (codes "class_version")) m n (subst (λ x. IsVersion m (item_of x (codes "class_version"))) same.states is.version_is) so.version_is,
    one-moment (item_of t (codes "timestamp")) y z (subst (λ x. item_of x (codes "timestamp") ≡ Some (value.One (atom.Moment y))) same.states is.moment_is) so.moment_is,
  )

  pub one-event : (e f : DomainEvent) → IsEvent sys s e → IsEvent sys s f → e ≡ f
  one-event e f is so =
      let same : AreSame is.class so.class is.event so.event is.state so.state = one-reading is.class so.class is.event so.event is.state so.state is.headed.read so.headed.read in
      let heads = same-head is.class so.class is.event so.event is.state so.state is.version so.version e.timestamp f.timestamp same is.headed.head so.headed.head in
      let fields : e.fields ≡ f.fields = is.fields ∙ (λ i. fields_of (same.events i) (heads.0 i) (same.states i)) ∙ sym so.fields in
      λ i. record {
        originator_id = (is.originator_id ∙ sym so.originator_id) i;
        originator_version = (is.originator_version ∙ sym so.originator_version) i;
        timestamp = heads.1 i;
        topic = (is.topic ∙ sym so.topic) i;
        fields = fields i;
      }

  -- where a try refuses, there is none

  not-headless : (e : DomainEvent) → IsEvent sys s e → IsHeadless sys s → ⊥
  not-headless e so (c, k, r, read, bad) =
      let same : AreSame c so.class k so.event r so.state = one-reading c so.class k so.event r so.state read so.headed.read in
      let of_class : HasHead c s.topic so.state so.version e.timestamp = subst (λ x. HasHead x s.topic so.state so.version e.timestamp) (sym same.classes) so.headed.head in
      bad so.version e.timestamp (subst (λ x. HasHead c s.topic x so.version e.timestamp) (sym same.states) of_class)

  not-misfit : (e : DomainEvent) → IsEvent sys s e → IsMisfit sys s → ⊥
  not-misfit e so (c, k, r, n, m, headed, bad) =
      let same : AreSame c so.class k so.event r so.state = one-reading c so.class k so.event r so.state headed.read so.headed.read in
      let heads = same-head c so.class k so.event r so.state n so.version m e.timestamp same headed.head so.headed.head in
      bad ((λ i. are_of_kinds (fields_of (same.events i) (heads.0 i) (same.states i)) (same.events i).fields) ∙ ap (λ x. are_of_kinds x so.event.fields) (sym so.fields) ∙ so.fits)

  no-event : (f : MapFault) → IsMapFault sys s f → (e : DomainEvent) → ¬ IsEvent sys s e
  no-event fault.Topic is e so = let declared = so.headed.read.declared in cc
  no-event (fault.Decode f) (c, k, named, real, bad) e so = no-fault s.state so.state f so.headed.read.decoded real bad
  no-event fault.Fields (inl is) e so = not-headless e so is
  no-event fault.Fields (inr is) e so = not-misfit e so is
  no-event (fault.Newer stored declared) (c, k, r, m, read, head, is, newer) e so =
      let same : AreSame c so.class k so.event r so.state = one-reading c so.class k so.event r so.state read so.headed.read in
      let heads = same-head c so.class k so.event r so.state stored so.version m e.timestamp same head so.headed.head in
      let versions : version_of k ≡ version_of so.event = ap version_of same.events in
      omega (arith, heads.0, versions, is, newer, so.headed.declared)
  no-event fault.NoMemory is e so = is

  -- an answer is the one event, or there is none

  pub mapped-one : (a : Result DomainEvent MapFault) → IsMapped sys s a → IfOk a (λ e. (f : DomainEvent) → IsEvent sys s f → e ≡ f)
  mapped-one (Ok e) is = λ f so. one-event e f is so
  mapped-one (Err f) is = tt

  pub mapped-none : (a : Result DomainEvent MapFault) → IsMapped sys s a → IfErr a (λ f. f ≢ fault.NoMemory → (e : DomainEvent) → ¬ IsEvent sys s e)
  mapped-none (Ok e) is = tt
  mapped-none (Err fault.Topic) is = λ real. no-event fault.Topic is
  mapped-none (Err (fault.Decode f)) is = λ real. no-event (fault.Decode f) is
  mapped-none (Err fault.Fields) is = λ real. no-event fault.Fields is
  mapped-none (Err (fault.Newer stored declared)) is = λ real. no-event (fault.Newer stored declared) is
  mapped-none (Err fault.NoMemory) is = λ real e so. real refl
