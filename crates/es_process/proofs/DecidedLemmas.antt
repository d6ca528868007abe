-- What an answer, and what a follower makes of a notification, tell of the decision.
use Rattle.std.proofs.Common.{◌≡◌, ℕ, ℤ, ◌==◌, nat_le, Bool, true, false, List, length, if◌then◌else◌, Option, Some, None, IfSome, refl, sym, ap, ◌∙◌, eqb-true}
use Rattle.std.proofs.lemmas.Bool.{not-false}
use Rattle.es_model.specs.declared.event.StoredEvent.{StoredEvent}
use Rattle.es_model.specs.declared.event.Recording.{Recording}
use Rattle.es_model.specs.declared.event.Cause.{Cause}
use Rattle.es_model.specs.declared.event.Cause.TheVariants.{Command, Notification}
use Rattle.es_model.specs.declared.snapshot.Snapshot.{Snapshot}
use Rattle.es_model.specs.History.{log, latest}
use Rattle.es_model.specs.Values.{Name, Id}
use Rattle.es_domain.specs.Readings.{Reading, folded, unreadable as unread}
use Rattle.es_domain.specs.declared.command.Command.{Command as CommandOf}
use Rattle.es_recorder.specs.Insert.{too_many}
use Rattle.es_recorder.specs.declared.recorder.InsertFault.{InsertFault}
use Rattle.es_repo.specs.Snapshots.{is_there}
use Rattle.es_lines.specs.CommandText.{command_text}
use Rattle.es_lines.specs.declared.request.Request.{Request}
use Rattle.es_lines.specs.declared.request.Request.TheVariants as request
use Rattle.es_lines.specs.declared.replies.Reply.{Reply}
use Rattle.es_lines.specs.declared.replies.Reply.TheVariants.{Conflict}
use Rattle.es_lines.specs.declared.ends.End.TheVariants.{Ok, Turns}
use Rattle.es_process.specs.Answer.{Options, says, accepts, ends, due_of, command_answer, request_answer, snapshot_answer, take_unless, answer_of, accept_unless, differs, recording_of, adds, stops, add_unless, followed_of, followed}
use Rattle.es_process.specs.Decision.{Rules, Logs, Decision, events, refused, unreadable}

-- a recording that is added is that of its cause, at a moment, with the events that were decided
pub record IsDecided (decision : Decision) (cause : Cause) (at : ℤ) (r : Recording) : Type 0 where
  pub given : List StoredEvent
  pub decided : decision ≡ events given
  pub is : recording_of cause at given ≡ r

module _ (rules : Rules) (capacity : ℕ) (app : Name) (before : List Recording) (at : ℤ) where
  accepts_unless : (text : List ℕ) (id : Id) (es : List StoredEvent) (o : Option InsertFault) (r : Recording) (ss : List Snapshot) (reply : Reply) → accept_unless rules o capacity app before (recording_of (Command text) at es) id ≡ accepts r ss reply → IsDecided (events es) (Command text) at r
  accepts_unless text id es None r ss reply is = record { given = es; decided = refl; is = cc is }
  accepts_unless text id es (Some full) r ss reply is = absurd (cc is)

  answer_of-accepts : (text : List ℕ) (id : Id) (d : Decision) (r : Recording) (ss : List Snapshot) (reply : Reply) → answer_of rules capacity app before text id at d ≡ accepts r ss reply → IsDecided d (Command text) at r
  answer_of-accepts text id (refused code rule) r ss reply is = absurd (cc is)
  answer_of-accepts text id (unreadable other n) r ss reply is = absurd (cc is)
  answer_of-accepts text id (events es) r ss reply is = accepts_unless text id es (too_many capacity (length (log before)) es) r ss reply is

  ends_unless : (r : Recording) (id : Id) (o : Option InsertFault) (added : List (Name × ℕ)) (count : ℕ) {P : Type 0} → accept_unless rules o capacity app before r id ≡ ends (Ok added count) → P
  ends_unless r id None added count is = absurd (cc is)
  ends_unless r id (Some full) added count is = absurd (cc is)

  answer_of-ends : (text : List ℕ) (id : Id) (d : Decision) (added : List (Name × ℕ)) (count : ℕ) {P : Type 0} → answer_of rules capacity app before text id at d ≡ ends (Ok added count) → P
  answer_of-ends text id (refused code rule) added count is = absurd (cc is)
  answer_of-ends text id (unreadable other n) added count is = absurd (cc is)
  answer_of-ends text id (events es) added count is = ends_unless (recording_of (Command text) at es) id (too_many capacity (length (log before)) es) added count is

  adds_unless : (leader : Name) (id : ℕ) (es : List StoredEvent) (o : Option InsertFault) (r : Recording) (ss : List Snapshot) → add_unless rules o capacity app before (recording_of (Notification leader id) at es) ≡ adds r ss → IsDecided (events es) (Notification leader id) at r
  adds_unless leader id es None r ss is = record { given = es; decided = refl; is = cc is }
  adds_unless leader id es (Some full) r ss is = absurd (cc is)

  followed_of-adds : (leader : Name) (id : ℕ) (d : Decision) (r : Recording) (ss : List Snapshot) → followed_of rules capacity app before leader id at d ≡ adds r ss → IsDecided d (Notification leader id) at r
  followed_of-adds leader id (refused code rule) r ss is = absurd (cc is)
  followed_of-adds leader id (unreadable other n) r ss is = absurd (cc is)
  followed_of-adds leader id (events es) r ss is = adds_unless leader id es (too_many capacity (length (log before)) es) r ss is

  stops_unless : (r : Recording) (o : Option InsertFault) (added : List (Name × ℕ)) (count : ℕ) {P : Type 0} → add_unless rules o capacity app before r ≡ stops (Ok added count) → P
  stops_unless r None added count is = absurd (cc is)
  stops_unless r (Some full) added count is = absurd (cc is)

  followed_of-stops : (leader : Name) (id : ℕ) (d : Decision) (added : List (Name × ℕ)) (count : ℕ) {P : Type 0} → followed_of rules capacity app before leader id at d ≡ stops (Ok added count) → P
  followed_of-stops leader id (refused code rule) added count is = absurd (cc is)
  followed_of-stops leader id (unreadable other n) added count is = absurd (cc is)
  followed_of-stops leader id (events es) added count is = stops_unless (recording_of (Notification leader id) at es) (too_many capacity (length (log before)) es) added count is

-- a test of which one side is ruled out
other_side : {A : Type 0} (b : Bool) (x y z : A) {P : Type 0} → (x ≡ z → P) → (y ≡ z → P) → (if b then x else y) ≡ z → P
other_side true x y z here other is = here is
other_side false x y z here other is = other is

-- a version that doesn't differ is the latest
pub same_version : (before : List Recording) (id : Id) (expect : Option ℕ) → differs before id expect ≡ false → IfSome expect (λ version. version ≡ latest (log before) id)
same_version before id None is = tt
same_version before id (Some version) is = eqb-true version (latest (log before) id) (not-false (version == latest (log before) id) is)

-- an answer that accepts is that to a command, whose version doesn't differ; its recording is the one that was decided on the command's text, and the snapshots are those that are due after it
pub record AcceptsCommand (rules : Rules) (app : Name) (before : List Recording) (logs : Logs) (at : ℤ) (asked : Request) (r : Recording) (ss : List Snapshot) : Type 0 where
  pub command : CommandOf
  pub other : Name
  pub is_asked : asked ≡ request.Do other command
  pub unmet : differs before command.id command.expect ≡ false
  pub decided : IsDecided (rules.decide app before logs (Command (command_text app command)) at) (Command (command_text app command)) at r
  pub due : ss ≡ due_of rules before r

due_unless : (rules : Rules) (capacity : ℕ) (app : Name) (before : List Recording) (id : Id) (o : Option InsertFault) (x r : Recording) (ss : List Snapshot) (reply : Reply) → accept_unless rules o capacity app before x id ≡ accepts r ss reply → ss ≡ due_of rules before r
due_unless rules capacity app before id None x r ss reply is =
    let recording : x ≡ r = cc is in
    let snapshots : due_of rules before x ≡ ss = cc is in
    sym snapshots ∙ ap (due_of rules before) recording
due_unless rules capacity app before id (Some full) x r ss reply is = absurd (cc is)

answer_of-due : (rules : Rules) (capacity : ℕ) (app : Name) (before : List Recording) (text : List ℕ) (id : Id) (at : ℤ) (d : Decision) (r : Recording) (ss : List Snapshot) (reply : Reply) → answer_of rules capacity app before text id at d ≡ accepts r ss reply → ss ≡ due_of rules before r
answer_of-due rules capacity app before text id at (refused code rule) r ss reply is = absurd (cc is)
answer_of-due rules capacity app before text id at (unreadable other n) r ss reply is = absurd (cc is)
answer_of-due rules capacity app before text id at (events es) r ss reply is =
    due_unless rules capacity app before id (too_many capacity (length (log before)) es) (recording_of (Command text) at es) r ss reply is

module _ (rules : Rules) (app : Name) (before : List Recording) (logs : Logs) (at : ℤ) where
  command-accepts : (capacity : ℕ) (other : Name) (c : CommandOf) (r : Recording) (ss : List Snapshot) (reply : Reply) → command_answer rules capacity app before logs c at ≡ accepts r ss reply
      → AcceptsCommand rules app before logs at (request.Do other c) r ss
  command-accepts capacity other c r ss reply is = by (differs before c.id c.expect) refl is
    where
      d : Decision
      d = rules.decide app before logs (Command (command_text app c)) at

      by : (b : Bool) → differs before c.id c.expect ≡ b → (if b then says (Conflict (latest (log before) c.id)) else answer_of rules capacity app before (command_text app c) c.id at d) ≡ accepts r ss reply → AcceptsCommand rules app before logs at (request.Do other c) r ss
      by true met so = absurd (cc so)
      by false unmet so = record {
        command = c;
        other = other;
        is_asked = refl;
        unmet = unmet;
        decided = answer_of-accepts rules capacity app before at (command_text app c) c.id d r ss reply so;
        due = answer_of-due rules capacity app before (command_text app c) c.id at d r ss reply so;
      }

  unless-takes : (b : Bool) (s : Snapshot) (r : Recording) (ss : List Snapshot) (reply : Reply) {P : Type 0} → take_unless b s ≡ accepts r ss reply → P
  unless-takes true s r ss reply is = absurd (cc is)
  unless-takes false s r ss reply is = absurd (cc is)

  snapshot-takes : (q : List Snapshot) (reading : Reading) (r : Recording) (ss : List Snapshot) (reply : Reply) {P : Type 0} → snapshot_answer rules app q reading ≡ accepts r ss reply → P
  snapshot-takes q (folded None) r ss reply is = absurd (cc is)
  snapshot-takes q (folded (Some a)) r ss reply is = unless-takes (is_there q (rules.snapshot a)) (rules.snapshot a) r ss reply is
  snapshot-takes q (unread n) r ss reply is = absurd (cc is)

  pub request-accepts : (capacity : ℕ) (q : List Snapshot) (asked : Request) (r : Recording) (ss : List Snapshot) (reply : Reply) → request_answer rules capacity app before q logs asked at ≡ accepts r ss reply → AcceptsCommand rules app before logs at asked r ss
  request-accepts capacity q (request.Do other c) r ss reply is = command-accepts capacity other c r ss reply is
  request-accepts capacity q (request.Get other id version) r ss reply is = absurd (cc is)
  request-accepts capacity q (request.Log other section) r ss reply is = absurd (cc is)
  request-accepts capacity q (request.Tracking other leader) r ss reply is = absurd (cc is)
  request-accepts capacity q (request.Snapshot other id) r ss reply is = snapshot-takes q (rules.read before id None) r ss reply is
  request-accepts capacity q request.Sync r ss reply is = absurd (cc is)
  request-accepts capacity q request.Stop r ss reply is = absurd (cc is)

  unless-ends : (b : Bool) (s : Snapshot) (added : List (Name × ℕ)) (count : ℕ) {P : Type 0} → take_unless b s ≡ ends (Ok added count) → P
  unless-ends true s added count is = absurd (cc is)
  unless-ends false s added count is = absurd (cc is)

  snapshot-ends : (q : List Snapshot) (reading : Reading) (added : List (Name × ℕ)) (count : ℕ) {P : Type 0} → snapshot_answer rules app q reading ≡ ends (Ok added count) → P
  snapshot-ends q (folded None) added count is = absurd (cc is)
  snapshot-ends q (folded (Some a)) added count is = unless-ends (is_there q (rules.snapshot a)) (rules.snapshot a) added count is
  snapshot-ends q (unread n) added count is = absurd (cc is)

  -- an answer never ends the run as if all were done
  pub request-ends : (capacity : ℕ) (q : List Snapshot) (asked : Request) (added : List (Name × ℕ)) (count : ℕ) {P : Type 0} → request_answer rules capacity app before q logs asked at ≡ ends (Ok added count) → P
  request-ends capacity q (request.Do other c) added count is =
      let d : Decision = rules.decide app before logs (Command (command_text app c)) at in
      other_side (differs before c.id c.expect) (says (Conflict (latest (log before) c.id))) (answer_of rules capacity app before (command_text app c) c.id at d) (ends (Ok added count)) (λ said. absurd (cc said))
      (λ same. answer_of-ends rules capacity app before at (command_text app c) c.id d added count same) is
  request-ends capacity q (request.Get other id version) added count is = absurd (cc is)
  request-ends capacity q (request.Log other section) added count is = absurd (cc is)
  request-ends capacity q (request.Tracking other leader) added count is = absurd (cc is)
  request-ends capacity q (request.Snapshot other id) added count is = snapshot-ends q (rules.read before id None) added count is
  request-ends capacity q request.Sync added count is = absurd (cc is)
  request-ends capacity q request.Stop added count is = absurd (cc is)

  pub followed-adds : (options : Options) (used : ℕ) (leader : Name) (id : ℕ) (r : Recording) (ss : List Snapshot) → followed rules options app before used logs leader id at ≡ adds r ss → IsDecided (rules.decide app before logs (Notification leader id) at) (Notification leader id) at r
  followed-adds options used leader id r ss is =
      let d : Decision = rules.decide app before logs (Notification leader id) at in
      other_side (nat_le options.turns used) (stops (Turns app options.turns)) (followed_of rules options.capacity app before leader id at d) (adds r ss) (λ stopped. absurd (cc stopped)) (λ same. followed_of-adds rules options.capacity app before at leader id d r ss same) is

  followed_of-due : (capacity : ℕ) (leader : Name) (id : ℕ) (d : Decision) (r : Recording) (ss : List Snapshot) → followed_of rules capacity app before leader id at d ≡ adds r ss → ss ≡ due_of rules before r
  followed_of-due capacity leader id (refused code rule) r ss is = absurd (cc is)
  followed_of-due capacity leader id (unreadable other n) r ss is = absurd (cc is)
  followed_of-due capacity leader id (events es) r ss is = by (too_many capacity (length (log before)) es) is
    where
      x : Recording
      x = recording_of (Notification leader id) at es

      by : (o : Option InsertFault) → add_unless rules o capacity app before x ≡ adds r ss → ss ≡ due_of rules before r
      by None same =
          let recording : x ≡ r = cc same in
          let snapshots : due_of rules before x ≡ ss = cc same in
          sym snapshots ∙ ap (due_of rules before) recording
      by (Some full) same = absurd (cc same)

  -- the snapshots are those that are due
  pub followed-due : (options : Options) (used : ℕ) (leader : Name) (id : ℕ) (r : Recording) (ss : List Snapshot) → followed rules options app before used logs leader id at ≡ adds r ss → ss ≡ due_of rules before r
  followed-due options used leader id r ss is =
      let d : Decision = rules.decide app before logs (Notification leader id) at in
      other_side (nat_le options.turns used) (stops (Turns app options.turns)) (followed_of rules options.capacity app before leader id at d) (adds r ss) (λ stopped. absurd (cc stopped)) (λ same. followed_of-due options.capacity leader id d r ss same) is

  -- nor does what a follower makes of a notification
  pub followed-stops : (options : Options) (used : ℕ) (leader : Name) (id : ℕ) (added : List (Name × ℕ)) (count : ℕ) {P : Type 0} → followed rules options app before used logs leader id at ≡ stops (Ok added count) → P
  followed-stops options used leader id added count is =
      let d : Decision = rules.decide app before logs (Notification leader id) at in
      other_side (nat_le options.turns used) (stops (Turns app options.turns)) (followed_of rules options.capacity app before leader id at d) (stops (Ok added count)) (λ stopped. absurd (cc stopped)) (λ same. followed_of-stops rules options.capacity app before at leader id d added count same) is
