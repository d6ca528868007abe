-- Laws of histories that follow their openings: over logs that grow, and with one recording more.
use Rattle.std.proofs.Common.{◌≡◌, ◌<◌, ◌≤◌, ℕ, ℤ, zero, suc, ◌-◌, max, List, [], ◌∷◌, ◌++◌, length, slice_get, refl, sym, ap, ◌∙◌, subst, append-nil, append_assoc, length-append, arith}
use Rattle.es_model.specs.declared.event.StoredEvent.{StoredEvent}
use Rattle.es_model.specs.declared.event.Recording.{Recording}
use Rattle.es_model.specs.declared.event.Cause.{Cause}
use Rattle.es_model.specs.declared.event.Cause.TheVariants.{Command, Notification}
use Rattle.es_model.specs.History.{Histories, log}
use Rattle.es_model.specs.Tracking.{tracked_in, id_from}
use Rattle.es_model.specs.Values.{Name}
use Rattle.es_model.proofs.HistoryLemmas.{log-append}
use Rattle.es_recorder.specs.Held.{put}
use Rattle.es_recorder.specs.Stable.{IsPrefix}
use Rattle.es_process.specs.Decision.{Rules, Logs, logs_of}
use Rattle.es_process.specs.Follows.{MayCome, ComesNext, EachComes, Follows}
use Rattle.es_process.specs.inner.Lawful.{IsLocal}
use Rattle.es_process.proofs.AmongLemmas.{put-each}

-- each history is a front of the later one, and each log of the later one
abbrev pub Grows : Histories → Histories → Type 0
Grows old new = (app : Name) → IsPrefix (old app) (new app)

abbrev pub LogsGrow : Logs → Logs → Type 0
LogsGrow old new = (app : Name) → (rest : List StoredEvent) × (new app ≡ old app ++ rest)

pub Grows-same : (h : Histories) → Grows h h
Grows-same h app = ([], sym (append-nil (h app)))

pub Grows-put : (h : Histories) (app : Name) (r : Recording) → Grows h (put h app (h app ++ r ∷ []))
Grows-put h app r n = put-each (λ m x. IsPrefix (h m) x) h app (h app ++ r ∷ []) n (r ∷ [], refl) (Grows-same h n)

pub logs-grow : (old new : Histories) → Grows old new → LogsGrow (logs_of old) (logs_of new)
logs-grow old new so app = (log (so app).0, ap log (so app).1 ∙ log-append (old app) (so app).0)

-- what is tracked with one recording more
pub tracked_in-append : (g h : List Recording) (leader : Name) → tracked_in (g ++ h) leader ≡ max (tracked_in g leader) (tracked_in h leader)
tracked_in-append [] h leader = omega arith
tracked_in-append (r ∷ g) h leader = omega (arith, tracked_in-append g h leader)

pub tracked_in-push : (h : List Recording) (r : Recording) (leader : Name) → tracked_in (h ++ r ∷ []) leader ≡ max (tracked_in h leader) (id_from r.cause leader)
tracked_in-push h r leader = omega (arith, tracked_in-append h (r ∷ []) leader)

-- an entry of a front
pub slice_get-front : {A : Type 0} (xs ys : List A) (i : ℕ) → i < length xs → slice_get (xs ++ ys) i ≡ slice_get xs i
slice_get-front [] ys i within = absurd (omega arith)
slice_get-front (x ∷ xs) ys zero within = refl
slice_get-front (x ∷ xs) ys (suc i) within = slice_get-front xs ys i (omega arith)

module _ (rules : Rules) (local : IsLocal rules) (app : Name) (logs others : Logs) (grow : LogsGrow logs others) where
  longer : (leader : Name) → length (logs leader) ≤ length (others leader)
  longer leader = omega (arith, ap length (grow leader).1, length-append (logs leader) (grow leader).0)

  -- what is decided on a cause that may come stays, as the leaders' logs grow
  pub decide-grows : (before : List Recording) (cause : Cause) (at : ℤ) → MayCome rules app before logs cause → rules.decide app before logs cause at ≡ rules.decide app before others cause at
  decide-grows before (Command asked) at may = local.commands app before logs others asked at
  decide-grows before (Notification leader id) at may =
      let within : id - 1 < length (logs leader) = omega (arith, may.next, may.there) in
      local.notifications app before logs others leader id at
      (sym (ap (λ (es : List StoredEvent). slice_get es (id - 1)) (grow leader).1 ∙ slice_get-front (logs leader) (grow leader).0 (id - 1) within))

  pub MayCome-grows : (before : List Recording) (cause : Cause) → MayCome rules app before logs cause → MayCome rules app before others cause
  MayCome-grows before (Command asked) may = may
  MayCome-grows before (Notification leader id) may = record { leads = may.leads; next = may.next; there = omega (arith, may.there, longer leader) }

  pub ComesNext-grows : (before : List Recording) (r : Recording) → ComesNext rules app before logs r → ComesNext rules app before others r
  ComesNext-grows before r so = record { cause = MayCome-grows before r.cause so.cause; decided = sym (decide-grows before r.cause r.at so.cause) ∙ so.decided }

  EachComes-grows : (before added : List Recording) → EachComes rules app before logs added → EachComes rules app before others added
  EachComes-grows before [] so = tt
  EachComes-grows before (r ∷ added) so = (ComesNext-grows before r so.0, EachComes-grows (before ++ r ∷ []) added so.1)

  -- a history that follows its opening still does, as the leaders' logs grow
  pub Follows-grows : (opening history : List Recording) → Follows rules app opening history logs → Follows rules app opening history others
  Follows-grows opening history so = record { added = so.added; parts = so.parts; each = EachComes-grows opening so.added so.each }

module _ (rules : Rules) (app : Name) (logs : Logs) where
  pub Follows-opening : (opening : List Recording) → Follows rules app opening opening logs
  Follows-opening opening = record { added = []; parts = sym (append-nil opening); each = tt }

  EachComes-push : (before added : List Recording) (r : Recording) → EachComes rules app before logs added → ComesNext rules app (before ++ added) logs r → EachComes rules app before logs (added ++ r ∷ [])
  EachComes-push before [] r so next = (subst (λ h. ComesNext rules app h logs r) (append-nil before) next, tt)
  EachComes-push before (x ∷ added) r so next =
      (so.0, EachComes-push (before ++ x ∷ []) added r so.1 (subst (λ h. ComesNext rules app h logs r) (sym (append_assoc before (x ∷ []) added)) next))

  -- one recording more
  pub Follows-push : (opening history : List Recording) (r : Recording) → Follows rules app opening history logs → ComesNext rules app history logs r → Follows rules app opening (history ++ r ∷ []) logs
  Follows-push opening history r so next = record {
    added = so.added ++ r ∷ [];
    parts = ap (λ (h : List Recording). h ++ r ∷ []) so.parts ∙ append_assoc opening so.added (r ∷ []);
    each = EachComes-push opening so.added r so.each (subst (λ h. ComesNext rules app h logs r) so.parts next);
  }

pub Follows-longer : (rules : Rules) (app : Name) (opening history : List Recording) (logs : Logs) → Follows rules app opening history logs → length opening ≤ length history
Follows-longer rules app opening history logs so = omega (arith, ap length so.parts, length-append opening so.added)
