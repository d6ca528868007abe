-- The law on joins: what is consistent over an image of consistent histories is consistent over their openings.
use Rattle.std.proofs.Common.{◌≡◌, ◌<◌, ◌≤◌, ℕ, ◌-◌, List, [], length, take, slice_get, Contains, Some, sym, ap, ◌∙◌, append-nil, length-append, arith}
use Rattle.es_model.specs.declared.event.StoredEvent.{StoredEvent}
use Rattle.es_model.specs.declared.event.Recording.{Recording}
use Rattle.es_model.specs.declared.event.Cause.{Cause}
use Rattle.es_model.specs.declared.event.Cause.TheVariants.{Command, Notification}
use Rattle.es_model.specs.History.{Histories, log}
use Rattle.es_model.specs.Tracking.{tracked_in, id_from}
use Rattle.es_model.specs.Values.{Name}
use Rattle.es_model.proofs.HistoryLemmas.{log-append}
use Rattle.es_recorder.specs.Stable.{IsPrefix}
use Rattle.es_process.specs.Consistent.{rounds, lengths_of, IsGrounded, IsConsistent}
use Rattle.es_process.specs.Decision.{Rules, logs_of}
use Rattle.es_process.specs.Follows.{MayCome, Follows}
use Rattle.es_process.specs.inner.Lawful.{IsLawful}
use Rattle.es_process.proofs.ConsistentLemmas.{rounds_within}
use Rattle.es_process.proofs.FollowsLemmas.{slice_get-front, Follows-longer}
use Rattle.es_process.proofs.RunReachedLemmas.{none_ahead}
use Rattle.es_world.specs.Laws.{AreBetween, JoinLaw}
use Rattle.es_world.proofs.ComesLemmas.{tracked_at, id_from-own, IsSameFor, caused_at, Follows-front, Follows-join, Follows-over}
use Rattle.es_world.proofs.RoundsLemmas.{log_taken, log_capped, rounds_after, IsTakenToo, Carries, AreBeside, rounds_beside}

module _ (rules : Rules) (lawful : IsLawful rules) (openings image histories later : Histories)
    (first : IsConsistent rules openings histories) (between : AreBetween rules.names openings image histories) (second : IsConsistent rules image later)
    (inside : (app leader : Name) (id : ℕ) → Contains rules.names app → Contains rules.pairs (leader, app) → id ≤ length (log (histories leader)) → id ≤ tracked_in (image app) leader → id ≤ length (log (image leader)))
  where
    goes_on : (app : Name) → Contains rules.names app → IsPrefix (image app) (later app)
    goes_on app declared = ((second.follow app declared).added, (second.follow app declared).parts)

    declared_leader : (app leader : Name) → Contains rules.pairs (leader, app) → Contains rules.names leader
    declared_leader app leader leads = (lawful.paired (leader, app) leads).0

    -- an entry of the image's log is in each later one
    entry : (h k : List Recording) (id : ℕ) → IsPrefix h k → 0 < id → id ≤ length (log h) → slice_get (log k) (id - 1) ≡ slice_get (log h) (id - 1)
    entry h k id goes some there = ap (λ (es : List StoredEvent). slice_get es (id - 1)) (ap log goes.1 ∙ log-append h goes.0) ∙ slice_get-front (log h) (log goes.0) (id - 1) (omega arith)

    longer_log : (h k : List Recording) → IsPrefix h k → length (log h) ≤ length (log k)
    longer_log h k goes = omega (arith, ap (λ g. length (log g)) goes.1, ap length (log-append h goes.0), length-append (log h) (log goes.0))

    follows_later : (app : Name) → Contains rules.names app → Follows rules app (openings app) (later app) (logs_of later)
    follows_later app declared = Follows-join rules app (logs_of later) (openings app) (image app) (later app)
        (Follows-over rules lawful.local app (logs_of histories) (logs_of later) (openings app) (image app) same
        (Follows-front rules app (logs_of histories) (openings app) (image app) (histories app) (between app declared).0 (between app declared).1 (first.follow app declared)))
        (second.follow app declared)
      where
        same : (leader : Name) (id : ℕ) → Contains rules.pairs (leader, app) → 0 < id → id ≤ length (log (histories leader)) → id ≤ tracked_in (image app) leader → IsSameFor rules lawful.local app (logs_of histories) (logs_of later) (Notification leader id)
        same leader id leads some there tracked =
            let known : Contains rules.names leader = declared_leader app leader leads in
            let within : id ≤ length (log (image leader)) = inside app leader id declared leads there tracked in (
              omega (arith, within, longer_log (image leader) (later leader) (goes_on leader known)),
              entry (image leader) (histories leader) id (between leader known).1 some within ∙ sym (entry (image leader) (later leader) id (goes_on leader known) some within),
            )

    -- what rounds take of the histories, up to the image, they take of the later ones
    carries_image : Carries rules.names histories later (lengths_of openings) (lengths_of image)
    carries_image app declared i r low within found = (
      at_place (later app) (goes_on app declared) ∙ here,
      taken r.cause (caused_at rules app (logs_of histories) (openings app) (histories app) (first.follow app declared) i r low found) (λ leader. tracked_at (image app) i r leader here),
    )
      where
        at_place : (k : List Recording) → IsPrefix (image app) k → slice_get k i ≡ slice_get (image app) i
        at_place k goes = ap (λ (h : List Recording). slice_get h i) goes.1 ∙ slice_get-front (image app) goes.0 i within

        here : slice_get (image app) i ≡ Some r
        here = sym (at_place (histories app) (between app declared).1) ∙ found

        taken : (cause : Cause) → (earlier : List Recording) × MayCome rules app earlier (logs_of histories) cause → ((leader : Name) → id_from cause leader ≤ tracked_in (image app) leader) → IsTakenToo rules.names histories later (lengths_of openings) (lengths_of image) cause
        taken (Command asked) may tracked = tt
        taken (Notification leader id) may tracked =
            let known : Contains rules.names leader = declared_leader app leader may.1.leads in
            let kept : id ≤ length (log (image leader)) = inside app leader id declared may.1.leads may.1.there (omega (arith, tracked leader, id_from-own leader id)) in (
              known,
              λ front up le there. omega (
                arith,
                log_capped (image leader) (between leader known).1.0 front id (omega (arith, there, ap (λ g. length (log (take front g))) (between leader known).1.1)) kept,
                log_taken (image leader) (goes_on leader known).0 front up le,
                ap (λ g. length (log (take up g))) (goes_on leader known).1,
              ),
            )

    carries_later : Carries rules.names later later (lengths_of image) (lengths_of later)
    carries_later app declared i r low within found =
        (found, taken r.cause (caused_at rules app (logs_of later) (image app) (later app) (second.follow app declared) i r low found))
      where
        taken : (cause : Cause) → (earlier : List Recording) × MayCome rules app earlier (logs_of later) cause → IsTakenToo rules.names later later (lengths_of image) (lengths_of later) cause
        taken (Command asked) may = tt
        taken (Notification leader id) may =
            (declared_leader app leader may.1.leads, λ front up le there. omega (arith, there, log_taken (later leader) [] front up le, ap (λ g. length (log (take up g))) (append-nil (later leader))))

    grounded_later : IsGrounded rules.names openings later
    grounded_later = record {
      count = counted.0;
      all = λ app declared. omega (
        arith,
        ap (λ f. f app) counted.1,
        (whole app declared).1,
        second.grounded.all app declared,
        rounds_within later openings app (Follows-longer rules app (openings app) (later app) (logs_of later) (follows_later app declared)) counted.0,
      );
    }
      where
        n : ℕ
        n = first.grounded.count

        m : ℕ
        m = second.grounded.count

        counted : (count : ℕ) × (rounds count later (lengths_of openings) ≡ rounds m later (rounds n later (lengths_of openings)))
        counted = rounds_after later (lengths_of openings) m n

        imaged : AreBeside rules.names histories later (lengths_of openings) (lengths_of image) (rounds n histories (lengths_of openings)) (rounds n later (lengths_of openings))
        imaged = rounds_beside rules.names histories later (lengths_of openings) (lengths_of image) carries_image (lengths_of openings) (lengths_of openings) (λ app declared. (omega arith, omega arith)) n

        begun : AreBeside rules.names later later (lengths_of image) (lengths_of later) (lengths_of image) (rounds n later (lengths_of openings))
        begun app declared = (omega arith, omega (arith, (imaged app declared).1, first.grounded.all app declared, ap length (between app declared).1.1, length-append (image app) (between app declared).1.0))

        whole : AreBeside rules.names later later (lengths_of image) (lengths_of later) (rounds m later (lengths_of image)) (rounds m later (rounds n later (lengths_of openings)))
        whole = rounds_beside rules.names later later (lengths_of image) (lengths_of later) carries_later (lengths_of image) (rounds n later (lengths_of openings)) begun m

    pub IsConsistent-over : IsConsistent rules openings later
    IsConsistent-over = record { follow = follows_later; grounded = grounded_later }

pub law_joins : JoinLaw
law_joins rules lawful openings image histories later first fair between second =
    IsConsistent-over rules lawful openings image histories later first between second
    (λ app leader id declared leads there tracked. omega (arith, tracked, none_ahead rules.pairs image fair (leader, app) leads))

-- consistent histories over consistent ones are consistent over the openings of these
pub IsConsistent-join : (rules : Rules) → IsLawful rules → (openings histories later : Histories) → IsConsistent rules openings histories → IsConsistent rules histories later → IsConsistent rules openings later
IsConsistent-join rules lawful openings histories later first second =
    IsConsistent-over rules lawful openings histories histories later first between second (λ app leader id declared leads there tracked. there)
  where
    between : AreBetween rules.names openings histories histories
    between app declared = (((first.follow app declared).added, (first.follow app declared).parts), ([], sym (append-nil (histories app))))
