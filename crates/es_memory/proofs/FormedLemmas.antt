-- Whether a history is formed, recording by recording.
use Rattle.std.proofs.Common.{◌≡◌, ◌<◌, ◌+◌, ◌&&◌, ℕ, Bool, true, false, not, List, [], ◌∷◌, length, take, drop, get_or, Option, refl, sym, ap, ◌∙◌}
use Rattle.std.specs.Option.{is_some}
use Rattle.es_model.specs.declared.event.Recording.{Recording}
use Rattle.es_model.specs.declared.event.StoredEvent.{StoredEvent}
use Rattle.es_model.specs.History.{log, versions_follow, causes_follow, cause_follows}
use Rattle.es_model.proofs.HistoryLemmas.{both_true, take-place, causes_follow-append, versions_follow-place, causes_follow-place}
use Rattle.es_recorder.specs.declared.recorder.InsertFault.{InsertFault}
use Rattle.es_recorder.specs.Insert.{first_conflict}
use Rattle.es_recorder.proofs.InsertLemmas.{conflict-is}

not_same : (a b : Bool) → not a ≡ not b → a ≡ b
not_same true true is = refl
not_same true false is = absurd (cc is)
not_same false true is = absurd (cc is)
not_same false false is = refl

-- versions follow where there is no conflict
pub follow-none : (before es : List StoredEvent) (found : Option InsertFault) (none : Bool) → is_some found ≡ not none → found ≡ first_conflict before es → none ≡ versions_follow before es
follow-none before es found none is same = not_same none (versions_follow before es) (sym is ∙ ap is_some same ∙ conflict-is before es)

-- what may come after the recordings before
abbrev comes : List Recording → Recording → Bool
comes before r = versions_follow (log before) r.events && cause_follows before r.cause

abbrev come : List Recording → List Recording → Bool
come before rest = versions_follow (log before) (log rest) && causes_follow before rest

both_first : (v c w d : Bool) → (v && c) ≡ true → (w && d) ≡ ((v && w) && (c && d))
both_first true true w d is = refl
both_first true false w d is = absurd (cc is)
both_first false c w d is = absurd (cc is)

not_first : (v c w d : Bool) → (v && c) ≡ false → ((v && w) && (c && d)) ≡ false
not_first true true w d is = absurd (cc is)
not_first true false true d is = refl
not_first true false false d is = refl
not_first false c w d is = refl

module _ (h : List Recording) (i : ℕ) (r : Recording) (within : i < length h) (is : r ≡ get_or h i r) where
  split : come (take i h) (drop i h) ≡ ((versions_follow (log (take i h)) r.events && versions_follow (log (take (i + 1) h)) (log (drop (i + 1) h))) && (cause_follows (take i h) r.cause && causes_follow (take (i + 1) h) (drop (i + 1) h)))
  split = λ k. versions_follow-place h i r within is k && causes_follow-place h i r within is k

  pub comes-next : comes (take i h) r ≡ true → come (take (i + 1) h) (drop (i + 1) h) ≡ come (take i h) (drop i h)
  comes-next holds = both_first (versions_follow (log (take i h)) r.events) (cause_follows (take i h) r.cause) (versions_follow (log (take (i + 1) h)) (log (drop (i + 1) h))) (causes_follow (take (i + 1) h) (drop (i + 1) h)) holds ∙ sym split

  pub comes-not : comes (take i h) r ≡ false → come (take i h) (drop i h) ≡ false
  comes-not broken = split ∙ not_first (versions_follow (log (take i h)) r.events) (cause_follows (take i h) r.cause) (versions_follow (log (take (i + 1) h)) (log (drop (i + 1) h))) (causes_follow (take (i + 1) h) (drop (i + 1) h)) broken

  pub causes-next : comes (take i h) r ≡ true → causes_follow [] (take i h) ≡ true → causes_follow [] (take (i + 1) h) ≡ true
  causes-next holds before =
      let parts = both_true (versions_follow (log (take i h)) r.events) (cause_follows (take i h) r.cause) holds in
      ap (causes_follow []) (take-place h i r within is) ∙ causes_follow-append [] (take i h) (r ∷ []) ∙ (λ k. before k && (parts.1 k && true))
