use Rattle.std.proofs.Common.{arith, ◌≡◌, ◌∙◌, ap, length, subst}
use Rattle.std.specs.Prelude.{IfSome}
use Rattle.es_model.specs.History.{log, latest}
use Rattle.es_model.proofs.HistoryLemmas.{latest-length}
use Rattle.es_memory.specs.inner.Index.{Stands}
use Rattle.es_memory.proofs.LookupLemmas.{places-count}
use Rattle.es_memory.proofs.lookups.find_latest.Goals as goal
use Rattle.es_memory.proofs.lookups.find_latest.Goals.{After-places_of}

count : (c : After-places_of) → length c.places_of.result.now ≡ latest (log c.args.history.now) c.args.id
count c =
    let stands = subst (λ o. IfSome o (Stands c.args.history.now)) c.in-Some.is c.requires.stands in
    ap length (c.places_of.ensures ∙ stands.0 c.args.id) ∙ places-count 0 (log c.args.history.now) c.args.id

pub returns-in-Some-clause-count : goal.returns-in-Some-clause-count
returns-in-Some-clause-count c = count c

pub returns-in-Some-clause-few : goal.returns-in-Some-clause-few
returns-in-Some-clause-few c = omega (arith, count c, latest-length (log c.args.history.now) c.args.id)
