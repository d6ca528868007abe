use Rattle.std.proofs.Common.{◌-◌, ◌≡◌, ◌∙◌, length, slice_get, subst, unwrap_or}
use Rattle.std.specs.Prelude.{IfSome}
use Rattle.es_memory.specs.inner.Index.{ids_in, Stands}
use Rattle.es_memory.proofs.LookupLemmas.{last-tracked}
use Rattle.es_memory.proofs.lookups.find_tracked.Goals as goal

pub returns-in-Some : goal.returns-in-Some
returns-in-Some c =
    let stands = subst (λ o. IfSome o (Stands c.args.history.now)) c.in-Some.is c.requires.stands in
    let ids : c.ids_of.result.now ≡ ids_in c.args.history.now c.args.leader.now = c.ids_of.ensures ∙ stands.1 c.args.leader.now in
    c.last_of.ensures ∙ (λ i. unwrap_or (slice_get (ids i) (length (ids i) - 1)) 0) ∙ last-tracked c.args.history.now c.args.leader.now c.requires.follow
