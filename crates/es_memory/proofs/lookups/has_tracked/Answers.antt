use Rattle.std.proofs.Common.{◌≡◌, ◌∙◌, sym, subst}
use Rattle.std.specs.Prelude.{IfSome}
use Rattle.es_memory.specs.inner.Index.{ids_in, Rises, Stands}
use Rattle.es_memory.proofs.LookupLemmas.{ids-rise, is-tracked}
use Rattle.es_memory.proofs.lookups.has_tracked.Goals as goal
use Rattle.es_memory.proofs.lookups.has_tracked.Goals.{After-ids_of}

ids : (c : After-ids_of) → c.ids_of.result.now ≡ ids_in c.args.history.now c.args.leader.now
ids c =
    let stands = subst (λ o. IfSome o (Stands c.args.history.now)) c.in-Some.is c.requires.stands in
    c.ids_of.ensures ∙ stands.1 c.args.leader.now

pub is_among-requires : goal.is_among-requires
is_among-requires c = subst (Rises 0) (sym (ids c)) (ids-rise c.args.history.now c.args.leader.now c.requires.follow)

pub returns-in-Some : goal.returns-in-Some
returns-in-Some c =
    let stands = subst (λ o. IfSome o (Stands c.args.history.now)) c.in-Some.is c.requires.stands in
    is-tracked c.args.history.now c.args.leader.now c.args.id c.ids_of.result.now c.is_among.result (c.ids_of.ensures ∙ stands.1 c.args.leader.now) c.is_among.ensures
