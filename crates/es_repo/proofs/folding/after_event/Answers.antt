use Rattle.std.proofs.Common.{◌≡◌, ◌^◌, IfSome, Some, rules}
use Rattle.es_domain.specs.Effect.{made}
use Rattle.es_domain.specs.Fold.{advanced}
use Rattle.es_domain.specs.inner.Overlay.{IsBelow}
use Rattle.es_domain.specs.Steps.{HasItsFields}
use Rattle.es_repo.proofs.FoldingLemmas.{after-below}
use Rattle.es_repo.proofs.JudgeLemmas.{if-ok, both-ok}
use Rattle.es_repo.proofs.folding.after_event.Goals as goal

pub returns-in-Some-clause-found : goal.returns-in-Some-clause-found
returns-in-Some-clause-found c =
    if-ok (λ a. (a ≡ made (advanced c.args.sys.now c.args.found c.in-Some.event)) × IfSome a (HasItsFields c.args.sys.now)) (λ a. IfSome a (IsBelow c.args.sys.now (2 ^ 62))) c.advanced.result
    (λ a is. after-below c.args.sys.now c.args.found a (Some c.in-Some.event) c.args.stored.now c.requires.version c.requires.found is.1 (search rules) is.0)
    (both-ok (λ a. a ≡ made (advanced c.args.sys.now c.args.found c.in-Some.event)) (λ a. IfSome a (HasItsFields c.args.sys.now)) c.advanced.result c.advanced.ensures.made c.advanced.ensures.fields)
