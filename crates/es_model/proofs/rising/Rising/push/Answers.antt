use Rattle.std.proofs.Common.{IsTrue, subst, sym}
use Rattle.es_model.specs.Rising.{IsRising, comes_last}
use Rattle.es_model.proofs.RisingLemmas.{IsRising-push}
use Rattle.es_model.proofs.rising.Rising.push.Goals as goal

pub invariant_of-self-2 : goal.invariant_of-self-2
invariant_of-self-2 g c =
    subst IsRising (sym c.in_ok-push.ensures.items)
    (IsRising-push c.self.inside.entries.items c.args.entry c.self.invariant (subst (λ xs. IsTrue (comes_last xs c.args.entry.0)) (sym c.self.view_is) c.requires))
