use Rattle.std.proofs.Common.{inl, sym, subst}
use Rattle.es_mapper.specs.Mapping.{HasHead}
use Rattle.es_mapper.proofs.domain.with_state.Goals as goal

pub returns-in_default : goal.returns-in_default
returns-in_default c = λ sys read.
    inl (c.args.class.now, c.args.event.now, c.args.state, read, λ n m h. c.in_default.ensures.none n m (subst (λ t. HasHead c.args.class.now t c.args.state n m) (sym c.as_str.ensures) h))
