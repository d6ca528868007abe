use Rattle.std.proofs.Common.{subst}
use Rattle.es_ties.specs.Seen.{Witness, IsWithin}
use Rattle.es_ties.proofs.reader.Reader.learn.Goals as goal

pub returns-clause-kept : goal.returns-clause-kept
returns-clause-kept g c = subst (λ (r : Witness _). IsWithin r.seen c.take_in.new.self.seen) c.self.view_is c.take_in.ensures.kept
