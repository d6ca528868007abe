use Rattle.std.proofs.Common.{◌∙◌, ap, subst}
use mathlib.Core.List.{IsPrefix}
use Rattle.es_ties.specs.Seen.{of_log, IsWithin}
use Rattle.es_ties.proofs.Gathering.{within_trans}
use Rattle.es_ties.proofs.examples.cross.Goals as goal

pub returns-clause-told : goal.returns-clause-told
returns-clause-told c =
    let log = c.args.one.now.log in
    subst (λ l. IsPrefix l (of_log c.learn-2.new.self.seen log)) (ap (λ s. of_log s log) c.note-from_one.ensures.note.1 ∙ c.append.ensures.own) (c.learn-2.ensures.told log)

pub returns-clause-told_back : goal.returns-clause-told_back
returns-clause-told_back c =
    let log = c.args.other.now.log in
    subst (λ l. IsPrefix l (of_log c.learn.new.self.seen log)) (ap (λ s. of_log s log) c.note-from_other.ensures.note.1 ∙ c.append-2.ensures.own) (c.learn.ensures.told log)

pub returns-clause-all : goal.returns-clause-all
returns-clause-all c =
    within_trans c.args.one.now.seen c.append.new.self.seen c.learn-2.new.self.seen c.append.ensures.kept (subst (λ s. IsWithin s c.learn-2.new.self.seen) c.note-from_one.ensures.note.1 c.learn-2.ensures.told)
