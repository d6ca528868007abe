use Rattle.std.proofs.Common.{◌≡◌, ◌≤◌, ◌-◌, arith, length, max}
use Rattle.std.proofs.lemmas.Bool.Decides.{nat_tests}
use Rattle.es_model.specs.History.{log}
use Rattle.es_memory.proofs.PlaceLemmas.{selected, select-nothing}
use Rattle.es_memory.proofs.lookups.notifications_by.Goals as goal

pub returns-then-from-len : goal.returns-then-from-len
returns-then-from-len c =
    let from = c.max-from.result - 1 in
    let at : from ≡ max c.args.start 1 - 1 = omega (arith, c.max-from.ensures) in
    let past : length (log c.args.history.now) ≤ from = grind (arith, nat_tests, c.if-from-len.true, c.len.ensures, c.requires.stands.2.0) in
    select-nothing (log c.args.history.now) c.args.start c.args.limit from c.new.result at past c.new.ensures

pub returns : goal.returns
returns c =
    let from = c.max-from.result - 1 in
    let at : from ≡ max c.args.start 1 - 1 = omega (arith, c.max-from.ensures) in
    selected (log c.args.history.now) c.args.start c.args.limit from c.min-count.result c.notifications_at.result at (omega (arith, c.min-count.ensures, c.len-2.ensures, c.requires.stands.2.0)) c.notifications_at.ensures
