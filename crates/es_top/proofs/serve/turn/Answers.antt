use Rattle.std.proofs.Common.{refl, IfErr, subst, inl, inr}
use Rattle.es_top.specs.declared.serve.Stop.TheVariants as stop
use Rattle.es_top.specs.inner.Serves.{MayStop, IsSaying}
use Rattle.es_model.specs.Lines.{text, long, lines_of}
use Rattle.es_lines.specs.declared.replies.Reply.TheVariants.{Long}
use Rattle.es_io.specs.LinesLeft.{has_ended}
use Rattle.es_io.specs.Remains.{lines_from}
use Rattle.es_process.specs.SystemRules.{rules_of}
use Rattle.es_process.specs.Terms.{terms}
use Rattle.es_process.specs.Standing.{HoldContents}
use Rattle.es_process.proofs.HoldsLemmas.{held-contents}
use Rattle.es_single.specs.Runner.{apps_of, system_of}
use Rattle.es_top.specs.inner.Taken.{UsesSome}
use Rattle.es_top.proofs.ServesLemmas.{said_only, too_long, saying_tells}
use Rattle.es_top.proofs.LoopLemmas.{turned}
use Rattle.es_top.proofs.TakenLemmas.{on_ok, some_bytes}
use Rattle.es_top.proofs.StaysLemmas.{runner-none}
use Rattle.es_top.proofs.serve.turn.Goals as goal

not_said : {P : Type 0} → IsSaying stop.Read → P
not_said (inl is) = absurd (cc is)
not_said (inr is) = absurd (cc is)

pub returns-in-Ok-Line-clause-turned : goal.returns-in-Ok-Line-clause-turned
returns-in-Ok-Line-clause-turned g c = λ b after left may.
    let x = c.answer_line.ensures.answered after may in
    let y = rw c.in-Ok-Line.field-0-is at ((c.in-Ok-Line.ensures {u = tt}).step) in
    let z = y b left in
    let used : UsesSome z.before b (has_ended c.next.new.self) = (some_bytes (lines_of c.args.lines.now.line_limit c.args.lines.now.room) refl z.before (text c.in-Ok-Line.line) (lines_from c.next.new.self b) z.first, z.uses) in (
      z.before,
      x.0,
      z.may,
      x.1,
      (
        λ base options s held. turned (terms (rules_of (system_of c.args.runner.now)) options) s _ (lines_from c.args.lines.now z.before) (lines_from c.next.new.self b) (text c.in-Ok-Line.line) _ _ _ c.answer_line.result (λ is. absurd (cc is)) z.first (rw c.as_slice.ensures at c.answer_line.ensures.tells) (rw c.as_slice.ensures at (x.2 base options s held)),
        on_ok c.answer_line.result used,
        λ is. absurd (subst (λ r. IfErr r MayStop) is c.answer_line.ensures.stops),
      ),
    )

pub returns-in-Ok-Long-clause-turned : goal.returns-in-Ok-Long-clause-turned
returns-in-Ok-Long-clause-turned g c = λ b after left may.
    let y = rw c.in-Ok-Long.field-0-is at ((c.in-Ok-Long.ensures {u = tt}).step) in
    let z = y b left in
    let used : UsesSome z.before b (has_ended c.next.new.self) = (some_bytes (lines_of c.args.lines.now.line_limit c.args.lines.now.room) refl z.before long (lines_from c.next.new.self b) z.first, z.uses) in (
      z.before,
      after,
      z.may,
      may,
      (
        λ base options s held.
            turned (terms (rules_of (system_of c.args.runner.now)) options) s _ (lines_from c.args.lines.now z.before) (lines_from c.next.new.self b) long _ _ _ c.say.result (λ is. absurd (cc is)) z.first (saying_tells c.say.result c.say.ensures.stops)
            (said_only (terms (rules_of (system_of c.args.runner.now)) options) s _ (HoldContents g.R.AggregateRecorder.history g.R.AggregateRecorder.stable g.R.AggregateRecorder.snapshots base (apps_of c.args.runner.now)) long Long _ _ c.say.result (too_long (terms (rules_of (system_of c.args.runner.now)) options) s) c.say.ensures.said held (held-contents _ _ _ g.met.R.AggregateRecorder.settled_is_whole _ _ base options _ _ s held.holds)),
        on_ok c.say.result used,
        λ is. not_said (subst (λ r. IfErr r IsSaying) is c.say.ensures.stops),
      ),
    )

pub returns-in-Ok-End-clause-turned : goal.returns-in-Ok-End-clause-turned
returns-in-Ok-End-clause-turned g c = λ b after left may.
    let y = rw c.in-Ok-End.field-0-is at ((c.in-Ok-End.ensures {u = tt}).step) in
    let z = y b left in (z.before, after, z.may, may, (λ base options s held. (z.first.0, record { held = held; unwritten = refl }), tt, λ is. absurd (cc is)))

pub returns-in-Ok-Over-clause-turned : goal.returns-in-Ok-Over-clause-turned
returns-in-Ok-Over-clause-turned g c = λ b after left may.
    let y = rw c.in-Ok-Over.field-0-is at ((c.in-Ok-Over.ensures {u = tt}).step) in
    let z = y b left in (z.before, after, z.may, may, (λ base options s held. (z.first.0, record { held = held; unwritten = refl }), tt, λ is. absurd (cc is)))

pub returns-in-Err-Read-clause-turned : goal.returns-in-Err-Read-clause-turned
returns-in-Err-Read-clause-turned g c = λ b after left may.
    let z = (c.in-Err-Read.ensures {u = tt}).cut b left in (z.before, after, z.may, may, (λ base options s held. record { held = held; unwritten = refl }, tt, λ is. (z.front, z.parts, z.unended)))

pub returns-in-Err-NoMemory-clause-turned : goal.returns-in-Err-NoMemory-clause-turned
returns-in-Err-NoMemory-clause-turned g c = λ b after left may.
    let z = (c.in-Err-NoMemory.ensures {u = tt}).cut b left in (z.before, after, z.may, may, (λ base options s held. inl (refl, record { held = held; unwritten = refl }), tt, λ is. absurd (cc is)))

pub returns-in-Ok-Line-clause-lines : goal.returns-in-Ok-Line-clause-lines
returns-in-Ok-Line-clause-lines g c = record { source = c.next.ensures.same_reference; bound = c.next.ensures.bound; later = c.next.ensures.later; ends = c.next.ensures.ends c.requires.ends }

pub returns-in-Ok-Long-clause-lines : goal.returns-in-Ok-Long-clause-lines
returns-in-Ok-Long-clause-lines g c = record { source = c.next.ensures.same_reference; bound = c.next.ensures.bound; later = c.next.ensures.later; ends = c.next.ensures.ends c.requires.ends }

pub returns-in-Ok-End-clause-lines : goal.returns-in-Ok-End-clause-lines
returns-in-Ok-End-clause-lines g c = record { source = c.next.ensures.same_reference; bound = c.next.ensures.bound; later = c.next.ensures.later; ends = c.next.ensures.ends c.requires.ends }

pub returns-in-Ok-Over-clause-lines : goal.returns-in-Ok-Over-clause-lines
returns-in-Ok-Over-clause-lines g c = record { source = c.next.ensures.same_reference; bound = c.next.ensures.bound; later = c.next.ensures.later; ends = c.next.ensures.ends c.requires.ends }

pub returns-in-Err-Read-clause-lines : goal.returns-in-Err-Read-clause-lines
returns-in-Err-Read-clause-lines g c = record { source = c.next.ensures.same_reference; bound = c.next.ensures.bound; later = c.next.ensures.later; ends = c.next.ensures.ends c.requires.ends }

pub returns-in-Err-NoMemory-clause-lines : goal.returns-in-Err-NoMemory-clause-lines
returns-in-Err-NoMemory-clause-lines g c = record { source = c.next.ensures.same_reference; bound = c.next.ensures.bound; later = c.next.ensures.later; ends = c.next.ensures.ends c.requires.ends }

pub returns-in-Ok-Long-clause-same : goal.returns-in-Ok-Long-clause-same
returns-in-Ok-Long-clause-same g c = runner-none g.R.AggregateRecorder.faults c.args.runner.now

pub returns-in-Ok-End-clause-same : goal.returns-in-Ok-End-clause-same
returns-in-Ok-End-clause-same g c = runner-none g.R.AggregateRecorder.faults c.args.runner.now

pub returns-in-Ok-Over-clause-same : goal.returns-in-Ok-Over-clause-same
returns-in-Ok-Over-clause-same g c = runner-none g.R.AggregateRecorder.faults c.args.runner.now

pub returns-in-Err-Read-clause-same : goal.returns-in-Err-Read-clause-same
returns-in-Err-Read-clause-same g c = runner-none g.R.AggregateRecorder.faults c.args.runner.now

pub returns-in-Err-NoMemory-clause-same : goal.returns-in-Err-NoMemory-clause-same
returns-in-Err-NoMemory-clause-same g c = runner-none g.R.AggregateRecorder.faults c.args.runner.now
