use Rattle.std.proofs.Common.{length, string_bytes}
use Rattle.std.proofs.lemmas.Iterator.{YieldsList-from_chars}
use Rattle.std.proofs.lemmas.List.{length_push}
use Rattle.std.proofs.lemmas.Iterator.Consumers.{YieldsList-turn, YieldsList-end}
use Rattle.std.specs.Str.{chars}
use Rattle.es_expr.proofs.EscapedLemmas.{pushed, ended}
use Rattle.es_expr.proofs.walk.paths.push_name.Goals as goal

pub loop-c-preserved : goal.loop-c-preserved
loop-c-preserved c =
    let t = YieldsList-turn (YieldsList-from_chars c.args.name.now c.utf8.name cc) c.loop-c.yielded _ c.loop-c.yielded_by _ _ c.in-Some.c c.in-Some.is c.next.ensures.steps in
    pushed (string_bytes c.push_escaped.new.text) (string_bytes c.loop-c.text) (string_bytes c.args.text.now) (chars c.args.name.now)
    (length c.loop-c.yielded) _ c.in-Some.c t.0 t.1 (length_push c.loop-c.yielded c.in-Some.c) c.in_ok-push_escaped.ensures c.loop-c.invariant

pub returns : goal.returns
returns c =
    let t = YieldsList-end (YieldsList-from_chars c.args.name.now c.utf8.name cc) c.loop-c.yielded _ c.loop-c.yielded_by _ _ c.in-None.is c.next.ensures.steps in
    ended (string_bytes c.loop-c.text) (string_bytes c.args.text.now) (chars c.args.name.now) (length c.loop-c.yielded) t.1 c.loop-c.invariant
