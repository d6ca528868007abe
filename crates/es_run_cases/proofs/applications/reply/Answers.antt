use Rattle.std.proofs.Common.{rules, ◌≡◌, subst}
use Rattle.es_lines.specs.Requests.{asks, request_in}
use Rattle.es_process.specs.Leaves.{MayAsk}
use Rattle.es_run_cases.proofs.applications.reply.Goals as goal

pub answer-requires-clause-asked : goal.answer-requires-clause-asked
answer-requires-clause-asked c =
    let is : request_in c.args.sys.now c.as_str.result.now ≡ asks c.in_ok-request.request = search rules in
    subst (λ n. MayAsk c.args.sys.now n c.in_ok-request.request) c.name.ensures (c.may_ask.ensures c.args.sys.now _ is (search rules))
