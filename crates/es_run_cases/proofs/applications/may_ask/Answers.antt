use Rattle.std.proofs.Common.{rules, ◌≡◌, true, sym, ap, ◌∙◌, subst}
use Rattle.std.specs.Str.{bytes_eq}
use Rattle.es_lines.specs.CommandText.{command_text}
use Rattle.es_lines.specs.Requests.{asks, request_in}
use Rattle.es_lines.specs.declared.request.Request.TheVariants.{Do}
use Rattle.es_lines.proofs.CanonicalLemmas.{canonical}
use Rattle.es_process.specs.Leaves.{MayAsk}
use Rattle.es_process.proofs.AmongLemmas.{same-name}
use Rattle.es_run_cases.proofs.applications.may_ask.Goals as goal

pub returns-in-Do : goal.returns-in-Do
returns-in-Do c = λ sys line is so.
    let request : c.args.request.now ≡ Do c.in-Do.app c.in-Do.command = search rules in
    let named : bytes_eq c.in-Do.app c.args.name.now ≡ true = search rules in
    let asked : request_in sys (command_text c.in-Do.app c.in-Do.command) ≡ asks (Do c.in-Do.app c.in-Do.command) = canonical sys line _ _ (is ∙ ap asks request) in
    subst (MayAsk sys c.args.name.now) (sym request)
    (subst (λ n. request_in sys (command_text n c.in-Do.command) ≡ asks (Do n c.in-Do.command)) (same-name _ _ named) asked)
