use Rattle.std.proofs.Common.{◌≡◌, ◌∙◌, IsTrue, Some, sym, subst, rules}
use Rattle.std.specs.List.{before_first}
use Rattle.es_model.specs.Declaration.{class_named}
use Rattle.es_model.specs.Rising.{IsRising}
use Rattle.es_model.specs.Values.{are_of_kinds}
use Rattle.es_model.specs.declared.declaration.CommandDef.{CommandDef}
use Rattle.es_model.specs.Names.{is_dot}
use Rattle.es_domain.specs.inner.Asking.{definition_in}
use Rattle.es_domain.specs.Decision.{IsOfCommand}
use Rattle.es_domain.specs.Effect.{command_named}
use Rattle.es_domain.proofs.AskingLemmas.{of_command, same_definition}
use Rattle.es_domain.proofs.policy.command_asked.Goals as goal

pub values_of-requires : goal.values_of-requires
values_of-requires c =
    let found : definition_in (class_named c.args.sys.now.classes c.class_and_name.result.0.now) c.class_and_name.result.1.now ≡ Some c.in-Some.definition.now = search rules in
    let same = same_definition c.args.sys.now _ _ _ _ c.requires.class c.requires.definition c.in-Some.definition.now
    c.class_and_name.ensures.class c.class_and_name.ensures.name found c.requires.class_declared c.requires.command_declared in
    let rising : IsRising c.requires.definition.params = subst (λ (d : CommandDef). IsRising d.params) same c.rises.ensures in
    (c.requires.definition.params, c.requires.args rising c.rises-2.ensures)

pub returns-clause-declared : goal.returns-clause-declared
returns-clause-declared c =
    let found : definition_in (class_named c.args.sys.now.classes c.class_and_name.result.0.now) c.class_and_name.result.1.now ≡ Some c.in-Some.definition.now = search rules in
    let same = same_definition c.args.sys.now _ _ _ _ c.requires.class c.requires.definition c.in-Some.definition.now
    c.class_and_name.ensures.class c.class_and_name.ensures.name found c.requires.class_declared c.requires.command_declared in
    let rising : IsRising c.requires.definition.params = subst (λ (d : CommandDef). IsRising d.params) same c.rises.ensures in
    let are : IsTrue (are_of_kinds c.in_ok-args.args c.requires.definition.params) = c.in_ok-args.ensures.kinds c.requires.definition.params (c.requires.args rising c.rises-2.ensures) in
    let class = c.in_ok-from_str.ensures ∙ c.class_and_name.ensures.class in
    let name = c.in_ok-from_str-2.ensures ∙ c.class_and_name.ensures.name in
    subst (λ n. IsOfCommand (command_named c.args.sys.now n c.in_ok-from_str-2.field-0) c.in_ok-args.args) (sym class)
    (subst (λ n. IsOfCommand (command_named c.args.sys.now (before_first is_dot c.args.rule.now.command) n) c.in_ok-args.args) (sym name)
    (of_command c.args.sys.now _ _ c.requires.class c.requires.definition c.in_ok-args.args c.requires.class_declared c.requires.command_declared are))
