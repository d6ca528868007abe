use Rattle.std.proofs.Common.{◌≡◌, ◌∙◌, ◌++◌, [], sym, subst}
use Rattle.json.specs.Print.{print}
use Rattle.es_transcode.specs.RecordText.{IsTreeOf}
use Rattle.es_transcode.proofs.WritingLemmas.{text-of, tree-of}
use Rattle.es_lines.specs.CommandText.{command_tree, command_text}
use Rattle.es_lines.proofs.PointLemmas.{halves-of, name-without}
use Rattle.es_lines.proofs.RequestLemmas.{upper-names}
use Rattle.es_lines.proofs.TreeLemmas.{IsWritable, asked-by, flat-tree, outline-tree, record-again}
use Rattle.es_lines.proofs.writing.command_text.Goals as goal

empty : (c : goal.After-from_vec) → c.new-out.result.before ≡ []
empty c = c.new-out.ensures.before ∙ c.in_ok-with_capacity.ensures.items

bytes : (c : goal.After-from_vec) → c.from_vec.result ≡ c.write_command.new.out.before ++ print c.write_command.new.out.tokens
bytes c = c.from_vec.ensures ∙ c.into_inner.ensures.items

pub returns-clause-text : goal.returns-clause-text
unfolding command_text
returns-clause-text c =
    bytes c ∙ text-of c.write_command.new.out (command_tree c.args.app.now c.args.command.now) c.new-out.result (empty c) c.new-out.ensures.tokens c.in_ok-write_command.ensures.tokens

pub returns-clause-reads_back : goal.returns-clause-reads_back
returns-clause-reads_back c = λ sys can.
    let app = c.args.app.now in
    let command = c.args.command.now in
    let names = upper-names sys app command can.checked can.declared in
    let tree : IsTreeOf c.from_vec.result (command_tree app command) =
    subst (λ t. IsTreeOf t (command_tree app command)) (sym (bytes c))
    (tree-of c.write_command.new.out (command_tree app command) c.new-out.result (empty c) c.new-out.ensures.tokens c.in_ok-write_command.ensures.tokens c.into_inner.ensures.reads_back c.into_inner.ensures.utf8
    (flat-tree app command) (outline-tree app command c.in_ok-write_command.ensures.args_read can.expect)) in
    let writable : IsWritable command = record {
      names = halves-of command.class command.name (name-without command.class names.0) (name-without command.name names.1);
      id = c.in_ok-write_command.ensures.id;
      args = record-again command.args c.in_ok-write_command.ensures.args;
      expect = can.expect;
    } in
    asked-by sys app command c.from_vec.result tree.0 tree.1 writable can.declared
