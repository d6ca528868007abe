use Rattle.std.proofs.Common.{subst}
use Rattle.json.specs.Tree.{members_tokens}
use Rattle.serde_json.specs.Written.{members_outline}
use Rattle.es_transcode.specs.Written.{Adds}
use Rattle.es_transcode.proofs.WritingLemmas.{one, both, last}
use Rattle.es_lines.specs.Texts.{counts as count_members}
use Rattle.es_lines.proofs.ObjectLemmas.{ending}
use Rattle.es_lines.proofs.ends.write_ok.Goals as goal

pub returns : goal.returns
returns c =
    let counts : Adds c.begin_object-2.new.self c.write_counts.new.out (members_tokens (members_outline (count_members c.args.added.now))) =
    subst (λ xs. Adds c.begin_object-2.new.self c.write_counts.new.out (members_tokens (members_outline (count_members xs)))) c.as_slice.ensures.value c.in_ok-write_counts.ensures in
    ending c.end_object.result _ _ (both (both (both (one c.in_ok-begin_object.ensures) (one c.in_ok-key.ensures)) (one c.in_ok-begin_object-2.ensures)) counts)
    (last c.end_object.result (both c.in_ok-put_text.ensures c.in_ok-put_number.ensures) c.end_object.ensures)
