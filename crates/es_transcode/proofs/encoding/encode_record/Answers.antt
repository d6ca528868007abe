use Rattle.std.proofs.Common.{◌≡◌, ◌∙◌, [], sym, subst}
use Rattle.es_transcode.specs.CanonicalText.{record_tree, record_text}
use Rattle.es_transcode.specs.RecordText.{IsTreeOf}
use Rattle.es_transcode.proofs.RecordLemmas.{flat-record}
use Rattle.es_transcode.proofs.WritingLemmas.{text-of, tree-of}
use Rattle.es_transcode.proofs.encoding.encode_record.Goals as goal

empty : (c : goal.After-from_vec) → c.new-out.result.before ≡ []
empty c = c.new-out.ensures.before ∙ c.in_ok-with_capacity.ensures.items

text : (c : goal.After-from_vec) → c.from_vec.result ≡ record_text c.args.fields.now
unfolding record_text
text c =
    c.from_vec.ensures ∙ c.into_inner.ensures.items
    ∙ text-of c.write_record.new.out (record_tree c.args.fields.now) c.new-out.result (empty c) c.new-out.ensures.tokens c.in_ok-write_record.ensures.tokens

tree : (c : goal.After-from_vec) → IsTreeOf c.from_vec.result (record_tree c.args.fields.now)
tree c =
    let r = c.args.fields.now in
    subst (λ t. IsTreeOf t (record_tree r)) (sym (c.from_vec.ensures ∙ c.into_inner.ensures.items))
    (tree-of c.write_record.new.out (record_tree r) c.new-out.result (empty c) c.new-out.ensures.tokens c.in_ok-write_record.ensures.tokens c.into_inner.ensures.reads_back c.into_inner.ensures.utf8 (flat-record r) c.in_ok-write_record.ensures.reads_back)

pub returns-clause-record : goal.returns-clause-record
unfolding record_text
returns-clause-record c = (record_tree c.args.fields.now, tree c, c.in_ok-write_record.ensures.tree, text c)

pub returns-clause-text : goal.returns-clause-text
returns-clause-text c = text c
