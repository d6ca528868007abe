use Rattle.std.proofs.Common.{IsTrue, false, ◌≡◌, ◌∙◌, Some, sym, ap}
use Rattle.uuid.specs.Text.{simple_text, lower}
use Rattle.es_transcode.proofs.hex.id_in.Goals as goal

pub returns-then-is_text_of-clause-found : goal.returns-then-is_text_of-clause-found
returns-then-is_text_of-clause-found c = λ u has.
    let p : c.id_of.result ≡ Some u = c.id_of.ensures ∙ has.1 in
    cc

pub returns-else-is_text_of-clause-found : goal.returns-else-is_text_of-clause-found
returns-else-is_text_of-clause-found c = λ u has.
    let p : c.id_of.result ≡ Some u = c.id_of.ensures ∙ has.1 in
    let same : c.in-Some.id ≡ u = cc in
    let wrong : IsTrue false = c.if-is_text_of.ensures.1 (has.0 ∙ ap (simple_text lower) (sym same)) in
    cc

pub returns-in-None-clause-found : goal.returns-in-None-clause-found
returns-in-None-clause-found c = λ u has.
    let p : c.id_of.result ≡ Some u = c.id_of.ensures ∙ has.1 in
    cc
