use Rattle.std.proofs.Common.{◌≡◌, ◌∙◌, None, sym, ap}
use Rattle.es_model.specs.Rising.{item_of, without}
use Rattle.es_mapper.specs.Upcasts.{edited, moved}
use Rattle.es_mapper.proofs.UpcastsLemmas.{alone}
use Rattle.es_mapper.proofs.edits.apply.Goals as goal

pub returns-in-None : goal.returns-in-None
returns-in-None c =
    let none : item_of c.args.fields.now c.in-Rename.from ≡ None =
    ap (item_of c.args.fields.now) (sym c.as_str.ensures) ∙ sym c.remove.ensures.item ∙ c.in-None.is in
    c.remove.ensures.rest ∙ ap (without c.args.fields.now) c.as_str.ensures ∙ alone c.args.fields.now c.in-Rename.from none
    ∙ sym (ap (λ e. edited e c.args.fields.now) c.in-Rename.is ∙ ap (λ o. moved o c.in-Rename.from c.in-Rename.to c.args.fields.now) none)
