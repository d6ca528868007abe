use Rattle.std.proofs.Common.{◌∙◌, ◌++◌}
use Rattle.json.specs.Print.{print}
use Rattle.es_lines.proofs.objects.ended.Goals as goal

pub returns : goal.returns
returns c = c.from_vec.ensures ∙ c.into_inner.ensures.items ∙ (λ i. c.in_ok-end_object.ensures.room.0 i ++ print (c.in_ok-end_object.ensures.ok i))
