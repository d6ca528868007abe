use Rattle.std.proofs.Common.{◌∙◌, ◌∷◌, ◌++◌, [], ap}
use Rattle.json.specs.Token.{begin_object}
use Rattle.es_lines.proofs.objects.begun.Goals as goal

pub returns : goal.returns
returns c = record {
  before = c.in_ok-begin_object.ensures.room.0 ∙ c.new-out.ensures.before ∙ c.in_ok-with_capacity.ensures.items;
  tokens = c.in_ok-begin_object.ensures.ok ∙ ap (λ ts. ts ++ begin_object ∷ []) c.new-out.ensures.tokens;
}
