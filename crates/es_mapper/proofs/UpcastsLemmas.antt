-- Laws of edits.
use Rattle.std.proofs.Common.{◌≡◌, Bool, true, false, [], ◌∷◌, None, refl, ap}
use Rattle.std.specs.Str.{bytes_eq}
use Rattle.es_model.specs.Rising.{item_of, without}
use Rattle.es_model.specs.Values.{Name, Record}
use Rattle.es_model.specs.declared.value.Value.{Value}

alone-step : (b : Bool) (x : Name × Value) (r : Record) (name : Name) → bytes_eq x.0 name ≡ b → (item_of r name ≡ None → without r name ≡ r) → item_of (x ∷ r) name ≡ None → without (x ∷ r) name ≡ x ∷ r
alone-step true x r name is rest none = let there = rw is at none in cc
alone-step false x r name is rest none = rw is (ap (λ (zs : Record). x ∷ zs) (rest (rw is at none)))

-- a record without a name that it doesn't have
pub alone : (r : Record) (name : Name) → item_of r name ≡ None → without r name ≡ r
alone [] name none = refl
alone (x ∷ r) name none = alone-step (bytes_eq x.0 name) x r name refl (alone r name) none
