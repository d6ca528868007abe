use Rattle.std.proofs.Common.{◌≡◌, Option, Some, None, refl}
use Rattle.uuid.specs.Text.{parsed}
use Rattle.es_transcode.proofs.hex.id_of.Goals as goal

nothing : {A : Type 0} (o : Option A) → ((x : A) → o ≡ Some x → ⊥) → None ≡ o
nothing None never = refl
nothing (Some x) never = absurd (never x refl)

pub returns-in-Err : goal.returns-in-Err
returns-in-Err c = nothing (parsed c.args.text.now) (λ u is. let wrong = c.in-Err.ensures.ok.1 (u, is) in cc)
