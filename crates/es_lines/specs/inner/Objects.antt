-- What is written of an object.
use Rattle.std.specs.Prelude.{◌≡◌, ℕ, List, [], ◌∷◌}
use Rattle.json.specs.Token.{Token, begin_object, key, string}
use Rattle.json.specs.Written.{Written}

-- the tokens of a member whose value is a text
abbrev pub text_tokens : List ℕ → List ℕ → List Token
text_tokens name value = key name ∷ string value ∷ []

-- nothing but the beginning of an object
pub record Begun (w : Written) : Type 0 where
  pub before : w.before ≡ []
  pub tokens : w.tokens ≡ begin_object ∷ []
