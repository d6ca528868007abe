-- What the parts of a line are read as, and what is written of the version that a command expects.
use Rattle.std.specs.Prelude.{ℕ, ◌≡◌, nat_le, Bool, ◌&&◌, List, [], ◌∷◌, codes, decimal, Option, None, Some, Result, Ok, Err}
use Rattle.json.specs.Token.{Token, key, number}
use Rattle.es_transcode.specs.declared.fault.DecodeFault.{DecodeFault}
use Rattle.es_transcode.specs.declared.fault.DecodeFault.TheVariants as decode
use Rattle.es_lines.specs.Requests.{Asked, asks, refused, is_expectable}
use Rattle.es_lines.specs.declared.fault.LineFault.{LineFault}
use Rattle.es_lines.specs.declared.fault.LineFault.TheVariants.{Syntax, NoMemory}
use Rattle.es_lines.specs.declared.request.Request.{Request}

-- what is read, or that it isn't there, or want of memory
abbrev pub Reads : {A : Type 0} → Option A → Result A LineFault → Type 0
Reads o (Ok x) = o ≡ Some x
Reads o (Err Syntax) = o ≡ None
Reads o (Err NoMemory) = Unit {0}
Reads o (Err f) = ⊥

-- a fault of a record, as one of its line
abbrev pub fault_of : DecodeFault → LineFault
fault_of decode.NoMemory = NoMemory
fault_of f = Syntax

-- a request is what is asked, or the reason why it isn't
abbrev pub Tests : Asked → Request → Result (Unit {0}) LineFault → Type 0
Tests asked r (Ok done) = asked ≡ asks r
Tests asked r (Err f) = asked ≡ refused f

-- a number from a least one to the greatest version
abbrev pub is_from : ℕ → ℕ → Bool
is_from least n = nat_le least n && is_expectable n

-- the tokens of the expected version, if there is one
abbrev pub expected_tokens : Option ℕ → List Token
expected_tokens None = []
expected_tokens (Some n) = key (codes "expect") ∷ number (decimal n) ∷ []
