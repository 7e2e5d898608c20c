-- A value that was read from tokens, token by token.
use Rattle.std.specs.Prelude.{◌≡◌, ℕ, ◌≤◌, List, Option, Some}
use Rattle.json.specs.Token.{Token}
use Rattle.json.specs.Json.{Json, read_key, value}
use Rattle.serde_json.specs.Data.{Data}
use Rattle.serde_json.specs.Read.{of_json}

-- The tokens `old` begin with the form of `x`, which nests at most `height` deep. The tokens `new` follow it.
pub record IsRead {A : Type 0} (form : Data → Option A) (height : ℕ) (old : List Token) (x : A) (new : List Token) : Type 0 where
  pub json : Json
  pub datum : Data
  pub found : (depth : ℕ) → height ≤ depth → value depth old ≡ Some (json, new)
  pub is_data : of_json json ≡ Some datum
  pub is_form : form datum ≡ Some x

-- The tokens `old` begin with the member `name` of an object, and its value is the form of `x`.
pub record IsReadMember {A : Type 0} (form : Data → Option A) (height : ℕ) (name : List ℕ) (old : List Token) (x : A) (new : List Token) : Type 0 where
  pub rest : List Token
  pub key : read_key old ≡ Some (Some name, rest)
  pub is_read : IsRead form height rest x new
