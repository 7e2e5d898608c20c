use Rattle.std.proofs.Common.{◌∷◌, sym, subst}
use Rattle.json.specs.Reads.{token_of}
use Rattle.serde_json.specs.Find.{as_bool}
use Rattle.scm_json.specs.Tokens.{IsRead}
use Rattle.scm_json.proofs.TokenLemmas.{bool-read}
use Rattle.scm_json.proofs.from_json.BoolFromJson.from_tokens.Goals as goal

pub returns-in-Bool : goal.returns-in-Bool
returns-in-Bool c = subst (λ t. IsRead as_bool 0 (token_of t ∷ c.args._reader.now) c.in-Bool.value c.args._reader.now) (sym c.in-Bool.is) (bool-read c.in-Bool.value c.args._reader.now)
