use Rattle.std.proofs.Common.{◌∷◌, sym, subst}
use Rattle.std.specs.Prelude.{IfSome}
use Rattle.json.specs.Reads.{token_of}
use Rattle.scm_json.specs.Form.{change_type_of}
use Rattle.scm_json.specs.Tokens.{IsRead}
use Rattle.scm_json.proofs.TokenLemmas.{name-read}
use Rattle.scm_json.proofs.state_reader.ChangeTypeFromJson.from_tokens.Goals as goal

pub returns-in-String : goal.returns-in-String
returns-in-String c =
    let now = c.args._reader.now in
    let found = c.read_change_type.result in
    subst (λ t. IfSome found (λ x. IsRead change_type_of 0 (token_of t ∷ now) x now)) (sym c.in-String.is) (name-read change_type_of c.in-String.name.now found now c.read_change_type.ensures)
