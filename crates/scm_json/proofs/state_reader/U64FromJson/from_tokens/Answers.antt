use Rattle.std.proofs.Common.{◌∷◌, sym, subst}
use Rattle.std.specs.Prelude.{IfSome}
use Rattle.json.specs.Reads.{token_of}
use Rattle.scm_json.specs.Form.{bits_of}
use Rattle.scm_json.specs.Tokens.{IsRead}
use Rattle.scm_json.proofs.TokenLemmas.{number-read}
use Rattle.scm_json.proofs.state_reader.U64FromJson.from_tokens.Goals as goal

pub returns-in-Number : goal.returns-in-Number
returns-in-Number c =
    let now = c.args._reader.now in
    let found = c.whole_number.result in
    subst (λ t. IfSome found (λ x. IsRead bits_of 0 (token_of t ∷ now) x now)) (sym c.in-Number.is) (number-read c.in-Number.text.now found now c.whole_number.ensures)
