use Rattle.std.proofs.Common.{◌∷◌, Some, sym, ap, subst}
use Rattle.json.specs.Reads.{token_of}
use Rattle.serde_json.specs.Find.{as_str}
use Rattle.scm_json.specs.Tokens.{IsRead}
use Rattle.scm_json.proofs.TokenLemmas.{text-read}
use Rattle.scm_json.proofs.from_json.OwnedTextFromJson.from_tokens.Goals as goal

pub returns-in_ok-copy-in-String : goal.returns-in_ok-copy-in-String
returns-in_ok-copy-in-String c =
    let now = c.args._reader.now in
    let text = c.in-String.text.now in
    subst (λ t. IsRead as_str 0 (token_of t ∷ now) c.in_ok-copy-in-String.copy now) (sym c.in-String.is)
    (text-read as_str text c.in_ok-copy-in-String.copy now (ap Some (sym c.in_ok-copy-in-String.ensures)))
