use Rattle.std.proofs.Common.{◌∷◌, Some, None, sym, subst}
use Rattle.json.specs.Reads.{token_of}
use Rattle.scm_json.specs.Form.{optional}
use Rattle.scm_json.specs.Tokens.{IsRead}
use Rattle.scm_json.proofs.TokenLemmas.{IsRead-of, null-read, some-read}
use Rattle.scm_json.proofs.from_json.OptionFromJson.from_tokens.Goals as goal

pub returns-in-Null : goal.returns-in-Null
returns-in-Null g c =
    let form = g.T.FromJson.form in
    let height = g.T.FromJson.height in
    let now = c.args.reader.now in
    subst (λ t. IsRead (optional form) height (token_of t ∷ now) None now) (sym c.in-Null.is) (null-read form height now)

pub returns-in-Some : goal.returns-in-Some
returns-in-Some g c =
    let form = g.T.FromJson.form in
    let height = g.T.FromJson.height in
    let now = c.args.reader.now in
    let new = c.from_tokens.new.reader in
    let x = c.in-Some.value in
    let read = IsRead-of form height (token_of c.args.first ∷ now) c.in_ok-value-in-String.field-0 x new c.in-Some.is c.in_ok-value-in-String.ensures in
    let named = subst (λ t. IsRead form height (token_of t ∷ now) x new) c.in-String.is read in
    subst (λ t. IsRead (optional form) height (token_of t ∷ now) (Some x) new) (sym c.in-String.is) (some-read form height _ now x new named)
