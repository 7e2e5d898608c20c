use Rattle.std.proofs.Common.{◌≡◌, Some, false, ◌==◌, refl, sym, ap, ◌∙◌, subst}
use Rattle.std.specs.Prelude.{IfSome, slice_index}
use Rattle.fast_float.specs.Text.{minus, scan}
use Rattle.serde_json.specs.Data.{unsigned}
use Rattle.serde_json.specs.Read.{number_from, number_of}
use Rattle.scm_json.proofs.state_reader.whole_number.Goals as goal

pub returns : goal.returns
unfolding number_of
returns c =
    let s = c.as_bytes-bytes.result.now in
    let plus : (slice_index s 0 == minus) ≡ false = sym c.starts_with_minus.ensures ∙ c.if-starts_with_minus.false in
    let read : number_from false (scan s) ≡ number_of s = rw plus refl in
    let whole : number_from false c.scan-numeral.result ≡ number_of c.args.text.now = ap (number_from false) c.scan-numeral.ensures.parts ∙ read ∙ ap number_of c.as_bytes-bytes.ensures.value in
    subst (λ o. IfSome c.whole_of.result (λ n. o ≡ Some (unsigned n))) whole c.whole_of.ensures
