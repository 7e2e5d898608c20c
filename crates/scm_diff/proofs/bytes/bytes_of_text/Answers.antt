use Rattle.std.proofs.Common.{◌++◌, ap, sym, ◌∙◌}
use Rattle.std.specs.Str.{chars}
use Rattle.std.proofs.lemmas.Str.{encodes-chars}
use Rattle.scm_diff.proofs.ByteLemmas.{none-reserved}
use Rattle.scm_diff.proofs.bytes.bytes_of_text.Goals as goal

pub returns : goal.returns
returns c =
    let text = c.args.text.now in
    c.in_ok-extend_from_slice.ensures.items ∙ ap (λ xs. xs ++ c.as_bytes.result.now) c.in_ok-bytes.ensures.items ∙ c.as_bytes.ensures.value
    ∙ sym (none-reserved (chars text) (sym c.has_reserved.ensures ∙ c.if-has_reserved.false) ∙ encodes-chars text c.utf8.text)
