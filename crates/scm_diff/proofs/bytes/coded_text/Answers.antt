use Rattle.std.proofs.Common.{◌++◌, ap, ◌∙◌, string_bytes}
use Rattle.scm_diff.specs.Bytes.{text_of_bytes}
use Rattle.scm_diff.proofs.bytes.coded_text.Goals as goal

pub pieces-preserved : goal.pieces-preserved
pieces-preserved c =
    ap (λ xs. string_bytes c.push_piece.new.text ++ text_of_bytes xs) c.rest_of-rest.ensures.value ∙ c.in_ok-count.ensures.joined ∙ c.pieces.invariant
