use Rattle.std.proofs.Common.{◌≡◌, ◌∙◌, ◌∷◌, [], ap, arith, get_or, sym}
use Rattle.std.specs.Char.{encode_utf8}
use Rattle.std.proofs.lemmas.Str.{IsCharBoundary-before_ascii}
use Rattle.scm_cells.specs.Cluster.{is_printable}
use Rattle.scm_cells.proofs.ReplacedLemmas.{pieces-printable, printable_line-is}
use Rattle.scm_cells.proofs.replaced.printable_line.Goals as goal

pub split_at-requires : goal.split_at-requires
split_at-requires c =
    let size = c.in_ok-count.ensures in
    let byte : get_or c.args.line.now c.in_ok-count.count 0 ≡ 10 = ap (λ t. get_or t c.in_ok-count.count 0) (sym c.as_bytes-bytes.ensures.value) ∙ c.if-bytes-count-ne10.false in
    IsCharBoundary-before_ascii _ _ (omega (arith, size.0, size.1)) (omega (arith, byte))

pub returns-then-is_printable-clause-value : goal.returns-then-is_printable-clause-value
unfolding encode_utf8
returns-then-is_printable-clause-value c =
    let size = c.in_ok-count.ensures in
    let byte : get_or c.args.line.now c.in_ok-count.count 0 ≡ 10 = ap (λ t. get_or t c.in_ok-count.count 0) (sym c.as_bytes-bytes.ensures.value) ∙ c.if-bytes-count-ne10.false in
    printable_line-is c.args.line.now c.split_at.result.0.now c.in_ok-count.count size.1 byte c.split_at.ensures.front (sym c.is_printable.ensures ∙ c.if-is_printable.true)

pub returns-then-is_printable-clause-pieces : goal.returns-then-is_printable-clause-pieces
unfolding encode_utf8
returns-then-is_printable-clause-pieces c =
    let size = c.in_ok-count.ensures in
    let front = c.split_at.ensures.front in
    let byte : get_or c.args.line.now c.in_ok-count.count 0 ≡ 10 = ap (λ t. get_or t c.in_ok-count.count 0) (sym c.as_bytes-bytes.ensures.value) ∙ c.if-bytes-count-ne10.false in
    pieces-printable c.args.line.now c.in_ok-count.count c.utf8.line (omega (arith, size.0, size.1)) byte (ap is_printable (sym front) ∙ (sym c.is_printable.ensures ∙ c.if-is_printable.true))
    ∙ ap (λ t. t ∷ ((226 ∷ (143 ∷ (142 ∷ []))) ∷ [])) (sym front)
