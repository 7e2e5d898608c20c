use Rattle.std.proofs.Common.{◌≡◌, ◌∙◌, ◌++◌, ap, arith, drop, length, length-take-le, replicate, subst, sym, take}
use Rattle.scm_cells.specs.Cell.{blank}
use Rattle.scm_cells.specs.Tail.{IsBlankFrom}
use Rattle.scm_cells.proofs.TailLemmas.{IsBlankFrom-min, cleared_front}
use Rattle.scm_cells.proofs.row.clear_front.Goals as goal

pub returns : goal.returns
returns c =
    let cols = c.args.columns.now in
    let k = c.min-count.result in
    let front : IsBlankFrom k cols = subst (λ n. IsBlankFrom n cols) (sym c.min-count.ensures) (IsBlankFrom-min c.args.end cols c.requires) in
    let size : length (take k cols) ≡ k = length-take-le k cols (omega (arith, c.min-count.ensures)) in
    ap (λ t. t ++ drop k cols) (c.clear_row.ensures ∙ ap (λ n. replicate n blank) size) ∙ cleared_front cols k (omega (arith, c.min-count.ensures)) front
