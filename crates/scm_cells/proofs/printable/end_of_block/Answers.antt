use Rattle.std.proofs.Common.{◌≡◌, ◌∙◌, ap, drop, sym, take, true}
use Rattle.scm_cells.specs.Cluster.{is_printable}
use Rattle.scm_cells.proofs.PrintableLemmas.{printable-block}
use Rattle.scm_cells.proofs.printable.end_of_block.Goals as goal

pub returns-then-are_printable-clause-printable : goal.returns-then-are_printable-clause-printable
returns-then-are_printable-clause-printable c = λ before.
    let block : is_printable (take 16 (drop c.args.start c.args.bytes.now)) ≡ true =
    ap (λ t. is_printable (take 16 t)) (sym c.split_at.ensures.back) ∙ ap is_printable (sym c.split_at-2.ensures.front) ∙ sym c.are_printable.ensures ∙ c.if-are_printable.true in
    printable-block c.args.bytes.now c.args.start 16 before block
