use Rattle.std.proofs.Common.{◌≡◌, ◌∙◌, ap, arith, length, length-take, replicate, take}
use Rattle.scm_cells.specs.Cell.{blank}
use Rattle.scm_cells.proofs.WrittenLemmas.{laid-after_blanks}
use Rattle.scm_cells.proofs.row.lay.Goals as goal

pub returns-clause-laid : goal.returns-clause-laid
returns-clause-laid c =
    let size : length (take c.min-blanks.result c.args.columns.now) ≡ c.min-blanks.result = simp length-take (omega arith) in
    laid-after_blanks c.args.columns.now c.clear_row.new.columns c.lay_clusters.new.columns c.args.blanks c.min-blanks.result c.lay_clusters.result _ c.min-blanks.ensures
    (c.clear_row.auto.columns ∙ size) (c.clear_row.ensures ∙ ap (λ n. replicate n blank) size) c.lay_clusters.ensures.laid
