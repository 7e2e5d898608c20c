use Rattle.std.proofs.Common.{arith, subst, sym}
use Rattle.unicode_segmentation.specs.Iter.{graphemes_left}
use Rattle.scm_cells.specs.Clusters.{visible_clusters}
use Rattle.scm_cells.specs.Laying.{IsPassed}
use Rattle.scm_cells.proofs.RectLemmas.{places}
use Rattle.scm_cells.proofs.WrittenLemmas.{place_below, IsBegun-passed, IsBegun-at, AllKept-visible}
use Rattle.scm_cells.proofs.row.begin.Goals as goal

pub returns-then-column-limit-clause-from : goal.returns-then-column-limit-clause-from
returns-then-column-limit-clause-from c = place_below c.args.column c.args.low (omega (arith, places))

pub returns-then-column-limit-clause-begun : goal.returns-then-column-limit-clause-begun
returns-then-column-limit-clause-begun c =
    let old = visible_clusters (graphemes_left c.args.clusters.now) in
    let new = visible_clusters (graphemes_left c.pass_over-passed.new.clusters) in
    IsBegun-passed c.args.column c.args.low c.abs_diff-before.result c.saturating_sub.result old new
    (subst (λ n. IsPassed c.abs_diff-before.result old n new) (sym c.saturating_sub.ensures) c.pass_over-passed.ensures.passed) (omega (arith, places))

pub returns-else-column-limit-clause-begun : goal.returns-else-column-limit-clause-begun
returns-else-column-limit-clause-begun c = IsBegun-at c.args.column c.args.low _ _ (AllKept-visible (graphemes_left c.args.clusters.now)) (omega (arith, places)) (omega (arith, places))
