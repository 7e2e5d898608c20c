use Rattle.std.proofs.Common.{◌≡◌, ◌-◌, ◌<◌, ℕ, length}
use Rattle.scm_front_paint.specs.Cut.{IsCutRow}
use Rattle.scm_front_paint.specs.Source.{symbols_in}
use Rattle.scm_front_paint.proofs.cut.cut_rows.Given as goal

abbrev pub invariant-loop-row : goal.invariant-loop-row
invariant-loop-row l = record {
  width : l.cut.width ≡ (symbols_in l.source).width - l.x;
  height : length l.cut.rows ≡ (symbols_in l.source).height;
  rows : (k : ℕ) → k < l.row → IsCutRow l.cut (symbols_in l.source) l.x k;
}
