use Rattle.std.proofs.Common.{◌≡◌, ◌<◌, ℕ, length, get_or, None}
use Rattle.scm_front_paint.specs.Headers.{label_on}
use Rattle.scm_front_paint.proofs.headers.label_rows.Given as goal

abbrev pub invariant-loop-row : goal.invariant-loop-row
invariant-loop-row l = record {
  many : length l.rows.items ≡ l.row;
  on : (k : ℕ) → k < length l.rows.items → get_or l.rows.items k None ≡ label_on l.labels l.session k;
}
