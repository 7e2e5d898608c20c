use Rattle.std.proofs.Common.{◌≡◌, ℕ, ◌+◌, ◌<◌, None}
use Rattle.scm_front_paint.specs.Source.{symbols_in}
use Rattle.scm_front_paint.proofs.cut.lead_of.Given as goal

abbrev pub invariant-loop-column : goal.invariant-loop-column
invariant-loop-column l = (c : ℕ) → l.x + c < l.column → (symbols_in l.source).at l.row (l.x + c) ≡ None
