use Rattle.std.proofs.Common.{◌∙◌}
use Rattle.scm_types.proofs.RepairLemmas.{any_mark}
use Rattle.scm_types.proofs.repair.has_checked_line.Goals as goal

pub returns-in-Changed : goal.returns-in-Changed
returns-in-Changed c = rw (c.in-Changed.is, ← c.as_slice.ensures) (c.is_some_checked.ensures ∙ any_mark (λ b. b) c.as_slice.result.now)
