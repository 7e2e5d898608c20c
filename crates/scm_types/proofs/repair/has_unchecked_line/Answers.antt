use Rattle.std.proofs.Common.{not, ◌∙◌}
use Rattle.scm_types.proofs.RepairLemmas.{any_mark}
use Rattle.scm_types.proofs.repair.has_unchecked_line.Goals as goal

pub returns-in-Changed : goal.returns-in-Changed
returns-in-Changed c = rw (c.in-Changed.is, ← c.as_slice.ensures) (c.is_some_unchecked.ensures ∙ any_mark (not) c.as_slice.result.now)
