use Rattle.std.proofs.Common.{◌≡◌, drop}
use Rattle.scm_types.specs.Split.{first_mode_change}
use Rattle.scm_types.proofs.file.File.side_mode.Given as goal

abbrev pub invariant-loop-section : goal.invariant-loop-section
invariant-loop-section l = first_mode_change l.section-items ≡ first_mode_change (drop l.section-index l.section-items)
