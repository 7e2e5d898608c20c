use Rattle.std.proofs.Common.{◌≡◌}
use Rattle.scm_embed.proofs.trim.trim_sections.Given as goal

abbrev pub invariant-loop-section : goal.invariant-loop-section
invariant-loop-section l = l.sections ≡ l.initial.sections
