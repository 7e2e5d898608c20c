use Rattle.std.proofs.Common.{◌≡◌, ◌++◌, take, drop}
use Rattle.scm_embed.specs.Marked.{marked_sections}
use Rattle.scm_embed.proofs.marked.mark_sections.Given as goal

-- with the rest marked they are all marked
abbrev pub invariant-loop-section : goal.invariant-loop-section
invariant-loop-section l = take l.section-index l.sections ++ marked_sections l.rest (drop l.section-index l.sections) ≡ marked_sections l.fn.marks l.fn.sections
