use Rattle.std.proofs.Common.{◌≡◌, ◌<◌, ℕ, get_or, false}
use Rattle.scm_types.specs.Marks.{section_marks}
use Rattle.scm_front_items.proofs.runs.has_marks.Given as goal

-- the marks so far are the same
abbrev pub invariant-loop-index : goal.invariant-loop-index
invariant-loop-index l = (k : ℕ) → k < l.index → get_or (section_marks l.section) k false ≡ get_or l.marks k false
