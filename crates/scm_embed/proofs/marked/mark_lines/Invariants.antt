use Rattle.std.proofs.Common.{◌≡◌, ◌++◌, take, drop}
use Rattle.scm_embed.specs.Marked.{marked_lines}
use Rattle.scm_embed.proofs.marked.mark_lines.Given as goal

-- with the rest marked they are all marked
abbrev pub invariant-loop-line : goal.invariant-loop-line
invariant-loop-line l = take l.line-index l.lines ++ marked_lines l.rest (drop l.line-index l.lines) ≡ marked_lines l.fn.marks l.fn.lines
