use Rattle.std.proofs.Common.{◌≡◌, ◌++◌, drop}
use Rattle.scm_selection.specs.KeyLists.{line_keys}
use Rattle.scm_selection.proofs.key_lists.push_lines.Given as goal

-- the keys so far and those of the lines that are left are all
abbrev pub invariant-loop-line : goal.invariant-loop-line
invariant-loop-line l = l.keys.items ++ line_keys l.file l.section l.line (drop l.line l.lines) ≡ l.fn.keys.items ++ line_keys l.file l.section 0 l.lines
