use Rattle.std.proofs.Common.{◌≡◌, drop, fold}
use Rattle.scm_front_items.specs.Search.{found_after, is_hit, line_items}
use Rattle.scm_front_items.proofs.items.after_lines.Given as goal

-- the items that are left decide
abbrev pub invariant-loop-index : goal.invariant-loop-index
invariant-loop-index l =
    fold (found_after l.quest.way (is_hit l.quest.way l.quest.pattern.now l.quest.selection)) l.nearest (line_items l.file l.section l.index (drop l.index l.lines))
    ≡ fold (found_after l.quest.way (is_hit l.quest.way l.quest.pattern.now l.quest.selection)) l.fn.found (line_items l.file l.section 0 l.lines)
