use Rattle.std.proofs.Common.{◌≡◌, drop, fold}
use Rattle.scm_front_items.specs.Search.{found_after, is_hit, sections_items}
use Rattle.scm_front_items.proofs.items.after_sections.Given as goal

-- the items that are left decide
abbrev pub invariant-loop-index : goal.invariant-loop-index
invariant-loop-index l =
    fold (found_after l.quest.way (is_hit l.quest.way l.quest.pattern.now l.quest.selection)) l.nearest (sections_items l.file l.index (drop l.index l.sections))
    ≡ fold (found_after l.quest.way (is_hit l.quest.way l.quest.pattern.now l.quest.selection)) l.fn.found (sections_items l.file 0 l.sections)
