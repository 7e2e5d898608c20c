use Rattle.std.proofs.Common.{◌≡◌, drop, fold, None}
use Rattle.scm_front_items.specs.Search.{found_after, is_hit, files_items}
use Rattle.scm_front_items.proofs.items.after_files.Given as goal

-- the items that are left decide
abbrev pub invariant-loop-index : goal.invariant-loop-index
invariant-loop-index l =
    fold (found_after l.quest.way (is_hit l.quest.way l.quest.pattern.now l.quest.selection)) l.nearest (files_items l.index (drop l.index l.files))
    ≡ fold (found_after l.quest.way (is_hit l.quest.way l.quest.pattern.now l.quest.selection)) None (files_items 0 l.files)
