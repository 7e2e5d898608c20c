use Rattle.std.proofs.Common.{◌≡◌, ◌*◌, ◌++◌, take, drop, map}
use Rattle.scm_types.specs.Limits.{max_items}
use Rattle.scm_layout.specs.Refolds.{AreBetween}
use Rattle.scm_layout.specs.SectionStack.{moved_row}
use Rattle.scm_layout.proofs.section_folds.move_tops.Given as goal

-- the rows so far are moved, and those that are left will be
abbrev pub invariant-loop-index : goal.invariant-loop-index
invariant-loop-index l =
    record {
      rows : take l.index l.tops ++ map (moved_row l.from l.to) (drop l.index l.tops) ≡ take l.first l.fn.tops ++ map (moved_row l.from l.to) (drop l.first l.fn.tops);
      within : AreBetween l.from (2 * max_items) (drop l.index l.tops);
    }
