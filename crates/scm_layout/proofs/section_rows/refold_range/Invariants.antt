use Rattle.std.proofs.Common.{◌≡◌, ◌+◌, ◌++◌, take, drop, length}
use Rattle.scm_layout.specs.Rows.{is_first_open, sections_height, sections_rows}
use Rattle.scm_layout.specs.Refolds.{height_from, is_open_above, rows_from}
use Rattle.scm_layout.specs.SectionStack.{tops_of}
use Rattle.scm_layout.proofs.section_rows.refold_range.Given as goal

-- the rows so far and those of the sections that are left are all; the others are as they were
abbrev pub invariant-loop-index : goal.invariant-loop-index
invariant-loop-index l =
    record {
      rows : take l.index l.tops ++ tops_of (sections_rows l.unfolded.keys.now l.key (length l.sections) l.index l.next l.before (drop l.index l.sections)) ≡ take l.first l.fn.tops ++ tops_of (rows_from l.unfolded.keys.now l.key l.first l.top l.sections);
      others : drop l.index l.tops ≡ drop l.index l.fn.tops;
      above : l.before ≡ is_open_above l.unfolded.keys.now l.key l.index l.sections;
      this : l.this ≡ is_first_open l.unfolded.keys.now l.key l.index (drop l.index l.sections);
      height : l.next + sections_height l.unfolded.keys.now l.key (length l.sections) l.index l.before (drop l.index l.sections) ≡ l.top + height_from l.unfolded.keys.now l.key l.first l.sections;
    }
