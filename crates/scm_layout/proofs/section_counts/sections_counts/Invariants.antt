use Rattle.std.proofs.Common.{◌≡◌, ◌+◌, ◌≤◌, ◌++◌, drop}
use Rattle.std.specs.Prelude.{sum_by}
use Rattle.scm_rows.specs.Lines.{old_lines}
use Rattle.scm_layout.specs.Counts.{sections_counts}
use Rattle.scm_layout.proofs.section_counts.sections_counts.Given as goal

-- the counts so far and those of the sections that are left are all; each section was counted once
abbrev pub invariant-loop-section : goal.invariant-loop-section
invariant-loop-section l =
    record {
      counts : l.counts.items ++ sections_counts l.before.editable l.before.lines (drop l.section-index l.sections) ≡ sections_counts 0 0 l.sections;
      editable : l.before.editable ≤ l.section-index;
      lines : l.before.lines + sum_by old_lines (drop l.section-index l.sections) ≡ sum_by old_lines l.sections;
    }
