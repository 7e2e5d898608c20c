use Rattle.std.proofs.Common.{◌≡◌, ◌+◌, ◌≤◌, drop}
use Rattle.scm_layout.specs.Rows.{folded_count}
use Rattle.scm_layout.proofs.section_rows.folded_count.Given as goal

-- the count so far and that of the sections that are left are the whole
abbrev pub invariant-loop-index : goal.invariant-loop-index
invariant-loop-index l =
    record {
      count : l.folded + folded_count l.unfolded.keys.now l.key l.index (drop l.index l.sections) ≡ folded_count l.unfolded.keys.now l.key 0 l.sections;
      most : l.folded ≤ l.index;
    }
