use Rattle.std.proofs.Common.{◌≡◌, ap, arith}
use Rattle.scm_types.specs.Marks.{checked_count, file_marks}
use Rattle.scm_layout.specs.declared.file_counts.FileCounts.{FileCounts}
use Rattle.scm_layout.proofs.MarkedLemmas.{none-checked}
use Rattle.scm_layout.proofs.marked.checked_in_file.Goals as goal

pub returns-then-counts-eq0 : goal.returns-then-counts-eq0
returns-then-counts-eq0 c =
    let same = ap (λ (counts : FileCounts). counts.checked) c.requires in
    let none : checked_count (file_marks c.args.file.now) ≡ 0 = omega arith in
    omega (arith, none-checked c.args.file.now none)
