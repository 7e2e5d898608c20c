use Rattle.std.proofs.Common.{get_or, ap, sym}
use Rattle.scm_types.proofs.EditLemmas.{modify-past, slice_set-changed}
use Rattle.scm_layout.specs.declared.section_counts.SectionCounts.{SectionCounts}
use Rattle.scm_layout.specs.Recounts.{with_checked, with_line_counted}
use Rattle.scm_layout.proofs.file_counts.count_line_at.Goals as goal

pub returns-then-index-counts : goal.returns-then-index-counts
returns-then-index-counts c =
    let none : SectionCounts = record { items = 0; checked = 0; editable_before = 0; lines_before = 0 } in
    let counts = c.args.counts.now in
    let i = c.args.index in
    slice_set-changed (with_line_counted c.args.checked) counts i none _ c.if-index-counts.true (ap (λ n. with_checked n (get_or counts i none)) c.stepped-count.ensures)

pub returns-else-index-counts : goal.returns-else-index-counts
returns-else-index-counts c = sym (modify-past (with_line_counted c.args.checked) c.args.counts.now c.args.index c.if-index-counts.false)
