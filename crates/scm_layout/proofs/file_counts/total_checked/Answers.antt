use Rattle.std.proofs.Common.{arith}
use Rattle.std.proofs.lemmas.List.Sums.{sum_by_more, sum_by_more_le}
use Rattle.scm_types.proofs.LimitLemmas.{items_room}
use Rattle.scm_layout.specs.declared.section_counts.SectionCounts.{SectionCounts}
use Rattle.scm_layout.proofs.file_counts.total_checked.Goals as goal

pub overflow_add-total : goal.overflow_add-total
overflow_add-total c =
    let none : SectionCounts = record { items = 0; checked = 0; editable_before = 0; lines_before = 0 } in
    omega (arith, items_room, sum_by_more_le (λ (d : SectionCounts). d.checked) c.args.counts.now c.loop-count.count-index none c.loop-count-test.true)

pub loop-count-preserved : goal.loop-count-preserved
loop-count-preserved c =
    let none : SectionCounts = record { items = 0; checked = 0; editable_before = 0; lines_before = 0 } in
    omega (arith, sum_by_more (λ (d : SectionCounts). d.checked) c.args.counts.now c.loop-count.count-index none c.loop-count-test.true)
