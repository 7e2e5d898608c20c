use Rattle.std.proofs.Common.{◌<◌, length, get_or, ap, arith}
use Rattle.scm_layout.specs.declared.section_counts.SectionCounts.{SectionCounts}
use Rattle.scm_layout.specs.Recounts.{recounted, with_checked}
use Rattle.scm_layout.proofs.ZipLemmas.{zipped-more}
use Rattle.scm_layout.proofs.section_counts.recount.Goals as goal

pub loop-index-preserved : goal.loop-index-preserved
loop-index-preserved c =
    let none : SectionCounts = record { items = 0; checked = 0; editable_before = 0; lines_before = 0 } in
    let counts = c.loop-index.counts in
    let i = c.loop-index.index in
    let within : i < length c.args.counts.now = omega arith in
    zipped-more recounted c.args.counts.now counts c.args.sections.now i none _ c.index-sections-index.result within c.loop-index-test.true c.loop-index.invariant c.index-sections-index.is
    (ap (λ n. with_checked n (get_or counts i none)) c.checked_in-count.ensures)
