use Rattle.std.proofs.Common.{◌≡◌, ◌∙◌, List, length, get_or, sym, ap, arith}
use Rattle.scm_layout.specs.declared.section_counts.SectionCounts.{SectionCounts}
use Rattle.scm_layout.specs.Counts.{checked_in}
use Rattle.scm_layout.proofs.CountLemmas.{length-sections_counts}
use Rattle.scm_layout.proofs.MarkedLemmas.{checked-at}
use Rattle.scm_layout.proofs.marked.checked_in_sections.Goals as goal

pub bounds-counts-index : goal.bounds-counts-index
bounds-counts-index c =
    let long : length c.args.counts.now ≡ length c.args.sections.now = ap length c.requires ∙ length-sections_counts 0 0 c.args.sections.now in
    omega arith

pub checked_in_section-requires : goal.checked_in_section-requires
checked_in_section-requires c =
    let none : SectionCounts = record { items = 0; checked = 0; editable_before = 0; lines_before = 0 } in
    let i = c.loop-index.index in
    ap (λ (counts : List SectionCounts). (get_or counts i none).checked) c.requires
    ∙ checked-at 0 0 i c.args.sections.now c.index-sections-index.result none c.loop-index-test.true ∙ sym (ap checked_in c.index-sections-index.is)
