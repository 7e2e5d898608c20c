use Rattle.std.proofs.Common.{◌≡◌, ◌∙◌, List, get_or, length, ap, sym, arith}
use Rattle.scm_types.proofs.LimitLemmas.{items_room}
use Rattle.scm_types.specs.Keys.{section_key_of}
use Rattle.scm_types.specs.declared.section.Section.{Section}
use Rattle.scm_layout.specs.declared.file_counts.FileCounts.{FileCounts}
use Rattle.scm_layout.specs.declared.section_counts.SectionCounts.{SectionCounts}
use Rattle.scm_layout.proofs.CountLemmas.{length-sections_counts, old_lines-fit}
use Rattle.scm_view.specs.ViewState.{section_view_of, totals_of}
use Rattle.scm_view_state.proofs.CountedLemmas.{counted-here}
use Rattle.scm_view_state.proofs.section_views.view_at.Goals as goal

-- what is past the end
abbrev no-counts : SectionCounts
no-counts = record { items = 0; checked = 0; editable_before = 0; lines_before = 0 }

pub bounds-counted-index : goal.bounds-counted-index
bounds-counted-index c =
    let same = ap (λ (n : FileCounts). length n.sections) c.requires.counted in
    let count = length-sections_counts 0 0 c.args.file.now.sections in
    let slice = ap length c.as_slice-counted.ensures in
    omega (arith, same, count, slice, c.requires.within)

pub counted_view-requires-clause-counted : goal.counted_view-requires-clause-counted
counted_view-requires-clause-counted c =
    (counted-here c.args.view_state.now (totals_of c.args.file.now.sections) c.args.key c.args.index c.args.file.now.sections c.args.counts.now.sections
    c.index-sections-index.result no-counts (get_or c.as_slice-counted.result.now c.args.index no-counts)
    (ap (λ (n : FileCounts). n.sections) c.requires.counted) c.requires.within
    (c.index-sections-index.is ∙ ap (λ (xs : List Section). get_or xs c.args.index c.index-sections-index.result) c.as_slice-sections.ensures)
    (ap (λ (ns : List SectionCounts). get_or ns c.args.index no-counts) c.as_slice-counted.ensures)).counts

pub counted_view-requires-clause-editable : goal.counted_view-requires-clause-editable
counted_view-requires-clause-editable c =
    let at = counted-here c.args.view_state.now (totals_of c.args.file.now.sections) c.args.key c.args.index c.args.file.now.sections c.args.counts.now.sections
    c.index-sections-index.result no-counts (get_or c.as_slice-counted.result.now c.args.index no-counts)
    (ap (λ (n : FileCounts). n.sections) c.requires.counted) c.requires.within
    (c.index-sections-index.is ∙ ap (λ (xs : List Section). get_or xs c.args.index c.index-sections-index.result) c.as_slice-sections.ensures)
    (ap (λ (ns : List SectionCounts). get_or ns c.args.index no-counts) c.as_slice-counted.ensures) in
    omega (arith, items_room, at.before, c.requires.within, c.requires.size)

pub counted_view-requires-clause-lines : goal.counted_view-requires-clause-lines
counted_view-requires-clause-lines c =
    let at = counted-here c.args.view_state.now (totals_of c.args.file.now.sections) c.args.key c.args.index c.args.file.now.sections c.args.counts.now.sections
    c.index-sections-index.result no-counts (get_or c.as_slice-counted.result.now c.args.index no-counts)
    (ap (λ (n : FileCounts). n.sections) c.requires.counted) c.requires.within
    (c.index-sections-index.is ∙ ap (λ (xs : List Section). get_or xs c.args.index c.index-sections-index.result) c.as_slice-sections.ensures)
    (ap (λ (ns : List SectionCounts). get_or ns c.args.index no-counts) c.as_slice-counted.ensures) in
    omega (arith, items_room, at.above, old_lines-fit c.args.file.now.sections, c.requires.size)

pub returns : goal.returns
returns c d =
    let s = c.args.view_state.now in
    let k = c.args.key in
    let xs = c.args.file.now.sections in
    let t = totals_of xs in
    let i = c.args.index in
    let counted : SectionCounts = get_or c.as_slice-counted.result.now i no-counts in
    let at = counted-here s t k i xs c.args.counts.now.sections
    c.index-sections-index.result no-counts (get_or c.as_slice-counted.result.now i no-counts)
    (ap (λ (n : FileCounts). n.sections) c.requires.counted) c.requires.within
    (c.index-sections-index.is ∙ ap (λ (ys : List Section). get_or ys i c.index-sections-index.result) c.as_slice-sections.ensures)
    (ap (λ (ns : List SectionCounts). get_or ns i no-counts) c.as_slice-counted.ensures) in
    let totals : section_view_of s (record { sections = length c.as_slice-sections.result.now; editable = c.args.counts.now.editable }) c.section-key.result counted.editable_before counted.lines_before c.index-sections-index.result
    ≡ section_view_of s t (section_key_of k i) counted.editable_before counted.lines_before c.index-sections-index.result =
    λ j. section_view_of s (record { sections = ap length c.as_slice-sections.ensures j; editable = ap (λ (n : FileCounts). n.editable) c.requires.counted j }) (c.section-key.ensures j) counted.editable_before counted.lines_before c.index-sections-index.result in
    c.counted_view.ensures ∙ totals ∙ sym (at.view d)
