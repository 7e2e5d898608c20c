use Rattle.std.proofs.Common.{◌≡◌, ◌≤◌, ◌∙◌, List, refl, ap, arith, length}
use Rattle.std.specs.Prelude.{count_by, sum_by}
use Rattle.scm_types.specs.declared.section.Section.{Section}
use Rattle.scm_types.specs.Limits.{max_items}
use Rattle.scm_types.specs.Marks.{checked_count, file_marks, is_editable_section}
use Rattle.scm_layout.specs.declared.section_counts.SectionCounts.{SectionCounts}
use Rattle.scm_layout.specs.Counts.{modes_in, sections_counts}
use Rattle.scm_rows.specs.Lines.{old_lines}
use Rattle.scm_layout.specs.Recounts.{total_checked, total_items}
use Rattle.scm_layout.proofs.CountLemmas.{checked-fit, items-fit, old_lines-fit_file, total_checked-marks, total_items-marks}
use Rattle.scm_layout.proofs.file_counts.FileCounts.new.Goals as goal

pub sections_counts-requires : goal.sections_counts-requires
sections_counts-requires c =
    let fit : sum_by old_lines c.args.file.now.sections ≤ max_items = omega (arith, old_lines-fit_file c.args.file.now, c.requires) in
    rw c.as_slice-given.ensures fit

pub total_items-items-requires : goal.total_items-items-requires
total_items-items-requires c =
    let file = c.args.file.now in
    let now : c.as_slice-counts.result.now ≡ sections_counts 0 0 file.sections =
    c.as_slice-counts.ensures ∙ c.in_ok-sections.ensures ∙ ap (λ (ss : List Section). sections_counts 0 0 ss) c.as_slice-given.ensures in
    rw now (rw (total_items-marks 0 0 file.sections) (omega (arith, items-fit file, c.requires)))

pub total_checked-checked-requires : goal.total_checked-checked-requires
total_checked-checked-requires c =
    let file = c.args.file.now in
    let now : c.as_slice-counts.result.now ≡ sections_counts 0 0 file.sections =
    c.as_slice-counts.ensures ∙ c.in_ok-sections.ensures ∙ ap (λ (ss : List Section). sections_counts 0 0 ss) c.as_slice-given.ensures in
    rw now (rw (total_checked-marks 0 0 file.sections) (omega (arith, checked-fit file, c.requires)))

pub returns : goal.returns
returns c =
    let file = c.args.file.now in
    let counted : c.in_ok-sections.sections ≡ sections_counts 0 0 file.sections = c.in_ok-sections.ensures ∙ ap (λ (ss : List Section). sections_counts 0 0 ss) c.as_slice-given.ensures in
    let now : c.as_slice-counts.result.now ≡ sections_counts 0 0 file.sections = c.as_slice-counts.ensures ∙ counted in
    let editable : c.editable_in-editable.result ≡ count_by is_editable_section file.sections =
    c.editable_in-editable.ensures ∙ ap (λ (ss : List Section). count_by is_editable_section ss) c.as_slice-given.ensures in
    let modes : c.modes_in-modes.result ≡ modes_in file.sections =
    c.modes_in-modes.ensures ∙ ap (λ (ss : List Section). modes_in ss) c.as_slice-given.ensures in
    let items : c.total_items-items.result ≡ length (file_marks file) =
    c.total_items-items.ensures ∙ ap (λ (cs : List SectionCounts). total_items cs) now ∙ total_items-marks 0 0 file.sections in
    let checked : c.total_checked-checked.result ≡ checked_count (file_marks file) =
    c.total_checked-checked.ensures ∙ ap (λ (cs : List SectionCounts). total_checked cs) now ∙ total_checked-marks 0 0 file.sections in
    rw (editable, modes, items, checked, counted) refl
