use Rattle.std.proofs.Common.{◌≡◌, ◌∙◌, false, None, List, [], get_or, length, ap, sym, arith}
use Rattle.scm_types.proofs.LimitLemmas.{items_room}
use Rattle.scm_types.specs.Keys.{section_key_of}
use Rattle.scm_types.specs.Marks.{section_marks, tristate_of}
use Rattle.scm_types.specs.declared.section.Section.{Section}
use Rattle.scm_types.specs.declared.keys.SelectionKey.TheVariants as keys
use Rattle.scm_document.specs.declared.section_view.SectionView.{SectionView}
use Rattle.scm_layout.specs.declared.file_counts.FileCounts.{FileCounts}
use Rattle.scm_layout.specs.declared.section_counts.SectionCounts.{SectionCounts}
use Rattle.scm_layout.proofs.CountLemmas.{length-sections_counts, old_lines-fit}
use Rattle.scm_document.specs.declared.commit_view.CommitViewMode.TheVariants.{Inline}
use Rattle.scm_view.specs.ViewState.{ViewState, section_view_of, toggle_box_of, totals_of}
use Rattle.scm_view_state.specs.Marks.{tristate_by}
use Rattle.scm_view_state.proofs.CountedLemmas.{counted-here}
use Rattle.scm_screen.proofs.section_rows.counted_section.Goals as goal

-- a view state, where any will do
abbrev no-state : ViewState
no-state = record {
  state = record { is_read_only = false; commits = []; files = [] };
  selection = keys.None;
  expanded = [];
  view_mode = Inline;
  open_menu = None;
  quit_dialog = None;
  is_help_open = false;
}

-- what is past the end
abbrev no-counts : SectionCounts
no-counts = record { items = 0; checked = 0; editable_before = 0; lines_before = 0 }

pub bounds-counted-index : goal.bounds-counted-index
bounds-counted-index c =
    let same = ap (λ (n : FileCounts). length n.sections) c.requires.counts in
    let count = length-sections_counts 0 0 c.args.file.now.sections in
    let slice = ap length c.as_slice-counted.ensures in
    omega (arith, same, count, slice, c.requires.within)

pub returns-clause-view : goal.returns-clause-view
returns-clause-view c s d =
    let k = c.args.key in
    let xs = c.args.file.now.sections in
    let t = totals_of xs in
    let i = c.args.index in
    let x = c.index-sections-index.result in
    let n : SectionCounts = get_or c.as_slice-counted.result.now i no-counts in
    let at = counted-here s t k i xs c.args.counts.now.sections x no-counts n
    (ap (λ (m : FileCounts). m.sections) c.requires.counts) c.requires.within
    (c.index-sections-index.is ∙ ap (λ (ys : List Section). get_or ys i x) c.as_slice-sections.ensures)
    (ap (λ (ns : List SectionCounts). get_or ns i no-counts) c.as_slice-counted.ensures) in
    let mark : tristate_by n.checked n.items ≡ tristate_of (section_marks x) = ap (λ (m : SectionCounts). tristate_by m.checked m.items) at.counts in
    let same : ◌≡◌ {A = SectionView}
    (record (section_view_of s (record { sections = length c.as_slice-sections.result.now; editable = c.args.counts.now.editable }) c.section-key.result n.editable_before n.lines_before x) {
      toggle_box = toggle_box_of s (keys.Section c.section-key.result) (tristate_by n.checked n.items);
    })
    (section_view_of s t (section_key_of k i) n.editable_before n.lines_before x) =
    λ j. record (section_view_of s (record { sections = ap length c.as_slice-sections.ensures j; editable = ap (λ (m : FileCounts). m.editable) c.requires.counts j }) (c.section-key.ensures j) n.editable_before n.lines_before x) {
      toggle_box = toggle_box_of s (keys.Section (c.section-key.ensures j)) (mark j);
    } in
    same ∙ sym (at.view d)

pub returns-clause-editable : goal.returns-clause-editable
returns-clause-editable c =
    let at = counted-here no-state (totals_of c.args.file.now.sections) c.args.key c.args.index c.args.file.now.sections c.args.counts.now.sections
    c.index-sections-index.result no-counts (get_or c.as_slice-counted.result.now c.args.index no-counts)
    (ap (λ (n : FileCounts). n.sections) c.requires.counts) c.requires.within
    (c.index-sections-index.is ∙ ap (λ (xs : List Section). get_or xs c.args.index c.index-sections-index.result) c.as_slice-sections.ensures)
    (ap (λ (ns : List SectionCounts). get_or ns c.args.index no-counts) c.as_slice-counted.ensures) in
    omega (arith, items_room, at.before, c.requires.within, c.requires.size)

pub returns-clause-lines : goal.returns-clause-lines
returns-clause-lines c =
    let at = counted-here no-state (totals_of c.args.file.now.sections) c.args.key c.args.index c.args.file.now.sections c.args.counts.now.sections
    c.index-sections-index.result no-counts (get_or c.as_slice-counted.result.now c.args.index no-counts)
    (ap (λ (n : FileCounts). n.sections) c.requires.counts) c.requires.within
    (c.index-sections-index.is ∙ ap (λ (xs : List Section). get_or xs c.args.index c.index-sections-index.result) c.as_slice-sections.ensures)
    (ap (λ (ns : List SectionCounts). get_or ns c.args.index no-counts) c.as_slice-counted.ensures) in
    omega (arith, items_room, at.above, old_lines-fit c.args.file.now.sections, c.requires.size)
