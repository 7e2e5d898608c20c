-- The view of a section by its counts and those of its file. The rows of the document are defined by views of sections.
use Rattle.scm_types.specs.declared.keys.SelectionKey.TheVariants as keys
use Rattle.scm_document.specs.declared.section_view.SectionView.{SectionView}
use Rattle.scm_view.specs.ViewState.{ViewState, section_view_of, toggle_box_of}
use Rattle.scm_view_state.specs.Marks.{tristate_by}
use Rattle.scm_screen.specs.declared.section_rows.CountedSection.{CountedSection}

-- the view of section c in view state s; its mark is that of its counts
abbrev pub view_of : ViewState → CountedSection → SectionView
view_of s c =
    record (section_view_of s (record { sections = c.total; editable = c.editable }) c.key c.counts.editable_before c.counts.lines_before c.section.now) {
      toggle_box = toggle_box_of s (keys.Section c.key) (tristate_by c.counts.checked c.counts.items);
    }
