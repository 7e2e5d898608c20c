-- The numbers that the views of a session have, by the counts of its layout.
use Rattle.std.specs.Prelude.{◌≡◌, ℕ, ◌+◌, List, [], ◌∷◌}
use Rattle.scm_document.specs.declared.file_view.FileView.{FileView}
use Rattle.scm_document.specs.declared.section_view.SectionView.{SectionView}
use Rattle.scm_view.specs.ViewState.{ViewState, file_views_of}
use Rattle.scm_layout.specs.declared.file_counts.FileCounts.{FileCounts}
use Rattle.scm_layout.specs.declared.section_counts.SectionCounts.{SectionCounts}
use Rattle.scm_layout.specs.Counts.{counts_of}
use Rattle.scm_view_state.specs.Marks.{tristate_by}

-- the counts are those of the views of the sections of a file with `editable` editable sections
abbrev pub HaveSectionCountsOf : ℕ → List SectionCounts → List SectionView → Type 0
HaveSectionCountsOf editable [] [] = Unit {0}
HaveSectionCountsOf editable [] (v ∷ vs) = ⊥
HaveSectionCountsOf editable (c ∷ cs) [] = ⊥
HaveSectionCountsOf editable (c ∷ cs) (v ∷ vs) =
    (v.toggle_box.tristate ≡ tristate_by c.checked c.items)
    × (v.editable_section_num ≡ c.editable_before + 1)
    × (v.total_num_editable_sections ≡ editable)
    × (v.line_start_num ≡ c.lines_before + 1)
    × HaveSectionCountsOf editable cs vs

-- the counts are those of the views of files
abbrev pub HaveCountsOf : List FileCounts → List FileView → Type 0
HaveCountsOf [] [] = Unit {0}
HaveCountsOf [] (v ∷ vs) = ⊥
HaveCountsOf (c ∷ cs) [] = ⊥
HaveCountsOf (c ∷ cs) (v ∷ vs) =
    (v.toggle_box.tristate ≡ tristate_by c.checked c.items)
    × HaveSectionCountsOf c.editable c.sections v.section_views
    × HaveCountsOf cs vs

-- the counts of a session's layout are those of its views
abbrev pub CountsAreOfViews : Type 0
CountsAreOfViews =
    (s : ViewState) (commit : ℕ)
    → HaveCountsOf (counts_of s.state.files).files (file_views_of s commit 0 s.state.files)
