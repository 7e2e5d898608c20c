-- The fold of a file, computed from the views of its sections.
use Rattle.std.specs.Prelude.{Bool, true, false, if◌then◌else◌}
use Rattle.scm_types.specs.declared.tristate.Tristate.{Tristate}
use Rattle.scm_types.specs.declared.tristate.Tristate.TheVariants as tristate
use Rattle.scm_rows.specs.Lines.{is_changed}
use Rattle.scm_document.specs.declared.section_view.SectionView.{SectionView}

-- whether a fold is wholly open
abbrev pub is_full : Tristate → Bool
is_full tristate.False = false
is_full tristate.Partial = false
is_full tristate.True = true

-- whether the section of a view has no folded changed lines
abbrev pub has_no_fold : SectionView → Bool
has_no_fold v = if is_changed v.section.now then is_full v.expand_box.tristate else true

-- the fold of a file: whether it is expanded, and whether all its sections of changed lines are
abbrev pub fold_of : Bool → Bool → Tristate
fold_of is_expanded are_all =
    if is_expanded then (if are_all then tristate.True else tristate.Partial) else tristate.False
