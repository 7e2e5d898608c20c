use Rattle.std.proofs.Common.{◌≡◌, take}
use Rattle.scm_view.specs.ViewState.{section_views_of, totals_of}
use Rattle.scm_view_state.specs.Views.{lent_sections}
use Rattle.scm_view_state.proofs.section_views.counted_views.Given as goal

-- the views so far are those of the sections up to the index
abbrev pub invariant-loop-index : goal.invariant-loop-index
invariant-loop-index l =
    lent_sections l.views.items ≡ take l.index (section_views_of l.view_state (totals_of l.file.sections) l.key 0 0 0 l.file.sections)
