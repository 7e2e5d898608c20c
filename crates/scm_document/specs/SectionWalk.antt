-- The sections of a file that have rows, from the top down.
use Rattle.std.specs.Prelude.{◌≡◌, ℕ, ◌+◌, ◌<◌, List, [], ◌∷◌, length, drop, Bool, if◌then◌else◌}
use Rattle.scm_document.specs.declared.section_view.SectionView.{SectionView}
use Rattle.scm_document.specs.declared.section_walk.SectionWalk.{SectionWalk}
use Rattle.scm_rows.specs.Heights.{is_section_visible}
use Rattle.scm_document.specs.Rows.{is_open, is_first_open}

-- the views of sections that have rows; `before` says whether the section above the first is open
abbrev pub visible_views : Bool → List SectionView → List SectionView
visible_views before [] = []
visible_views before (v ∷ vs) =
    if is_section_visible before v.section.now (is_first_open vs) then v ∷ visible_views (is_open v) vs else visible_views (is_open v) vs

-- v is the first of these sections that has rows, and has index i
pub record IsFirstVisible (before : Bool) (views : List SectionView) (i : ℕ) (v : SectionView) : Type 0 where
  pub within : i < length views
  pub rest : visible_views before views ≡ v ∷ visible_views (is_open v) (drop (i + 1) views)

-- the sections that a walk has not reached
abbrev pub sections_left : SectionWalk → List SectionView
sections_left walk = visible_views walk.is_above_open walk.views.now
