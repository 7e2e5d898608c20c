-- Laws on commits and grids: drawing a commit is in range and paints its document, and a cleared grid is a screen of the document.
use Rattle.std.specs.Prelude.{◌≡◌, ℕ, ◌≤◌, ◌<◌, ℤ, pos, List, [], ◌∷◌, ◌++◌, Bool, true}
use Rattle.scm_types.specs.Limits.{is_accepted_state, max_scroll}
use Rattle.scm_cells.specs.Rect.{RectInRange}
use Rattle.scm_cells.specs.Screen.{blank_screen}
use Rattle.scm_render.specs.Picture.{PictureInRange}
use Rattle.scm_render.specs.Canvas.{Row, Sight, paint}
use Rattle.scm_render.specs.Drawing.{reach, has_row}
use Rattle.scm_render.specs.Hits.{IsLawful, latest}
use Rattle.scm_render.specs.Places.{whole_sight}
use Rattle.scm_types.specs.declared.keys.FileKey.{FileKey}
use Rattle.scm_widgets.specs.declared.ids.ComponentId.{ComponentId}
use Rattle.scm_document.specs.declared.commit_view.CommitView.{CommitView}
use Rattle.scm_document.specs.Rows.{ShownSection, document_of}
use Rattle.scm_view.specs.ViewState.{ViewState, Shows}
use Rattle.scm_document.specs.Pictures.{mask_row, sections_picture, commit_picture}
use Rattle.scm_widgets.specs.Layers.{strip_at, shown_by}
use Rattle.scm_document.specs.Strips.{sections_strips, document_layers, pinned_layer}
use Rattle.scm_document.specs.Owners.{AreSectionsOf}
use Rattle.scm_widgets.specs.Clicks.{is_clickable}
use Rattle.scm_document.specs.ScrollBounds.{IsInScrollBounds, SightIsInScrollBounds}
use Rattle.scm_widgets.specs.Screens.{screen, sight}
use Rattle.scm_document.specs.OpenSights.{IsOpen}

-- All that a view draws is in range, if it shows a commit of a session with an accepted state.
abbrev pub CommitsAreInRange : Type 0
CommitsAreInRange =
    (shown : ViewState) (commit : ℕ) (v : CommitView) (s : Sight) (x y : ℤ) → is_accepted_state shown.state ≡ true → Shows v shown commit
    → SightIsInScrollBounds s → IsInScrollBounds x → IsInScrollBounds y → PictureInRange (commit_picture v s x y)

-- Drawing a commit from row `top` on makes each row inside the mask what the document's strips make of it, with the pinned header over it.
-- The mask has `h` rows from row `m` on.
abbrev pub DocumentsArePainted : Type 0
DocumentsArePainted =
    (v : CommitView) (s : Sight) (w h m top : ℕ) → 10 ≤ w → w ≤ 65535 → h ≤ 65535 → IsOpen s w → (reach s).height ≡ h → mask_row s ≡ pos m
    → (z : ℕ) (row : Row) → has_row (reach s) (pos z) ≡ true
    → paint s.rect (commit_picture v s (pos 0) (pos top)).puts (pos z) row
    ≡ shown_by (document_layers w h m top (document_of v) ++ pinned_layer w m top (document_of v) ∷ []) z row

-- The latest clickable box of a file's sections at a place is that of the owner that the sections' strips name. The sections have the ids
-- of their keys and are drawn one below another from row `top` on.
abbrev pub SectionsOwnTheirColumns : Type 0
SectionsOwnTheirColumns =
    (same : ComponentId → ComponentId → Bool) → IsLawful same
    → (f : FileKey) (ps : List ShownSection) (s : Sight) (w top x : ℕ) → 10 ≤ w → IsOpen s w → AreSectionsOf f 0 ps → x < w
    → (z : ℕ) → latest same is_clickable (sections_picture ps s (pos 2) (pos top)).boxes (pos z) (pos x)
    ≡ (strip_at z (record { first = top; strips = sections_strips w ps })).owner x

-- A cleared grid of `w` columns and `h` rows whose first row shows row `s` of the document is the screen there. It is in range unless it is
-- too large or scrolled too far.
pub record ClearedGridsAreScreens : Type 0 where
  pub cleared : (w h s : ℕ) → whole_sight (blank_screen w h) (pos 0) (pos s) ≡ sight w h s
  pub in_range : (w h s : ℕ) → w ≤ 65535 → h ≤ 65535 → s ≤ max_scroll → RectInRange (screen w h s)
