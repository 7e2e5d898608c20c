-- What was drawn last: the frame and the scene of a session, and what the code keeps of them.
use Rattle.std.specs.Prelude.{◌≡◌, ℕ, ◌<◌, pos, Bool, true, false, if◌then◌else◌, length, min, Option, None, Some, option_map}
use Rattle.std.specs.HashMap.{HashMap, get}
use Rattle.scm_cells.specs.declared.rect.Rect.{Rect}
use Rattle.scm_render.specs.Target.{IsTargetOf}
use Rattle.scm_render.specs.declared.trace.DrawnRect.{DrawnRect}
use Rattle.scm_view.specs.AppView.{app_view_of}
use Rattle.scm_widgets.specs.Clicks.{is_clickable}
use Rattle.scm_view.specs.Frame.{Frame, frame_of_document, frame_of_view, is_plain}
use Rattle.scm_widgets.specs.SameIds.{same_id}
use Rattle.scm_view.specs.ViewState.{ViewState}
use Rattle.scm_view.specs.Window.{rows_of_box, height_of_box}
use Rattle.scm_types.specs.declared.keys.SelectionKey.{SelectionKey}
use Rattle.scm_widgets.specs.declared.ids.ComponentId.{ComponentId}
use Rattle.scm_widgets.specs.declared.ids.ComponentId.TheVariants as ids
use Rattle.scm_input.specs.declared.inputs.TerminalKind.{TerminalKind}
use Rattle.scm_input.specs.declared.inputs.TerminalKind.TheVariants.{Testing}
use Rattle.scm_layout_index.specs.declared.layout_index.LayoutIndex.{LayoutIndex}
use Rattle.scm_layout_index.specs.declared.row_owners.RowOwners.{RowOwners}
use Rattle.scm_layout_index.specs.LayoutIndex.{AreRowOwners, IsLayoutIndexOf}
use Rattle.scm_record.specs.declared.frame.DrawnFrame.{DrawnFrame}
use Rattle.scm_record.specs.declared.frame.Places.{Places}
use Rattle.scm_record.specs.declared.frame.Places.TheVariants.{Plain, Free}
use Rattle.scm_record.specs.declared.free_places.FreePlaces.{FreePlaces}
use Rattle.scm_record.specs.FreePlaces.{AreShown}
use Rattle.scm_record.specs.Session.{Session}

-- ---- the frame of a session

-- the frame of a session on a screen of `w` columns and `h` rows: by its document if plain, otherwise by its view's picture
unfoldable pub frame_of : ℕ → ℕ → Session → Frame
frame_of w h drawn =
    if is_plain w h drawn.shown.view_mode
    then frame_of_document w h drawn.scroll drawn.shown
    else frame_of_view w h drawn.scroll (app_view_of drawn.shown)

-- ---- scenes

-- the width of the screen, in columns
abbrev pub columns_of : TerminalKind → ℕ
columns_of (Testing width height) = min width 65535

-- the height of the screen, in rows
abbrev pub rows_of : TerminalKind → ℕ
rows_of (Testing width height) = min height 65535

-- What the steps see of the session last drawn: the screen's size, the frame and the open menu. A `Frame` is the drawing alone,
-- a `DrawnFrame` is what the code keeps of a scene.
pub record Scene : Type 0 where
  -- the screen's size, in columns and rows
  pub width : ℕ
  pub height : ℕ
  -- the rows of the screen, and where each component is
  pub frame : Frame
  -- the index of the menu that was open, if any
  pub open_menu : Option ℕ

-- the scene of the session `drawn` on the screen `kind`
abbrev pub scene_of : TerminalKind → Session → Scene
scene_of kind drawn = record {
  width = columns_of kind;
  height = rows_of kind;
  frame = frame_of (columns_of kind) (rows_of kind) drawn;
  open_menu = drawn.shown.open_menu;
}

-- ---- what the code keeps of a frame

-- the grid of `drawn` has the size of the screen `kind`
pub record HasSize (kind : TerminalKind) (drawn : DrawnFrame) : Type 0 where
  -- in columns
  pub width : drawn.grid.width ≡ columns_of kind
  -- in rows
  pub height : length drawn.grid.rows ≡ rows_of kind

module _ {S : Type 0} where
  -- the rectangle of the component `i` in the map `boxes`, if any
  abbrev pub rect_in : HashMap ComponentId DrawnRect S → ComponentId → Option Rect
  rect_in boxes i = option_map (λ (d : DrawnRect). d.rect) (get same_id boxes i)

  -- the map `boxes` answers like `frame`, on a screen of `w` columns
  pub record IsMapOf (w : ℕ) (frame : Frame) (boxes : HashMap ComponentId DrawnRect S) : Type 0 where
    -- a point's target among the boxes is its owner
    pub owner : (y x : ℕ) → x < w → (o : Option ComponentId) → IsTargetOf same_id is_clickable boxes (pos y) (pos x) o → o ≡ frame.owner y x
    -- each key that is drawn has a box on its rows
    pub span : (key : SelectionKey) → option_map rows_of_box (rect_in boxes (ids.SelectableItem key)) ≡ frame.span key
    -- the whole drawing has a box
    pub extent : height_of_box (rect_in boxes ids.App) ≡ frame.extent

-- `places` are those of `frame`, on a screen of `w` columns
pub record AreFreePlaces (w : ℕ) (frame : Frame) (places : FreePlaces) : Type 0 where
  -- the map of all boxes answers like `frame`
  pub map : IsMapOf w frame places.boxes
  -- beside it are the boxes that the screen showed
  pub shown : AreShown places

-- `index` is the index of a document that `frame` shows, on a screen of `w` columns
pub record IsIndexFor (w : ℕ) (frame : Frame) (index : LayoutIndex) : Type 0 where
  -- the screen's height, in rows
  pub height : ℕ
  -- the row of the document that the screen's first row shows
  pub scroll : ℕ
  -- the view state that is drawn
  pub shown : ViewState
  -- `index` is its index
  pub is_index : IsLayoutIndexOf w height scroll shown index
  -- `frame` is its frame
  pub is_frame : frame ≡ frame_of_document w height scroll shown

-- the places of components that the code keeps are those of `frame`, on a screen of `w` columns
abbrev pub KnowsPlaces : ℕ → Frame → Places → Type 0
KnowsPlaces w frame (Plain index) = IsIndexFor w frame index
KnowsPlaces w frame (Free places) = AreFreePlaces w frame places

-- `owners` are those of row `y` of the document, if they were found: what the index has on that row
abbrev pub KnowsRow : Option RowOwners → Places → ℕ → Type 0
KnowsRow None places y = Unit {0}
KnowsRow (Some owners) (Plain index) y = (owners.row ≡ y) × AreRowOwners index owners
KnowsRow (Some owners) (Free free) y = Unit {0}

-- whether the code keeps an index, and not the boxes
abbrev pub is_indexed : Places → Bool
is_indexed (Plain index) = true
is_indexed (Free places) = false

-- `scene` is what the frame `drawn` shows
pub record IsSceneOf (scene : Scene) (drawn : DrawnFrame) : Type 0 where
  -- the grid has the screen's size and shows the rows
  pub width : drawn.grid.width ≡ scene.width
  pub height : length drawn.grid.rows ≡ scene.height
  pub rows : drawn.grid.rows ≡ scene.frame.rows
  -- the places of components are kept
  pub places : KnowsPlaces scene.width scene.frame drawn.places
  -- the open menu is kept
  pub open_menu : drawn.open_menu ≡ scene.open_menu
