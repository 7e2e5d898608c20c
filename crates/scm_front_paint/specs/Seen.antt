-- The values of views.
use Rattle.std.specs.Prelude.{◌≡◌, ◌≤◌, ◌+◌, List}
use Rattle.scm_types.specs.declared.file.File.{File}
use Rattle.scm_front.specs.declared.layer.Front.{Front}
use Rattle.scm_front.specs.declared.layer.FrontEditing.{FrontEditing}
use Rattle.scm_front_paint.specs.declared.pane.Pane.{Pane}
use Rattle.scm_front_paint.specs.Pane.{kind_for}

-- a front, and where the terminal stands over it: the value of the code's `View`
pub record Seen : Type 0 where
  pub front : Front
  pub pane : Pane

-- a view by its two fields
abbrev pub seen : Front → Pane → Seen
seen front pane = record { front = front; pane = pane }

-- the files of the state that is shown
abbrev pub files_of : Seen → List File
files_of v = v.front.beneath.session.shown.state.files

-- the session is drawn on the screen for the terminal, which ends where a screen can end
pub record IsSeen (v : Seen) : Type 0 where
  pub kind : v.front.beneath.kind ≡ kind_for v.pane v.front.beneath
  pub narrow : v.pane.x + v.pane.width ≤ 65535

-- a front that waits for a message, and where the terminal stands over it: the value of the code's `ViewEditing`
pub record SeenEditing : Type 0 where
  pub beneath : FrontEditing
  pub pane : Pane

-- the terminal ends where a screen can end
abbrev pub is_narrow : Pane → Type 0
is_narrow p = p.x + p.width ≤ 65535
