-- What drawing a view returns is its frame.
use Rattle.std.proofs.Common.{◌≡◌, ℕ, ◌+◌, ◌<◌, ◌≤◌, Bool, true, false, replicate, Option, Some, None, refl, sym, ap, subst, ◌∙◌, arith}
use Rattle.std.proofs.lemmas.Bool.{and_parts}
use Rattle.std.proofs.lemmas.Bool.Decides.{nat_tests}
use Rattle.std.proofs.lemmas.Option.{same_Some}
use Rattle.std.specs.Prelude.{ℤ, pos, min, option_map, List, ◌&&◌, nat_le, nat_lt, if◌then◌else◌}
use Rattle.std.specs.HashMap.{HashMap, IsFromIterResult}
use Rattle.scm_types.specs.declared.keys.LineKey.{LineKey}
use Rattle.scm_types.specs.Limits.{max_scroll}
use Rattle.scm_cells.specs.Screen.{Screen, blank_screen}
use Rattle.scm_render.specs.Canvas.{Row, Sight, paint_rows}
use Rattle.scm_render.specs.Picture.{part}
use Rattle.scm_render.specs.Places.{screen_rect, whole_sight, with_times}
use Rattle.scm_render.specs.declared.trace.DrawnRect.{DrawnRect}
use Rattle.scm_render.specs.Laws.{HasLastBoxes}
use Rattle.scm_view.specs.AppView.{app_picture, app_view_of, AppsAreDrawnAlike, ShowsSession}
use Rattle.scm_document.specs.PieceOwners.{line_owner}
use Rattle.scm_layout_index.specs.LineRows.{line_below}
use Rattle.scm_widgets.specs.Blanks.{blank_row}
use Rattle.scm_widgets.specs.Clicks.{is_clickable}
use Rattle.scm_view.specs.Frame.{Frame, frame_of_document, frame_of_picture, frame_of_view, is_plain, picture_of}
use Rattle.scm_view.specs.Laws.{ClearedGridsAreScreens}
use Rattle.scm_widgets.specs.SameIds.{same_id}
use Rattle.scm_widgets.specs.Screens.{screen, sight}
use Rattle.scm_view.specs.ViewState.{ViewState}
use Rattle.scm_view.specs.Window.{owner, rows_of_box, height_of_box, window}
use Rattle.scm_view.specs.declared.app_view.AppView.{AppView}
use Rattle.scm_document.specs.declared.commit_view.CommitViewMode.{CommitViewMode}
use Rattle.scm_document.specs.declared.commit_view.CommitViewMode.TheVariants.{Inline}
use Rattle.scm_widgets.specs.declared.ids.ComponentId.{ComponentId}
use Rattle.scm_widgets.specs.declared.ids.ComponentId.TheVariants as ids
use Rattle.scm_input.specs.declared.inputs.TerminalKind.{TerminalKind}
use Rattle.scm_layout_index.specs.declared.layout_index.LayoutIndex.{LayoutIndex}
use Rattle.scm_layout_index.specs.declared.line_rows.LineRows.{LineRows}
use Rattle.scm_layout_index.specs.LayoutIndex.{IsLayoutIndexOf}
use Rattle.scm_record.specs.FrameLines.{first_rows}
use Rattle.scm_record.specs.declared.frame.Places.{Places}
use Rattle.scm_record.specs.FrameQueries.{hit}
use Rattle.scm_record.specs.Frames.{IsIndexFor, IsMapOf, KnowsPlaces, Scene, columns_of, rows_of, scene_of, frame_of}
use Rattle.scm_record.specs.Session.{Session}

-- a cleared grid is the screen
pub cleared-screen : ClearedGridsAreScreens → (w h s : ℕ) → screen_rect (blank_screen w h) (pos 0) (pos s) ≡ screen w h s
cleared-screen laws w h s = ap (λ (v : Sight). v.rect) (laws.cleared w h s)

module _ {S : Type 0} where
  view-map : (w h s : ℕ) (a : AppView) (v : Sight) (boxes : HashMap ComponentId DrawnRect S) → HasLastBoxes same_id is_clickable boxes → v ≡ sight w h s
      → IsFromIterResult same_id (with_times (part ids.App (app_picture a v (pos 0) (pos 0))).boxes) boxes
      → IsMapOf w (frame_of_view w h s a) boxes
  unfolding frame_of_picture
  view-map w h s a v boxes last e made =
      let bs = (part ids.App (picture_of w h s a)).boxes in
      let by : IsFromIterResult same_id (with_times bs) boxes = rw e at made in
      record {
        owner = λ y x p o t. last.targets (pos y) (pos x) o t bs by;
        span = λ key. ap (option_map rows_of_box) (last.rects bs by (ids.SelectableItem key));
        extent = ap height_of_box (last.rects bs by ids.App);
      }

  -- what drawing a view on a cleared grid returns is the map of its frame
  pub drawn_is_map : ClearedGridsAreScreens → (w h s : ℕ) (a : AppView) (grid : Screen) (y : ℤ) (boxes : HashMap ComponentId DrawnRect S) → HasLastBoxes same_id is_clickable boxes → grid ≡ blank_screen w h → y ≡ pos s
      → IsFromIterResult same_id (with_times (part ids.App (app_picture a (whole_sight grid (pos 0) y) (pos 0) (pos 0))).boxes) boxes
      → IsMapOf w (frame_of_view w h s a) boxes
  drawn_is_map laws w h s a grid y boxes last cleared place made =
      let m = rw (cleared, place) at made in
      view-map w h s a (whole_sight (blank_screen w h) (pos 0) (pos s)) boxes last (laws.cleared w h s) m

-- and what it leaves are the rows
sight-rows : (w h s : ℕ) (a : AppView) (v : Sight) (rows : List Row) → v ≡ sight w h s
    → rows ≡ paint_rows v.rect (app_picture a v (pos 0) (pos 0)).puts (pos s) (replicate h (blank_row w))
    → rows ≡ (frame_of_view w h s a).rows
unfolding frame_of_picture
sight-rows w h s a v rows e drawn = rw e at drawn

pub drawn-rows : ClearedGridsAreScreens → (w h s : ℕ) (a : AppView) (grid : Screen) (y : ℤ) (rows : List Row) → grid ≡ blank_screen w h → y ≡ pos s
    → rows ≡ paint_rows (screen_rect grid (pos 0) y) (app_picture a (whole_sight grid (pos 0) y) (pos 0) (pos 0)).puts y grid.rows
    → rows ≡ (frame_of_view w h s a).rows
drawn-rows laws w h s a grid y rows cleared place drawn =
    let d = rw (cleared, place) at drawn in
    sight-rows w h s a (whole_sight (blank_screen w h) (pos 0) (pos s)) rows (laws.cleared w h s) d

-- the frame of a view that shows a session is that of the session's view
pub view-is : AppsAreDrawnAlike → (w h scroll : ℕ) (a : AppView) (shown : ViewState) → ShowsSession a shown → frame_of_view w h scroll a ≡ frame_of_view w h scroll (app_view_of shown)
view-is alike w h scroll a shown shows = ap (frame_of_picture w h scroll) (alike shown a (sight w h scroll) (pos 0) (pos 0) shows)

pub plain-mode : (w h : ℕ) (mode : CommitViewMode) → mode ≡ Inline → 10 ≤ w → 2 ≤ h → is_plain w h mode ≡ true
plain-mode w h mode e p q = ap (is_plain w h) e ∙ grind (arith, nat_tests)

-- a plain frame is that of its document
pub plain-frame : (w h : ℕ) (drawn : Session) → drawn.shown.view_mode ≡ Inline → 10 ≤ w → 2 ≤ h → frame_of w h drawn ≡ frame_of_document w h drawn.scroll drawn.shown
unfolding frame_of
plain-frame w h drawn e p q = rw (plain-mode w h drawn.shown.view_mode e p q) refl

-- the frame of a session is that of its document where it is plain, and else that of its view
pub plain-is : (w h : ℕ) (s : Session) → is_plain w h s.shown.view_mode ≡ true → frame_of w h s ≡ frame_of_document w h s.scroll s.shown
unfolding frame_of
plain-is w h s e = rw e refl

pub free-is : (w h : ℕ) (s : Session) → is_plain w h s.shown.view_mode ≡ false → frame_of w h s ≡ frame_of_view w h s.scroll (app_view_of s.shown)
unfolding frame_of
free-is w h s e = rw e refl

-- ---- what is drawn shows the scene

-- rows, and what is kept of where things stand, are of a frame
abbrev pub Answers : ℕ → Frame → List Row → Places → Type 0
Answers w frame rows places = (rows ≡ frame.rows) × KnowsPlaces w frame places

shows : (kind : TerminalKind) (s : Session) (shown : ViewState) (scroll w h : ℕ) (b : Bool) (frame : ℕ → ℕ → ℕ → ViewState → Frame) (rows : List Row) (places : Places)
    → w ≡ columns_of kind → h ≡ rows_of kind → s.shown ≡ shown → s.scroll ≡ scroll → is_plain w h shown.view_mode ≡ b
    → (is_plain (columns_of kind) (rows_of kind) s.shown.view_mode ≡ b → frame_of (columns_of kind) (rows_of kind) s ≡ frame (columns_of kind) (rows_of kind) s.scroll s.shown)
    → Answers w (frame w h scroll shown) rows places → Answers (columns_of kind) (scene_of kind s).frame rows places
shows kind s shown scroll w h b frame rows places ew eh same place mode is here =
    let there : is_plain (columns_of kind) (rows_of kind) s.shown.view_mode ≡ b =
    subst (λ (k : ViewState). is_plain (columns_of kind) (rows_of kind) k.view_mode ≡ b) (sym same)
    (subst (λ n. is_plain (columns_of kind) n shown.view_mode ≡ b) eh (subst (λ n. is_plain n h shown.view_mode ≡ b) ew mode)) in
    subst (λ f. Answers (columns_of kind) f rows places) (sym (is there))
    (subst (λ (k : ViewState). Answers (columns_of kind) (frame (columns_of kind) (rows_of kind) s.scroll k) rows places) (sym same)
    (subst (λ n. Answers (columns_of kind) (frame (columns_of kind) (rows_of kind) n shown) rows places) (sym place)
    (subst (λ n. Answers (columns_of kind) (frame (columns_of kind) n scroll shown) rows places) eh
    (subst (λ n. Answers n (frame n h scroll shown) rows places) ew here))))

pub plain-shows : (kind : TerminalKind) (s : Session) (shown : ViewState) (scroll w h : ℕ) (rows : List Row) (places : Places) → w ≡ columns_of kind → h ≡ rows_of kind
    → s.shown ≡ shown → s.scroll ≡ scroll → is_plain w h shown.view_mode ≡ true
    → rows ≡ window w h scroll shown → KnowsPlaces w (frame_of_document w h scroll shown) places
    → Answers (columns_of kind) (scene_of kind s).frame rows places
plain-shows kind s shown scroll w h rows places ew eh same place plain drawn kept =
    shows kind s shown scroll w h true frame_of_document rows places ew eh same place plain (plain-is (columns_of kind) (rows_of kind) s) (drawn, kept)

pub free-shows : (kind : TerminalKind) (s : Session) (shown : ViewState) (scroll w h : ℕ) (rows : List Row) (places : Places) → w ≡ columns_of kind → h ≡ rows_of kind
    → s.shown ≡ shown → s.scroll ≡ scroll → is_plain w h shown.view_mode ≡ false
    → rows ≡ (frame_of_view w h scroll (app_view_of shown)).rows → KnowsPlaces w (frame_of_view w h scroll (app_view_of shown)) places
    → Answers (columns_of kind) (scene_of kind s).frame rows places
free-shows kind s shown scroll w h rows places ew eh same place free drawn kept =
    shows kind s shown scroll w h false (λ w h scroll shown. frame_of_view w h scroll (app_view_of shown)) rows places ew eh same place free
    (free-is (columns_of kind) (rows_of kind) s) (drawn, kept)

-- what an index answers on a row of the screen is what a click there hits
index-hit : (scene : Scene) (index : LayoutIndex) (s row x y : ℕ) (o : Option ComponentId) (is : IsIndexFor scene.width scene.frame index) → y ≡ s + row → (nat_lt row scene.height && nat_le s max_scroll) ≡ true
    → o ≡ (if nat_lt x scene.width then owner scene.width is.height is.scroll is.shown y x else None) → o ≡ hit scene s row x
index-hit scene index s row x y o is e there owned =
    let parts = and_parts (nat_lt row scene.height) (nat_le s max_scroll) there in
    let own : Option ComponentId = owner scene.width is.height is.scroll is.shown (s + row) x in
    let frame : scene.frame.owner (s + row) x ≡ own = ap (λ (f : Frame). f.owner (s + row) x) is.is_frame in
    owned
    ∙ ap (λ (n : ℕ). if nat_lt x scene.width then owner scene.width is.height is.scroll is.shown n x else None) e
    ∙ go (nat_lt x scene.width) (nat_lt row scene.height) (nat_le s max_scroll) own (scene.frame.owner (s + row) x) parts.0 parts.1 (sym frame)
  where
    go : (b c d : Bool) (p q : Option ComponentId) → c ≡ true → d ≡ true → p ≡ q → ◌≡◌ {A = Option ComponentId} (if b then p else None) (if (b && c) && d then q else None)
    go true c d p q is_row is_low same = rw (is_row, is_low) same
    go false c d p q is_row is_low same = refl

pub run-hit : (scene : Scene) (index : LayoutIndex) (s row x y : ℕ) (o : Option ComponentId) → IsIndexFor scene.width scene.frame index → y ≡ s + row → (nat_lt row scene.height && nat_le s max_scroll) ≡ true
    → ((w h t : ℕ) (shown : ViewState) → IsLayoutIndexOf w h t shown index → o ≡ (if nat_lt x w then owner w h t shown y x else None))
    → o ≡ hit scene s row x
run-hit scene index s row x y o is e there owned =
    index-hit scene index s row x y o is e there (owned scene.width is.height is.scroll is.shown is.is_index)

-- on the row of a changed line it is the line's checkbox or the line
pub line-hit : (scene : Scene) (index : LayoutIndex) (s row x y : ℕ) (key : LineKey) → IsIndexFor scene.width scene.frame index → y ≡ s + row → (nat_lt row scene.height && nat_le s max_scroll) ≡ true
    → x < scene.width → ((w h t : ℕ) (shown : ViewState) → IsLayoutIndexOf w h t shown index → x < w → owner w h t shown y x ≡ Some (line_owner key x))
    → hit scene s row x ≡ Some (line_owner key x)
line-hit scene index s row x y key is e there within owned =
    let inside : nat_lt x scene.width ≡ true = grind (arith, nat_tests) in
    sym (index-hit scene index s row x y (Some (line_owner key x)) is e there
    (rw inside (sym (owned scene.width is.height is.scroll is.shown is.is_index within))))

-- on a row below the document it is nothing
pub bare-hit : (scene : Scene) (index : LayoutIndex) (s row x y : ℕ) → IsIndexFor scene.width scene.frame index → y ≡ s + row → (nat_lt row scene.height && nat_le s max_scroll) ≡ true
    → ((w h t : ℕ) (shown : ViewState) → IsLayoutIndexOf w h t shown index → x < w → owner w h t shown y x ≡ None)
    → hit scene s row x ≡ None
bare-hit scene index s row x y is e there bare = sym (index-hit scene index s row x y None is e there (go (nat_lt x scene.width) refl))
  where
    go : (b : Bool) → nat_lt x scene.width ≡ b → ◌≡◌ {A = Option ComponentId} None (if b then owner scene.width is.height is.scroll is.shown y x else None)
    go true p = let within : x < scene.width = grind (arith, nat_tests) in sym (bare scene.width is.height is.scroll is.shown is.is_index within)
    go false p = refl

-- ---- the first of some rows

-- the first of the lines below a line is the line
pub first-below : (k : LineKey) → line_below k 0 ≡ k
first-below k = let same : k.line_idx + 0 ≡ k.line_idx = omega arith in ap (λ (n : ℕ). record k { line_idx = n }) same

-- lines on the first of their rows begin with the same line
pub record FirstOf (o : Option LineRows) (most : ℕ) (few : LineRows) : Type 0 where
  pub lines : LineRows
  pub is : o ≡ Some lines
  pub first : lines.first ≡ few.first
  pub more : few.rows ≤ lines.rows
  pub within : few.rows ≤ most

pub first-of : (o : Option LineRows) (most : ℕ) (few : LineRows) → first_rows o most ≡ Some few → FirstOf o most few
first-of None most few e = absurd (cc e)
first-of (Some lines) most few e =
    let same : record lines { rows = min lines.rows most } ≡ few = same_Some _ few e in
    let rows : min lines.rows most ≡ few.rows = ap (λ (l : LineRows). l.rows) same in
    record {
      lines = lines;
      is = refl;
      first = ap (λ (l : LineRows). l.first) same;
      more = omega arith;
      within = omega arith;
    }
