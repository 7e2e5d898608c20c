-- A frame that shows a session shows it until something of it changes.
use Rattle.std.proofs.Common.{◌≡◌, ℕ, Option, sym, ap, ◌∙◌, refl, subst}
use Rattle.scm_input.specs.declared.inputs.TerminalKind.{TerminalKind}
use Rattle.scm_view.specs.ViewState.{ViewState}
use Rattle.scm_record.specs.declared.frame.DrawnFrame.{DrawnFrame}
use Rattle.scm_record.specs.Session.{Session, after_frame, with_scroll, without_pending}
use Rattle.scm_record.specs.Step.{Change, change}
use Rattle.scm_record.specs.Change.{stays}
use Rattle.scm_record.specs.declared.session.Flow.{Flow}
use Rattle.scm_input.specs.declared.events.Event.{Event}
use Rattle.scm_view.specs.Frame.{Frame}
use Rattle.scm_record.specs.Frames.{HasSize, IsSceneOf, Scene, columns_of, rows_of, scene_of, frame_of}
use Rattle.scm_record.specs.FrameQueries.{scroll_to_show}
use Rattle.scm_record.specs.Quiet.{after_ensure}
use Rattle.scm_record.specs.RunContracts.{IsCurrent}

-- sessions that show the same as far down have one frame
pub same-frame : (w h : ℕ) (s t : Session) → t.shown ≡ s.shown → t.scroll ≡ s.scroll → frame_of w h t ≡ frame_of w h s
unfolding frame_of
same-frame w h s t e f = rw (e, f) refl

-- what shows a session on one screen shows it on any other of the same size
pub shown-current : (frame : DrawnFrame) (kind : TerminalKind) (s : Session) → HasSize kind frame → IsSceneOf (scene_of kind s) frame → IsCurrent s frame
shown-current frame kind s sized shown = λ other t e f also.
    let scene : ℕ → ℕ → Frame → Option ℕ → Scene = λ w h drawn menu. record { width = w; height = h; frame = drawn; open_menu = menu } in
    let wide : columns_of other ≡ columns_of kind = sym also.width ∙ sized.width in
    let high : rows_of other ≡ rows_of kind = sym also.height ∙ sized.height in
    let same : scene_of other t ≡ scene_of kind s =
    ap (λ (w : ℕ). scene w (rows_of other) (frame_of w (rows_of other) t) t.shown.open_menu) wide
    ∙ ap (λ (h : ℕ). scene (columns_of kind) h (frame_of (columns_of kind) h t) t.shown.open_menu) high
    ∙ ap (λ (drawn : Frame). scene (columns_of kind) (rows_of kind) drawn t.shown.open_menu) (same-frame (columns_of kind) (rows_of kind) s t e f)
    ∙ ap (λ (k : ViewState). scene (columns_of kind) (rows_of kind) (frame_of (columns_of kind) (rows_of kind) s) k.open_menu) e in
    subst (λ (x : Scene). IsSceneOf x frame) (sym same) shown

-- and shows it still where neither what is shown nor the scroll has changed
pub current-still : (frame : DrawnFrame) (s t : Session) → t.shown ≡ s.shown → t.scroll ≡ s.scroll → IsCurrent s frame → IsCurrent t frame
current-still frame s t e f current = λ kind u g h sized. current kind u (g ∙ e) (h ∙ f) sized

-- as it does once what was pending is taken after a frame
pub current-after : (frame : DrawnFrame) (kind : TerminalKind) (t u : Session) → u ≡ without_pending (after_frame t) → IsSceneOf (scene_of kind (after_frame t)) frame → IsCurrent u frame
current-after frame kind t u e h =
    current-still frame (after_frame t) u (ap (λ (s : Session). s.shown) e) (ap (λ (s : Session). s.scroll) e)
    (shown-current frame kind (after_frame t) (record { width = h.width; height = h.height }) h)

-- and after an event that leaves the session as it is
pub current-kept : (frame : DrawnFrame) (scene : Scene) (s t : Session) (event : Event) (flow : Flow) → change scene s event ≡ stays s → change scene s event ≡ record { session = t; flow = flow }
    → IsCurrent s frame → IsCurrent t frame
current-kept frame scene s t event flow kept is current =
    let same : t ≡ s = ap (λ (c : Change). c.session) (sym is ∙ kept) in
    current-still frame s t (ap (λ (u : Session). u.shown) same) (ap (λ (u : Session). u.scroll) same) current

-- a frame that shows an equal session, and that an equal frame has the size of
pub seen-same : (kind : TerminalKind) (s t : Session) (frame sized drawn : DrawnFrame) → t ≡ s → sized ≡ frame → HasSize kind frame
    → ((other : TerminalKind) → HasSize other sized → IsSceneOf (scene_of other (after_frame t)) drawn) → IsSceneOf (scene_of kind (after_frame s)) drawn
seen-same kind s t frame sized drawn same same_frame size shown =
    subst (λ (x : Session). IsSceneOf (scene_of kind (after_frame x)) drawn) same (shown kind (subst (HasSize kind) (sym same_frame) size))

-- the scroll to the selection after a frame
pub ensured : (kind : TerminalKind) (s u v : Session) → u ≡ without_pending (after_frame s)
    → v ≡ with_scroll u (scroll_to_show (scene_of kind (after_frame s)) u.scroll u.shown.selection) → v ≡ after_ensure kind (after_frame s)
ensured kind s u v drawn scrolled =
    scrolled ∙ ap (λ (x : Session). with_scroll x (scroll_to_show (scene_of kind (after_frame s)) x.scroll x.shown.selection)) drawn

-- the same of an equal session and an equal frame
pub scrolls-same : (scene : Scene) (u t v : Session) (frame f : DrawnFrame) → t ≡ u → f ≡ frame → IsSceneOf scene frame
    → ((other : Scene) → IsSceneOf other f → v ≡ with_scroll t (scroll_to_show other t.scroll t.shown.selection))
    → v ≡ with_scroll u (scroll_to_show scene u.scroll u.shown.selection)
scrolls-same scene u t v frame f same same_frame seen scrolls =
    scrolls scene (subst (IsSceneOf scene) (sym same_frame) seen)
    ∙ ap (λ (x : Session). with_scroll x (scroll_to_show scene x.scroll x.shown.selection)) same
