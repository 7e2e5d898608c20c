-- Quiet turns: their steps, and the scroll that their scene leads to.
use Rattle.std.proofs.Common.{◌≡◌, ℕ, ◌+◌, true, List, [], ◌∷◌, sym, ap, ◌∙◌, subst}
use Rattle.std.specs.Prelude.{min}
use Rattle.scm_types.specs.Limits.{max_scroll}
use Rattle.scm_types.specs.declared.keys.SelectionKey.{SelectionKey}
use Rattle.scm_view.specs.Frame.{Frame, is_plain}
use Rattle.scm_view.specs.Window.{span}
use Rattle.scm_input.specs.declared.events.Event.{Event}
use Rattle.scm_input.specs.declared.events.Event.TheVariants as events
use Rattle.scm_input.specs.declared.inputs.TerminalKind.{TerminalKind}
use Rattle.scm_input.specs.Store.{Store, with_frame}
use Rattle.scm_record.specs.Session.{Session, after_frame}
use Rattle.scm_record.specs.Frames.{columns_of, rows_of, scene_of}
use Rattle.scm_record.specs.FrameQueries.{free_rows_above, scroll_to_show, scroll_to_span}
use Rattle.scm_record.specs.Run.{Setting, setting, world_in, Before, batch, Reaches, here, on}
use Rattle.scm_record.specs.Quiet.{after_ensure}
use Rattle.scm_record.proofs.FrameLemmas.{plain-is}

-- in the scene of a plain frame a key has the rows of the document
pub plain-scroll : (kind : TerminalKind) (s : Session) (w h scroll : ℕ) (key : SelectionKey) → w ≡ columns_of kind → h ≡ rows_of kind → is_plain w h s.shown.view_mode ≡ true
    → min max_scroll (scroll_to_span h scroll (free_rows_above key) (span s.shown key)) ≡ scroll_to_show (scene_of kind s) scroll key
plain-scroll kind s w h scroll key ew eh plain =
    let mode : is_plain (columns_of kind) (rows_of kind) s.shown.view_mode ≡ true =
    subst (λ n. is_plain (columns_of kind) n s.shown.view_mode ≡ true) eh (subst (λ n. is_plain n h s.shown.view_mode ≡ true) ew plain) in
    ap (λ n. min max_scroll (scroll_to_span n scroll (free_rows_above key) (span s.shown key))) eh
    ∙ ap (λ (f : Frame). min max_scroll (scroll_to_span (rows_of kind) scroll (free_rows_above key) (f.span key))) (sym (plain-is (columns_of kind) (rows_of kind) s mode))

-- a frame is drawn, and `EnsureSelectionInViewport` alone is handled
pub quiet-steps : (a : Setting) (s : Session) (frames : ℕ) → s.pending ≡ events.EnsureSelectionInViewport ∷ []
    → Reaches (Before (world_in a s frames)) (Before (world_in a (after_ensure a.kind (after_frame s)) (frames + 1)))
quiet-steps a s frames e =
    let w = world_in a (after_frame s) (frames + 1) in
    let begun : Reaches (Before (world_in a s frames)) (batch w (events.EnsureSelectionInViewport ∷ [])) =
    subst (λ (list : List Event). Reaches (Before (world_in a s frames)) (batch w list)) e (on (on here)) in
    on (on begun)

-- the same of the session that is known to follow
pub quiet-to : (a : Setting) (s t : Session) (frames : ℕ) → s.pending ≡ events.EnsureSelectionInViewport ∷ [] → t ≡ after_ensure a.kind (after_frame s)
    → Reaches (Before (world_in a s frames)) (Before (world_in a t (frames + 1)))
quiet-to a s t frames e f =
    subst (λ (x : Session). Reaches (Before (world_in a s frames)) (Before (world_in a x (frames + 1)))) (sym f) (quiet-steps a s frames e)

-- and of a store that counts the frame
pub quiet-counted : (a : Setting) (s t : Session) (store : Store) (frames : ℕ) → s.pending ≡ events.EnsureSelectionInViewport ∷ [] → t ≡ after_ensure a.kind (after_frame s) → store ≡ with_frame a.store
    → Reaches (Before (world_in a s frames)) (Before (world_in (setting a.kind a.reads a.edits store) t (frames + 1)))
quiet-counted a s t store frames e f k =
    subst (λ (y : Store). Reaches (Before (world_in a s frames)) (Before (world_in (setting a.kind a.reads a.edits y) t (frames + 1)))) (sym k) (quiet-to a s t frames e f)
