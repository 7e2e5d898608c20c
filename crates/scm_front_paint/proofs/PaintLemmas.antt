-- What is painted of a view.
use Rattle.std.proofs.Common.{◌≡◌, ℕ, zero, suc, ◌+◌, ◌-◌, ◌<◌, ◌≤◌, min, Bool, true, false, List, [], ◌∷◌, ◌++◌, length, map, refl, sym, ap, ap₂, ◌∙◌, subst, arith, Option, Some}
use Rattle.std.specs.Prelude.{if◌then◌else◌}
use Rattle.std.proofs.lemmas.List.{length-replicate}
use Rattle.scm_cells.specs.Counts.{no_counts}
use Rattle.scm_cells.specs.Cell.{Cell}
use Rattle.scm_cells.specs.Screen.{Screen, IsScreen}
use Rattle.scm_cells.specs.Symbols.{symbol_at}
use Rattle.scm_cells.specs.declared.style.Style.{Style}
use Rattle.scm_render.proofs.PaintLemmas.{length-painted}
use Rattle.scm_terminal.specs.Promise.{Paints}
use Rattle.scm_terminal.specs.StyledCell.{StyledCell, picture}
use Rattle.scm_input.specs.declared.inputs.TerminalKind.{TerminalKind}
use Rattle.scm_input.specs.declared.inputs.TerminalKind.TheVariants.{Testing}
use Rattle.scm_widgets.specs.declared.ids.ComponentId.{ComponentId}
use Rattle.scm_widgets.specs.Layers.{Layer}
use Rattle.scm_view.specs.Frame.{frame_of_picture, is_plain}
use Rattle.scm_view.specs.Window.{rows_from, window}
use Rattle.scm_record.specs.Session.{Session}
use Rattle.scm_types.specs.declared.keys.SelectionKey.{SelectionKey}
use Rattle.scm_record.specs.Live.{Live}
use Rattle.scm_record.specs.Painted.{screen_of}
use Rattle.scm_record.specs.Frames.{columns_of, rows_of, scene_of, frame_of}
use Rattle.scm_front_paint.specs.declared.painter.FrontPainter.{FrontPainter}
use Rattle.scm_front_paint.specs.declared.themes.Theme.{Theme}
use Rattle.scm_front_paint.specs.Blank.{PaintsLast}
use Rattle.scm_front_paint.specs.Below.{Pictures, PaintsView, known_to, pictures_of, rows_shown, session_picture, shown_style, width_of}
use Rattle.scm_front_paint.specs.Headers.{AreRows, labelled}
use Rattle.scm_front_paint.specs.Labels.{symbol_under, symbols_over}
use Rattle.scm_front_paint.specs.LineValue.{LineValue}
use Rattle.scm_front_paint.specs.Symbols.{symbols_of}
use Rattle.scm_front_paint.specs.Syntax.{Lines}
use Rattle.scm_front_paint.specs.declared.status.LeftText.{LeftText}
use Rattle.scm_front_paint.specs.Status.{left_of, right_of, status_picture}
use Rattle.scm_front_paint.specs.Words.{AreWords}
use Rattle.scm_front_paint.specs.WordsView.{columns_in}
use Rattle.scm_front_paint.specs.Pane.{is_free, offset}
use Rattle.scm_front_paint.specs.Seen.{Seen, IsSeen}
use Rattle.scm_front_paint.specs.Sideways.{sideways_picture}
use Rattle.scm_front_paint.specs.Capped.{capped}
use Rattle.scm_front_paint.specs.Cut.{IsCut}
use Rattle.scm_front_paint.proofs.SidewaysLemmas.{at-zero, cut-picture, same-symbols}

-- ---- the size

length-from : (w : ℕ) (ls : List (Layer ComponentId)) (z n : ℕ) → length (rows_from w ls z n) ≡ n
unfolding rows_from
length-from w ls z zero = refl
length-from w ls z (suc n) = ap suc (length-from w ls (suc z) n)

-- a frame has the screen's height
high-by : (b : Bool) (w h : ℕ) (s : Session) → is_plain w h s.shown.view_mode ≡ b → length (frame_of w h s).rows ≡ h
unfolding frame_of window frame_of_picture
high-by true w h s e = rw e (length-from w _ s.scroll h)
high-by false w h s e = rw e (length-painted _ _ _ _ ∙ length-replicate h _)

pub frame-high : (kind : TerminalKind) (s : Session) → length (scene_of kind s).frame.rows ≡ rows_of kind
frame-high kind s = high-by (is_plain (columns_of kind) (rows_of kind) s.shown.view_mode) (columns_of kind) (rows_of kind) s refl

-- the offset is `x` or 0
offset-few : (v : Seen) → IsSeen v → offset v.pane v.front.beneath + v.pane.width ≤ 65535
offset-few v is = few (is_free v.front.beneath)
  where
    few : (b : Bool) → (if b then v.pane.x else 0) + v.pane.width ≤ 65535
    few true = is.narrow
    few false = let n = is.narrow in omega arith

-- the terminal has the width of the view
pub width-is : (v : Seen) → IsSeen v → width_of v ≡ v.pane.width
width-is v is =
    let few = offset-few v is in
    ap (λ (k : TerminalKind). columns_of k - offset v.pane v.front.beneath) is.kind
    ∙ (let e : min (offset v.pane v.front.beneath + v.pane.width) 65535 - offset v.pane v.front.beneath ≡ v.pane.width = omega arith in e)

-- the session has the rows of the view but one
pub rows-are : (v : Seen) → IsSeen v → rows_shown v.front.beneath ≡ min (v.pane.height - 1) 65535
rows-are v is = frame-high v.front.beneath.kind v.front.beneath.session ∙ ap rows_of is.kind

pub rows-below : (v : Seen) → IsSeen v → v.pane.height ≤ 65535 → rows_shown v.front.beneath < 65535
rows-below v is h = let e = rows-are v is in omega arith

-- ---- pictures

-- two screens with the same columns and rows, under the same labels
pub same-sideways : (x : ℕ) (style : ℕ → ℕ → Style) (labels : List (Option Screen)) (s t : Screen) → s.width ≡ t.width → s.rows ≡ t.rows
    → sideways_picture x style (symbols_over labels s) ≡ sideways_picture x style (symbols_over labels t)
same-sideways x style labels s t e f =
    ap₂ (λ (w : ℕ) (rows : List (List Cell)). sideways_picture x style (symbols_over labels (record { width = w; rows = rows; counts = no_counts }))) e f

-- without labels the symbols are those of the screen
unlabelled : (x : ℕ) (style : ℕ → ℕ → Style) (s : Screen) (labels : List (Option Screen)) → length labels ≡ 0
    → sideways_picture x style (symbols_of s) ≡ sideways_picture x style (symbols_over labels s)
unlabelled x style s [] e = same-symbols x style (symbols_of s) (symbols_over [] s) refl refl (λ row c h k. refl)
unlabelled x style s (label ∷ labels) e = absurd (omega arith)

-- ---- paints

few-columns : (kind : TerminalKind) → columns_of kind ≤ 65535
few-columns (Testing width height) = omega arith

pub paints-as : (width wide : ℕ) (old next picture : List (List StyledCell)) (bytes : List ℕ) → width ≡ wide → next ≡ picture → Paints width old next bytes → Paints wide old picture bytes
paints-as width wide old next picture bytes e f p =
    subst (λ (w : ℕ). Paints w old picture bytes) e (subst (λ (rows : List (List StyledCell)). Paints width old rows bytes) f p)

-- a grid is the screen of a session
pub record IsGridOf (grid : Screen) (l : Live) : Type 0 where
  pub width : grid.width ≡ columns_of l.kind
  pub rows : grid.rows ≡ (scene_of l.kind l.session).frame.rows

module _ (style : ℕ → ℕ → Style) (labels : List (Option Screen)) (grid : Screen) (l : Live) (x : ℕ) (g : IsGridOf grid l) where
  -- at 0 the whole grid is painted
  pub whole-picture : length labels ≡ 0 → IsScreen grid → x ≡ 0 → picture style grid ≡ sideways_picture x style (symbols_over labels (screen_of l))
  whole-picture none is e =
      sym (at-zero style grid is) ∙ unlabelled 0 style grid labels none ∙ same-sideways 0 style labels grid (screen_of l) g.width g.rows
      ∙ ap (λ (n : ℕ). sideways_picture n style (symbols_over labels (screen_of l))) (sym e)

  pub whole-paints : length labels ≡ 0 → IsScreen grid → x ≡ 0 → (old : List (List StyledCell)) (bytes : List ℕ) → Paints grid.width old (picture style grid) bytes
      → Paints (columns_of l.kind - x) old (sideways_picture x style (symbols_over labels (screen_of l))) bytes
  whole-paints none is e old bytes p =
      let wide : grid.width ≡ columns_of l.kind - x = (let w = g.width in omega arith) in
      paints-as grid.width (columns_of l.kind - x) old (picture style grid) (sideways_picture x style (symbols_over labels (screen_of l))) bytes wide (whole-picture none is e) p

  -- a cut of it
  abbrev pub moved : ℕ → ℕ → Style
  moved row column = style row (capped (column + x))

  moved-is : (r c : ℕ) → c < grid.width - x → moved r c ≡ style r (x + c)
  moved-is r c h =
      let few = few-columns l.kind in
      let w = g.width in
      ap (λ (n : ℕ). style r n) (let e : capped (c + x) ≡ x + c = omega arith in e)

  pub part-picture : (cut : Screen) → IsCut cut (symbols_over labels grid) x → picture moved cut ≡ sideways_picture x style (symbols_over labels (screen_of l))
  part-picture cut is = cut-picture style moved cut (symbols_over labels grid) x moved-is is ∙ same-sideways x style labels grid (screen_of l) g.width g.rows

  pub part-paints : (cut : Screen) → IsCut cut (symbols_over labels grid) x → (old : List (List StyledCell)) (bytes : List ℕ) → Paints cut.width old (picture moved cut) bytes
      → Paints (columns_of l.kind - x) old (sideways_picture x style (symbols_over labels (screen_of l))) bytes
  part-paints cut is old bytes p =
      paints-as cut.width (columns_of l.kind - x) old (picture moved cut) (sideways_picture x style (symbols_over labels (screen_of l))) bytes
      (is.width ∙ ap (λ (n : ℕ). n - x) g.width) (part-picture cut is) p

  -- a cut of all its columns
  first-is : x ≡ 0 → (r c : ℕ) → c < grid.width - x → style r c ≡ style r (x + c)
  first-is e r c h = ap (λ (n : ℕ). style r n) (let same : c ≡ x + c = omega (arith, e) in same)

  pub first-picture : x ≡ 0 → (cut : Screen) → IsCut cut (symbols_over labels grid) x → picture style cut ≡ sideways_picture x style (symbols_over labels (screen_of l))
  first-picture e cut is =
      cut-picture style style cut (symbols_over labels grid) x (first-is e) is ∙ same-sideways x style labels grid (screen_of l) g.width g.rows

  pub first-paints : x ≡ 0 → (cut : Screen) → IsCut cut (symbols_over labels grid) x → (old : List (List StyledCell)) (bytes : List ℕ)
      → Paints cut.width old (picture style cut) bytes
      → Paints (columns_of l.kind - x) old (sideways_picture x style (symbols_over labels (screen_of l))) bytes
  first-paints e cut is old bytes p =
      paints-as cut.width (columns_of l.kind - x) old (picture style cut) (sideways_picture x style (symbols_over labels (screen_of l))) bytes
      (is.width ∙ ap (λ (n : ℕ). n - x) g.width) (first-picture e cut is) p

-- ---- a view

paints-from : (width wide : ℕ) (old known next picture : List (List StyledCell)) (bytes : List ℕ) → width ≡ wide → old ≡ known → next ≡ picture
    → Paints width old next bytes → Paints wide known picture bytes
paints-from width wide old known next picture bytes e k f p =
    subst (λ (rows : List (List StyledCell)). Paints wide rows picture bytes) k (paints-as width wide old next picture bytes e f p)

last-from : (width wide : ℕ) (old known next picture : List (List StyledCell)) (bytes : List ℕ) → width ≡ wide → old ≡ known → next ≡ picture
    → PaintsLast width old next bytes → PaintsLast wide known picture bytes
last-from width wide old known next picture bytes e k f p =
    subst (λ (rows : List (List StyledCell)). PaintsLast wide rows picture bytes) k
    (subst (λ (w : ℕ). PaintsLast w old picture bytes) e (subst (λ (rows : List (List StyledCell)). PaintsLast width old rows bytes) f p))

abbrev pictures : List (List StyledCell) → List (List StyledCell) → Pictures
pictures s t = record { session = s; status = t }

module _ (old kept new : FrontPainter) (v : Seen) (accept bytes first second : List ℕ) (l : Live) (w h x : ℕ) (theme : Theme) (lines : Lines) (anchor : SelectionKey)
    (slice items : List (Option LineValue)) (labels rows : List (Option Screen)) (left : LeftText) (right : List ℕ) where
  abbrev painted_rows : List (List StyledCell)
  painted_rows = sideways_picture x (shown_style theme anchor (map columns_in slice) lines l) (symbols_over labels (screen_of l))

  -- the labels are those that the rows show
  labels-are : labels ≡ rows → AreRows old.labels l rows → painted_rows ≡ sideways_picture x (shown_style theme anchor (map columns_in slice) lines l) (labelled old.labels l)
  labels-are e are =
      ap (λ (list : List (Option Screen)). sideways_picture x (shown_style theme anchor (map columns_in slice) lines l) (symbols_over list (screen_of l))) e
      ∙ same-symbols x (shown_style theme anchor (map columns_in slice) lines l) (symbols_over rows (screen_of l)) (labelled old.labels l) refl refl
      (λ row c h k. ap (λ (o : Option Screen). symbol_under o c (symbol_at (screen_of l).rows row c)) (are row h))

  -- what the code painted is the picture of the view
  pub paints-view : l ≡ v.front.beneath → w ≡ width_of v → h ≡ rows_shown v.front.beneath → x ≡ offset v.pane v.front.beneath
      → theme ≡ old.theme → lines ≡ old.syntax → anchor ≡ v.front.kept.anchor → slice ≡ items → AreWords l (map columns_in items) → labels ≡ rows → AreRows old.labels l rows → left ≡ left_of v.front → right ≡ right_of v.front w left x accept
      → pictures_of kept ≡ known_to old w h → PaintsLast w kept.status (status_picture w h left right) first
      → Paints (columns_of l.kind - x) kept.session.painter painted_rows second → bytes ≡ first ++ second
      → new.status ≡ status_picture w h left right → new.session.painter ≡ painted_rows → new.size ≡ Some (w, h) → new.theme ≡ theme → new.labels ≡ old.labels → new.syntax ≡ old.syntax
      → PaintsView old new v accept bytes
  paints-view le we he xe te ye ae se are labels_are label_rows left_is right_is known_is first_paints second_paints written status_new session_new sized themed kept_labels kept_syntax =
      let rows_are : painted_rows ≡ session_picture old.theme (map columns_in items) old.syntax old.labels v =
      labels-are labels_are label_rows
      ∙ ap (λ (n : ℕ). sideways_picture n (shown_style theme anchor (map columns_in slice) lines l) (labelled old.labels l)) xe
      ∙ ap (λ (t : Theme). sideways_picture (offset v.pane v.front.beneath) (shown_style t anchor (map columns_in slice) lines l) (labelled old.labels l)) te
      ∙ ap (λ (s : List (Option LineValue)). sideways_picture (offset v.pane v.front.beneath) (shown_style old.theme anchor (map columns_in s) lines l) (labelled old.labels l)) se
      ∙ ap (λ (m : Live). sideways_picture (offset v.pane v.front.beneath) (shown_style old.theme anchor (map columns_in items) lines m) (labelled old.labels m)) le
      ∙ ap (λ (key : SelectionKey). sideways_picture (offset v.pane v.front.beneath) (shown_style old.theme key (map columns_in items) lines v.front.beneath) (labelled old.labels v.front.beneath)) ae
      ∙ ap (λ (list : Lines). sideways_picture (offset v.pane v.front.beneath) (shown_style old.theme v.front.kept.anchor (map columns_in items) list v.front.beneath) (labelled old.labels v.front.beneath)) ye in
      let row :
      status_picture w h left right
      ≡ status_picture (width_of v) (rows_shown v.front.beneath) (left_of v.front)
      (right_of v.front (width_of v) (left_of v.front) (offset v.pane v.front.beneath) accept) =
      ap (λ (b : List ℕ). status_picture w h left b) right_is
      ∙ ap (λ (a : LeftText). status_picture w h a (right_of v.front w a x accept)) left_is
      ∙ ap (λ (n : ℕ). status_picture w h (left_of v.front) (right_of v.front w (left_of v.front) n accept)) xe
      ∙ ap (λ (n : ℕ). status_picture n h (left_of v.front) (right_of v.front n (left_of v.front) (offset v.pane v.front.beneath) accept)) we
      ∙ ap (λ (n : ℕ). status_picture (width_of v) n (left_of v.front) (right_of v.front (width_of v) (left_of v.front) (offset v.pane v.front.beneath) accept)) he in
      let known : pictures_of kept ≡ known_to old (width_of v) (rows_shown v.front.beneath) =
      known_is ∙ ap₂ (λ (a b : ℕ). known_to old a b) we he in
      let wide : columns_of l.kind - x ≡ width_of v = ap₂ (λ (m : Live) (n : ℕ). columns_of m.kind - n) le xe in
      record {
        words = map columns_in items;
        are_words = subst (λ (m : Live). AreWords m (map columns_in items)) le are;
        paints = record {
          first = first;
          second = second;
          written = written;
          status =
              last-from w (width_of v) kept.status _ (status_picture w h left right) _ first we (ap (λ (p : Pictures). p.status) known) row first_paints;
          session =
              paints-from (columns_of l.kind - x) (width_of v) kept.session.painter _ painted_rows _ second
              wide (ap (λ (p : Pictures). p.session) known) rows_are second_paints;
        };
        painted = ap₂ (λ (s t : List (List StyledCell)). pictures s t) (session_new ∙ rows_are) (status_new ∙ row);
        sized = sized ∙ ap₂ (λ (a b : ℕ). Some (a, b)) we he;
        same = themed ∙ te;
        same_labels = kept_labels;
        same_syntax = kept_syntax;
      }
