-- The commands of all rows make a terminal show them, whether they are written or left out.
use Rattle.std.proofs.Common.{◌≡◌, ℕ, ◌==◌, ◌&&◌, zero, suc, ◌+◌, ◌<◌, ◌^◌, Bool, true, false, List, [], ◌∷◌, ◌++◌, length, get_or, map, refl, sym, ap, subst, ◌∙◌, arith, Option, Some, None, append_assoc, length-append}
use Rattle.std.specs.Prelude.{if◌then◌else◌}
use Rattle.std.specs.List.{All, AllZip, flat_map, list_any}
use Rattle.std.proofs.lemmas.List.{length-map, get_or-map}
use Rattle.std.proofs.lemmas.List.Elements.{All-nil, All-cons, All-head, All-tail, All-append}
use Rattle.std.proofs.lemmas.List.FromFn.{length-map-range_with_len, get_or-map-range_with_len}
use Rattle.scm_cells.specs.Cluster.{Cluster}
use Rattle.scm_cells.specs.Clusters.{IsMeasured}
use Rattle.scm_cells.specs.Row.{IsWhole, cells_of}
use Rattle.scm_cells.specs.Screen.{Screen, IsScreen}
use Rattle.scm_cells.proofs.WholeLemmas.{HasColumn}
use Rattle.scm_cells.specs.declared.style.Style.{Style}
use Rattle.scm_terminal.specs.declared.row.Row.{Row}
use Rattle.scm_terminal.specs.declared.pen.Pen.{Pen}
use Rattle.scm_terminal.specs.declared.pen.Pass.{Pass}
use Rattle.scm_terminal.specs.declared.pen.Pass.TheVariants.{Blanks, Symbols, Letters}
use Rattle.scm_terminal.specs.StyledCell.{StyledCell, First, Later, laters, HasSize, styled_row, picture}
use Rattle.scm_terminal.specs.Terminal.{Terminal, Spot, Command, MoveTo, SetStyle, Put, SetWrap, IsOfSize, IsSafe, IsNear, Symbol, bytes_of}
use Rattle.scm_terminal.specs.Reading.{read_commands}
use Rattle.scm_terminal.specs.Painting.{Line, sent_line, AreUpdates, is_style_set, move_commands, style_commands, cell_commands, pen_after, new_pen, passed, columns_in, pass_commands, row_commands, line_commands, painting, paint_commands}
use Rattle.scm_terminal.specs.Promise.{known_spots, HasChanged, MovesTo, Paints}
use Rattle.scm_terminal.specs.PainterView.{cells_of_row}
use Rattle.scm_terminal.specs.RowView.{line_of, sent_line_of}
use Rattle.scm_terminal.specs.Sent.{sent_from, sent_row, sent_picture}
use Rattle.scm_terminal.proofs.RunLemmas.{Runs, Runs-none, Runs-append, wrap-runs, terminal}
use Rattle.scm_terminal.proofs.RowLemmas.{Ends, Ends-append, over_all, places, row-runs, passes-show}
use Rattle.scm_terminal.proofs.SafeLemmas.{AreMeasured, measured-styled, paint-safe}
use Rattle.scm_terminal.proofs.AnyLemmas.{keeps-places}
use Rattle.scm_terminal.proofs.SentLemmas.{Wholes, sent-whole, length-row, row-stays, sent-lines, sent-cells, sent-read}
use Rattle.scm_terminal.proofs.AddingLemmas.{Fitting, paint-fits}
use Rattle.scm_terminal.proofs.PictureLemmas.{styled_from, styled-row, length-styled}
use Rattle.scm_terminal.proofs.ApartLemmas.{runs-near, paint-apart}
use Rattle.scm_terminal.proofs.ReadingLemmas.{read_back}
use Rattle.scm_terminal.proofs.UpdateLemmas.{line_cells, cells-lines}

-- a line shows whole symbols on `w` columns
pub record IsWholeLine (w : ℕ) (line : Line) : Type 0 where
  pub style : ℕ → Style
  pub symbols : List Cluster
  pub wide : All HasColumn symbols
  pub kept : All IsMeasured symbols
  pub shows : line.cells ≡ styled_from style 0 (flat_map cells_of symbols)
  pub size : length line.cells ≡ w

-- what stood on a row before it is painted: anything, or what it shows if it is left out
abbrev pub Stood : ℕ → Line → List Spot → Type 0
Stood w line old = (length old ≡ w) × (line.is_changed ≡ false → old ≡ known_spots line.cells)

abbrev pub lines_shown : List Line → List (List Spot)
lines_shown lines = map (λ line. known_spots line.cells) lines

line-runs : (r w : ℕ) (before after : List (List Spot)) (line : Line) (old : List Spot) (cursor : Option (ℕ × ℕ)) (was : Option Style)
    → length before ≡ r → IsWholeLine w line → Stood w line old
    → Ends w (line_commands r line) (terminal w (before ++ old ∷ after) cursor was) (before ++ known_spots line.cells ∷ after)
line-runs r w before after line old cursor was above whole stood = at line.is_changed refl
  where
    at : (b : Bool) → line.is_changed ≡ b → Ends w (if b then row_commands r line.cells else []) (terminal w (before ++ old ∷ after) cursor was) (before ++ known_spots line.cells ∷ after)
    at true e =
        let size = whole.size in
        let count : length (flat_map cells_of whole.symbols) ≡ w = sym (length-styled whole.style 0 (flat_map cells_of whole.symbols)) ∙ sym (ap length whole.shows) ∙ whole.size in
        let shown : over_all old (places Blanks new_pen 0 line.cells ++ (places Symbols new_pen 0 line.cells ++ places Letters new_pen 0 line.cells)) ≡ known_spots line.cells =
        subst (λ (ps : List StyledCell). over_all old (places Blanks new_pen 0 ps ++ (places Symbols new_pen 0 ps ++ places Letters new_pen 0 ps)) ≡ known_spots ps) (sym whole.shows)
        (passes-show w whole.style whole.symbols old whole.wide whole.kept stood.0 count) in
        subst (λ (row : List Spot). Ends w (row_commands r line.cells) (terminal w (before ++ old ∷ after) cursor was) (before ++ row ∷ after)) shown
        (row-runs r w before after above line.cells cursor was old (omega (arith, size)))
    at false e = record {
      cursor = cursor;
      style = was;
      runs = Runs-none (terminal w (before ++ old ∷ after) cursor was) ∙ ap (λ (row : List Spot). Some (terminal w (before ++ row ∷ after) cursor was)) (stood.1 e);
    }

painting-first : (r : ℕ) (line : Line) (lines : List Line) → painting r (line ∷ lines) ≡ line_commands r line ++ painting (r + 1) lines
unfolding painting
painting-first r line lines = refl

painting-last : (r : ℕ) → painting r [] ≡ []
unfolding painting
painting-last r = refl

pub painting-runs : (w r : ℕ) (before : List (List Spot)) (lines : List Line) (olds : List (List Spot)) (cursor : Option (ℕ × ℕ)) (was : Option Style)
    → length before ≡ r → All (IsWholeLine w) lines → AllZip (Stood w) lines olds
    → Ends w (painting r lines) (terminal w (before ++ olds) cursor was) (before ++ lines_shown lines)
painting-runs w r before [] [] cursor was above whole stood =
    subst (λ (cs : List Command). Ends w cs (terminal w (before ++ []) cursor was) (before ++ [])) (sym (painting-last r))
    (record { cursor = cursor; style = was; runs = Runs-none (terminal w (before ++ []) cursor was) })
painting-runs w r before [] (old ∷ olds) cursor was above whole stood = absurd stood
painting-runs w r before (line ∷ lines) [] cursor was above whole stood = absurd stood
painting-runs w r before (line ∷ lines) (old ∷ olds) cursor was above whole stood =
    let first = line-runs r w before olds line old cursor was above (All-head (IsWholeLine w) line lines whole) stood.0 in
    let row = known_spots line.cells in
    let moved : (rows : List (List Spot)) → before ++ row ∷ rows ≡ (before ++ row ∷ []) ++ rows = λ rows. sym (append_assoc before (row ∷ []) rows) in
    let above' : length (before ++ row ∷ []) ≡ r + 1 = length-append before (row ∷ []) ∙ (let e = above in omega arith) in
    let rest = painting-runs w (r + 1) (before ++ row ∷ []) lines olds first.cursor first.style above' (All-tail (IsWholeLine w) line lines whole) stood.1 in
    let rest' = subst (λ (rows : List (List Spot)). Ends w (painting (r + 1) lines) (terminal w rows first.cursor first.style) ((before ++ row ∷ []) ++ lines_shown lines)) (sym (moved olds)) rest in
    let rest'' = subst (λ (rows : List (List Spot)). Ends w (painting (r + 1) lines) (terminal w (before ++ row ∷ olds) first.cursor first.style) rows) (sym (moved (lines_shown lines))) rest' in
    subst (λ (cs : List Command). Ends w cs (terminal w (before ++ old ∷ olds) cursor was) (before ++ row ∷ lines_shown lines)) (sym (painting-first r line lines))
    (Ends-append w (line_commands r line) (painting (r + 1) lines) (terminal w (before ++ old ∷ olds) cursor was) (before ++ row ∷ olds) (before ++ row ∷ lines_shown lines) first.cursor first.style first.runs rest'')

-- none of the rows is written
painting-none : (r : ℕ) (lines : List Line) → list_any (λ line. line.is_changed) lines ≡ false → painting r lines ≡ []
unfolding painting
painting-none r [] e = refl
painting-none r (line ∷ lines) e = at line.is_changed refl (painting-none (r + 1) lines)
  where
    at : (b : Bool) → line.is_changed ≡ b → (list_any (λ (l : Line). l.is_changed) lines ≡ false → painting (r + 1) lines ≡ []) → (if b then row_commands r line.cells else []) ++ painting (r + 1) lines ≡ []
    at true f more = absurd (let first : list_any (λ (l : Line). l.is_changed) (line ∷ lines) ≡ true = rw f refl in cc)
    at false f more =
        let rest : list_any (λ (l : Line). l.is_changed) (line ∷ lines) ≡ list_any (λ (l : Line). l.is_changed) lines = rw f refl in
        more (sym rest ∙ e)

-- the rows are written while no symbol wraps
pub paint-runs : (w : ℕ) (lines : List Line) (olds : List (List Spot)) (cursor : Option (ℕ × ℕ)) (was : Option Style)
    → All (IsWholeLine w) lines → AllZip (Stood w) lines olds
    → Ends w (paint_commands lines) (terminal w olds cursor was) (lines_shown lines)
unfolding paint_commands
paint-runs w lines olds cursor was whole stood = at (list_any (λ line. line.is_changed) lines) refl
  where
    at : (b : Bool) → list_any (λ (line : Line). line.is_changed) lines ≡ b
        → Ends w (if b then SetWrap false ∷ (painting 0 lines ++ (SetWrap true ∷ [])) else []) (terminal w olds cursor was) (lines_shown lines)
    at true e =
        let rows = painting-runs w 0 [] lines olds cursor was refl whole stood in
        let end = terminal w (lines_shown lines) rows.cursor rows.style in
        record {
          cursor = rows.cursor;
          style = rows.style;
          runs = Runs-append (SetWrap false ∷ []) (painting 0 lines ++ (SetWrap true ∷ [])) (terminal w olds cursor was) (terminal w olds cursor was) end (wrap-runs false (terminal w olds cursor was))
              (Runs-append (painting 0 lines) (SetWrap true ∷ []) (terminal w olds cursor was) end end rows.runs (wrap-runs true end));
        }
    at false e =
        subst (λ (cs : List Command). Ends w cs (terminal w olds cursor was) (lines_shown lines)) (painting-none 0 lines e) (painting-runs w 0 [] lines olds cursor was refl whole stood)

-- ---- what stood

stood-all : (w : ℕ) (lasts : List (List StyledCell)) (lines : List Line) (olds : List (List Spot)) → AreUpdates true lasts lines → length olds ≡ length lines
    → All (λ row. length row ≡ w) olds → AllZip (Stood w) (map sent_line lines) olds
stood-all w [] [] [] updates size wide = tt
stood-all w [] [] (old ∷ olds) updates size wide = absurd (omega arith)
stood-all w [] (line ∷ lines) olds updates size wide = absurd updates
stood-all w (last ∷ lasts) [] olds updates size wide = absurd updates
stood-all w (last ∷ lasts) (line ∷ lines) [] updates size wide = absurd (omega arith)
stood-all w (last ∷ lasts) (line ∷ lines) (old ∷ olds) updates size wide = (
  (All-head (λ row. length row ≡ w) old olds wide, λ e. let not = (updates.0.0 e).0 in absurd (cc)),
  stood-all w lasts lines olds updates.1 (omega arith) (All-tail (λ row. length row ≡ w) old olds wide),
)

stood-known : (w : ℕ) (lasts : List (List StyledCell)) (lines : List Line) → AreUpdates false lasts lines → All (λ row. length row ≡ w) (map known_spots (sent_picture lasts))
    → AllZip (Stood w) (map sent_line lines) (map known_spots (sent_picture lasts))
stood-known w [] [] updates wide = tt
stood-known w [] (line ∷ lines) updates wide = absurd updates
stood-known w (last ∷ lasts) [] updates wide = absurd updates
stood-known w (last ∷ lasts) (line ∷ lines) updates wide = (
  (
    All-head (λ row. length row ≡ w) (known_spots (sent_row last)) (map known_spots (sent_picture lasts)) wide,
    λ e. ap (λ (cells : List StyledCell). known_spots (sent_row cells)) (sym (updates.0.0 e).1),
  ),
  stood-known w lasts lines updates.1 (All-tail (λ row. length row ≡ w) (known_spots (sent_row last)) (map known_spots (sent_picture lasts)) wide),
)

pub stands : (is_all : Bool) (w : ℕ) (lasts : List (List StyledCell)) (lines : List Line) (olds : List (List Spot)) → AreUpdates is_all lasts lines → length olds ≡ length lines
    → All (λ row. length row ≡ w) olds → (is_all ≡ false → olds ≡ map known_spots (sent_picture lasts)) → AllZip (Stood w) (map sent_line lines) olds
stands true w lasts lines olds updates size wide is = stood-all w lasts lines olds updates size wide
stands false w lasts lines olds updates size wide is =
    subst (AllZip (Stood w) (map sent_line lines)) (sym (is refl)) (stood-known w lasts lines updates (subst (All (λ row. length row ≡ w)) (is refl) wide))

-- ---- what is sent

whole-sent : (w : ℕ) (line : Line) → IsWholeLine w line → IsWholeLine w (sent_line line)
whole-sent w line whole =
    let sent : Wholes 0 (sent_row line.cells) =
    subst (λ (ps : List StyledCell). Wholes 0 (sent_from (length line.cells) 0 None ps)) (sym whole.shows) (sent-whole (length line.cells) whole.style whole.symbols 0 whole.wide whole.kept) in
    record {
      style = sent.style;
      symbols = sent.symbols;
      wide = sent.wide;
      kept = sent.kept;
      shows = sent.shows;
      size = length-row line.cells ∙ whole.size;
    }

sent-wholes : (w : ℕ) (lines : List Line) → All (IsWholeLine w) lines → All (IsWholeLine w) (map sent_line lines)
sent-wholes w [] whole = All-nil (IsWholeLine w)
sent-wholes w (line ∷ lines) whole =
    All-cons (IsWholeLine w) (sent_line line) (map sent_line lines) (whole-sent w line (All-head (IsWholeLine w) line lines whole)) (sent-wholes w lines (All-tail (IsWholeLine w) line lines whole))

measured-line : (w : ℕ) (line : Line) → IsWholeLine w line → AreMeasured line.cells
measured-line w line whole = subst AreMeasured (sym whole.shows) (measured-styled whole.style whole.symbols 0 whole.wide whole.kept)

sent-fitting : (w : ℕ) (lines : List Line) → All (IsWholeLine w) lines → All (Fitting w) (map sent_line lines)
sent-fitting w [] whole = All-nil (Fitting w)
sent-fitting w (line ∷ lines) whole =
    let first : IsWholeLine w line = All-head (IsWholeLine w) line lines whole in
    let sent = whole-sent w line first in
    All-cons (Fitting w) (sent_line line) (map sent_line lines)
    (record { size = sent.size; stay = row-stays w line.cells first.size; measured = measured-line w (sent_line line) sent })
    (sent-fitting w lines (All-tail (IsWholeLine w) line lines whole))

-- ---- the rows of a grid

shown-known : (lines : List Line) → lines_shown lines ≡ map known_spots (map line_cells lines)
shown-known [] = refl
shown-known (line ∷ lines) = ap (λ t. known_spots line.cells ∷ t) (shown-known lines)

picture-at : (style : ℕ → ℕ → Style) (grid : Screen) (lines : List Line) (k : ℕ) (d : Line) → map line_cells lines ≡ picture style grid → k < length lines
    → (get_or lines k d).cells ≡ styled_row style grid k
picture-at style grid lines k d e h =
    let size : length lines ≡ length grid.rows = sym (length-map lines line_cells) ∙ ap length e ∙ length-map-range_with_len (styled_row style grid) 0 (length grid.rows) in
    sym (get_or-map line_cells lines k d [] h) ∙ ap (λ xs. get_or xs k []) e ∙ get_or-map-range_with_len (styled_row style grid) 0 (length grid.rows) k k [] (omega arith) (omega arith)

pub whole-lines : (style : ℕ → ℕ → Style) (grid : Screen) (lines : List Line) → IsScreen grid → map line_cells lines ≡ picture style grid → All (IsWholeLine grid.width) lines
whole-lines style grid lines screen e k d h =
    let size : length lines ≡ length grid.rows = sym (length-map lines line_cells) ∙ ap length e ∙ length-map-range_with_len (styled_row style grid) 0 (length grid.rows) in
    let inside : k < length grid.rows = omega arith in
    let whole : IsWhole (get_or grid.rows k []) = screen.symbols k [] inside in
    let wide : length (get_or grid.rows k []) ≡ grid.width = screen.columns k [] inside in
    record {
      style = style k;
      symbols = whole.symbols;
      wide = whole.wide;
      kept = whole.kept;
      shows = picture-at style grid lines k d e h ∙ styled-row style grid k inside wide ∙ ap (styled_from (style k) 0) whole.cells;
      size = ap length (picture-at style grid lines k d e h ∙ styled-row style grid k inside wide) ∙ length-styled (style k) 0 (get_or grid.rows k []) ∙ wide;
    }

pub few-columns : (style : ℕ → ℕ → Style) (grid : Screen) (rows : List Row) → IsScreen grid → map cells_of_row rows ≡ picture style grid → All (λ row. length (cells_of_row row) < 2 ^ 16) rows
few-columns style grid rows screen e k d h =
    let lines = map line_of rows in
    let size : length lines ≡ length rows = length-map rows line_of in
    let whole : IsWholeLine grid.width (get_or lines k (line_of d)) = whole-lines style grid lines screen (cells-lines rows ∙ e) k (line_of d) (omega arith) in
    let same : get_or lines k (line_of d) ≡ line_of (get_or rows k d) = get_or-map line_of rows k d (line_of d) h in
    let long : length (cells_of_row (get_or rows k d)) ≡ grid.width = ap (λ (line : Line). length line.cells) (sym same) ∙ whole.size in
    let small = screen.width in omega arith

pub few-rows : (style : ℕ → ℕ → Style) (grid : Screen) (rows : List Row) → IsScreen grid → map cells_of_row rows ≡ picture style grid → length rows < 2 ^ 16
few-rows style grid rows screen e =
    let size : length rows ≡ length grid.rows = sym (length-map rows cells_of_row) ∙ ap length e ∙ length-map-range_with_len (styled_row style grid) 0 (length grid.rows) in
    let small = screen.height in omega arith

-- ---- the rows to which the cursor moves

cell-moves : (IsOne : ℕ → Type 0) (row column : ℕ) (pen : Pen) (p : StyledCell) (columns : ℕ) → IsOne row → All (MovesTo IsOne) (cell_commands row column pen p columns)
cell-moves IsOne row column pen Later columns one = All-nil (MovesTo IsOne)
cell-moves IsOne row column pen (First symbol style) columns one =
    All-append (MovesTo IsOne) (move_commands (pen.is_there && (length symbol == 1)) row column) (style_commands pen.style style ++ (Put symbol columns ∷ [])) (at (pen.is_there && (length symbol == 1)))
    (All-append (MovesTo IsOne) (style_commands pen.style style) (Put symbol columns ∷ []) (set (is_style_set pen.style style))
    (All-cons (MovesTo IsOne) (Put symbol columns) [] tt (All-nil (MovesTo IsOne))))
  where
    at : (b : Bool) → All (MovesTo IsOne) (move_commands b row column)
    at true = All-nil (MovesTo IsOne)
    at false = All-cons (MovesTo IsOne) (MoveTo row column) [] one (All-nil (MovesTo IsOne))

    set : (b : Bool) → All (MovesTo IsOne) (if b then [] else SetStyle style ∷ [])
    set true = All-nil (MovesTo IsOne)
    set false = All-cons (MovesTo IsOne) (SetStyle style) [] tt (All-nil (MovesTo IsOne))

pass-moves : (IsOne : ℕ → Type 0) (pass : Pass) (row column : ℕ) (pen : Pen) (cells : List StyledCell) → IsOne row → All (MovesTo IsOne) (pass_commands pass row column pen cells)
unfolding pass_commands
pass-moves IsOne pass row column pen [] one = All-nil (MovesTo IsOne)
pass-moves IsOne pass row column pen (p ∷ ps) one =
    All-append (MovesTo IsOne) (cell_commands row column pen (passed pass pen.is_there p) (columns_in pass (laters ps))) (pass_commands pass row (column + 1) (pen_after pen (passed pass pen.is_there p)) ps)
    (cell-moves IsOne row column pen (passed pass pen.is_there p) (columns_in pass (laters ps)) one) (pass-moves IsOne pass row (column + 1) (pen_after pen (passed pass pen.is_there p)) ps one)

row-moves : (IsOne : ℕ → Type 0) (row : ℕ) (cells : List StyledCell) → IsOne row → All (MovesTo IsOne) (row_commands row cells)
unfolding row_commands
row-moves IsOne row cells one =
    All-append (MovesTo IsOne) (pass_commands Blanks row 0 new_pen cells) (pass_commands Symbols row 0 new_pen cells ++ pass_commands Letters row 0 new_pen cells) (pass-moves IsOne Blanks row 0 new_pen cells one)
    (All-append (MovesTo IsOne) (pass_commands Symbols row 0 new_pen cells) (pass_commands Letters row 0 new_pen cells) (pass-moves IsOne Symbols row 0 new_pen cells one) (pass-moves IsOne Letters row 0 new_pen cells one))

line-moves : (IsOne : ℕ → Type 0) (row : ℕ) (line : Line) → (line.is_changed ≡ true → IsOne row) → All (MovesTo IsOne) (line_commands row line)
line-moves IsOne row line one = at line.is_changed refl
  where
    at : (b : Bool) → line.is_changed ≡ b → All (MovesTo IsOne) (if b then row_commands row line.cells else [])
    at true e = row-moves IsOne row line.cells (one e)
    at false e = All-nil (MovesTo IsOne)

-- the cursor moves only to rows that are written
painting-moves : (IsOne : ℕ → Type 0) (row : ℕ) (lines : List Line) → ((k : ℕ) (line : Line) → k < length lines → line ≡ get_or lines k line → line.is_changed ≡ true → IsOne (row + k))
    → All (MovesTo IsOne) (painting row lines)
unfolding painting
painting-moves IsOne row [] one = All-nil (MovesTo IsOne)
painting-moves IsOne row (line ∷ lines) one =
    All-append (MovesTo IsOne) (line_commands row line) (painting (row + 1) lines)
    (line-moves IsOne row line (λ e. let here : row + 0 ≡ row = omega arith in subst IsOne here (one 0 line (omega arith) refl e)))
    (painting-moves IsOne (row + 1) lines (λ k l h read e. let there : row + suc k ≡ row + 1 + k = omega arith in subst IsOne there (one (suc k) l (omega arith) read e)))

paint-moves : (IsOne : ℕ → Type 0) (lines : List Line) → ((k : ℕ) (line : Line) → k < length lines → line ≡ get_or lines k line → line.is_changed ≡ true → IsOne k) → All (MovesTo IsOne) (paint_commands lines)
unfolding paint_commands
paint-moves IsOne lines one = at (list_any (λ line. line.is_changed) lines)
  where
    at : (b : Bool) → All (MovesTo IsOne) (if b then SetWrap false ∷ (painting 0 lines ++ (SetWrap true ∷ [])) else [])
    at true =
        All-cons (MovesTo IsOne) (SetWrap false) (painting 0 lines ++ (SetWrap true ∷ [])) tt
        (All-append (MovesTo IsOne) (painting 0 lines) (SetWrap true ∷ [])
        (painting-moves IsOne 0 lines (λ k line h read e. let here : k ≡ 0 + k = omega arith in subst IsOne here (one k line h read e)))
        (All-cons (MovesTo IsOne) (SetWrap true) [] tt (All-nil (MovesTo IsOne))))
    at false = All-nil (MovesTo IsOne)

-- a row that is written is one that changed
update-changed : (is_all : Bool) (last : List (List StyledCell)) (lines : List Line) (k : ℕ) (line : Line) → AreUpdates is_all last lines → k < length lines → line ≡ get_or lines k line
    → line.is_changed ≡ true → is_all ≡ false → get_or last k [] ≡ get_or (map line_cells lines) k [] → ⊥
update-changed is_all last [] k line updates h read e f same = absurd (omega arith)
update-changed is_all [] (l ∷ lines) k line updates h read e f same = absurd updates
update-changed is_all (b ∷ last) (l ∷ lines) zero line updates h read e f same =
    let written : l.is_changed ≡ true = ap (λ (x : Line). x.is_changed) (sym read) ∙ e in
    let left : l.is_changed ≡ false = updates.0.1 (f, sym same) in
    absurd (cc)
update-changed is_all (b ∷ last) (l ∷ lines) (suc k) line updates h read e f same = update-changed is_all last lines k line updates.1 (omega arith) read e f same

-- ---- a paint

pub paints : (style : ℕ → ℕ → Style) (grid : Screen) (is_all : Bool) (last lasts : List (List StyledCell)) (rows : List Row) (bytes : List ℕ)
    → IsScreen grid → map cells_of_row rows ≡ picture style grid → AreUpdates is_all lasts (map line_of rows)
    → (is_all ≡ false → lasts ≡ last) → (is_all ≡ false → HasSize grid.width (length grid.rows) last) → (HasSize grid.width (length grid.rows) last → is_all ≡ false)
    → bytes ≡ flat_map bytes_of (paint_commands (map sent_line_of rows))
    → Paints grid.width last (picture style grid) bytes
paints style grid is_all last lasts rows bytes screen e updates same fits fitted written =
    let lines = map line_of rows in
    let sents = map sent_line lines in
    let made : bytes ≡ flat_map bytes_of (paint_commands sents) = written ∙ ap (λ (ls : List Line). flat_map bytes_of (paint_commands ls)) (sym (sent-lines rows)) in
    let shows : map line_cells lines ≡ picture style grid = cells-lines rows ∙ e in
    let whole = whole-lines style grid lines screen shows in
    let sent_whole = sent-wholes grid.width lines whole in
    let sent_count = length-map lines sent_line in
    let height : length (picture style grid) ≡ length grid.rows = length-map-range_with_len (styled_row style grid) 0 (length grid.rows) in
    let count' : length lines ≡ length grid.rows = sym (length-map lines line_cells) ∙ ap length shows ∙ height in
    let count : length lines ≡ length (picture style grid) = sym (length-map lines line_cells) ∙ ap length shows in
    let run = λ (t : Terminal) (size : IsOfSize t grid.width (length (picture style grid))) (stood : HasSize grid.width (length (picture style grid)) last → t.rows ≡ map known_spots (sent_picture last)).
    paint-runs grid.width sents t.rows t.cursor t.style sent_whole
    (stands is_all grid.width lasts lines t.rows updates (size.high ∙ sym count) size.all_wide
    (λ (f : is_all ≡ false). stood (subst (λ (n : ℕ). HasSize grid.width n last) (sym height) (fits f)) ∙ ap (λ (rows : List (List StyledCell)). map known_spots (sent_picture rows)) (sym (same f)))) in
    record {
      commands = paint_commands sents;
      written = made;
      are_read = ap read_commands made ∙ read_back Symbol (paint_commands sents) (safe sents sent_whole) (near sents sent_whole (sent_count ∙ count')) (paint-apart sents Symbol);
      safe = safe sents sent_whole;
      apart = paint-apart sents Symbol;
      few = paint-moves (HasChanged grid.width last (picture style grid)) sents (λ k sent h read changed size equal.
          let not_all : is_all ≡ false = fitted (subst (λ (n : ℕ). HasSize grid.width n last) height size) in
          let source = sent-read lines k sent h read in
          update-changed is_all lasts lines k source.0 updates (omega (arith, sent_count, h)) source.1.0 (ap (λ (line : Line). line.is_changed) (sym source.1.1) ∙ changed) not_all (ap (λ (xs : List (List StyledCell)). get_or xs k []) (same not_all) ∙ equal ∙ ap (λ (xs : List (List StyledCell)). get_or xs k []) (sym shows)));
      fits = λ columns smaller at. paint-fits columns smaller grid.width sents at (sent-fitting grid.width lines whole);
      places = keeps-places grid.width is_all last lasts (picture style grid) lines (λ k d h. (whole k d h).size) count
          (λ (k : ℕ) (line : Line) (h : k < length lines) (read : line ≡ get_or lines k line).
          ap (λ (l : Line). l.cells) read ∙ sym (get_or-map line_cells lines k line [] h) ∙ ap (λ (xs : List (List StyledCell)). get_or xs k []) shows)
          updates same (λ (f : is_all ≡ false). subst (λ (n : ℕ). HasSize grid.width n last) (sym height) (fits f))
          (λ (size : HasSize grid.width (length (picture style grid)) last). fitted (subst (λ (n : ℕ). HasSize grid.width n last) height size));
      shows = λ t size stood.
          let ends = run t size stood in
          let start : terminal grid.width t.rows t.cursor t.style ≡ t = ap (λ (n : ℕ). terminal n t.rows t.cursor t.style) (sym size.wide) in
          record {
            end = terminal grid.width (lines_shown sents) ends.cursor ends.style;
            runs = subst (λ (u : Terminal). Runs (paint_commands sents) u (terminal grid.width (lines_shown sents) ends.cursor ends.style)) start ends.runs;
            stays_wide = sym size.wide;
            shows = shown-known sents ∙ ap (map known_spots) (sent-cells lines ∙ ap sent_picture shows);
          };
    }
  where
    -- the commands run on what they show
    stood-own : (lines : List Line) → All (IsWholeLine grid.width) lines → AllZip (Stood grid.width) lines (lines_shown lines)
    stood-own [] whole = tt
    stood-own (line ∷ lines) whole =
        let first = All-head (IsWholeLine grid.width) line lines whole in
        ((length-map line.cells Some ∙ first.size, λ h. refl), stood-own lines (All-tail (IsWholeLine grid.width) line lines whole))

    own : (lines : List Line) → All (IsWholeLine grid.width) lines
        → Ends grid.width (paint_commands lines) (terminal grid.width (lines_shown lines) None None) (lines_shown lines)
    own lines whole = paint-runs grid.width lines (lines_shown lines) None None whole (stood-own lines whole)

    safe : (lines : List Line) → All (IsWholeLine grid.width) lines → All IsSafe (paint_commands lines)
    safe lines whole = paint-safe lines (λ k d h. let one : IsWholeLine grid.width (get_or lines k d) = whole k d h in subst AreMeasured (sym one.shows) (measured-styled one.style one.symbols 0 one.wide one.kept))

    -- and stay on the screen
    near : (lines : List Line) → All (IsWholeLine grid.width) lines → length lines ≡ length grid.rows → All IsNear (paint_commands lines)
    near lines whole count =
        let high = screen.height in
        let all = length-map lines (λ line. known_spots line.cells) in
        let start = terminal grid.width (lines_shown lines) None None in
        let ends = own lines whole in
        runs-near (paint_commands lines) start (terminal grid.width (lines_shown lines) ends.cursor ends.style) screen.width (omega (arith, count, all)) ends.runs
