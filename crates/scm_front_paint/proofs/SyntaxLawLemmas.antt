-- What spans leave as it is.
use Rattle.std.proofs.Common.{◌≡◌, ℕ, ◌+◌, ◌<◌, ◌≤◌, ◌&&◌, Bool, true, false, nat_eq, nat_le, nat_lt, min, List, [], ◌∷◌, length, drop, take, map, refl, sym, ap, ap₂, ◌∙◌, arith, Option, None, Some, inl, inr, ⊎_elim}
use Rattle.std.specs.Prelude.{◌⊎◌, if◌then◌else◌, slice_index_or}
use Rattle.std.specs.Cmp.Lexicographic.{bytes_decides, pointwise}
use Rattle.std.specs.List.{range_with_len}
use Rattle.std.proofs.lemmas.Bool.Decides.{nat_tests}
use Rattle.std.proofs.lemmas.List.{drop-map}
use Rattle.scm_types.specs.declared.keys.LineKey.{LineKey}
use Rattle.scm_types.specs.declared.keys.SelectionKey.{SelectionKey}
use Rattle.scm_cells.specs.declared.style.Style.{Style}
use Rattle.scm_terminal.specs.StyledCell.{StyledCell, First, Later, cell_of, symbol_of_cell}
use Rattle.scm_record.specs.Live.{Live}
use Rattle.scm_record.specs.Painted.{style_at}
use Rattle.scm_front_paint.specs.declared.columns.Columns.{Columns}
use Rattle.scm_front_paint.specs.declared.runs.LineRuns.{LineRuns}
use Rattle.scm_front_paint.specs.declared.runs.Run.{Run}
use Rattle.scm_front_paint.specs.declared.syntax.Syntax.{Syntax}
use Rattle.scm_front_paint.specs.declared.syntax.Syntax.TheVariants.{Comment, Keyword, Name, Number, Other, Text}
use Rattle.scm_front_paint.specs.declared.syntax.SyntaxSpan.{SyntaxSpan}
use Rattle.scm_front_paint.specs.declared.themes.Theme.{Theme}
use Rattle.scm_front_paint.specs.Below.{shown_style}
use Rattle.scm_front_paint.specs.Range.{has_row, underlined_if}
use Rattle.scm_front_paint.specs.Sideways.{sideways_picture, sideways_row_of, styled_symbols, with_blank_front}
use Rattle.scm_front_paint.specs.Symbols.{Symbols}
use Rattle.scm_front_paint.specs.Syntax.{Lines, border, first_key, in_syntax, line_runs, line_with, run_of, syntax_style, with_runs}
use Rattle.scm_front_paint.specs.SyntaxLaws.{AreAlikeOn, IsBeside, ShowsSpans, symbols_shown}
use Rattle.scm_front_paint.specs.SyntaxRows.{line_at, runs_for, runs_of_line, runs_on, text_of_key}
use Rattle.scm_front_paint.specs.Themes.{themed}
use Rattle.scm_front_paint.specs.Words.{has_column, shown_width, with_words}

-- ---- symbols

-- the symbols of a row that begins within a symbol
abbrev blanks-first : List (Option (List ℕ)) → List (Option (List ℕ))
blanks-first [] = []
blanks-first (None ∷ symbols) = Some (32 ∷ []) ∷ blanks-first symbols
blanks-first (Some symbol ∷ symbols) = Some symbol ∷ symbols

front-symbols : (style : ℕ → Style) (column : ℕ) (cells : List StyledCell)
    → map symbol_of_cell (with_blank_front style column cells) ≡ blanks-first (map symbol_of_cell cells)
front-symbols style column [] = refl
front-symbols style column (Later ∷ cells) =
    ap (λ (symbols : List (Option (List ℕ))). Some (32 ∷ []) ∷ symbols) (front-symbols style (column + 1) cells)
front-symbols style column (First symbol own ∷ cells) = refl

cell-symbol : (symbol : Option (List ℕ)) (style : Style) → symbol_of_cell (cell_of symbol style) ≡ symbol
cell-symbol None style = refl
cell-symbol (Some symbol) style = refl

column-symbols : (at : ℕ → Option (List ℕ)) (style : ℕ → Style) (columns : List ℕ)
    → map symbol_of_cell (map (λ (column : ℕ). cell_of (at column) (style column)) columns) ≡ map at columns
column-symbols at style [] = refl
column-symbols at style (c ∷ cs) =
    ap₂ (λ (symbol : Option (List ℕ)) (symbols : List (Option (List ℕ))). symbol ∷ symbols) (cell-symbol (at c) (style c)) (column-symbols at style cs)

row-symbols : (x : ℕ) (style : ℕ → ℕ → Style) (s : Symbols) (row : ℕ)
    → map symbol_of_cell (sideways_row_of x style s row) ≡ blanks-first (drop x (map (s.at row) (range_with_len 0 s.width)))
row-symbols x style s row =
    front-symbols (style row) x (drop x (styled_symbols style s row))
    ∙ ap blanks-first
    (sym (drop-map symbol_of_cell x (styled_symbols style s row))
    ∙ ap (λ (symbols : List (Option (List ℕ))). drop x symbols) (column-symbols (s.at row) (style row) (range_with_len 0 s.width)))

rows-alike : (x : ℕ) (one other : ℕ → ℕ → Style) (s : Symbols) (rows : List ℕ)
    → symbols_shown (map (sideways_row_of x one s) rows) ≡ symbols_shown (map (sideways_row_of x other s) rows)
rows-alike x one other s [] = refl
rows-alike x one other s (row ∷ rows) =
    ap₂ (λ (symbols : List (Option (List ℕ))) (rest : List (List (Option (List ℕ)))). symbols ∷ rest)
    (row-symbols x one s row ∙ sym (row-symbols x other s row)) (rows-alike x one other s rows)

-- the symbols of a picture are the same in all styles
pub symbols-alike : (x : ℕ) (one other : ℕ → ℕ → Style) (s : Symbols) → symbols_shown (sideways_picture x one s) ≡ symbols_shown (sideways_picture x other s)
symbols-alike x one other s = rows-alike x one other s (range_with_len 0 s.height)

-- ---- rows

runs-alike : (one other : Lines) (l : Live) (row : ℕ) → AreAlikeOn one other l row → runs_on one l row ≡ runs_on other l row
runs-alike one other l row alike = go (line_at l row) refl
  where
    go : (o : Option LineKey) → line_at l row ≡ o → runs_of_line one l.session.shown.state.files o ≡ runs_of_line other l.session.shown.state.files o
    go None e = refl
    go (Some key) e = ap (λ (found : Option LineRuns). runs_for found (text_of_key l.session.shown.state.files key)) (alike key e)

-- a place of a row whose line has the same spans
pub places-alike : (theme : Theme) (anchor : SelectionKey) (words : List (List Columns)) (one other : Lines) (l : Live) (row column : ℕ) → AreAlikeOn one other l row
    → shown_style theme anchor words one l row column ≡ shown_style theme anchor words other l row column
places-alike theme anchor words one other l row column alike =
    ap (λ (runs : List Run). themed theme (underlined_if (has_row l anchor row) (with_words (slice_index_or words row []) column (with_runs runs column (style_at l row column)))))
    (runs-alike one other l row alike)

-- a row has no spans, or those of the line that it shows
pub spans-shown : (lines : Lines) (l : Live) (row : ℕ) → (runs_on lines l row ≡ []) ⊎ ShowsSpans lines l row
spans-shown lines l row = at-line (line_at l row) refl
  where
    on-line : (key : LineKey) → line_at l row ≡ Some key
        → runs_on lines l row ≡ runs_for (line_with lines (first_key key)) (text_of_key l.session.shown.state.files key)
    on-line key e = ap (λ (o : Option LineKey). runs_of_line lines l.session.shown.state.files o) e

    of-both : (key : LineKey) (line : Option LineRuns) (text : Option (List ℕ)) → line_at l row ≡ Some key → line_with lines (first_key key) ≡ line
        → text_of_key l.session.shown.state.files key ≡ text → runs_on lines l row ≡ runs_for line text
    of-both key line text e f g = on-line key e ∙ ap₂ (λ (o : Option LineRuns) (t : Option (List ℕ)). runs_for o t) f g

    at-text : (key : LineKey) (line : LineRuns) (text : List ℕ) (b : Bool) → line_at l row ≡ Some key → line_with lines (first_key key) ≡ Some line
        → text_of_key l.session.shown.state.files key ≡ Some text → pointwise nat_eq line.text text ≡ b → (runs_on lines l row ≡ []) ⊎ ShowsSpans lines l row
    at-text key line text false e f g h = inl (of-both key (Some line) (Some text) e f g ∙ ap (λ (b : Bool). if b then line.runs else []) h)
    at-text key line text true e f g h = inr (record {
      key = key;
      line = line;
      shown = e;
      has = f;
      text = g ∙ ap (λ (bytes : List ℕ). Some bytes) (sym ((bytes_decides line.text text).0 h));
      runs = of-both key (Some line) (Some text) e f g ∙ ap (λ (b : Bool). if b then line.runs else []) h;
    })

    at-spans : (key : LineKey) (line : LineRuns) (text : Option (List ℕ)) → line_at l row ≡ Some key → line_with lines (first_key key) ≡ Some line
        → text_of_key l.session.shown.state.files key ≡ text → (runs_on lines l row ≡ []) ⊎ ShowsSpans lines l row
    at-spans key line None e f g = inl (of-both key (Some line) None e f g)
    at-spans key line (Some text) e f g = at-text key line text (pointwise nat_eq line.text text) e f g refl

    at-key : (key : LineKey) (line : Option LineRuns) → line_at l row ≡ Some key → line_with lines (first_key key) ≡ line → (runs_on lines l row ≡ []) ⊎ ShowsSpans lines l row
    at-key key None e f = inl (of-both key None (text_of_key l.session.shown.state.files key) e f refl)
    at-key key (Some line) e f = at-spans key line (text_of_key l.session.shown.state.files key) e f refl

    at-line : (o : Option LineKey) → line_at l row ≡ o → (runs_on lines l row ≡ []) ⊎ ShowsSpans lines l row
    at-line None e = inl (ap (λ (o : Option LineKey). runs_of_line lines l.session.shown.state.files o) e)
    at-line (Some key) e = at-key key (line_with lines (first_key key)) e refl

-- ---- columns

below : (start end c : ℕ) → c < start → (nat_le start c && nat_lt c end) ≡ false
below start end c h = grind (arith, nat_tests)

behind : (start end c : ℕ) → end ≤ c → (nat_le start c && nat_lt c end) ≡ false
behind start end c h = grind (arith, nat_tests)

-- the columns of a span are columns of the text
beside-run : (whole front back c : ℕ) → (c < 10) ⊎ (whole + 10 ≤ c)
    → (nat_le (min (min 65535 (whole + 10)) (front + 10)) c && nat_lt c (min (min 65535 (whole + 10)) (back + 10))) ≡ false
beside-run whole front back c beside = ⊎_elim
    (λ (low : c < 10). below (min (min 65535 (whole + 10)) (front + 10)) (min (min 65535 (whole + 10)) (back + 10)) c (omega (arith, low)))
    (λ (high : whole + 10 ≤ c). behind (min (min 65535 (whole + 10)) (front + 10)) (min (min 65535 (whole + 10)) (back + 10)) c (omega (arith, high)))
    beside

-- a place beside the text of a line
pub text-alone : (text : List ℕ) (spans : List SyntaxSpan) (c : ℕ) (style : Style) → IsBeside text c → with_runs (line_runs text spans).runs c style ≡ style
text-alone text [] c style beside = refl
text-alone text (span ∷ spans) c style beside =
    ap (λ (b : Bool). with_runs (map (run_of text) spans) c (if b then in_syntax (syntax_style span.syntax) style else style))
    (beside-run (shown_width (take (length text) text)) (shown_width (take (border text span.start) text)) (shown_width (take (border text span.end) text)) c beside)
    ∙ text-alone text spans c style beside

-- ---- styles

-- a reversed style stays
kept-in : (own : Style) (b r : Bool) (style : Style) → r ≡ true → (if b then (if r then style else own) else style) ≡ style
kept-in own true true style e = refl
kept-in own true false style e = absurd (cc e)
kept-in own false r style e = refl

pub selected-stays : (runs : List Run) (c : ℕ) (style : Style) → style.reversed ≡ true → with_runs runs c style ≡ style
selected-stays [] c style e = refl
selected-stays (run ∷ runs) c style e =
    ap (λ (s : Style). with_runs runs c s) (kept-in run.style (has_column c run.columns) style.reversed style e) ∙ selected-stays runs c style e

-- no span underlines or reverses
pub spans-plain : (syntax : Syntax) → ((syntax_style syntax).reversed ≡ false) × ((syntax_style syntax).underlined ≡ false)
spans-plain Keyword = (refl, refl)
spans-plain Name = (refl, refl)
spans-plain Text = (refl, refl)
spans-plain Number = (refl, refl)
spans-plain Comment = (refl, refl)
spans-plain Other = (refl, refl)
