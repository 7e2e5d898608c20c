-- No code point of what is sent wraps on a terminal that adds up the columns of code points.
use Rattle.std.proofs.Common.{◌≡◌, ℕ, ◌+◌, ◌<◌, ◌≤◌, ◌==◌, ◌&&◌, nat_lt, nat_le, not, Bool, true, false, List, [], ◌∷◌, ◌++◌, length, refl, sym, ap, subst, ◌∙◌, arith, Option, append_assoc, chars, sum_by}
use Rattle.std.specs.Prelude.{if◌then◌else◌}
use Rattle.std.specs.List.{All, list_any}
use Rattle.std.proofs.lemmas.Bool.{and_parts}
use Rattle.std.proofs.lemmas.Bool.Decides.{nat_tests}
use Rattle.std.proofs.lemmas.List.Elements.{All-head, All-tail}
use Rattle.std.proofs.lemmas.List.Sums.{sum_by-cons, sum_by-le-sum_by}
use Rattle.std.proofs.lemmas.Str.{chars-IsAscii}
use Rattle.std.proofs.lemmas.Str.Ascii.{IsAscii-nil, IsAscii-cons}
use Rattle.unicode_width.specs.Width.{char_width}
use Rattle.scm_cells.specs.Clusters.{IsMeasured}
use Rattle.scm_cells.proofs.PrintableLemmas.{is_printable_char}
use Rattle.scm_cells.specs.declared.style.Style.{Style}
use Rattle.scm_terminal.specs.declared.pen.Pen.{Pen}
use Rattle.scm_terminal.specs.declared.pen.Pass.{Pass}
use Rattle.scm_terminal.specs.declared.pen.Pass.TheVariants.{Blanks, Symbols, Letters}
use Rattle.scm_terminal.specs.StyledCell.{StyledCell, First, Later, laters}
use Rattle.scm_terminal.specs.Sent.{char_columns, added_columns, first_is_joined, stays_on_row}
use Rattle.scm_terminal.specs.Terminal.{Command, SetStyle, Put, SetWrap}
use Rattle.scm_terminal.specs.Adding.{columns_by, NoneWraps}
use Rattle.scm_terminal.specs.Painting.{Line, is_style_set, move_commands, style_commands, cell_commands, pen_after, new_pen, passed, columns_in, pass_commands, row_commands, painting, paint_commands}
use Rattle.scm_terminal.proofs.ReadingLemmas.{one_byte, byte-printable}
use Rattle.scm_terminal.proofs.SafeLemmas.{AreMeasured, put-measured, rest-measured}
use Rattle.scm_terminal.proofs.SentLemmas.{StayFrom, rest-stays, pass-stays}

-- a kept symbol of one byte has at most one column
byte-one : (b k : ℕ) → IsMeasured (b ∷ [], k) → added_columns (b ∷ []) ≤ 1
unfolding added_columns char_width
byte-one b k m =
    let printable : is_printable_char b ≡ true = byte-printable b k m in
    let low : nat_lt b 0x7F ≡ true = grind (arith, nat_tests) in
    let high : nat_le 0x20 b ≡ true = grind (arith, nat_tests) in
    let one : char_columns b ≡ 1 = rw (low, high) refl in
    let ascii : b < 128 = grind (arith, nat_tests) in
    let same = chars-IsAscii (b ∷ []) (IsAscii-cons b [] ascii IsAscii-nil) in
    let sum : added_columns (b ∷ []) ≡ char_columns b + 0 = ap (sum_by char_columns) same ∙ sum_by-cons char_columns b [] in
    omega (arith, one, sum)

-- a symbol that stays has room
stays-room : (w column : ℕ) (symbol : List ℕ) → (length symbol == 1) ≡ false → stays_on_row w column symbol ≡ true → column + added_columns symbol ≤ w
unfolding stays_on_row
stays-room w column symbol more stays =
    let both : (nat_le (column + added_columns symbol) w && not ((column == 0) && first_is_joined (chars symbol))) ≡ true = sym (rw more refl) ∙ stays in
    let room = (and_parts (nat_le (column + added_columns symbol) w) (not ((column == 0) && first_is_joined (chars symbol))) both).0 in
    grind (arith, nat_tests)

-- a line of `w` columns, of which each symbol is a kept cluster and stays on its row
pub record Fitting (w : ℕ) (line : Line) : Type 0 where
  pub size : length line.cells ≡ w
  pub stay : StayFrom w 0 line.cells
  pub measured : AreMeasured line.cells

module _ (columns : ℕ → ℕ) (smaller : (c : ℕ) → columns c ≤ char_columns c) (w : ℕ) where
  few : (symbol : List ℕ) → columns_by columns symbol ≤ added_columns symbol
  unfolding added_columns
  few symbol = sum_by-le-sum_by columns char_columns (chars symbol) smaller

  byte-few : (symbol : List ℕ) (k : ℕ) → IsMeasured (symbol, k) → (length symbol == 1) ≡ true → columns_by columns symbol ≤ 1
  byte-few symbol k m one =
      let byte = one_byte symbol one in
      let all = few (byte.0 ∷ []) in
      let own = byte-one byte.0 k (subst (λ (s : List ℕ). IsMeasured (s, k)) byte.1 m) in
      subst (λ (s : List ℕ). columns_by columns s ≤ 1) (sym byte.1) (omega (arith, all, own))

  symbol-fits : (column : ℕ) (symbol : List ℕ) (k : ℕ) → column < w → IsMeasured (symbol, k) → stays_on_row w column symbol ≡ true → column + columns_by columns symbol ≤ w
  symbol-fits column symbol k h m stays = at (length symbol == 1) refl
    where
      at : (b : Bool) → (length symbol == 1) ≡ b → column + columns_by columns symbol ≤ w
      at true one = let n = byte-few symbol k m one in omega (arith, h, n)
      at false more = let room = stays-room w column symbol more stays in let n = few symbol in omega (arith, room, n)

  put-fits : (set : Option Style) (style : Style) (symbol : List ℕ) (k at : ℕ) (rest : List Command) → at + columns_by columns symbol ≤ w → NoneWraps columns w (at + columns_by columns symbol) rest
      → NoneWraps columns w at ((style_commands set style ++ (Put symbol k ∷ [])) ++ rest)
  put-fits set style symbol k at rest h more = by (is_style_set set style)
    where
      by : (b : Bool) → NoneWraps columns w at (((if b then [] else SetStyle style ∷ []) ++ (Put symbol k ∷ [])) ++ rest)
      by true = (h, more)
      by false = (h, more)

  cell-fits : (r column : ℕ) (pen : Pen) (symbol : List ℕ) (style : Style) (j k at : ℕ) (rest : List Command) → column < w → IsMeasured (symbol, j) → stays_on_row w column symbol ≡ true
      → (pen.is_there ≡ true → at ≤ column) → ((after : ℕ) → ((length symbol == 1) ≡ true → after ≤ column + 1) → NoneWraps columns w after rest)
      → NoneWraps columns w at (cell_commands r column pen (First symbol style) k ++ rest)
  cell-fits r column pen symbol style j k at rest h m stays there more = by (pen.is_there && (length symbol == 1)) refl
    where
      by : (b : Bool) → (pen.is_there && (length symbol == 1)) ≡ b → NoneWraps columns w at ((move_commands b r column ++ (style_commands pen.style style ++ (Put symbol k ∷ []))) ++ rest)
      by true e =
          let parts = and_parts pen.is_there (length symbol == 1) e in
          let n = byte-few symbol j m parts.1 in
          let before = there parts.0 in
          put-fits pen.style style symbol k at rest (omega (arith, n, before, h)) (more (at + columns_by columns symbol) (λ one. omega (arith, n, before)))
      by false e =
          put-fits pen.style style symbol k column rest (symbol-fits column symbol j h m stays)
          (more (column + columns_by columns symbol) (λ one. let n = byte-few symbol j m one in omega (arith, n)))

  pass-fits : (pass : Pass) (r column : ℕ) (pen : Pen) (cells : List StyledCell) (at : ℕ) (rest : List Command) → column + length cells ≤ w → StayFrom w column cells → AreMeasured cells
      → (pen.is_there ≡ true → at ≤ column) → ((after : ℕ) → NoneWraps columns w after rest) → NoneWraps columns w at (pass_commands pass r column pen cells ++ rest)
  unfolding pass_commands
  pass-fits pass r column pen [] at rest long stay measured there more = more at
  pass-fits pass r column pen (p ∷ ps) at rest long stay measured there more =
      subst (NoneWraps columns w at) (sym (append_assoc (cell_commands r column pen (passed pass pen.is_there p) (columns_in pass (laters ps))) (pass_commands pass r (column + 1) (pen_after pen (passed pass pen.is_there p)) ps) rest))
      (by (passed pass pen.is_there p) refl
      (λ (next : Pen) (after : ℕ) (f : next.is_there ≡ true → after ≤ column + 1). pass-fits pass r (column + 1) next ps after rest (omega (arith, long)) (rest-stays w column p ps stay) (rest-measured p ps measured) f more))
    where
      by : (q : StyledCell) → passed pass pen.is_there p ≡ q
          → ((next : Pen) (after : ℕ) → (next.is_there ≡ true → after ≤ column + 1) → NoneWraps columns w after (pass_commands pass r (column + 1) next ps ++ rest))
          → NoneWraps columns w at (cell_commands r column pen q (columns_in pass (laters ps)) ++ (pass_commands pass r (column + 1) (pen_after pen q) ps ++ rest))
      by Later e others = others (pen_after pen Later) at (λ f. absurd (cc))
      by (First symbol style) e others =
          cell-fits r column pen symbol style (columns_in pass (laters ps)) (columns_in pass (laters ps)) at (pass_commands pass r (column + 1) (pen_after pen (First symbol style)) ps ++ rest) (omega (arith, long))
          (put-measured pass pen.is_there p ps measured symbol style e) (pass-stays w column pass pen.is_there p ps stay symbol style e) there
          (λ after f. others (pen_after pen (First symbol style)) after f)

  row-fits : (r : ℕ) (cells : List StyledCell) (at : ℕ) (rest : List Command) → length cells ≤ w → StayFrom w 0 cells → AreMeasured cells → ((after : ℕ) → NoneWraps columns w after rest)
      → NoneWraps columns w at (row_commands r cells ++ rest)
  unfolding row_commands
  row-fits r cells at rest long stay measured more =
      let blanks = pass_commands Blanks r 0 new_pen cells in
      let symbols = pass_commands Symbols r 0 new_pen cells in
      let letters = pass_commands Letters r 0 new_pen cells in
      subst (NoneWraps columns w at) (sym (append_assoc blanks (symbols ++ letters) rest ∙ ap (λ (t : List Command). blanks ++ t) (append_assoc symbols letters rest)))
      (pass-fits Blanks r 0 new_pen cells at (symbols ++ (letters ++ rest)) (omega (arith, long)) stay measured (λ f. absurd (cc))
      (λ b. pass-fits Symbols r 0 new_pen cells b (letters ++ rest) (omega (arith, long)) stay measured (λ f. absurd (cc))
      (λ c. pass-fits Letters r 0 new_pen cells c rest (omega (arith, long)) stay measured (λ f. absurd (cc)) more)))

  painting-fits : (r : ℕ) (lines : List Line) (at : ℕ) (rest : List Command) → All (Fitting w) lines → ((after : ℕ) → NoneWraps columns w after rest) → NoneWraps columns w at (painting r lines ++ rest)
  unfolding painting
  painting-fits r [] at rest all more = more at
  painting-fits r (line ∷ lines) at rest all more =
      subst (NoneWraps columns w at) (sym (append_assoc (if line.is_changed then row_commands r line.cells else []) (painting (r + 1) lines) rest))
      (by line.is_changed (λ b. painting-fits (r + 1) lines b rest (All-tail (Fitting w) line lines all) more))
    where
      by : (b : Bool) → ((after : ℕ) → NoneWraps columns w after (painting (r + 1) lines ++ rest))
          → NoneWraps columns w at ((if b then row_commands r line.cells else []) ++ (painting (r + 1) lines ++ rest))
      by true others =
          let first = All-head (Fitting w) line lines all in
          let size = first.size in
          row-fits r line.cells at (painting (r + 1) lines ++ rest) (omega (arith, size)) first.stay first.measured others
      by false others = others at

  pub paint-fits : (lines : List Line) (at : ℕ) → All (Fitting w) lines → NoneWraps columns w at (paint_commands lines)
  unfolding paint_commands
  paint-fits lines at all = by (list_any (λ line. line.is_changed) lines)
    where
      by : (b : Bool) → NoneWraps columns w at (if b then SetWrap false ∷ (painting 0 lines ++ (SetWrap true ∷ [])) else [])
      by true = painting-fits 0 lines at (SetWrap true ∷ []) all (λ after. tt)
      by false = tt
