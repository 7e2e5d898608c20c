-- What is sent for a row is whole symbols too, each of which stays on its row.
use Rattle.std.proofs.Common.{◌≡◌, ℕ, zero, suc, ◌+◌, ◌-◌, ◌*◌, ◌/◌, ◌<◌, ◌≤◌, ◌==◌, ◌&&◌, ◌||◌, nat_le, not, Bool, true, false, List, [], ◌∷◌, ◌++◌, length, get_or, map, replicate, refl, sym, ap, ap₂, subst, ◌∙◌, arith, Option, Some, None, IsUtf8, chars, encode_utf8, sum_by}
use Rattle.std.specs.Prelude.{if◌then◌else◌}
use Rattle.std.specs.List.{All, flat_map}
use Rattle.std.proofs.lemmas.Bool.Decides.{nat_tests}
use Rattle.std.proofs.lemmas.List.Sums.{sum_by-cons, sum_by-le}
use Rattle.std.proofs.lemmas.List.Elements.{All-nil, All-cons, All-head, All-tail}
use Rattle.std.proofs.lemmas.Str.{chars_past_char, encodes-chars, length-le-encodes}
use Rattle.std.proofs.StrCases.{chars_of_empty}
use Rattle.unicode_width.proofs.Rules.{width_or_zero-le}
use Rattle.scm_cells.specs.Cell.{Cell}
use Rattle.scm_cells.specs.Cluster.{Cluster}
use Rattle.scm_cells.specs.Clusters.{IsMeasured}
use Rattle.scm_cells.specs.Row.{cells_of}
use Rattle.scm_cells.specs.Symbols.{symbol_of}
use Rattle.scm_cells.proofs.PrintableLemmas.{printable-kept}
use Rattle.scm_cells.proofs.WholeLemmas.{HasColumn}
use Rattle.scm_cells.proofs.WrittenLemmas.{measured, utf8-ascii}
use Rattle.scm_cells.specs.declared.style.Style.{Style}
use Rattle.scm_terminal.specs.declared.pen.Pass.{Pass}
use Rattle.scm_terminal.specs.declared.pen.Pass.TheVariants.{Blanks, Symbols, Letters}
use Rattle.scm_terminal.specs.declared.row.Row.{Row}
use Rattle.scm_terminal.specs.Style.{plain_style}
use Rattle.scm_terminal.specs.StyledCell.{StyledCell, First, Later, cell_of, laters}
use Rattle.scm_terminal.specs.Sent.{char_columns, added_columns, first_is_joined, stays_on_row, sent_cell, blank_after, sent_from, sent_row}
use Rattle.scm_terminal.specs.Painting.{Line, passed, sent_line}
use Rattle.scm_terminal.specs.RowView.{line_of, sent_line_of}
use Rattle.scm_terminal.proofs.PictureLemmas.{styled_from, styled-cells, laters-styled}
use Rattle.scm_terminal.proofs.UpdateLemmas.{line_cells}

-- ---- the columns of code points side by side

pub added-empty : (symbol : List ℕ) → length symbol ≡ 0 → added_columns symbol ≡ 0
unfolding added_columns
added-empty symbol none = ap (sum_by char_columns) (chars_of_empty symbol none)

pub added-step : (symbol rest : List ℕ) (c : ℕ) → IsUtf8 symbol → symbol ≡ encode_utf8 c ++ rest → added_columns symbol ≡ char_columns c + added_columns rest
unfolding added_columns
added-step symbol rest c utf8 parts = ap (sum_by char_columns) (chars_past_char symbol rest c utf8 parts) ∙ sum_by-cons char_columns c (chars rest)

-- at most three columns for each byte
pub added-few : (symbol : List ℕ) → IsUtf8 symbol → added_columns symbol ≤ 3 * length symbol
unfolding added_columns
added-few symbol utf8 =
    let sum = sum_by-le char_columns 3 (chars symbol) (λ k d h. width_or_zero-le false (get_or (chars symbol) k d)) in
    let count = length-le-encodes (chars symbol) in
    let all = ap length (encodes-chars symbol utf8) in
    omega (arith, sum, count, all)

-- ---- symbols that stay

-- a symbol far from the right edge stays
pub stays-far : (symbol : List ℕ) (w column : ℕ) → IsUtf8 symbol → column ≤ w → length symbol ≤ (w - column) / 3 → ((column == 0) && first_is_joined (chars symbol)) ≡ false
    → true ≡ stays_on_row w column symbol
unfolding stays_on_row
stays-far symbol w column utf8 h room apart = at (length symbol == 1)
  where
    at : (b : Bool) → true ≡ (b || (nat_le (column + added_columns symbol) w && not ((column == 0) && first_is_joined (chars symbol))))
    at true = refl
    at false =
        let few = added-few symbol utf8 in
        let fits : column + added_columns symbol ≤ w = omega (arith, few, h, room) in
        let test : nat_le (column + added_columns symbol) w ≡ true = grind (arith, nat_tests) in
        rw (test, apart) refl

pub byte-stays : (w column b : ℕ) → stays_on_row w column (b ∷ []) ≡ true
unfolding stays_on_row
byte-stays w column b = refl

-- each symbol stays on a row of `w` columns, on which the first cell is at `column`
pub StayFrom : ℕ → ℕ → List StyledCell → Type 0
StayFrom w column [] = Unit {0}
StayFrom w column (Later ∷ ps) = StayFrom w (column + 1) ps
StayFrom w column (First symbol style ∷ ps) = (stays_on_row w column symbol ≡ true) × StayFrom w (column + 1) ps

sent-stays : (w column : ℕ) (blank : Option Style) (cells : List StyledCell) → StayFrom w column (sent_from w column blank cells)
unfolding StayFrom sent_from
sent-stays w column blank [] = tt
sent-stays w column blank (First symbol style ∷ ps) =
    (at (stays_on_row w column symbol) refl, sent-stays w (column + 1) (blank_after w column blank (First symbol style)) ps)
  where
    at : (b : Bool) → stays_on_row w column symbol ≡ b → stays_on_row w column (if b then symbol else 63 ∷ []) ≡ true
    at true e = e
    at false e = byte-stays w column 63
sent-stays w column None (Later ∷ ps) = sent-stays w (column + 1) None ps
sent-stays w column (Some style) (Later ∷ ps) = (byte-stays w column 32, sent-stays w (column + 1) (Some style) ps)

pub rest-stays : (w column : ℕ) (p : StyledCell) (ps : List StyledCell) → StayFrom w column (p ∷ ps) → StayFrom w (column + 1) ps
unfolding StayFrom
rest-stays w column Later ps h = h
rest-stays w column (First symbol style) ps h = h.1

-- what a pass puts at the first cell stays, too
pub pass-stays : (w column : ℕ) (pass : Pass) (there : Bool) (p : StyledCell) (ps : List StyledCell) → StayFrom w column (p ∷ ps) → (symbol : List ℕ) (style : Style) → passed pass there p ≡ First symbol style
    → stays_on_row w column symbol ≡ true
unfolding StayFrom
pass-stays w column Blanks there Later ps h symbol style e = let same : (32 ∷ []) ≡ symbol = cc in subst (λ (s : List ℕ). stays_on_row w column s ≡ true) same (byte-stays w column 32)
pass-stays w column Blanks there (First s st) ps h symbol style e = at (there && not (length s == 1)) e
  where
    at : (b : Bool) → (if b then First (32 ∷ []) plain_style else Later) ≡ First symbol style → stays_on_row w column symbol ≡ true
    at true f = let same : (32 ∷ []) ≡ symbol = cc in subst (λ (t : List ℕ). stays_on_row w column t ≡ true) same (byte-stays w column 32)
    at false f = absurd (cc)
pass-stays w column Symbols there Later ps h symbol style e = absurd (cc)
pass-stays w column Symbols there (First s st) ps h symbol style e = at (length s == 1) e
  where
    at : (b : Bool) → (if b then Later else First s st) ≡ First symbol style → stays_on_row w column symbol ≡ true
    at true f = absurd (cc)
    at false f = let same : s ≡ symbol = cc in subst (λ (t : List ℕ). stays_on_row w column t ≡ true) same h.0
pass-stays w column Letters there Later ps h symbol style e = absurd (cc)
pass-stays w column Letters there (First s st) ps h symbol style e = at (length s == 1) e
  where
    at : (b : Bool) → (if b then First s st else Later) ≡ First symbol style → stays_on_row w column symbol ≡ true
    at true f = let same : s ≡ symbol = cc in subst (λ (t : List ℕ). stays_on_row w column t ≡ true) same h.0
    at false f = absurd (cc)

length-sent : (w column : ℕ) (blank : Option Style) (cells : List StyledCell) → length (sent_from w column blank cells) ≡ length cells
unfolding sent_from
length-sent w column blank [] = refl
length-sent w column blank (p ∷ ps) = ap suc (length-sent w (column + 1) (blank_after w column blank p) ps)

pub length-row : (cells : List StyledCell) → length (sent_row cells) ≡ length cells
length-row cells = length-sent (length cells) 0 None cells

pub row-stays : (w : ℕ) (cells : List StyledCell) → length cells ≡ w → StayFrom w 0 (sent_row cells)
row-stays w cells size = subst (λ (n : ℕ). StayFrom n 0 (sent_row cells)) size (sent-stays (length cells) 0 None cells)

-- a symbol of one byte is sent as it is
sent-byte : (w column : ℕ) (blank : Option Style) (cells : List StyledCell) (k b : ℕ) (style : Style) → k < length cells → get_or cells k (First [] style) ≡ First (b ∷ []) style
    → get_or (sent_from w column blank cells) k (First [] style) ≡ First (b ∷ []) style
unfolding sent_from
sent-byte w column blank [] k b style h e = absurd (omega arith)
sent-byte w column blank (p ∷ ps) zero b style h e =
    ap (sent_cell w column blank) e ∙ ap (λ (t : Bool). First (if t then b ∷ [] else 63 ∷ []) style) (byte-stays w column b)
sent-byte w column blank (p ∷ ps) (suc k) b style h e = sent-byte w (column + 1) (blank_after w column blank p) ps k b style (omega arith) e

pub row-byte : (cells : List StyledCell) (k b : ℕ) (style : Style) → k < length cells → get_or cells k (First [] style) ≡ First (b ∷ []) style
    → get_or (sent_row cells) k (First [] style) ≡ First (b ∷ []) style
row-byte cells k b style h e = sent-byte (length cells) 0 None cells k b style h e

-- ---- whole symbols

-- cells from a column on are whole symbols, each in the style of its first column
pub record Wholes (column : ℕ) (cells : List StyledCell) : Type 0 where
  pub style : ℕ → Style
  pub symbols : List Cluster
  pub wide : All HasColumn symbols
  pub kept : All IsMeasured symbols
  pub shows : cells ≡ styled_from style column (flat_map cells_of symbols)

styled-same : (f g : ℕ → Style) (column : ℕ) (cells : List Cell) → ((k : ℕ) → column ≤ k → f k ≡ g k) → styled_from f column cells ≡ styled_from g column cells
styled-same f g column [] same = refl
styled-same f g column (cell ∷ cells) same =
    ap₂ (λ (s : Style) (ps : List StyledCell). cell_of (symbol_of cell) s ∷ ps) (same column (omega arith)) (styled-same f g (column + 1) cells (λ k h. same k (omega (arith, h))))

abbrev style_with : ℕ → Style → (ℕ → Style) → ℕ → Style
style_with column st more k = if k == column then st else more k

with-here : (column : ℕ) (st : Style) (more : ℕ → Style) → style_with column st more column ≡ st
with-here column st more = let e : (column == column) ≡ true = grind (arith, nat_tests) in rw e refl

with-past : (column k : ℕ) (st : Style) (more : ℕ → Style) → column < k → more k ≡ style_with column st more k
with-past column k st more h = let e : (k == column) ≡ false = grind (arith, nat_tests) in rw e refl

Wholes-none : (column : ℕ) → Wholes column []
Wholes-none column = record { style = λ k. plain_style; symbols = []; wide = All-nil HasColumn; kept = All-nil IsMeasured; shows = refl }

Wholes-more : (column : ℕ) (c : Cluster) (st : Style) (ps : List StyledCell) → HasColumn c → IsMeasured c → Wholes (column + 1 + (c.1 - 1)) ps
    → Wholes column (First c.0 st ∷ (replicate (c.1 - 1) Later ++ ps))
Wholes-more column c st ps wide kept more =
    let f : ℕ → Style = style_with column st more.style in
    let column' = column + 1 + (c.1 - 1) in
    let rest = flat_map cells_of more.symbols in
    let tail : ps ≡ styled_from f column' rest = more.shows ∙ styled-same more.style f column' rest (λ k h. with-past column k st more.style (omega (arith, h))) in
    record {
      style = f;
      symbols = c ∷ more.symbols;
      wide = All-cons HasColumn c more.symbols wide more.wide;
      kept = All-cons IsMeasured c more.symbols kept more.kept;
      shows = ap₂ (λ (s : Style) (t : List StyledCell). First c.0 s ∷ (replicate (c.1 - 1) Later ++ t)) (sym (with-here column st more.style)) tail
          ∙ sym (styled-cells f column c rest);
    }

space-measured : IsMeasured (32 ∷ [], 1)
space-measured = measured (32 ∷ [], 1) (printable-kept 32 refl) (utf8-ascii 32 (omega arith)) (λ h. refl)

question-measured : IsMeasured (63 ∷ [], 1)
question-measured = measured (63 ∷ [], 1) (printable-kept 63 refl) (utf8-ascii 63 (omega arith)) (λ h. refl)

-- a symbol of one column
Wholes-one : (column b : ℕ) (st : Style) (ps : List StyledCell) → IsMeasured (b ∷ [], 1) → Wholes (column + 1) ps → Wholes column (First (b ∷ []) st ∷ ps)
Wholes-one column b st ps kept more =
    let e : column + 1 ≡ column + 1 + (1 - 1) = omega arith in
    Wholes-more column (b ∷ [], 1) st ps (let some : 0 < 1 = omega arith in some) kept (subst (λ (k : ℕ). Wholes k ps) e more)

Wholes-blanks : (n column : ℕ) (st : Style) (ps : List StyledCell) → Wholes (column + n) ps → Wholes column (replicate n (First (32 ∷ []) st) ++ ps)
Wholes-blanks zero column st ps more = let e : column + 0 ≡ column = omega arith in subst (λ (k : ℕ). Wholes k ps) e more
Wholes-blanks (suc n) column st ps more =
    let e : column + suc n ≡ column + 1 + n = omega arith in
    Wholes-one column 32 st (replicate n (First (32 ∷ []) st) ++ ps) space-measured (Wholes-blanks n (column + 1) st ps (subst (λ (k : ℕ). Wholes k ps) e more))

laters-kept : (w column k : ℕ) (ps : List StyledCell) → sent_from w column None (replicate k Later ++ ps) ≡ replicate k Later ++ sent_from w (column + k) None ps
unfolding sent_from
laters-kept w column zero ps = let e : column ≡ column + 0 = omega arith in ap (λ (n : ℕ). sent_from w n None ps) e
laters-kept w column (suc k) ps =
    let e : column + 1 + k ≡ column + suc k = omega arith in
    ap (λ (t : List StyledCell). Later ∷ t) (laters-kept w (column + 1) k ps ∙ ap (λ (n : ℕ). replicate k Later ++ sent_from w n None ps) e)

laters-blank : (w column k : ℕ) (st : Style) (ps : List StyledCell)
    → sent_from w column (Some st) (replicate k Later ++ ps) ≡ replicate k (First (32 ∷ []) st) ++ sent_from w (column + k) (Some st) ps
unfolding sent_from
laters-blank w column zero st ps = let e : column ≡ column + 0 = omega arith in ap (λ (n : ℕ). sent_from w n (Some st) ps) e
laters-blank w column (suc k) st ps =
    let e : column + 1 + k ≡ column + suc k = omega arith in
    ap (λ (t : List StyledCell). First (32 ∷ []) st ∷ t) (laters-blank w (column + 1) k st ps ∙ ap (λ (n : ℕ). replicate k (First (32 ∷ []) st) ++ sent_from w n (Some st) ps) e)

-- the blanks end where a symbol begins
sent-starts : (w column : ℕ) (blank : Option Style) (ps : List StyledCell) → laters ps ≡ 0 → sent_from w column blank ps ≡ sent_from w column None ps
unfolding sent_from
sent-starts w column blank [] e = refl
sent-starts w column blank (First symbol style ∷ ps) e = refl
sent-starts w column blank (Later ∷ ps) e = absurd (omega (arith, e))

pub sent-whole : (w : ℕ) (style : ℕ → Style) (cs : List Cluster) (column : ℕ) → All HasColumn cs → All IsMeasured cs → Wholes column (sent_from w column None (styled_from style column (flat_map cells_of cs)))
unfolding sent_from
sent-whole w style [] column wide kept = Wholes-none column
sent-whole w style (c ∷ cs) column wide kept =
    subst (λ (ps : List StyledCell). Wholes column (sent_from w column None ps)) (sym (styled-cells style column c (flat_map cells_of cs)))
    (at (stays_on_row w column c.0) (sent-whole w style cs (column + 1 + (c.1 - 1)) (All-tail HasColumn c cs wide) (All-tail IsMeasured c cs kept)))
  where
    at : (b : Bool) → Wholes (column + 1 + (c.1 - 1)) (sent_from w (column + 1 + (c.1 - 1)) None (styled_from style (column + 1 + (c.1 - 1)) (flat_map cells_of cs)))
        → Wholes column (First (if b then c.0 else 63 ∷ []) (style column)
        ∷ sent_from w (column + 1) (if b then None else Some (style column)) (replicate (c.1 - 1) Later ++ styled_from style (column + 1 + (c.1 - 1)) (flat_map cells_of cs)))
    at true rest =
        let ps = styled_from style (column + 1 + (c.1 - 1)) (flat_map cells_of cs) in
        subst (λ (t : List StyledCell). Wholes column (First c.0 (style column) ∷ t)) (sym (laters-kept w (column + 1) (c.1 - 1) ps))
        (Wholes-more column c (style column) (sent_from w (column + 1 + (c.1 - 1)) None ps) (All-head HasColumn c cs wide) (All-head IsMeasured c cs kept) rest)
    at false rest =
        let ps = styled_from style (column + 1 + (c.1 - 1)) (flat_map cells_of cs) in
        let blanks = replicate (c.1 - 1) (First (32 ∷ []) (style column)) in
        let starts = sent-starts w (column + 1 + (c.1 - 1)) (Some (style column)) ps (laters-styled style (column + 1 + (c.1 - 1)) cs) in
        subst (λ (t : List StyledCell). Wholes column (First (63 ∷ []) (style column) ∷ t))
        (sym (laters-blank w (column + 1) (c.1 - 1) (style column) ps ∙ ap (λ (t : List StyledCell). blanks ++ t) starts))
        (Wholes-one column 63 (style column) (blanks ++ sent_from w (column + 1 + (c.1 - 1)) None ps) question-measured
        (Wholes-blanks (c.1 - 1) (column + 1) (style column) (sent_from w (column + 1 + (c.1 - 1)) None ps) rest))

-- ---- lines that are sent

pub sent-lines : (rows : List Row) → map sent_line (map line_of rows) ≡ map sent_line_of rows
sent-lines [] = refl
sent-lines (row ∷ rows) = ap (λ (t : List Line). sent_line_of row ∷ t) (sent-lines rows)

pub sent-cells : (lines : List Line) → map line_cells (map sent_line lines) ≡ map sent_row (map line_cells lines)
sent-cells [] = refl
sent-cells (line ∷ lines) = ap (λ (t : List (List StyledCell)). sent_row line.cells ∷ t) (sent-cells lines)

-- a line that is sent is that of a line
pub sent-read : (lines : List Line) (k : ℕ) (sent : Line) → k < length (map sent_line lines) → sent ≡ get_or (map sent_line lines) k sent
    → (line : Line) × ((line ≡ get_or lines k line) × (sent ≡ sent_line line))
sent-read [] k sent h read = absurd (omega arith)
sent-read (l ∷ lines) zero sent h read = (l, (refl, read))
sent-read (l ∷ lines) (suc k) sent h read = sent-read lines k sent (omega arith) read
