-- What the passes put is a kept cluster with its columns.
use Rattle.std.proofs.Common.{◌≡◌, ℕ, zero, suc, ◌&&◌, not, ◌+◌, ◌-◌, ◌==◌, Bool, true, false, List, [], ◌∷◌, ◌++◌, length, replicate, refl, sym, subst, arith, Option}
use Rattle.std.specs.Prelude.{if◌then◌else◌}
use Rattle.std.specs.List.{All, flat_map, list_any}
use Rattle.std.proofs.lemmas.List.Elements.{All-nil, All-cons, All-head, All-tail, All-append}
use Rattle.scm_cells.specs.Cluster.{Cluster}
use Rattle.scm_cells.specs.Clusters.{IsMeasured}
use Rattle.scm_cells.specs.Row.{cells_of}
use Rattle.scm_cells.proofs.PrintableLemmas.{printable-kept}
use Rattle.scm_cells.proofs.WholeLemmas.{HasColumn}
use Rattle.scm_cells.proofs.WrittenLemmas.{measured, utf8-ascii}
use Rattle.scm_cells.specs.declared.style.Style.{Style}
use Rattle.scm_terminal.specs.declared.pen.Pen.{Pen}
use Rattle.scm_terminal.specs.declared.pen.Pass.{Pass}
use Rattle.scm_terminal.specs.declared.pen.Pass.TheVariants.{Blanks, Symbols, Letters}
use Rattle.scm_terminal.specs.Style.{plain_style}
use Rattle.scm_terminal.specs.StyledCell.{StyledCell, First, Later, laters}
use Rattle.scm_terminal.specs.Terminal.{MoveTo, SetStyle, Put, SetWrap, IsSafe}
use Rattle.scm_terminal.specs.Painting.{Line, is_style_set, move_commands, style_commands, cell_commands, pen_after, new_pen, passed, columns_in, pass_commands, row_commands, painting, paint_commands}
use Rattle.scm_terminal.proofs.ReadingLemmas.{one_byte, byte-columns}
use Rattle.scm_terminal.proofs.PictureLemmas.{styled_from, styled-cells, laters-styled, laters-more}

-- each symbol is a kept cluster, with its columns
pub AreMeasured : List StyledCell → Type 0
AreMeasured [] = Unit {0}
AreMeasured (Later ∷ ps) = AreMeasured ps
AreMeasured (First symbol style ∷ ps) = IsMeasured (symbol, 1 + laters ps) × AreMeasured ps

measured-laters : (k : ℕ) (ps : List StyledCell) → AreMeasured ps → AreMeasured (replicate k Later ++ ps)
unfolding AreMeasured
measured-laters zero ps h = h
measured-laters (suc k) ps h = measured-laters k ps h

pub measured-styled : (style : ℕ → Style) (cs : List Cluster) (column : ℕ) → All HasColumn cs → All IsMeasured cs → AreMeasured (styled_from style column (flat_map cells_of cs))
unfolding AreMeasured
measured-styled style [] column wide kept = tt
measured-styled style (c ∷ cs) column wide kept =
    let some = All-head HasColumn c cs wide in
    let k = c.1 - 1 in
    let more = styled_from style (column + 1 + k) (flat_map cells_of cs) in
    let n : c.1 ≡ 1 + laters (replicate k Later ++ more) = let e = laters-more k more (laters-styled style (column + 1 + k) cs) in omega (arith, e, some) in
    subst AreMeasured (sym (styled-cells style column c (flat_map cells_of cs)))
    (subst (λ (m : ℕ). IsMeasured (c.0, m)) n (All-head IsMeasured c cs kept), measured-laters k more (measured-styled style cs (column + 1 + k) (All-tail HasColumn c cs wide) (All-tail IsMeasured c cs kept)))

space-measured : IsMeasured (32 ∷ [], 1)
space-measured = measured (32 ∷ [], 1) (printable-kept 32 refl) (utf8-ascii 32 (omega arith)) (λ h. refl)

-- what a pass puts at the first cell
pub put-measured : (pass : Pass) (there : Bool) (p : StyledCell) (ps : List StyledCell) → AreMeasured (p ∷ ps) → (symbol : List ℕ) (style : Style) → passed pass there p ≡ First symbol style
    → IsMeasured (symbol, columns_in pass (laters ps))
unfolding AreMeasured
put-measured Blanks there Later ps h symbol style e = let same : (32 ∷ []) ≡ symbol = cc in subst (λ (s : List ℕ). IsMeasured (s, 1)) same space-measured
put-measured Blanks there (First s st) ps h symbol style e = at (there && not (length s == 1)) e
  where
    at : (b : Bool) → (if b then First (32 ∷ []) plain_style else Later) ≡ First symbol style → IsMeasured (symbol, 1)
    at true f = let same : (32 ∷ []) ≡ symbol = cc in subst (λ (t : List ℕ). IsMeasured (t, 1)) same space-measured
    at false f = absurd (cc)
put-measured Symbols there Later ps h symbol style e = absurd (cc)
put-measured Symbols there (First s st) ps h symbol style e = at (length s == 1) e
  where
    at : (b : Bool) → (if b then Later else First s st) ≡ First symbol style → IsMeasured (symbol, 1 + laters ps)
    at true f = absurd (cc)
    at false f = let same : s ≡ symbol = cc in subst (λ (t : List ℕ). IsMeasured (t, 1 + laters ps)) same h.0
put-measured Letters there Later ps h symbol style e = absurd (cc)
put-measured Letters there (First s st) ps h symbol style e = at (length s == 1) refl e
  where
    at : (b : Bool) → (length s == 1) ≡ b → (if b then First s st else Later) ≡ First symbol style → IsMeasured (symbol, 1)
    at true one f =
        let same : s ≡ symbol = cc in
        let byte = one_byte s one in
        let n : 1 + laters ps ≡ 1 = byte-columns byte.0 (1 + laters ps) (subst (λ (t : List ℕ). IsMeasured (t, 1 + laters ps)) byte.1 h.0) in
        subst (λ (t : List ℕ). IsMeasured (t, 1)) same (subst (λ (m : ℕ). IsMeasured (s, m)) n h.0)
    at false one f = absurd (cc)

pub rest-measured : (p : StyledCell) (ps : List StyledCell) → AreMeasured (p ∷ ps) → AreMeasured ps
unfolding AreMeasured
rest-measured Later ps h = h
rest-measured (First symbol style) ps h = h.1

moves-safe : (b : Bool) (row column : ℕ) → All IsSafe (move_commands b row column)
moves-safe true row column = All-nil IsSafe
moves-safe false row column = All-cons IsSafe (MoveTo row column) [] tt (All-nil IsSafe)

sets-safe : (pen : Option Style) (style : Style) → All IsSafe (style_commands pen style)
sets-safe pen style = at (is_style_set pen style)
  where
    at : (b : Bool) → All IsSafe (if b then [] else SetStyle style ∷ [])
    at true = All-nil IsSafe
    at false = All-cons IsSafe (SetStyle style) [] tt (All-nil IsSafe)

cell-safe : (row column : ℕ) (pen : Pen) (p : StyledCell) (columns : ℕ) → ((symbol : List ℕ) (style : Style) → p ≡ First symbol style → IsMeasured (symbol, columns)) → All IsSafe (cell_commands row column pen p columns)
cell-safe row column pen Later columns h = All-nil IsSafe
cell-safe row column pen (First symbol style) columns h =
    All-append IsSafe (move_commands (pen.is_there && (length symbol == 1)) row column) (style_commands pen.style style ++ (Put symbol columns ∷ [])) (moves-safe (pen.is_there && (length symbol == 1)) row column)
    (All-append IsSafe (style_commands pen.style style) (Put symbol columns ∷ []) (sets-safe pen.style style) (All-cons IsSafe (Put symbol columns) [] (h symbol style refl) (All-nil IsSafe)))

pass-safe : (pass : Pass) (row column : ℕ) (pen : Pen) (cells : List StyledCell) → AreMeasured cells → All IsSafe (pass_commands pass row column pen cells)
unfolding pass_commands
pass-safe pass row column pen [] h = All-nil IsSafe
pass-safe pass row column pen (p ∷ ps) h =
    All-append IsSafe (cell_commands row column pen (passed pass pen.is_there p) (columns_in pass (laters ps))) (pass_commands pass row (column + 1) (pen_after pen (passed pass pen.is_there p)) ps)
    (cell-safe row column pen (passed pass pen.is_there p) (columns_in pass (laters ps)) (put-measured pass pen.is_there p ps h))
    (pass-safe pass row (column + 1) (pen_after pen (passed pass pen.is_there p)) ps (rest-measured p ps h))

row-safe : (row : ℕ) (cells : List StyledCell) → AreMeasured cells → All IsSafe (row_commands row cells)
unfolding row_commands
row-safe row cells h =
    All-append IsSafe (pass_commands Blanks row 0 new_pen cells) (pass_commands Symbols row 0 new_pen cells ++ pass_commands Letters row 0 new_pen cells) (pass-safe Blanks row 0 new_pen cells h)
    (All-append IsSafe (pass_commands Symbols row 0 new_pen cells) (pass_commands Letters row 0 new_pen cells) (pass-safe Symbols row 0 new_pen cells h) (pass-safe Letters row 0 new_pen cells h))

painting-safe : (row : ℕ) (lines : List Line) → All (λ line. AreMeasured line.cells) lines → All IsSafe (painting row lines)
unfolding painting
painting-safe row [] h = All-nil IsSafe
painting-safe row (line ∷ lines) h =
    All-append IsSafe (if line.is_changed then row_commands row line.cells else []) (painting (row + 1) lines) (at line.is_changed)
    (painting-safe (row + 1) lines (All-tail (λ l. AreMeasured l.cells) line lines h))
  where
    at : (b : Bool) → All IsSafe (if b then row_commands row line.cells else [])
    at true = row-safe row line.cells (All-head (λ l. AreMeasured l.cells) line lines h)
    at false = All-nil IsSafe

pub paint-safe : (lines : List Line) → All (λ line. AreMeasured line.cells) lines → All IsSafe (paint_commands lines)
unfolding paint_commands
paint-safe lines h = at (list_any (λ line. line.is_changed) lines)
  where
    at : (b : Bool) → All IsSafe (if b then SetWrap false ∷ (painting 0 lines ++ (SetWrap true ∷ [])) else [])
    at true =
        All-cons IsSafe (SetWrap false) (painting 0 lines ++ (SetWrap true ∷ [])) tt
        (All-append IsSafe (painting 0 lines) (SetWrap true ∷ []) (painting-safe 0 lines h) (All-cons IsSafe (SetWrap true) [] tt (All-nil IsSafe)))
    at false = All-nil IsSafe
