-- The bytes of cells and of rows one after another.
use Rattle.std.proofs.Common.{◌≡◌, ℕ, ◌==◌, ◌&&◌, ◌||◌, zero, suc, ◌+◌, ◌<◌, ◌≤◌, Bool, true, false, List, [], ◌∷◌, ◌++◌, length, drop, get_or, map, refl, sym, ap, ap₂, subst, ◌∙◌, arith, Option, None, append-nil, append_assoc}
use Rattle.std.specs.Prelude.{if◌then◌else◌}
use Rattle.std.specs.List.{flat_map, list_any}
use Rattle.std.proofs.lemmas.List.{drop_more, drop_all, drop-drop, get_or-drop, length-drop}
use Rattle.std.proofs.lemmas.List.Concat.{flat_map-append}
use Rattle.scm_cells.specs.declared.style.Style.{Style}
use Rattle.scm_terminal.specs.declared.pen.Pen.{Pen}
use Rattle.scm_terminal.specs.declared.pen.Pass.{Pass}
use Rattle.scm_terminal.specs.declared.row.Row.{Row}
use Rattle.scm_terminal.specs.PassedOver.{IsPassedOver}
use Rattle.scm_terminal.specs.RowView.{sent_line_of}
use Rattle.scm_terminal.specs.Sent.{sent_cell, blank_after, sent_from}
use Rattle.scm_terminal.specs.StyledCell.{StyledCell, First, Later, laters}
use Rattle.scm_terminal.specs.Terminal.{Command, Put, SetWrap, bytes_of}
use Rattle.scm_terminal.specs.Painting.{Line, move_commands, style_commands, cell_commands, pen_after, passed, columns_in, pass_commands, line_commands, painting, paint_commands}

abbrev pub bytes : List Command → List ℕ
bytes commands = flat_map bytes_of commands

-- the bytes of a cell are the same whatever the columns of its symbol are
bytes-columns : (row column : ℕ) (pen : Pen) (cell : StyledCell) (m n : ℕ) → bytes (cell_commands row column pen cell m) ≡ bytes (cell_commands row column pen cell n)
unfolding bytes_of
bytes-columns row column pen (First symbol style) m n =
    let last : (k : ℕ) → bytes (move_commands (pen.is_there && (length symbol == 1)) row column ++ (style_commands pen.style style ++ (Put symbol k ∷ [])))
    ≡ bytes (move_commands (pen.is_there && (length symbol == 1)) row column) ++ (bytes (style_commands pen.style style) ++ (symbol ++ [])) =
    λ k. flat_map-append bytes_of (move_commands (pen.is_there && (length symbol == 1)) row column) (style_commands pen.style style ++ (Put symbol k ∷ []))
    ∙ ap (λ t. bytes (move_commands (pen.is_there && (length symbol == 1)) row column) ++ t) (flat_map-append bytes_of (style_commands pen.style style) (Put symbol k ∷ [])) in
    last m ∙ sym (last n)
bytes-columns row column pen Later m n = refl

pass-cons : (pass : Pass) (row column : ℕ) (pen : Pen) (p : StyledCell) (ps : List StyledCell)
    → bytes (pass_commands pass row column pen (p ∷ ps)) ≡ bytes (cell_commands row column pen (passed pass pen.is_there p) 0) ++ bytes (pass_commands pass row (column + 1) (pen_after pen (passed pass pen.is_there p)) ps)
unfolding pass_commands
pass-cons pass row column pen p ps =
    flat_map-append bytes_of (cell_commands row column pen (passed pass pen.is_there p) (columns_in pass (laters ps))) (pass_commands pass row (column + 1) (pen_after pen (passed pass pen.is_there p)) ps)
    ∙ ap (λ t. t ++ bytes (pass_commands pass row (column + 1) (pen_after pen (passed pass pen.is_there p)) ps)) (bytes-columns row column pen (passed pass pen.is_there p) (columns_in pass (laters ps)) 0)

sent-none : (w column : ℕ) (blank : Option Style) → sent_from w column blank [] ≡ []
unfolding sent_from
sent-none w column blank = refl

sent-more : (w column : ℕ) (blank next : Option Style) (p q : StyledCell) (ps : List StyledCell) → q ≡ sent_cell w column blank p → next ≡ blank_after w column blank p
    → sent_from w column blank (p ∷ ps) ≡ q ∷ sent_from w (column + 1) next ps
unfolding sent_from
sent-more w column blank next p q ps e f = ap₂ (λ (x : StyledCell) (b : Option Style). x ∷ sent_from w (column + 1) b ps) (sym e) (sym f)

pub pass-more : (w : ℕ) (pass : Pass) (row column : ℕ) (pen after : Pen) (blank next : Option Style) (cells : List StyledCell) (p q : StyledCell) (was now start : List ℕ) → column < length cells → p ≡ get_or cells column p
    → q ≡ sent_cell w column blank p → next ≡ blank_after w column blank p
    → after ≡ pen_after pen (passed pass pen.is_there q) → now ≡ was ++ bytes (cell_commands row column pen (passed pass pen.is_there q) 0)
    → was ++ bytes (pass_commands pass row column pen (sent_from w column blank (drop column cells))) ≡ start
    → now ++ bytes (pass_commands pass row (column + 1) after (sent_from w (column + 1) next (drop (column + 1) cells))) ≡ start
pass-more w pass row column pen after blank next cells p q was now start h read is follows behind e inv =
    let more : drop column cells ≡ p ∷ drop (column + 1) cells = drop_more cells column p h ∙ ap (λ x. x ∷ drop (column + 1) cells) (sym read) in
    let others = sent_from w (column + 1) next (drop (column + 1) cells) in
    let sent : sent_from w column blank (drop column cells) ≡ q ∷ others = ap (sent_from w column blank) more ∙ sent-more w column blank next p q (drop (column + 1) cells) is follows in
    let rest = bytes (pass_commands pass row (column + 1) (pen_after pen (passed pass pen.is_there q)) others) in
    ap (λ (x : Pen). now ++ bytes (pass_commands pass row (column + 1) x others)) behind
    ∙ ap (λ t. t ++ rest) e
    ∙ append_assoc was (bytes (cell_commands row column pen (passed pass pen.is_there q) 0)) rest
    ∙ ap (λ t. was ++ t) (sym (pass-cons pass row column pen q others))
    ∙ ap (λ ps. was ++ bytes (pass_commands pass row column pen ps)) (sym sent)
    ∙ inv

pass-nil : (pass : Pass) (row column : ℕ) (pen : Pen) → pass_commands pass row column pen [] ≡ []
unfolding pass_commands
pass-nil pass row column pen = refl

pub pass-all : (w : ℕ) (pass : Pass) (row column : ℕ) (pen : Pen) (blank : Option Style) (cells : List StyledCell) (now start : List ℕ) → length cells ≤ column
    → now ++ bytes (pass_commands pass row column pen (sent_from w column blank (drop column cells))) ≡ start → now ≡ start
pass-all w pass row column pen blank cells now start h inv =
    let none : sent_from w column blank (drop column cells) ≡ [] = ap (sent_from w column blank) (drop_all column cells h) ∙ sent-none w column blank in
    sym (append-nil now) ∙ ap (λ cs. now ++ bytes cs) (sym (ap (pass_commands pass row column pen) none ∙ pass-nil pass row column pen)) ∙ inv

-- the bytes of a pass for cells from a column on
abbrev pub bytes_left : ℕ → Pass → ℕ → ℕ → Pen → Option Style → List StyledCell → List ℕ
bytes_left w pass row column pen blank cells = bytes (pass_commands pass row column pen (sent_from w column blank cells))

pass-over : (w : ℕ) (pass : Pass) (row column : ℕ) (pen : Pen) (blank : Option Style) (p : StyledCell) (ps : List StyledCell) → IsPassedOver pass p
    → bytes_left w pass row column pen blank (p ∷ ps) ≡ bytes_left w pass row (column + 1) (pen_after pen Later) None ps
pass-over w pass row column pen blank p ps over =
    let q = sent_cell w column blank p in
    let others = sent_from w (column + 1) None ps in
    ap (λ (xs : List StyledCell). bytes (pass_commands pass row column pen xs)) (sent-more w column blank None p q ps refl (sym (over.no_blanks w column blank)))
    ∙ pass-cons pass row column pen q others
    ∙ ap (λ (x : StyledCell). bytes (cell_commands row column pen x 0) ++ bytes (pass_commands pass row (column + 1) (pen_after pen x) others)) (over.puts_nothing pen.is_there w column blank)

-- a cell that is passed over, and `n` more
pass-run : (n w : ℕ) (pass : Pass) (row column end : ℕ) (pen : Pen) (blank : Option Style) (cells : List StyledCell) → n < length cells → (column + n) + 1 ≡ end
    → ((k : ℕ) → k ≤ n → IsPassedOver pass (get_or cells k Later))
    → bytes_left w pass row column pen blank cells ≡ bytes_left w pass row end (pen_after pen Later) None (drop (suc n) cells)
pass-run n w pass row column end pen blank [] h e over = absurd (omega arith)
pass-run zero w pass row column end pen blank (p ∷ ps) h e over =
    let next : column + 1 ≡ end = omega arith in
    pass-over w pass row column pen blank p ps (over 0 (omega arith)) ∙ ap (λ (k : ℕ). bytes_left w pass row k (pen_after pen Later) None ps) next
pass-run (suc n) w pass row column end pen blank (p ∷ ps) h e over =
    pass-over w pass row column pen blank p ps (over 0 (omega arith))
    ∙ pass-run n w pass row (column + 1) end (pen_after pen Later) None ps (omega arith) (omega arith) (λ k b. over (suc k) (omega arith))

-- the columns from `column` to `end` are passed over
pub pass-far : (w : ℕ) (pass : Pass) (row column end n : ℕ) (pen after : Pen) (blank : Option Style) (cells : List StyledCell) (was start : List ℕ) → (column + n) + 1 ≡ end → end ≤ length cells
    → after ≡ pen_after pen Later → ((k : ℕ) → column ≤ k → k < end → IsPassedOver pass (get_or cells k Later))
    → was ++ bytes_left w pass row column pen blank (drop column cells) ≡ start → was ++ bytes_left w pass row end after None (drop end cells) ≡ start
pass-far w pass row column end n pen after blank cells was start e high behind over inv =
    let long = length-drop column cells in
    let far : column + suc n ≡ end = omega arith in
    let run = pass-run n w pass row column end pen blank (drop column cells) (omega arith) e (λ k b. subst (IsPassedOver pass) (sym (get_or-drop column cells k Later)) (over (column + k) (omega arith) (omega arith))) in
    ap (λ (x : Pen). was ++ bytes_left w pass row end x None (drop end cells)) behind
    ∙ ap (λ (xs : List StyledCell). was ++ bytes_left w pass row end (pen_after pen Later) None xs) (sym (drop-drop (suc n) column cells ∙ ap (λ (i : ℕ). drop i cells) far))
    ∙ ap (λ t. was ++ t) (sym run)
    ∙ inv

painting-cons : (row : ℕ) (line : Line) (lines : List Line) → bytes (painting row (line ∷ lines)) ≡ bytes (line_commands row line) ++ bytes (painting (row + 1) lines)
unfolding painting
painting-cons row line lines = flat_map-append bytes_of (line_commands row line) (painting (row + 1) lines)

painting-nil : (row : ℕ) → painting row [] ≡ []
unfolding painting
painting-nil row = refl

pub painting-more : (row : ℕ) (lines : List Line) (line : Line) (was now start : List ℕ) → row < length lines → line ≡ get_or lines row line
    → now ≡ was ++ bytes (line_commands row line)
    → was ++ bytes (painting row (drop row lines)) ≡ start
    → now ++ bytes (painting (row + 1) (drop (row + 1) lines)) ≡ start
painting-more row lines line was now start h read e inv =
    let more : drop row lines ≡ line ∷ drop (row + 1) lines = drop_more lines row line h ∙ ap (λ l. l ∷ drop (row + 1) lines) (sym read) in
    let rest = bytes (painting (row + 1) (drop (row + 1) lines)) in
    ap (λ t. t ++ rest) e
    ∙ append_assoc was (bytes (line_commands row line)) rest
    ∙ ap (λ t. was ++ t) (sym (painting-cons row line (drop (row + 1) lines)))
    ∙ ap (λ ls. was ++ bytes (painting row ls)) (sym more)
    ∙ inv

pub painting-all : (row : ℕ) (lines : List Line) (now start : List ℕ) → length lines ≤ row → now ++ bytes (painting row (drop row lines)) ≡ start → now ≡ start
painting-all row lines now start h inv =
    sym (append-nil now) ∙ ap (λ cs. now ++ bytes cs) (sym (ap (painting row) (drop_all row lines h) ∙ painting-nil row)) ∙ inv

pub changed-lines : (rows : List Row) → list_any (λ line. line.is_changed) (map sent_line_of rows) ≡ list_any (λ row. row.is_changed) rows
changed-lines [] = refl
changed-lines (row ∷ rows) = ap (λ b. row.is_changed || b) (changed-lines rows)

-- the rows of a paint, while no symbol wraps
pub paint-push : (lines : List Line) (t0 t1 t2 t3 : List ℕ) → list_any (λ line. line.is_changed) lines ≡ true
    → t1 ≡ t0 ++ (27 ∷ (91 ∷ (63 ∷ (55 ∷ (108 ∷ []))))) → t2 ≡ t1 ++ bytes (painting 0 lines) → t3 ≡ t2 ++ (27 ∷ (91 ∷ (63 ∷ (55 ∷ (104 ∷ [])))))
    → t3 ≡ t0 ++ bytes (paint_commands lines)
unfolding paint_commands bytes_of
paint-push lines t0 t1 t2 t3 changed e f g =
    let off = 27 ∷ (91 ∷ (63 ∷ (55 ∷ (108 ∷ [])))) in
    let on = 27 ∷ (91 ∷ (63 ∷ (55 ∷ (104 ∷ [])))) in
    let rows = painting 0 lines in
    g ∙ ap (λ t. t ++ on) (f ∙ ap (λ t. t ++ bytes rows) e)
    ∙ append_assoc (t0 ++ off) (bytes rows) on
    ∙ append_assoc t0 off (bytes rows ++ on)
    ∙ ap (λ t. t0 ++ (off ++ t)) (sym (flat_map-append bytes_of rows (SetWrap true ∷ [])))
    ∙ ap (λ (b : Bool). t0 ++ bytes (if b then SetWrap false ∷ (rows ++ (SetWrap true ∷ [])) else [])) (sym changed)

pub paint-none : (lines : List Line) (t0 : List ℕ) → list_any (λ line. line.is_changed) lines ≡ false → t0 ≡ t0 ++ bytes (paint_commands lines)
unfolding paint_commands
paint-none lines t0 none = sym (append-nil t0) ∙ ap (λ (b : Bool). t0 ++ bytes (if b then SetWrap false ∷ (painting 0 lines ++ (SetWrap true ∷ [])) else [])) (sym none)
