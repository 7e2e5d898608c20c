-- The commands of a painting stand on the screen, and move before and after each symbol of more bytes than one.
use Rattle.std.proofs.Common.{◌≡◌, ℕ, ◌+◌, ◌<◌, ◌^◌, ◌==◌, nat_lt, nat_le, Bool, true, false, ◌&&◌, List, [], ◌∷◌, ◌++◌, length, get_or, refl, sym, ap, subst, ◌∙◌, arith, Option, Some, None, append_assoc, length-set}
use Rattle.std.specs.Prelude.{if◌then◌else◌}
use Rattle.std.specs.Option.{option_and_then}
use Rattle.std.specs.List.{All, list_any}
use Rattle.std.proofs.lemmas.Bool.{and_parts}
use Rattle.std.proofs.lemmas.Bool.Decides.{nat_tests}
use Rattle.std.proofs.lemmas.List.Elements.{All-nil, All-cons}
use Rattle.scm_cells.specs.declared.style.Style.{Style}
use Rattle.scm_terminal.specs.declared.pen.Pen.{Pen}
use Rattle.scm_terminal.specs.declared.pen.Pass.{Pass}
use Rattle.scm_terminal.specs.declared.pen.Pass.TheVariants.{Blanks, Symbols, Letters}
use Rattle.scm_terminal.specs.StyledCell.{StyledCell, First, Later, laters}
use Rattle.scm_terminal.specs.Terminal.{Terminal, Command, MoveTo, SetStyle, Put, SetWrap, IsNear, Before, Moved, Byte, behind, MayFollow, AreApart, spots_of, over, put, after, after_all}
use Rattle.scm_terminal.specs.Painting.{Line, is_style_set, move_commands, style_commands, cell_commands, pen_after, new_pen, passed, columns_in, pass_commands, row_commands, painting, paint_commands}

-- ---- what runs stays on the screen

record Stays (c : Command) (t u : Terminal) : Type 0 where
  pub near : IsNear c
  pub wide : u.width ≡ t.width
  pub high : length u.rows ≡ length t.rows

-- a test that leads to a terminal holds
taken : (b : Bool) (t u : Terminal) → (if b then Some t else None) ≡ Some u → (b ≡ true) × (t ≡ u)
taken true t u e = (refl, cc)
taken false t u e = absurd (cc)

put-stays : (symbol : List ℕ) (columns : ℕ) (cursor : Option (ℕ × ℕ)) (style : Option Style) (t u : Terminal) → put symbol columns cursor style t ≡ Some u → Stays (Put symbol columns) t u
unfolding put
put-stays symbol columns None style t u e = absurd (cc)
put-stays symbol columns (Some at) None t u e = absurd (cc)
put-stays symbol columns (Some at) (Some style) t u e =
    let row = over (get_or t.rows at.0 []) at.1 (spots_of symbol columns style) in
    let is = (taken (nat_le (at.1 + columns) t.width) _ u e).1 in
    record {
      near = tt;
      wide = sym (ap (λ (x : Terminal). x.width) is);
      high = sym (ap (λ (x : Terminal). length x.rows) is) ∙ length-set t.rows at.0 row;
    }

after-stays : (c : Command) (t u : Terminal) → t.width < 2 ^ 16 → length t.rows < 2 ^ 16 → after c t ≡ Some u → Stays c t u
unfolding after
after-stays (MoveTo row column) t u wide high e =
    let took = taken (nat_lt row (length t.rows) && nat_lt column t.width) _ u e in
    let parts = and_parts (nat_lt row (length t.rows)) (nat_lt column t.width) took.0 in
    let above : row < length t.rows = grind (arith, nat_tests) in
    let before : column < t.width = grind (arith, nat_tests) in
    record { near = (omega arith, omega arith); wide = sym (ap (λ (x : Terminal). x.width) took.1); high = sym (ap (λ (x : Terminal). length x.rows) took.1) }
after-stays (SetStyle style) t u wide high e =
    let is : ◌≡◌ {A = Terminal} (record t { style = Some style }) u = cc in
    record { near = tt; wide = sym (ap (λ (x : Terminal). x.width) is); high = sym (ap (λ (x : Terminal). length x.rows) is) }
after-stays (Put symbol columns) t u wide high e = put-stays symbol columns t.cursor t.style t u e
after-stays (SetWrap wraps) t u wide high e =
    let is : ◌≡◌ {A = Terminal} t u = cc in
    record { near = tt; wide = sym (ap (λ (x : Terminal). x.width) is); high = sym (ap (λ (x : Terminal). length x.rows) is) }

pub runs-near : (cs : List Command) (t u : Terminal) → t.width < 2 ^ 16 → length t.rows < 2 ^ 16 → after_all cs t ≡ Some u → All IsNear cs
unfolding after_all
runs-near [] t u wide high e = All-nil IsNear
runs-near (c ∷ cs) t u wide high e = at (after c t) refl (λ v w h run. runs-near cs v u w h run) e
  where
    at : (o : Option Terminal) → after c t ≡ o → ((v : Terminal) → v.width < 2 ^ 16 → length v.rows < 2 ^ 16 → after_all cs v ≡ Some u → All IsNear cs)
        → option_and_then (after_all cs) o ≡ Some u → All IsNear (c ∷ cs)
    at None is rest run = absurd (cc)
    at (Some v) is rest run =
        let stays = after-stays c t v wide high is in
        All-cons IsNear c cs stays.near (rest v (omega (arith, stays.wide)) (omega (arith, stays.high)) run)

-- ---- moves before and after symbols of more bytes

put-apart : (is : Option Style) (style : Style) (symbol : List ℕ) (columns : ℕ) (before : Before) (rest : List Command) → MayFollow before symbol → AreApart (behind symbol) rest
    → AreApart before ((style_commands is style ++ (Put symbol columns ∷ [])) ++ rest)
put-apart is style symbol columns before rest follows more = at (is_style_set is style)
  where
    at : (b : Bool) → AreApart before (((if b then [] else SetStyle style ∷ []) ++ (Put symbol columns ∷ [])) ++ rest)
    at true = (follows, more)
    at false = (follows, more)

cell-apart : (row column : ℕ) (pen : Pen) (symbol : List ℕ) (style : Style) (columns : ℕ) (before : Before) (rest : List Command) → (pen.is_there ≡ true → before ≡ Byte)
    → AreApart (behind symbol) rest → AreApart before (cell_commands row column pen (First symbol style) columns ++ rest)
cell-apart row column pen symbol style columns before rest there more = at (pen.is_there && (length symbol == 1)) refl
  where
    at : (b : Bool) → (pen.is_there && (length symbol == 1)) ≡ b → AreApart before ((move_commands b row column ++ (style_commands pen.style style ++ (Put symbol columns ∷ []))) ++ rest)
    at true e =
        let parts = and_parts pen.is_there (length symbol == 1) e in
        let one : length symbol ≡ 1 = grind (arith, nat_tests) in
        put-apart pen.style style symbol columns before rest (subst (λ (b : Before). MayFollow b symbol) (sym (there parts.0)) one) more
    at false e = put-apart pen.style style symbol columns Moved rest tt more

behind-byte : (symbol : List ℕ) → (length symbol == 1) ≡ true → behind symbol ≡ Byte
behind-byte symbol e = rw e refl

-- a cell, whatever the pass puts at it
any-apart : (row column : ℕ) (pen : Pen) (p : StyledCell) (columns : ℕ) (before : Before) (rest : List Command) → (pen.is_there ≡ true → before ≡ Byte)
    → ((b : Before) → ((pen_after pen p).is_there ≡ true → b ≡ Byte) → AreApart b rest) → AreApart before (cell_commands row column pen p columns ++ rest)
any-apart row column pen Later columns before rest there more = more before (λ e. absurd (cc))
any-apart row column pen (First symbol style) columns before rest there more =
    cell-apart row column pen symbol style columns before rest there (more (behind symbol) (behind-byte symbol))

pass-apart : (pass : Pass) (row column : ℕ) (pen : Pen) (cells : List StyledCell) (before : Before) (rest : List Command) → (pen.is_there ≡ true → before ≡ Byte) → ((b : Before) → AreApart b rest)
    → AreApart before (pass_commands pass row column pen cells ++ rest)
unfolding pass_commands
pass-apart pass row column pen [] before rest there more = more before
pass-apart pass row column pen (p ∷ ps) before rest there more =
    let first = cell_commands row column pen (passed pass pen.is_there p) (columns_in pass (laters ps)) in
    let others = pass_commands pass row (column + 1) (pen_after pen (passed pass pen.is_there p)) ps in
    subst (AreApart before) (sym (append_assoc first others rest))
    (any-apart row column pen (passed pass pen.is_there p) (columns_in pass (laters ps)) before (others ++ rest) there
    (λ (b : Before) (e : (pen_after pen (passed pass pen.is_there p)).is_there ≡ true → b ≡ Byte). pass-apart pass row (column + 1) (pen_after pen (passed pass pen.is_there p)) ps b rest e more))

row-apart : (row : ℕ) (cells : List StyledCell) (before : Before) (rest : List Command) → ((b : Before) → AreApart b rest) → AreApart before (row_commands row cells ++ rest)
unfolding row_commands
row-apart row cells before rest more =
    let blanks = pass_commands Blanks row 0 new_pen cells in
    let symbols = pass_commands Symbols row 0 new_pen cells in
    let letters = pass_commands Letters row 0 new_pen cells in
    subst (AreApart before) (sym (append_assoc blanks (symbols ++ letters) rest ∙ ap (λ (t : List Command). blanks ++ t) (append_assoc symbols letters rest)))
    (pass-apart Blanks row 0 new_pen cells before (symbols ++ (letters ++ rest)) (λ e. absurd (cc))
    (λ b. pass-apart Symbols row 0 new_pen cells b (letters ++ rest) (λ e. absurd (cc)) (λ c. pass-apart Letters row 0 new_pen cells c rest (λ e. absurd (cc)) more)))

painting-apart : (row : ℕ) (lines : List Line) (before : Before) (rest : List Command) → ((b : Before) → AreApart b rest) → AreApart before (painting row lines ++ rest)
unfolding painting
painting-apart row [] before rest more = more before
painting-apart row (line ∷ lines) before rest more =
    subst (AreApart before) (sym (append_assoc (if line.is_changed then row_commands row line.cells else []) (painting (row + 1) lines) rest))
    (at line.is_changed (λ b. painting-apart (row + 1) lines b rest more))
  where
    at : (b : Bool) → ((later : Before) → AreApart later (painting (row + 1) lines ++ rest))
        → AreApart before ((if b then row_commands row line.cells else []) ++ (painting (row + 1) lines ++ rest))
    at true others = row-apart row line.cells before (painting (row + 1) lines ++ rest) others
    at false others = others before

pub paint-apart : (lines : List Line) (before : Before) → AreApart before (paint_commands lines)
unfolding paint_commands
paint-apart lines before = at (list_any (λ line. line.is_changed) lines)
  where
    at : (b : Bool) → AreApart before (if b then SetWrap false ∷ (painting 0 lines ++ (SetWrap true ∷ [])) else [])
    at true = painting-apart 0 lines before (SetWrap true ∷ []) (λ b. tt)
    at false = tt
