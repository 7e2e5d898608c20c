-- Commands one after another.
use Rattle.std.proofs.Common.{◌≡◌, ℕ, ◌+◌, ◌<◌, ◌≤◌, Bool, true, false, ◌&&◌, ◌==◌, nat_lt, nat_le, List, [], ◌∷◌, ◌++◌, length, refl, ap, ◌∙◌, arith, get_or, set, Option, Some, None}
use Rattle.std.specs.Prelude.{if◌then◌else◌}
use Rattle.std.specs.Option.{option_and_then}
use Rattle.std.proofs.lemmas.Bool.{and_parts}
use Rattle.std.proofs.lemmas.Bool.Decides.{nat_tests}
use Rattle.scm_cells.specs.declared.style.Style.{Style}
use Rattle.scm_terminal.specs.declared.pen.Pen.{Pen}
use Rattle.scm_terminal.specs.StyledCell.{First}
use Rattle.scm_terminal.specs.Style.{style_code}
use Rattle.scm_terminal.specs.Terminal.{Terminal, Spot, Command, MoveTo, SetStyle, Put, SetWrap, spots_of, over, put, after, after_all}
use Rattle.scm_terminal.specs.Painting.{move_commands, style_commands, cell_commands}
use Rattle.scm_terminal.proofs.StyleLemmas.{style-same}

abbrev pub terminal : ℕ → List (List Spot) → Option (ℕ × ℕ) → Option Style → Terminal
terminal w rows cursor style = record { width = w; rows = rows; cursor = cursor; style = style }

abbrev pub Runs : List Command → Terminal → Terminal → Type 0
Runs cs t u = after_all cs t ≡ Some u

pub Runs-none : (t : Terminal) → Runs [] t t
unfolding after_all
Runs-none t = refl

pub after_all-append : (xs ys : List Command) (t : Terminal) → after_all (xs ++ ys) t ≡ option_and_then (after_all ys) (after_all xs t)
unfolding after_all
after_all-append [] ys t = refl
after_all-append (x ∷ xs) ys t = at (after x t) (after_all-append xs ys)
  where
    at : (o : Option Terminal) → ((u : Terminal) → after_all (xs ++ ys) u ≡ option_and_then (after_all ys) (after_all xs u))
        → option_and_then (after_all (xs ++ ys)) o ≡ option_and_then (after_all ys) (option_and_then (after_all xs) o)
    at None more = refl
    at (Some u) more = more u

pub Runs-append : (xs ys : List Command) (t u v : Terminal) → Runs xs t u → Runs ys u v → Runs (xs ++ ys) t v
Runs-append xs ys t u v e f = after_all-append xs ys t ∙ ap (option_and_then (after_all ys)) e ∙ f

pub Runs-one : (c : Command) (t u : Terminal) → after c t ≡ Some u → Runs (c ∷ []) t u
unfolding after_all
Runs-one c t u e = ap (option_and_then (after_all [])) e

pub wrap-runs : (b : Bool) (t : Terminal) → Runs (SetWrap b ∷ []) t t
unfolding after
wrap-runs b t = Runs-one (SetWrap b) t t refl

-- ---- the commands of a cell

both_below : (m n k l : ℕ) → m < n → k < l → (nat_lt m n && nat_lt k l) ≡ true
both_below m n k l h g = grind (arith, nat_tests)

pub move-runs : (is_there : Bool) (r c w : ℕ) (rows : List (List Spot)) (cursor : Option (ℕ × ℕ)) (style : Option Style) → r < length rows → c < w
    → (is_there ≡ true → cursor ≡ Some (r, c)) → Runs (move_commands is_there r c) (terminal w rows cursor style) (terminal w rows (Some (r, c)) style)
unfolding after
move-runs true r c w rows cursor style h g there =
    Runs-none (terminal w rows cursor style) ∙ ap (λ (at : Option (ℕ × ℕ)). Some (terminal w rows at style)) (there refl)
move-runs false r c w rows cursor style h g there =
    Runs-one (MoveTo r c) (terminal w rows cursor style) (terminal w rows (Some (r, c)) style) (rw (both_below r (length rows) c w h g) refl)

pub set-runs : (pen : Option Style) (style : Style) (w : ℕ) (rows : List (List Spot)) (cursor : Option (ℕ × ℕ)) (was : Option Style)
    → ((s : Style) → pen ≡ Some s → was ≡ Some s) → Runs (style_commands pen style) (terminal w rows cursor was) (terminal w rows cursor (Some style))
unfolding after
set-runs None style w rows cursor was same = Runs-one (SetStyle style) (terminal w rows cursor was) (terminal w rows cursor (Some style)) refl
set-runs (Some p) style w rows cursor was same = at (style_code p == style_code style) refl
  where
    at : (b : Bool) → (style_code p == style_code style) ≡ b
        → Runs (if b then [] else SetStyle style ∷ []) (terminal w rows cursor was) (terminal w rows cursor (Some style))
    at true e =
        let codes : style_code p ≡ style_code style = grind (arith, nat_tests) in
        Runs-none (terminal w rows cursor was) ∙ ap (λ (s : Option Style). Some (terminal w rows cursor s)) (same p refl ∙ ap (λ (s : Style). Some s) (style-same p style codes))
    at false e = Runs-one (SetStyle style) (terminal w rows cursor was) (terminal w rows cursor (Some style)) refl

-- where the cursor stands behind a symbol
abbrev pub cursor_behind : List ℕ → ℕ → ℕ → ℕ → ℕ → Option (ℕ × ℕ)
cursor_behind symbol columns r c w = if (length symbol == 1) && nat_lt (c + columns) w then Some (r, c + columns) else None

pub put-runs : (symbol : List ℕ) (columns r c w : ℕ) (rows : List (List Spot)) (style : Style) → c + columns ≤ w
    → Runs (Put symbol columns ∷ []) (terminal w rows (Some (r, c)) (Some style))
    (terminal w (set rows r (over (get_or rows r []) c (spots_of symbol columns style))) (cursor_behind symbol columns r c w) (Some style))
unfolding after put
put-runs symbol columns r c w rows style h =
    let room : nat_le (c + columns) w ≡ true = grind (arith, nat_tests) in
    Runs-one (Put symbol columns) _ _ (rw room refl)

-- a symbol is put at a cell, after the moves and styles that it takes
pub cell-runs : (symbol : List ℕ) (columns r c w : ℕ) (rows : List (List Spot)) (cursor : Option (ℕ × ℕ)) (style : Style) (was : Option Style) (pen : Pen)
    → r < length rows → 0 < columns → c + columns ≤ w
    → (pen.is_there ≡ true → cursor ≡ Some (r, c)) → ((s : Style) → pen.style ≡ Some s → was ≡ Some s)
    → Runs (cell_commands r c pen (First symbol style) columns) (terminal w rows cursor was)
    (terminal w (set rows r (over (get_or rows r []) c (spots_of symbol columns style))) (cursor_behind symbol columns r c w) (Some style))
cell-runs symbol columns r c w rows cursor style was pen h some room there same =
    Runs-append (move_commands (pen.is_there && (length symbol == 1)) r c) (style_commands pen.style style ++ (Put symbol columns ∷ [])) _ _ _
    (move-runs (pen.is_there && (length symbol == 1)) r c w rows cursor was h (omega arith) (λ e. there (and_parts pen.is_there (length symbol == 1) e).0))
    (Runs-append (style_commands pen.style style) (Put symbol columns ∷ []) _ _ _ (set-runs pen.style style w rows (Some (r, c)) was same) (put-runs symbol columns r c w rows style room))
