use Rattle.std.proofs.Common.{◌≡◌, arith, true, false, FitsSigned, w64}
use Rattle.std.specs.Prelude.{pos, ◌-ℤ◌}
use Rattle.std.specs.Ordering.{int_eq}
use Rattle.std.proofs.lemmas.Int.{ints, to_z-of_z}
use Rattle.std.proofs.lemmas.Bool.Decides.{Decides-int_eq}
use Rattle.scm_cells.specs.Rect.{end_y_of}
use Rattle.scm_render.specs.Drawing.{border_symbol}
use Rattle.scm_render.proofs.PaintLemmas.{int_eq-false}
use Rattle.scm_render.proofs.filling.border_symbol.Goals as goal

pub returns-then-y-rect : goal.returns-then-y-rect
unfolding border_symbol
returns-then-y-rect c =
    let fx : FitsSigned w64 c.args.x = c.ranges.x in
    let yes : int_eq c.args.y c.args.rect.y ≡ true = grind (arith, ints, Decides-int_eq c.args.y c.args.rect.y) in
    rw yes (simp to_z-of_z at c.edge_symbol.ensures)

pub returns-then-y-end_y : goal.returns-then-y-end_y
unfolding border_symbol
returns-then-y-end_y c =
    let fx : FitsSigned w64 c.args.x = c.ranges.x in
    let no : int_eq c.args.y c.args.rect.y ≡ false = grind (arith, ints, Decides-int_eq c.args.y c.args.rect.y) in
    let yes : int_eq c.args.y (end_y_of c.args.rect -ℤ pos 1) ≡ true = grind (arith, ints, Decides-int_eq c.args.y (end_y_of c.args.rect -ℤ pos 1)) in
    rw (no, yes) (simp to_z-of_z at c.edge_symbol-then-y-end_y.ensures)

pub returns-else-y-end_y : goal.returns-else-y-end_y
unfolding border_symbol
returns-else-y-end_y c =
    let fx : FitsSigned w64 c.args.x = c.ranges.x in
    let no : int_eq c.args.y c.args.rect.y ≡ false = grind (arith, ints, Decides-int_eq c.args.y c.args.rect.y) in
    let neither : int_eq c.args.y (end_y_of c.args.rect -ℤ pos 1) ≡ false = int_eq-false c.args.y (end_y_of c.args.rect -ℤ pos 1) (λ e. omega (arith, ints)) in
    rw (no, neither) (simp to_z-of_z at c.edge_symbol-else-y-end_y.ensures)
