use Rattle.std.proofs.Common.{◌≡◌, arith, refl, true, false}
use Rattle.std.specs.Prelude.{pos, ◌-ℤ◌}
use Rattle.std.specs.Ordering.{int_eq}
use Rattle.std.proofs.lemmas.Int.{ints}
use Rattle.std.proofs.lemmas.Bool.Decides.{Decides-int_eq}
use Rattle.scm_cells.specs.Rect.{end_x_of}
use Rattle.scm_render.proofs.filling.edge_symbol.Goals as goal

pub returns-then-x-end_x : goal.returns-then-x-end_x
returns-then-x-end_x c =
    let r = c.args.rect in
    let no : int_eq c.args.x r.x ≡ false = grind (arith, ints, Decides-int_eq c.args.x r.x) in
    let yes : int_eq c.args.x (end_x_of r -ℤ pos 1) ≡ true = grind (arith, ints, Decides-int_eq c.args.x (end_x_of r -ℤ pos 1)) in
    rw (no, yes) refl

pub returns-else-x-end_x : goal.returns-else-x-end_x
returns-else-x-end_x c =
    let r = c.args.rect in
    let no : int_eq c.args.x r.x ≡ false = grind (arith, ints, Decides-int_eq c.args.x r.x) in
    let neither : int_eq c.args.x (end_x_of r -ℤ pos 1) ≡ false = grind (arith, ints, Decides-int_eq c.args.x (end_x_of r -ℤ pos 1)) in
    rw (no, neither) refl
