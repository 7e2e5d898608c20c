use Rattle.std.proofs.Common.{arith, refl, length-take, length-drop, length-set}
use Rattle.scm_cells.proofs.RowLemmas.{one_cell, first-then_rest}
use Rattle.scm_cells.proofs.row.lay_symbol.Goals as goal

pub returns-then-width-eq1 : goal.returns-then-width-eq1
returns-then-width-eq1 c = one_cell c.args.columns.now c.set_first.new.self c.args.symbol.now c.if-width-eq1.true c.in_ok-set_first.ensures

pub returns : goal.returns
returns c =
    first-then_rest c.args.columns.now c.lay_rest.new.columns c.set_first.new.self c.args.symbol.now _ _ c.requires.some refl c.in_ok-set_first.ensures
    c.lay_rest.ensures (simp (length-take, length-drop, length-set) (omega arith))
