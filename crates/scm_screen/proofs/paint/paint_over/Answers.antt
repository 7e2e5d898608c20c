use Rattle.std.proofs.Common.{◌≡◌, ◌∙◌, ◌+◌, ◌<◌, ◌≤◌, length, sym, arith}
use Rattle.std.specs.Prelude.{option_map}
use Rattle.scm_strips.specs.ShownRows.{row_of}
use Rattle.scm_strips.proofs.RowLemmas.{on-ok}
use Rattle.scm_screen.proofs.EachLemmas.{none-above, none-below, one-painted}
use Rattle.scm_screen.proofs.paint.paint_over.Goals as goal

pub returns-in-None-clause-ok : goal.returns-in-None-clause-ok
returns-in-None-clause-ok c =
    let above : c.args.row < c.args.scroll = grind (arith, c.in-None.ensures) in
    sym (none-below c.args.area c.args.row (option_map row_of c.args.what.now) c.args.scroll c.args.grid.now.rows above)

pub returns-then-at-height-clause-ok : goal.returns-then-at-height-clause-ok
returns-then-at-height-clause-ok c =
    let rows = c.args.grid.now.rows in
    let at : c.args.row ≡ c.args.scroll + c.in-Some.at = omega (arith, c.in-Some.ensures.0, c.in-Some.ensures.1) in
    let within : c.in-Some.at < length rows = omega (arith, c.height-height.ensures.value) in
    on-ok c.paint_some.result (λ p. p ∙ one-painted c.args.area c.args.row (option_map row_of c.args.what.now) c.args.scroll c.in-Some.at rows at within) c.paint_some.ensures.ok

pub returns-else-at-height-clause-ok : goal.returns-else-at-height-clause-ok
returns-else-at-height-clause-ok c =
    let below : c.args.scroll + length c.args.grid.now.rows ≤ c.args.row = omega (arith, c.in-Some.ensures.0, c.in-Some.ensures.1, c.height-height.ensures.value) in
    sym (none-above c.args.area c.args.row (option_map row_of c.args.what.now) c.args.scroll c.args.grid.now.rows below)
