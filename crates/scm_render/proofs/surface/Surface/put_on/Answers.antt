use Rattle.std.proofs.Common.{arith, sym, ap, rules, FitsSigned, w64}
use Rattle.std.proofs.lemmas.Int.{to_z-of_z}
use Rattle.scm_render.proofs.surface.Surface.put_on.Goals as goal

pub put_measured-requires-clause-row : goal.put_measured-requires-clause-row
put_measured-requires-clause-row c =
    let row = rw (sym c.self.view_is) at c.requires.row in
    omega (arith, row, c.self.invariant.height)

pub put_measured-requires-clause-high : goal.put_measured-requires-clause-high
put_measured-requires-clause-high c =
    let high = rw (sym c.self.view_is) at c.requires.high in
    omega (arith, high, c.self.invariant.width)

pub returns-clause-ok : goal.returns-clause-ok
returns-clause-ok c =
    let fits : FitsSigned w64 c.args.column = search rules in
    rw (sym c.self.view_is) (ap (λ g. record { rect = c.self.inside.rect; rows = g.rows; counts = g.counts }) (simp to_z-of_z at c.in_ok-columns.ensures.ok))
