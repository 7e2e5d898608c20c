use Rattle.std.proofs.Common.{arith, ◌∙◌, sym, subst, Option, FitsSigned, w64}
use Rattle.std.specs.Prelude.{◌-ℤ◌}
use Rattle.std.proofs.lemmas.Int.{to_z-of_z}
use Rattle.std.proofs.lemmas.Result.{on_ok_weaker}
use Rattle.scm_cells.proofs.RectLemmas.{places}
use Rattle.scm_render.specs.Canvas.{SurfaceState}
use Rattle.scm_render.specs.RowPlaces.{IsPlaceOf}
use Rattle.scm_render.specs.declared.surface.Place.{Place}
use Rattle.scm_render.proofs.RowPlaceLemmas.{placed, not_placed}
use Rattle.scm_render.proofs.surface.Surface.put_at.Goals as goal

pub returns-in-Some-clause-ok : goal.returns-in-Some-clause-ok
returns-in-Some-clause-ok c =
    let v = c.self.inside.rect in
    let fx : FitsSigned w64 c.args.x = c.ranges.x in
    let fs : FitsSigned w64 v.x = omega (arith, places, c.self.invariant.rect.x) in
    let fd : FitsSigned w64 (c.args.x -ℤ v.x) = omega (arith, places, c.self.invariant.rect.x) in
    let screen : SurfaceState = record { rect = v; rows = c.self.inside.grid.rows; counts = c.self.inside.grid.counts } in
    let made = rw (sym c.self.view_is) at (simp to_z-of_z at c.put_on.ensures.ok) in
    rw (sym c.self.view_is)
    (on_ok_weaker c.put_on.result
    (λ there m y is. there ∙ placed c.in-Some.place screen m c.args.x y c.args.text.now c.self.invariant.height (subst (λ (o : Option Place). IsPlaceOf o v m y) c.in-Some.is is)) made)

pub returns-in-None-clause-ok : goal.returns-in-None-clause-ok
returns-in-None-clause-ok c = λ m y is. not_placed c.args.self.now m c.args.x y c.args.text.now (rw (sym c.self.view_is) c.self.invariant.height) (subst (λ (o : Option Place). IsPlaceOf o c.args.self.now.rect m y) c.in-None.is is)
