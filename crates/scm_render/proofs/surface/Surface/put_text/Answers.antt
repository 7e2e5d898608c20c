use Rattle.std.proofs.Common.{FitsSigned, w64}
use Rattle.std.proofs.lemmas.Int.{to_z-of_z}
use Rattle.std.proofs.lemmas.Result.{on_ok_weaker}
use Rattle.scm_render.proofs.RowPlaceLemmas.{fits_place}
use Rattle.scm_render.proofs.surface.Surface.put_text.Goals as goal

pub put_at-requires-clause-place : goal.put_at-requires-clause-place
put_at-requires-clause-place c = fits_place _ _ _ _ c.place-place.ensures

pub returns-clause-ok : goal.returns-clause-ok
returns-clause-ok c =
    let fx : FitsSigned w64 c.args.x = c.ranges.x in
    let fy : FitsSigned w64 c.args.y = c.ranges.y in
    on_ok_weaker c.put_at.result (λ made. made c.args.within c.args.y (simp to_z-of_z at c.place-place.ensures)) (simp to_z-of_z at c.put_at.ensures.ok)
