use Rattle.std.proofs.Common.{inl, inr, sym, ◌∙◌, FitsSigned, w64}
use Rattle.std.proofs.lemmas.Int.{to_z-of_z}
use Rattle.scm_render.proofs.surface.Surface.place.Goals as goal
use Rattle.scm_render.proofs.surface.Surface.place.Goals.{else-has_row-via-then-has_row+else-has_row-2, else-has_row-via-else-has_row}

pub place_on-requires-clause-shown : goal.place_on-requires-clause-shown
place_on-requires-clause-shown c = sym c.has_row.ensures.test ∙ c.if-has_row.true

pub returns-else-has_row : goal.returns-else-has_row
returns-else-has_row c =
    let fy : FitsSigned w64 c.args.y = c.ranges.y in
    let test = simp to_z-of_z at c.has_row.ensures.test in
    elim c.else-has_row.branch [
      | else-has_row-via-then-has_row+else-has_row-2 w ↦ inr (rw (sym c.self.view_is) (sym (simp to_z-of_z at w.has_row-then-has_row.ensures.test) ∙ w.if-has_row-2.false))
      | else-has_row-via-else-has_row w ↦ inl (sym test ∙ w.if-has_row.false)
    ]
