use Rattle.std.proofs.Common.{◌∙◌, sym, ap, replicate, FitsSigned, w64}
use Rattle.std.proofs.lemmas.Int.{to_z-of_z}
use Rattle.scm_render.specs.Canvas.{with_puts}
use Rattle.scm_render.proofs.DrawLemmas.{text_puts-shown, text-hidden, text-off}
use Rattle.scm_render.proofs.surface.Surface.put_blank.Goals as goal
use Rattle.scm_render.proofs.surface.Surface.put_blank.Goals.{else-has_row-via-then-has_row+else-has_row-2, else-has_row-via-else-has_row}

pub returns-then-has_row-2 : goal.returns-then-has_row-2
returns-then-has_row-2 c =
    let fy : FitsSigned w64 c.args.y = c.ranges.y in
    let test = simp to_z-of_z at c.has_row.ensures.test in
    simp to_z-of_z at c.blank_row.ensures
    ∙ ap (λ ps. with_puts ps c.args.self.now) (sym (text_puts-shown c.args.rect c.args.rect.x c.args.y (replicate c.args.rect.width 32) (sym test ∙ c.if-has_row.true)))

pub returns-else-has_row : goal.returns-else-has_row
returns-else-has_row c =
    let text = replicate c.args.rect.width 32 in
    let fy : FitsSigned w64 c.args.y = c.ranges.y in
    let test = simp to_z-of_z at c.has_row.ensures.test in
    elim c.else-has_row.branch [
      | else-has_row-via-then-has_row+else-has_row-2 w ↦
          text-off c.args.self.now c.args.rect c.args.rect.x c.args.y text (rw (sym w.self.view_is) w.self.invariant.height)
          (rw (sym w.self.view_is) (sym (simp to_z-of_z at w.has_row-then-has_row.ensures.test) ∙ w.if-has_row-2.false))
      | else-has_row-via-else-has_row w ↦ text-hidden c.args.self.now c.args.rect c.args.rect.x c.args.y text (sym test ∙ w.if-has_row.false)
    ]
