use Rattle.std.proofs.Common.{◌≡◌, ◌∙◌, ap, arith, FitsSigned, w64}
use Rattle.std.specs.Prelude.{pos, ◌+ℤ◌, ◌-ℤ◌, ◌<ℤ◌, ◌≤ℤ◌}
use Rattle.std.proofs.lemmas.Int.{to_z-of_z, ints}
use Rattle.scm_cells.specs.Rect.{RectInRange, end_x_of}
use Rattle.scm_cells.proofs.RectLemmas.{places}
use Rattle.scm_render.specs.Drawing.{reach, row_rect}
use Rattle.scm_widgets.proofs.CoverLemmas.{texts_cover-first, texts_cover-end, covered-fitting, covered-past}
use Rattle.scm_widgets.proofs.clipped_drawing.cover_texts.Goals as goal

pub cover_rect-requires : goal.cover_rect-requires
cover_rect-requires c =
    let fx : FitsSigned w64 c.args.x = c.ranges.x in
    let fy : FitsSigned w64 c.args.y = c.ranges.y in
    let whole : RectInRange (row_rect c.args.x c.args.y c.args.width) = texts_cover-first _ _ _ _ c.requires in
    rw (simp to_z-of_z at c.row_of-texts.ensures) whole

pub end_x-requires : goal.end_x-requires
end_x-requires c =
    let fx : FitsSigned w64 c.args.x = c.ranges.x in
    let fy : FitsSigned w64 c.args.y = c.ranges.y in
    let whole : RectInRange (row_rect c.args.x c.args.y c.args.width) = texts_cover-first _ _ _ _ c.requires in
    rw (simp to_z-of_z at c.row_of-texts.ensures) whole

pub cover_rect-requires-then-end-end_x : goal.cover_rect-requires-then-end-end_x
cover_rect-requires-then-end-end_x c =
    let fx : FitsSigned w64 c.args.x = c.ranges.x in
    let fy : FitsSigned w64 c.args.y = c.ranges.y in
    let s = c.args.viewport.now.canvas.sight in
    let whole : RectInRange (row_rect c.args.x c.args.y c.args.width) = texts_cover-first _ _ _ _ c.requires in
    let texts : c.row_of-texts.result ≡ row_rect c.args.x c.args.y c.args.width = simp to_z-of_z at c.row_of-texts.ensures in
    let fe : FitsSigned w64 c.end_x-end.result = omega (arith, places, c.end_x-end.ensures, c.mask_rect.ensures.in_range) in
    let end : c.end_x-end.result ≡ end_x_of (reach s) = c.end_x-end.ensures ∙ ap end_x_of c.mask_rect.ensures.value in
    let ends : c.end_x.result ≡ c.args.x +ℤ pos c.args.width = c.end_x.ensures ∙ ap end_x_of texts in
    let fo : FitsSigned w64 c.end_x.result = omega (arith, places, ends, whole.end_x) in
    let fl : FitsSigned w64 (c.end_x-end.result -ℤ pos 1) = omega (arith, places, c.end_x-end.ensures, c.mask_rect.ensures.in_range) in
    let test = rw ends at (simp to_z-of_z at c.if-end-end_x.true) in
    let past : c.end_x-end.result <ℤ (c.args.x +ℤ pos c.args.width) = first_of (omega (arith, ints), grind (arith, ints)) in
    let cut = texts_cover-end s c.args.x c.args.y c.args.width (rw end at past) c.requires in
    rw c.row_of.ensures (rw c.text_width.ensures.value (simp to_z-of_z (rw end cut)))

pub returns-then-end-end_x-clause-new : goal.returns-then-end-end_x-clause-new
returns-then-end-end_x-clause-new c =
    let fx : FitsSigned w64 c.args.x = c.ranges.x in
    let fy : FitsSigned w64 c.args.y = c.ranges.y in
    let s = c.args.viewport.now.canvas.sight in
    let whole : RectInRange (row_rect c.args.x c.args.y c.args.width) = texts_cover-first _ _ _ _ c.requires in
    let texts : c.row_of-texts.result ≡ row_rect c.args.x c.args.y c.args.width = simp to_z-of_z at c.row_of-texts.ensures in
    let fe : FitsSigned w64 c.end_x-end.result = omega (arith, places, c.end_x-end.ensures, c.mask_rect.ensures.in_range) in
    let end : c.end_x-end.result ≡ end_x_of (reach s) = c.end_x-end.ensures ∙ ap end_x_of c.mask_rect.ensures.value in
    let ends : c.end_x.result ≡ c.args.x +ℤ pos c.args.width = c.end_x.ensures ∙ ap end_x_of texts in
    let fo : FitsSigned w64 c.end_x.result = omega (arith, places, ends, whole.end_x) in
    let fl : FitsSigned w64 (c.end_x-end.result -ℤ pos 1) = omega (arith, places, c.end_x-end.ensures, c.mask_rect.ensures.in_range) in
    let test = rw ends at (simp to_z-of_z at c.if-end-end_x.true) in
    let past : c.end_x-end.result <ℤ (c.args.x +ℤ pos c.args.width) = first_of (omega (arith, ints), grind (arith, ints)) in
    let first = rw texts at c.cover_rect.ensures.new in
    let second = rw c.text_width.ensures.value at (simp to_z-of_z at (rw c.row_of.ensures at c.cover_rect-then-end-end_x.ensures.new)) in
    covered-past c.args.viewport.now.canvas _ _ c.args.x c.args.y c.args.width (rw end at past) first (rw end at second)

pub returns-else-end-end_x-clause-new : goal.returns-else-end-end_x-clause-new
returns-else-end-end_x-clause-new c =
    let fx : FitsSigned w64 c.args.x = c.ranges.x in
    let fy : FitsSigned w64 c.args.y = c.ranges.y in
    let s = c.args.viewport.now.canvas.sight in
    let whole : RectInRange (row_rect c.args.x c.args.y c.args.width) = texts_cover-first _ _ _ _ c.requires in
    let texts : c.row_of-texts.result ≡ row_rect c.args.x c.args.y c.args.width = simp to_z-of_z at c.row_of-texts.ensures in
    let fe : FitsSigned w64 c.end_x-end.result = omega (arith, places, c.end_x-end.ensures, c.mask_rect.ensures.in_range) in
    let end : c.end_x-end.result ≡ end_x_of (reach s) = c.end_x-end.ensures ∙ ap end_x_of c.mask_rect.ensures.value in
    let ends : c.end_x.result ≡ c.args.x +ℤ pos c.args.width = c.end_x.ensures ∙ ap end_x_of texts in
    let fo : FitsSigned w64 c.end_x.result = omega (arith, places, ends, whole.end_x) in
    let test = rw ends at (simp to_z-of_z at c.if-end-end_x.false) in
    let fits : (c.args.x +ℤ pos c.args.width) ≤ℤ c.end_x-end.result = first_of (omega (arith, ints), grind (arith, ints)) in
    let first = rw texts at c.cover_rect.ensures.new in
    covered-fitting c.args.viewport.now.canvas _ c.args.x c.args.y c.args.width (rw end at fits) first
