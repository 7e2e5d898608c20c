use Rattle.std.proofs.Common.{arith, ◌∙◌, ◌+◌, ◌≤◌, sym, subst, FitsSigned, w64}
use Rattle.std.specs.Prelude.{pos, ◌+ℤ◌}
use Rattle.std.proofs.lemmas.Int.{to_z-of_z}
use Rattle.scm_cells.proofs.RectLemmas.{places}
use Rattle.scm_cells.specs.Spans.{span_texts}
use Rattle.scm_render.specs.Drawing.{texts_width}
use Rattle.scm_cells.specs.declared.rect.Rect.{Rect}
use Rattle.scm_render.specs.RowPlaces.{IsPlaceOf}
use Rattle.scm_render.proofs.RowPlaceLemmas.{fits_place}
use Rattle.scm_render.proofs.DrawLemmas.{spans-step, spans-end, spans_width-step, spans_width-fits, texts_width-none, spans-none}
use Rattle.scm_render.proofs.surface.Surface.put_spans.Goals as goal

pub overflow_add-columns : goal.overflow_add-columns
overflow_add-columns c =
    let fits : c.loop-span.columns + c.in_ok-width.width ≤ texts_width (span_texts c.args.spans.now) =
    spans_width-fits c.args.spans.now c.loop-span.span-index c.loop-span.columns c.in_ok-width.width _ _ (omega arith) c.in_ok-width.ensures.columns c.loop-span.invariant.columns in
    omega (arith, places)

pub put_at-requires-clause-place : goal.put_at-requires-clause-place
put_at-requires-clause-place c =
    let fy : FitsSigned w64 c.args.y = c.ranges.y in
    fits_place _ _ _ _ (subst (λ (v : Rect). IsPlaceOf c.place-place.result v c.args.within c.args.y) (sym c.loop-span.invariant.rect) (simp to_z-of_z at c.place-place.ensures))

pub loop-span-preserved : goal.loop-span-preserved
loop-span-preserved c =
    let fx : FitsSigned w64 c.args.x = c.ranges.x in
    let fy : FitsSigned w64 c.args.y = c.ranges.y in
    let at = simp to_z-of_z at c.strict_add_unsigned.ensures in
    let fc : FitsSigned w64 (c.args.x +ℤ pos c.loop-span.columns) = omega (arith, places) in
    let here = subst (λ (v : Rect). IsPlaceOf c.place-place.result v c.args.within c.args.y) (sym c.loop-span.invariant.rect) (simp to_z-of_z at c.place-place.ensures) in
    let drawn = (simp to_z-of_z at (rw at at c.in_ok-width.ensures.ok)) c.args.within c.args.y here in
    let so_far = simp to_z-of_z at c.loop-span.invariant.left in
    record {
      rect = c.in_ok-width.ensures.rect ∙ c.loop-span.invariant.rect;
      columns = rw c.in_ok-width.ensures.columns (spans_width-step c.args.spans.now c.loop-span.span-index c.loop-span.columns _ _ (omega arith) c.loop-span.invariant.columns);
      left = simp (to_z-of_z, c.in_ok-width.ensures.columns) (spans-step c.args.within c.args.x c.args.y c.args.spans.now c.loop-span.span-index c.loop-span.columns _ _ _ _ (omega arith) drawn so_far);
    }

pub returns-clause-ok : goal.returns-clause-ok
returns-clause-ok c =
    let fx : FitsSigned w64 c.args.x = c.ranges.x in
    let fy : FitsSigned w64 c.args.y = c.ranges.y in
    let so_far = simp to_z-of_z at c.loop-span.invariant.left in
    spans-end c.args.within _ c.args.y c.args.spans.now c.loop-span.span-index _ _ (omega arith) so_far

pub returns-clause-columns : goal.returns-clause-columns
returns-clause-columns c =
    omega (arith, c.loop-span.invariant.columns, texts_width-none _ (spans-none c.args.spans.now c.loop-span.span-index (omega arith)))
