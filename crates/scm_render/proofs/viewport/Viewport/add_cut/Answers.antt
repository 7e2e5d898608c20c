use Rattle.std.proofs.Common.{rules, ◌≡◌, ◌∙◌, ap, FitsSigned, w64, arith}
use Rattle.std.specs.Prelude.{pos, ◌+ℤ◌, ◌-ℤ◌, ◌<ℤ◌}
use Rattle.std.proofs.lemmas.Int.{to_z-of_z, ints}
use Rattle.scm_cells.specs.Rect.{RectInRange, end_x_of}
use Rattle.scm_cells.specs.Spans.{span_texts}
use Rattle.scm_cells.proofs.RectLemmas.{places}
use Rattle.scm_render.specs.Drawing.{row_rect, texts_width}
use Rattle.scm_render.proofs.DrawLemmas.{text_picture-line, line_in_range, ellipsis_in_range, reach-after, with_picture-long, with_picture-fitting}
use Rattle.scm_render.proofs.CountLemmas.{added-none}
use Rattle.scm_render.proofs.viewport.Viewport.add_cut.Goals as goal
use Rattle.scm_render.proofs.viewport.Viewport.add_cut.Goals.{then-end-end_x+in_ok-add_text, else-end-end_x}

pub add_spans-requires-clause-picture : goal.add_spans-requires-clause-picture
add_spans-requires-clause-picture g c =
    let fx : FitsSigned w64 c.args.x = c.ranges.x in
    let fy : FitsSigned w64 c.args.y = c.ranges.y in
    simp to_z-of_z (text_picture-line _ _ _ _ c.requires)

pub add_text-requires-clause-within : goal.add_text-requires-clause-within
add_text-requires-clause-within g c =
    let fx : FitsSigned w64 c.args.x = c.ranges.x in
    let fy : FitsSigned w64 c.args.y = c.ranges.y in
    reach-after c.args.self.now.canvas c.add_spans.new.self.canvas _ c.args.x c.args.y (span_texts c.args.spans.now) (simp to_z-of_z at c.in_ok-drawn.ensures.draws.ok) c.mask_rect-within.ensures.value

pub end_x-requires : goal.end_x-requires
end_x-requires g c =
    let fx : FitsSigned w64 c.args.x = c.ranges.x in
    let fy : FitsSigned w64 c.args.y = c.ranges.y in
    rw c.in_ok-drawn.ensures.drawn (simp to_z-of_z (line_in_range _ _ _ _ (text_picture-line _ _ _ _ c.requires)))

pub add_text-requires-clause-picture : goal.add_text-requires-clause-picture
add_text-requires-clause-picture g c =
    let fx : FitsSigned w64 c.args.x = c.ranges.x in
    let fy : FitsSigned w64 c.args.y = c.ranges.y in
    let fe : FitsSigned w64 c.end_x-end.result = omega (arith, places, c.end_x-end.ensures, c.mask_rect-within.ensures.in_range) in
    let fl : FitsSigned w64 (c.end_x-end.result -ℤ pos 1) = omega (arith, places, c.end_x-end.ensures, c.mask_rect-within.ensures.in_range) in
    let drawn = simp to_z-of_z at c.in_ok-drawn.ensures.drawn in
    let ends : c.end_x.result ≡ c.args.x +ℤ pos (texts_width (span_texts c.args.spans.now)) = c.end_x.ensures ∙ ap end_x_of drawn in
    let whole : RectInRange (row_rect c.args.x c.args.y (texts_width (span_texts c.args.spans.now))) = line_in_range _ _ _ _ (text_picture-line _ _ _ _ c.requires) in
    let fo : FitsSigned w64 c.end_x.result = omega (arith, places, ends, whole.end_x) in
    let test = rw ends at (simp to_z-of_z at c.if-end-end_x.true) in
    let past : c.end_x-end.result <ℤ (c.args.x +ℤ pos (texts_width (span_texts c.args.spans.now))) = first_of (omega (arith, ints), grind (arith, ints)) in
    simp to_z-of_z (ellipsis_in_range _ _ c.mask_rect-within.result c.end_x-end.result c.args.x c.args.y (span_texts c.args.spans.now) (simp to_z-of_z at c.in_ok-drawn.ensures.draws.ok) c.mask_rect-within.ensures.value c.end_x-end.ensures past c.requires)

pub returns-clause-draws : goal.returns-clause-draws
returns-clause-draws g c =
    let fx : FitsSigned w64 c.args.x = c.ranges.x in
    let fy : FitsSigned w64 c.args.y = c.ranges.y in
    let fe : FitsSigned w64 c.end_x-end.result = omega (arith, places, c.end_x-end.ensures, c.mask_rect-within.ensures.in_range) in
    let fl : FitsSigned w64 (c.end_x-end.result -ℤ pos 1) = omega (arith, places, c.end_x-end.ensures, c.mask_rect-within.ensures.in_range) in
    let drawn = simp to_z-of_z at c.in_ok-drawn.ensures.drawn in
    let ends : c.end_x.result ≡ c.args.x +ℤ pos (texts_width (span_texts c.args.spans.now)) = c.end_x.ensures ∙ ap end_x_of drawn in
    let whole : RectInRange (row_rect c.args.x c.args.y (texts_width (span_texts c.args.spans.now))) = line_in_range _ _ _ _ (text_picture-line _ _ _ _ c.requires) in
    let fo : FitsSigned w64 c.end_x.result = omega (arith, places, ends, whole.end_x) in
    let line = simp to_z-of_z at c.in_ok-drawn.ensures.draws.ok in
    record {
      ok =
          elim c.if-end-end_x.branch [
            | then-end-end_x+in_ok-add_text w ↦
                ap (λ v. v.canvas) w.self-is
                ∙ with_picture-long c.args.self.now.canvas c.add_spans.new.self.canvas _ c.mask_rect-within.result c.end_x-end.result c.args.x c.args.y (span_texts c.args.spans.now) line c.mask_rect-within.ensures.value c.end_x-end.ensures
                (let test = rw ends at (simp to_z-of_z at w.if-end-end_x.true) in first_of (omega (arith, ints), grind (arith, ints))) (simp to_z-of_z at w.in_ok-add_text.ensures.draws.ok)
            | else-end-end_x w ↦
                ap (λ v. v.canvas) w.self-is
                ∙ with_picture-fitting c.args.self.now.canvas c.add_spans.new.self.canvas c.mask_rect-within.result c.end_x-end.result c.args.x c.args.y (span_texts c.args.spans.now) line c.mask_rect-within.ensures.value c.end_x-end.ensures
                (let test = rw ends at (simp to_z-of_z at w.if-end-end_x.false) in first_of (omega (arith, ints), grind (arith, ints)))
          ];
      counts =
          elim c.if-end-end_x.branch [
            | then-end-end_x+in_ok-add_text w ↦ ap (λ v. v.counts) w.self-is ∙ w.in_ok-add_text.ensures.draws.counts ∙ added-none _ ∙ c.in_ok-drawn.ensures.draws.counts
            | else-end-end_x w ↦ ap (λ v. v.counts) w.self-is ∙ c.in_ok-drawn.ensures.draws.counts
          ];
      rect = search rules;
      err = search rules;
    }
