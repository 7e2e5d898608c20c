use Rattle.scm_cells.specs.declared.rect.Rect.{Rect}
use Rattle.scm_render.specs.Kept.{kept_items}
use Rattle.scm_render.specs.Canvas.{kept_area}
use Rattle.scm_render.proofs.CanvasLemmas.{RectInRange-kept}
use Rattle.std.proofs.Common.{rules, ◌≡◌, ◌∙◌, sym, ap, refl, arith, true, [], ◌∷◌}
use Rattle.std.proofs.lemmas.Bool.Decides.{nat_tests}
use Rattle.scm_cells.specs.Rect.{is_empty}
use Rattle.scm_render.specs.Drawing.{reach, body_texts}
use Rattle.scm_render.proofs.AroundLemmas.{is_empty-in}
use Rattle.scm_render.proofs.DrawLemmas.{frame_in_range, with_picture-frame, with_picture-no_frame}
use Rattle.scm_render.proofs.PaintLemmas.{with_puts-counts}
use Rattle.scm_render.proofs.CountLemmas.{added-none}
use Rattle.scm_render.proofs.viewport.Viewport.add_frame.Goals as goal
use Rattle.scm_render.proofs.viewport.Viewport.add_frame.Goals.{then-rect-gt0+then-rect-gt0-2+in_ok-put_frame, else-rect-gt0, else-rect-gt0-via-then-rect-gt0+else-rect-gt0-2, else-rect-gt0-via-else-rect-gt0}

pub put_frame-requires-clause-frame : goal.put_frame-requires-clause-frame
put_frame-requires-clause-frame g c = frame_in_range _ _ _ _ c.requires

pub grown_in-self-inside-requires-clause-rect : goal.grown_in-self-inside-requires-clause-rect
grown_in-self-inside-requires-clause-rect g c = frame_in_range _ _ _ _ c.requires

pub returns-clause-draws : goal.returns-clause-draws
returns-clause-draws g c =
    record {
      ok =
          elim c.if-rect-gt0.branch [
            | then-rect-gt0+then-rect-gt0-2+in_ok-put_frame w ↦
                rw (w.self-inside-is, sym c.self.view_is)
                (with_picture-frame _ _ _ c.mask_rect-within.result c.args.rect c.args.title.now (body_texts c.args.body.now)
                (c.mask_rect-within.ensures.value ∙ ap (λ v. reach v.canvas.sight) (sym c.self.view_is))
                (is_empty-in c.args.rect w.if-rect-gt0.true w.if-rect-gt0-2.true)
                w.in_ok-put_frame.ensures.ok refl
                (c.grown_in-self-inside.ensures ∙ ap (λ i. kept_area (kept_items i.boxes) i.area (c.args.rect ∷ [])) w.self-inside-is)
                refl)
            | else-rect-gt0 w ↦
                let none : is_empty c.args.rect ≡ true = elim w.else-rect-gt0.branch [ else-rect-gt0-via-then-rect-gt0+else-rect-gt0-2 w' ↦ grind (arith, nat_tests) | else-rect-gt0-via-else-rect-gt0 w' ↦ grind (arith, nat_tests) ] in
                rw (w.self-inside-is, sym c.self.view_is)
                (with_picture-no_frame _ _ c.args.rect c.args.title.now (body_texts c.args.body.now) none refl refl
                (c.grown_in-self-inside.ensures ∙ ap (λ i. kept_area (kept_items i.boxes) i.area (c.args.rect ∷ [])) w.self-inside-is)
                refl)
          ];
      counts =
          elim c.if-rect-gt0.branch [
            | then-rect-gt0+then-rect-gt0-2+in_ok-put_frame w ↦ ap (λ i. i.surface.counts) w.self-inside-is ∙ with_puts-counts _ _ _ w.in_ok-put_frame.ensures.ok ∙ ap (λ v. v.counts) c.self.view_is ∙ sym (added-none _)
            | else-rect-gt0 w ↦ ap (λ i. i.surface.counts) w.self-inside-is ∙ ap (λ v. v.counts) c.self.view_is ∙ sym (added-none _)
          ];
      rect = search rules;
      err = search rules;
    }

pub invariant_of-self-2 : goal.invariant_of-self-2
invariant_of-self-2 g c = elim c.if-rect-gt0.branch [
  | then-rect-gt0+then-rect-gt0-2+in_ok-put_frame w ↦
      rw (w.self-inside-is, c.grown_in-self-inside.ensures) (record {
        mask = c.self.invariant.mask;
        area = rw w.self-inside-is (RectInRange-kept _ _ _ c.self.invariant.area (frame_in_range _ _ _ _ c.requires));
        within = c.self.invariant.within ∙ ap (λ (r : Rect). reach (record { rect = r; mask = c.self.inside.mask })) (sym w.in_ok-put_frame.ensures.rect);
        in_range = c.self.invariant.in_range;
      })
  | else-rect-gt0 w ↦
      rw (w.self-inside-is, c.grown_in-self-inside.ensures) (record {
        mask = c.self.invariant.mask;
        area = rw w.self-inside-is (RectInRange-kept _ _ _ c.self.invariant.area (frame_in_range _ _ _ _ c.requires));
        within = c.self.invariant.within;
        in_range = c.self.invariant.in_range;
      })
]
