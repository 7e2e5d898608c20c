use Rattle.std.proofs.Common.{rules, arith, ◌≡◌, ◌∙◌, ◌<◌, ◌++◌, ◌∷◌, [], List, length, sym, ap, FitsSigned, w64, length-append, set, ℕ}
use Rattle.std.specs.Prelude.{IfSome, None, Option, Some, option_map}
use Rattle.std.proofs.lemmas.Int.{to_z-of_z}
use Rattle.scm_render.proofs.PictureLemmas.{PictureInRange-part}
use Rattle.scm_render.specs.Picture.{Picture, Box, box_rect}
use Rattle.scm_render.specs.Around.{join}
use Rattle.scm_render.specs.Canvas.{Canvas, kept, with_picture}
use Rattle.scm_render.specs.Kept.{kept_items}
use Rattle.scm_render.proofs.CanvasLemmas.{with_picture-part, with_picture-boxes, kept_area-kept}
use Rattle.scm_render.proofs.AroundLemmas.{no_rect-from, RectInRange-join}
use Rattle.scm_render.proofs.viewport.Viewport.draw_at.Goals as goal

pub draw-requires : goal.draw-requires
draw-requires g c =
    let fx : FitsSigned w64 c.args.x = c.ranges.x in
    let fy : FitsSigned w64 c.args.y = c.ranges.y in
    simp to_z-of_z (PictureInRange-part _ _ (rw (sym c.self.view_is) at c.requires.picture))

-- a place that was taken is there after more boxes
there : {K : Type 0} (c d : Canvas K) (m : Picture K) (bs : Option (List (Box K))) (b : Box K) (n : ℕ) → d ≡ with_picture c m → c.boxes ≡ kept bs (b ∷ []) → Some n ≡ option_map length bs → IfSome d.boxes (λ ds. n < length ds)
there c d m None b n e f h = absurd (cc h)
there c d m (Some bs) b n e f h =
    let boxes : d.boxes ≡ Some ((bs ++ b ∷ []) ++ m.boxes) = ap (λ v. v.boxes) e ∙ with_picture-boxes c m ∙ ap (λ v. kept v m.boxes) f in
    let size : n ≡ length bs = cc in
    rw boxes (omega (arith, size, length-append (bs ++ b ∷ []) m.boxes, length-append bs (b ∷ [])))

pub set_box-requires : goal.set_box-requires
set_box-requires g c =
    rw (ap (λ v. v.canvas.boxes) c.self-2.view_is)
    (there _ c.draw.new.viewport.canvas _ (kept_items c.self.inside.boxes) _ c.args.place c.in_ok-draw.ensures.ok c.in_ok-push_box.ensures.ok (rw (sym c.self.view_is) at c.requires.place))

pub returns-clause-draws : goal.returns-clause-draws
returns-clause-draws g c =
    let fx : FitsSigned w64 c.args.x = c.ranges.x in
    let fy : FitsSigned w64 c.args.y = c.ranges.y in
    let y = c.default.ensures in
    let taken = no_rect-from c.default.result y.0 y.1.0 y.1.1.0 y.1.1.1 in
    let z = c.default-self-inside.ensures in
    let none = no_rect-from c.default-self-inside.result z.0 z.1.0 z.1.1.0 z.1.1.1 in
    let drawn = simp to_z-of_z at c.in_ok-draw.ensures.ok in
    let counted = simp to_z-of_z at c.in_ok-draw.ensures.counts in
    record {
      ok =
          rw (sym c.self.view_is)
          (with_picture-part _ c.draw.new.viewport.canvas _ _ _ c.args.place (rw (sym c.self.view_is) at c.requires.place)
          (ap (λ v. v.canvas.sight) c.self-2.view_is)
          (ap (λ v. v.canvas.rows) c.self-2.view_is)
          (c.grown-self-inside.ensures ∙ ap (λ v. join c.self.inside.area v.canvas.area) c.self-2.view_is)
          (rw c.id-id.ensures at c.set_box.ensures ∙ ap (λ v. option_map (λ w. set w c.args.place (g.C.Component.key c.args.component.now, v.canvas.area)) v.canvas.boxes) c.self-2.view_is)
          (simp (none, c.in_ok-push_box.ensures.ok, c.id-id.ensures, taken) at drawn));
      counts = rw (sym c.self.view_is) (ap (λ v. v.counts) c.self-2.view_is ∙ counted);
      rect = search rules;
      err = search rules;
    }

pub returns-clause-drawn : goal.returns-clause-drawn
unfolding with_picture box_rect
returns-clause-drawn g c =
    let fx : FitsSigned w64 c.args.x = c.ranges.x in
    let fy : FitsSigned w64 c.args.y = c.ranges.y in
    let z = c.default-self-inside.ensures in
    let none = no_rect-from c.default-self-inside.result z.0 z.1.0 z.1.1.0 z.1.1.1 in
    let drawn = simp (none, c.in_ok-push_box.ensures.ok) at (simp to_z-of_z at c.in_ok-draw.ensures.ok) in
    rw (sym c.self.view_is)
    (ap (λ v. v.canvas.area) c.self-2.view_is ∙ ap (λ v. v.area) drawn
    ∙ kept_area-kept (kept_items c.self.inside.boxes) c.args.place _ _ _ (rw (sym c.self.view_is) at c.requires.place))

pub invariant_of-self-3 : goal.invariant_of-self-3
invariant_of-self-3 g c =
    record {
      mask = c.self-2.invariant.mask;
      area = rw c.grown-self-inside.ensures (RectInRange-join _ _ c.self.invariant.area c.self-2.invariant.area);
      within = c.self-2.invariant.within;
      in_range = c.self-2.invariant.in_range;
    }
