use Rattle.std.proofs.Common.{rules, ◌≡◌, refl, sym, ℕ, FitsSigned, w64}
use Rattle.std.specs.Prelude.{ℤ}
use Rattle.std.proofs.lemmas.Int.{to_z-of_z}
use Rattle.std.proofs.Math.Facts.{sfits_to_z}
use Rattle.scm_render.specs.Canvas.{Sight}
use Rattle.scm_render.specs.Picture.{Picture, part}
use Rattle.scm_render.proofs.PictureLemmas.{PictureInRange-left, PictureInRange-part}
use Rattle.scm_render.proofs.StepLemmas.{left-part, left-more, left-none}
use Rattle.scm_widgets.specs.declared.ids.ComponentId.{ComponentId}
use Rattle.scm_widgets.specs.declared.ids.ComponentId.TheVariants as ids
use Rattle.scm_document.specs.declared.commit_view.CommitView.{CommitView}
use Rattle.scm_document.specs.ViewColumns.{view_picture, next_view}
use Rattle.scm_view.proofs.AppLemmas.{views_picture-more, views_picture-end, after-fits}
use Rattle.scm_render.proofs.CountLemmas.{counts-more, counts-end}
use Rattle.scm_document.proofs.CountLemmas.{views_counts-more, views_counts-end}
use Rattle.scm_view.proofs.app_view.draw_views.Goals as goal

abbrev one : CommitView → ℤ → ℕ → Sight → Picture ComponentId
one v x n s = part ids.AppFiles (view_picture v s x n)

pub draw_view-requires-clause-picture : goal.draw_view-requires-clause-picture
draw_view-requires-clause-picture c =
    let fx : FitsSigned w64 c.args.x = c.ranges.x in
    let s = c.args.viewport.now.canvas.sight in
    let v = c.view-item.result in
    let more = rw (sym c.view-item.is) at (views_picture-more c.args.views.now c.loop-view.view-index v c.args.width s c.loop-view.left (next_view v s c.loop-view.left c.args.width) c.loop-view-test.true) in
    let left = simp (to_z-of_z, c.loop-view.left-is) at c.loop-view.invariant.left in
    simp (to_z-of_z, c.loop-view.left-is) (left-part _ _ (one v c.loop-view.left c.args.width) _ _ _ (more refl) left)

pub loop-view-preserved : goal.loop-view-preserved
loop-view-preserved c =
    let fx : FitsSigned w64 c.args.x = c.ranges.x in
    let s = c.args.viewport.now.canvas.sight in
    let v = c.view-item.result in
    let next : c.in_ok-left.left ≡ next_view v s c.loop-view.left c.args.width = simp c.loop-view.invariant.left.sight at (simp c.loop-view.left-is at c.in_ok-left.ensures.next) in
    let more = rw (sym c.view-item.is) at (views_picture-more c.args.views.now c.loop-view.view-index v c.args.width s c.loop-view.left c.in_ok-left.left c.loop-view-test.true) in
    let left = simp (to_z-of_z, c.loop-view.left-is) at c.loop-view.invariant.left in
    let at_left : FitsSigned w64 c.loop-view.left = simp c.loop-view.left-is at (sfits_to_z {w = w64} c.loop-view.auto.left-fits) in
    let at_next : FitsSigned w64 c.in_ok-left.left = after-fits v s c.loop-view.left c.in_ok-left.left c.args.width at_left c.requires.end (PictureInRange-part _ _ (PictureInRange-left _ _ (rw (more next) at left.in_range))) next in
    let drawn = simp c.loop-view.left-is at c.in_ok-left.ensures.draws.ok in
    let count = rw (sym c.view-item.is) at (views_counts-more c.args.views.now c.loop-view.view-index v c.args.width s c.loop-view.left c.in_ok-left.left c.loop-view-test.true) in
    let so_far = simp (to_z-of_z, c.loop-view.left-is) at c.loop-view.invariant.counts in
    let counted = simp left.sight at (simp c.loop-view.left-is at c.in_ok-left.ensures.draws.counts) in
    let counts = counts-more _ _ _ _ _ _ _ (count next) so_far counted in
    simp to_z-of_z (record { counts = counts; left = left-more _ _ _ (one v c.loop-view.left c.args.width) _ _ _ (more next) left drawn })

pub returns : goal.returns
returns c =
    let fx : FitsSigned w64 c.args.x = c.ranges.x in
    record {
      ok =
          let left = simp (to_z-of_z, c.loop-view.left-is) at c.loop-view.invariant.left in
          left-none _ _ _ _ (views_picture-end _ _ _ _ _ c.loop-view-test.false) left;
      counts =
          let left = simp (to_z-of_z, c.loop-view.left-is) at c.loop-view.invariant.counts in
          counts-end _ _ _ _ (views_counts-end _ _ _ _ _ c.loop-view-test.false) left;
      rect = search rules;
      err = search rules;
    }
