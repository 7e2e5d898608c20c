use Rattle.std.proofs.Common.{rules, ◌∙◌, FitsSigned, w64}
use Rattle.std.specs.Prelude.{ℤ, Option}
use Rattle.std.proofs.lemmas.Int.{to_z-of_z}
use Rattle.scm_cells.specs.Rect.{RectInRange}
use Rattle.scm_render.specs.Canvas.{Sight}
use Rattle.scm_render.specs.Picture.{Picture, part}
use Rattle.scm_render.proofs.PictureLemmas.{PictureInRange-left, PictureInRange-right, PictureInRange-part}
use Rattle.scm_render.proofs.StepLemmas.{InRange-fits, sight-after, four}
use Rattle.scm_widgets.specs.declared.ids.ComponentId.{ComponentId}
use Rattle.scm_widgets.specs.declared.ids.ComponentId.TheVariants as ids
use Rattle.scm_overlay.specs.declared.menu_bar.MenuBar.{MenuBar}
use Rattle.scm_overlay.specs.declared.quit_dialog.QuitDialog.{QuitDialog}
use Rattle.scm_overlay.specs.declared.help_dialog.HelpDialog.{HelpDialog}
use Rattle.scm_overlay.specs.Menus.{menu_bar_picture}
use Rattle.scm_overlay.specs.Overlays.{quit_picture, help_picture}
use Rattle.scm_view.specs.AppView.{has_help, app_picture}
use Rattle.scm_document.proofs.RowsLemmas.{on-ok}
use Rattle.scm_view.proofs.AppLemmas.{bar-below}
use Rattle.scm_view.proofs.CountLemmas.{app-counted}
use Rattle.scm_view.proofs.app_view.AppViewComponent.draw.Goals as goal

abbrev bar : MenuBar → ℤ → ℤ → Sight → Picture ComponentId
bar b x y s = part ids.MenuBar (menu_bar_picture b s x y)

abbrev quit : Option QuitDialog → Sight → Picture ComponentId
quit q s = quit_picture q s

abbrev help : Option HelpDialog → Sight → Picture ComponentId
help h s = help_picture (has_help h) s

pub draw_documents-requires-clause-below : goal.draw_documents-requires-clause-below
unfolding app_picture
draw_documents-requires-clause-below c = bar-below _ _ _ _ (PictureInRange-part _ _ (PictureInRange-left _ _ (PictureInRange-right _ _ c.requires)))

pub draw_documents-requires-clause-end : goal.draw_documents-requires-clause-end
draw_documents-requires-clause-end c =
    let r : RectInRange c.args.viewport.now.canvas.sight.rect = rw c.rect-screen.ensures.value at c.rect-screen.ensures.in_range in
    r.end_x

pub draw_documents-requires-clause-picture : goal.draw_documents-requires-clause-picture
unfolding app_picture
draw_documents-requires-clause-picture c =
    rw (c.shown_views.ensures, c.view_width-width.ensures, c.rect-screen.ensures.value) (simp (to_z-of_z, c.ranges.x) (PictureInRange-left _ _ c.requires))

pub draw_part-requires : goal.draw_part-requires
unfolding app_picture
draw_part-requires c =
    let r : RectInRange c.args.viewport.now.canvas.sight.rect = rw c.rect-screen.ensures.value at c.rect-screen.ensures.in_range in
    let fy : FitsSigned w64 c.args.viewport.now.canvas.sight.rect.y = InRange-fits _ r.y in
    rw (c.rect-screen.ensures.value, sight-after _ _ _ c.in_ok-draw_documents.ensures.ok) (simp (to_z-of_z, c.ranges.x, fy) (PictureInRange-left _ _ (PictureInRange-right _ _ c.requires)))

pub draw_quit-requires : goal.draw_quit-requires
unfolding app_picture
draw_quit-requires c =
    let same = sight-after _ _ _ c.in_ok-draw_part.ensures.ok ∙ sight-after _ _ _ c.in_ok-draw_documents.ensures.ok in
    rw same (PictureInRange-left _ _ (PictureInRange-right _ _ (PictureInRange-right _ _ c.requires)))

pub draw_help-requires : goal.draw_help-requires
unfolding app_picture
draw_help-requires c =
    let same = sight-after _ _ _ c.in_ok-draw_quit.ensures.ok ∙ sight-after _ _ _ c.in_ok-draw_part.ensures.ok ∙ sight-after _ _ _ c.in_ok-draw_documents.ensures.ok in
    rw same (PictureInRange-right _ _ (PictureInRange-right _ _ (PictureInRange-right _ _ c.requires)))

pub returns : goal.returns
unfolding app_picture
returns c =
    let fx : FitsSigned w64 c.args.x = c.ranges.x in
    let s = c.args.viewport.now.canvas.sight in
    let a = c.args.self.now in
    let r : RectInRange s.rect = rw c.rect-screen.ensures.value at c.rect-screen.ensures.in_range in
    let fy : FitsSigned w64 s.rect.y = InRange-fits _ r.y in
    record {
      ok =
          let views = simp to_z-of_z at (rw (c.shown_views.ensures, c.view_width-width.ensures, c.rect-screen.ensures.value) at c.in_ok-draw_documents.ensures.ok) in
          let menus = simp to_z-of_z at (rw c.rect-screen.ensures.value at c.in_ok-draw_part.ensures.ok) in
          on-ok _ (four _ _ _ _ _ _ (bar a.menu_bar c.args.x s.rect.y) (quit a.quit_dialog) (help a.help_dialog) views menus c.in_ok-draw_quit.ensures.ok) c.draw_help.ensures.ok;
      counts =
          let views = simp to_z-of_z at (rw (c.shown_views.ensures, c.view_width-width.ensures, c.rect-screen.ensures.value) at c.in_ok-draw_documents.ensures.counts) in
          on-ok _ (app-counted _ _ _ _ _ c.args.self.now c.args.viewport.now.canvas.sight c.args.x views c.in_ok-draw_part.ensures.counts c.in_ok-draw_quit.ensures.counts) c.draw_help.ensures.counts;
      rect = search rules;
      err = search rules;
    }
