use Rattle.std.proofs.Common.{rules, ◌≡◌, length, sym, ap, ◌∙◌, arith}
use Rattle.std.proofs.lemmas.Int.{to_z-of_z}
use Rattle.scm_render.specs.Picture.{Picture, part}
use Rattle.scm_render.specs.Canvas.{Canvas, with_picture}
use Rattle.scm_cells.specs.Counts.{Counts, added}
use Rattle.scm_widgets.specs.declared.ids.ComponentId.{ComponentId}
use Rattle.scm_widgets.specs.declared.ids.ComponentId.TheVariants as ids
use Rattle.scm_document.specs.ViewColumns.{view_picture, view_counts, views_counts}
use Rattle.scm_view.specs.AppView.{views_picture}
use Rattle.scm_document.proofs.RowsLemmas.{on-ok}
use Rattle.scm_view.proofs.AppLemmas.{views_picture-one, views_counts-one}
use Rattle.scm_view.proofs.app_view.draw_documents.Goals as goal

drawn-as : (c d : Canvas ComponentId) (m n : Picture ComponentId) → m ≡ n → d ≡ with_picture c m → d ≡ with_picture c n
drawn-as c d m n e p = p ∙ ap (with_picture c) e

counted-as : (c d m n : Counts) → m ≡ n → d ≡ added c m → d ≡ added c n
counted-as c d m n e p = p ∙ ap (added c) e

pub draw_only-requires-clause-picture : goal.draw_only-requires-clause-picture
draw_only-requires-clause-picture c =
    let s = c.args.viewport.now.canvas.sight in
    let v = c.view-item.result in
    let one : length c.args.views.now ≡ 1 = omega (arith, c.in-len1.len_at_least, c.in-len1.len_below) in
    let alone : views_picture c.args.views.now c.args.width s c.args.x ≡ part ids.AppFiles (view_picture v s c.args.x c.args.width) =
    rw (sym c.view-item.is) at (views_picture-one c.args.views.now v c.args.width s c.args.x one) in
    simp (to_z-of_z, c.ranges.x) (rw alone at c.requires.picture)

pub returns-in-len1 : goal.returns-in-len1
returns-in-len1 c =
    let s = c.args.viewport.now.canvas.sight in
    let v = c.view-item.result in
    let one : length c.args.views.now ≡ 1 = omega (arith, c.in-len1.len_at_least, c.in-len1.len_below) in
    let alone : views_picture c.args.views.now c.args.width s c.args.x ≡ part ids.AppFiles (view_picture v s c.args.x c.args.width) =
    rw (sym c.view-item.is) at (views_picture-one c.args.views.now v c.args.width s c.args.x one) in
    let counts : views_counts c.args.views.now c.args.width s c.args.x ≡ view_counts v s c.args.x c.args.width =
    rw (sym c.view-item.is) at (views_counts-one c.args.views.now v c.args.width s c.args.x one) in
    record {
      ok = on-ok _ (drawn-as _ _ _ _ (sym alone)) (simp (to_z-of_z, c.ranges.x) at c.draw_only.ensures.ok);
      counts = on-ok _ (counted-as _ _ _ _ (sym counts)) (simp (to_z-of_z, c.ranges.x) at c.draw_only.ensures.counts);
      rect = search rules;
      err = search rules;
    }
