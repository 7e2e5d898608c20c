use Rattle.std.proofs.Common.{◌∙◌, length, ap, sym, arith, FitsSigned, w64}
use Rattle.std.proofs.lemmas.Int.{to_z-of_z}
use Rattle.scm_cells.proofs.RectLemmas.{places}
use Rattle.scm_render.proofs.PictureLemmas.{PictureInRange-left, PictureInRange-right}
use Rattle.scm_render.proofs.StepLemmas.{InRange-fits}
use Rattle.scm_widgets.proofs.PlacedLemmas.{placed-any}
use Rattle.scm_overlay.specs.Menus.{menu_bar_picture}
use Rattle.scm_overlay.proofs.PlaceLemmas.{items-left, one-then, open-placed}
use Rattle.scm_overlay.proofs.RangeLemmas.{bounds-in}
use Rattle.scm_overlay.proofs.menu_bar.MenuBar.push_rects.Goals as goal

pub place_buttons-requires-clause-below : goal.place_buttons-requires-clause-below
place_buttons-requires-clause-below c =
    let fy : FitsSigned w64 c.args.screen.y = InRange-fits _ (bounds-in _ c.requires.screen).y in
    simp to_z-of_z (record { low = omega (arith, places, c.requires.screen.y.low); high = omega (arith, places, c.requires.screen.y.high) })

pub place_buttons-requires-clause-headers : goal.place_buttons-requires-clause-headers
unfolding menu_bar_picture
place_buttons-requires-clause-headers c =
    let fx : FitsSigned w64 c.args.screen.x = InRange-fits _ (bounds-in _ c.requires.screen).x in
    let fy : FitsSigned w64 c.args.screen.y = InRange-fits _ (bounds-in _ c.requires.screen).y in
    simp to_z-of_z (placed-any _ _ (PictureInRange-left _ _ (PictureInRange-right _ _ c.requires.picture)))

pub place_buttons-requires-clause-items : goal.place_buttons-requires-clause-items
unfolding menu_bar_picture
place_buttons-requires-clause-items c =
    let fx : FitsSigned w64 c.args.screen.x = InRange-fits _ (bounds-in _ c.requires.screen).x in
    let fy : FitsSigned w64 c.args.screen.y = InRange-fits _ (bounds-in _ c.requires.screen).y in
    simp to_z-of_z (open-placed _ _ _ _ (PictureInRange-right _ _ (PictureInRange-right _ _ c.requires.picture)))

pub returns-clause-rows : goal.returns-clause-rows
returns-clause-rows c =
    let fx : FitsSigned w64 c.args.screen.x = InRange-fits _ (bounds-in _ c.requires.screen).x in
    let fy : FitsSigned w64 c.args.screen.y = InRange-fits _ (bounds-in _ c.requires.screen).y in
    let placed = simp to_z-of_z at c.in_ok-placed.ensures.ok in
    let left = items-left c.args.self.now c.args.screen.x c.args.screen.y _ placed in
    let count = sym c.as_slice.ensures.len ∙ ap length c.as_slice.ensures.value in
    omega (arith, left, count, c.len.ensures, c.len-2.ensures, c.saturating_sub-height.ensures)

pub returns-clause-ok : goal.returns-clause-ok
returns-clause-ok c =
    let fx : FitsSigned w64 c.args.screen.x = InRange-fits _ (bounds-in _ c.requires.screen).x in
    let fy : FitsSigned w64 c.args.screen.y = InRange-fits _ (bounds-in _ c.requires.screen).y in
    let placed = simp to_z-of_z at c.in_ok-placed.ensures.ok in
    let left = items-left c.args.self.now c.args.screen.x c.args.screen.y _ placed in
    let count = sym c.as_slice.ensures.len ∙ ap length c.as_slice.ensures.value in
    let height = rw (c.len.ensures, c.len-2.ensures, count) at c.saturating_sub-height.ensures ∙ left in
    let pushed = simp to_z-of_z at (rw height at c.in_ok-push.ensures.items) in
    let owned = rw (c.as_slice.ensures.value, placed) at c.in_ok-push_buttons.ensures.ok in
    one-then _ _ _ _ _ pushed owned
