use Rattle.std.proofs.Common.{rules, ◌≡◌, ◌∙◌, ◌+◌, ◌*◌, ◌≤◌, ◌<◌, length, ap, sym, arith, ◌+ℤ◌, pos, FitsSigned, w64}
use Rattle.std.specs.Prelude.{ℤ, None}
use Rattle.std.proofs.lemmas.Int.{to_z-of_z}
use Rattle.scm_cells.specs.Counts.{added}
use Rattle.scm_render.specs.Canvas.{Sight, with_picture}
use Rattle.scm_render.specs.Picture.{Picture}
use Rattle.scm_render.proofs.PictureLemmas.{PictureInRange-left, PictureInRange-right}
use Rattle.scm_render.proofs.CanvasLemmas.{with_picture-nothing}
use Rattle.scm_render.proofs.StepLemmas.{InRange-fits, second, third, three}
use Rattle.scm_widgets.specs.declared.ids.ComponentId.{ComponentId}
use Rattle.scm_widgets.specs.Buttons.{placed_picture}
use Rattle.scm_widgets.specs.Counts.{drawn}
use Rattle.scm_widgets.proofs.CountLemmas.{calls-then}
use Rattle.scm_widgets.proofs.PlacedLemmas.{placed-any}
use Rattle.scm_overlay.specs.declared.menu_bar.MenuBar.{MenuBar}
use Rattle.scm_overlay.specs.Counts.{bar_calls, open_calls}
use Rattle.scm_overlay.specs.Menus.{menu_bar_picture, menus_before, open_menu, open_picture, placed_headers}
use Rattle.scm_overlay.proofs.PlaceLemmas.{header-below, header-column, length-headers, not-opened, opened-picture, opened-calls}
use Rattle.scm_overlay.proofs.menu_bar.MenuBarComponent.draw.Goals as goal

abbrev heads : MenuBar → ℤ → ℤ → Sight → Picture ComponentId
heads b x y s = placed_picture s (placed_headers x y 0 b.menus)

abbrev opened : MenuBar → ℤ → ℤ → Sight → Picture ComponentId
opened b x y s = open_picture (open_menu b) s x y

pub draw_blank-requires : goal.draw_blank-requires
unfolding menu_bar_picture
draw_blank-requires c =
    let top = rw c.rect.ensures.value at c.top_row.ensures in
    rw top (PictureInRange-left _ _ c.requires)

pub place_headers-requires : goal.place_headers-requires
unfolding menu_bar_picture
place_headers-requires c =
    let fx : FitsSigned w64 c.args.x = c.ranges.x in
    let fy : FitsSigned w64 c.args.y = c.ranges.y in
    rw c.as_slice-menus.ensures (simp to_z-of_z (placed-any _ _ (PictureInRange-left _ _ (PictureInRange-right _ _ c.requires))))

pub draw_buttons-requires : goal.draw_buttons-requires
unfolding menu_bar_picture
draw_buttons-requires c =
    let fx : FitsSigned w64 c.args.x = c.ranges.x in
    let fy : FitsSigned w64 c.args.y = c.ranges.y in
    let b = c.args.self.now in
    let top = rw c.rect.ensures.value at c.top_row.ensures in
    let blank = rw top at c.in_ok-draw_blank.ensures.draws.ok in
    let headers = simp to_z-of_z at (rw c.as_slice-menus.ensures at c.in_ok-headers.ensures.ok) in
    rw (c.as_slice.ensures.value, headers) (second _ _ _ (heads b c.args.x c.args.y) (opened b c.args.x c.args.y) blank c.requires)

pub prove-unreachable-requires : goal.prove-unreachable-requires
prove-unreachable-requires c =
    let fx : FitsSigned w64 c.args.x = c.ranges.x in
    let fy : FitsSigned w64 c.args.y = c.ranges.y in
    let headers = c.as_slice-places.ensures.value ∙ simp to_z-of_z at (rw c.as_slice-menus.ensures at c.in_ok-headers.ensures.ok) in
    omega (arith, ap length headers, ap length c.as_slice-menus.ensures, length-headers c.args.x c.args.y 0 c.args.self.now.menus, c.if-menus-open.false, c.if-prove.true)

pub overflow_add-y : goal.overflow_add-y
unfolding menu_bar_picture
overflow_add-y c =
    let fx : FitsSigned w64 c.args.x = c.ranges.x in
    let fy : FitsSigned w64 c.args.y = c.ranges.y in
    let b = c.args.self.now in
    let headers = simp to_z-of_z at (rw c.as_slice-menus.ensures at c.in_ok-headers.ensures.ok) in
    let some : 0 < length b.menus = omega (arith, ap length c.as_slice-menus.ensures, c.if-menus-open.false) in
    simp to_z-of_z (InRange-fits _ (header-below 0 b.menus _ c.args.x c.args.y some (PictureInRange-left _ _ (PictureInRange-right _ _ c.requires))))

pub returns-then-menus-open : goal.returns-then-menus-open
unfolding menu_bar_picture bar_calls
returns-then-menus-open c =
    let fx : FitsSigned w64 c.args.x = c.ranges.x in
    let fy : FitsSigned w64 c.args.y = c.ranges.y in
    let b = c.args.self.now in
    let x = c.args.x in
    let y = c.args.y in
    let e = c.draw_buttons.new.viewport.canvas in
    let top = rw c.rect.ensures.value at c.top_row.ensures in
    let blank = rw top at c.in_ok-draw_blank.ensures.draws.ok in
    let headers = simp to_z-of_z at (rw c.as_slice-menus.ensures at c.in_ok-headers.ensures.ok) in
    let shown = rw (c.as_slice.ensures.value, headers) at c.in_ok-draw_buttons.ensures in
    let past : length b.menus ≤ menus_before b.expanded_menu_idx (length b.menus) = rw (c.as_slice-menus.ensures, c.open_idx-open.ensures) at c.if-menus-open.true in
    let none : open_menu b ≡ None = not-opened b.menus b.expanded_menu_idx 0 past in
    let count : 1 + length (placed_headers x y 0 b.menus) ≡ 1 + (length b.menus + open_calls (open_menu b)) = omega (arith, length-headers x y 0 b.menus, ap open_calls none) in
    record {
      ok = three _ _ e e _ (heads b x y) (opened b x y) blank shown.ok (sym (with_picture-nothing e) ∙ ap (with_picture e) (sym (ap (λ m. open_picture m e.sight x y) none)));
      counts = calls-then _ _ _ 1 _ c.in_ok-draw_blank.ensures.draws.counts shown.counts ∙ ap (λ n. added c.args.viewport.now.counts (drawn 0 n)) count;
      rect = search rules;
      err = search rules;
    }

pub draw_part-requires : goal.draw_part-requires
unfolding menu_bar_picture
draw_part-requires c =
    let fx : FitsSigned w64 c.args.x = c.ranges.x in
    let fy : FitsSigned w64 c.args.y = c.ranges.y in
    let b = c.args.self.now in
    let x = c.args.x in
    let y = c.args.y in
    let e = c.draw_buttons.new.viewport.canvas in
    let top = rw c.rect.ensures.value at c.top_row.ensures in
    let blank = rw top at c.in_ok-draw_blank.ensures.draws.ok in
    let headers = simp to_z-of_z at (rw c.as_slice-menus.ensures at c.in_ok-headers.ensures.ok) in
    let shown = rw (c.as_slice.ensures.value, headers) at c.in_ok-draw_buttons.ensures in
    let some : menus_before b.expanded_menu_idx (length b.menus) < length b.menus = omega (arith, ap length c.as_slice-menus.ensures, c.open_idx-open.ensures, c.if-menus-open.false) in
    let below : FitsSigned w64 (y +ℤ pos 1) = InRange-fits _ (header-below 0 b.menus _ x y (omega (arith, some)) (PictureInRange-left _ _ (PictureInRange-right _ _ c.requires))) in
    let m = c.index-menus-open.result in
    let p = c.index-places-open.result in
    let menu = rw (c.as_slice-menus.ensures, c.open_idx-open.ensures) at c.index-menus-open.is in
    let place = rw (c.as_slice-places.ensures.value, headers, c.open_idx-open.ensures) at c.index-places-open.is in
    let fp : FitsSigned w64 p.rect.x = InRange-fits _ (rw (sym place) at (header-column b.menus _ 0 _ x y p some (PictureInRange-left _ _ (PictureInRange-right _ _ c.requires)))) in
    let open1 = rw (sym menu, sym place) at (opened-picture b e.sight x y m p some) in
    rw (sym c.index-places-open.is) (simp to_z-of_z (rw open1 at (third _ _ e _ (heads b x y) (opened b x y) blank shown.ok c.requires)))

pub returns : goal.returns
unfolding menu_bar_picture bar_calls
returns c =
    let fx : FitsSigned w64 c.args.x = c.ranges.x in
    let fy : FitsSigned w64 c.args.y = c.ranges.y in
    let b = c.args.self.now in
    let x = c.args.x in
    let y = c.args.y in
    let e = c.draw_buttons.new.viewport.canvas in
    let top = rw c.rect.ensures.value at c.top_row.ensures in
    let blank = rw top at c.in_ok-draw_blank.ensures.draws.ok in
    let headers = simp to_z-of_z at (rw c.as_slice-menus.ensures at c.in_ok-headers.ensures.ok) in
    let shown = rw (c.as_slice.ensures.value, headers) at c.in_ok-draw_buttons.ensures in
    let some : menus_before b.expanded_menu_idx (length b.menus) < length b.menus = omega (arith, ap length c.as_slice-menus.ensures, c.open_idx-open.ensures, c.if-menus-open.false) in
    let below : FitsSigned w64 (y +ℤ pos 1) = InRange-fits _ (header-below 0 b.menus _ x y (omega (arith, some)) (PictureInRange-left _ _ (PictureInRange-right _ _ c.requires))) in
    let m = c.index-menus-open.result in
    let p = c.index-places-open.result in
    let menu = rw (c.as_slice-menus.ensures, c.open_idx-open.ensures) at c.index-menus-open.is in
    let place = rw (c.as_slice-places.ensures.value, headers, c.open_idx-open.ensures) at c.index-places-open.is in
    let fp : FitsSigned w64 p.rect.x = InRange-fits _ (rw (sym place) at (header-column b.menus _ 0 _ x y p some (PictureInRange-left _ _ (PictureInRange-right _ _ c.requires)))) in
    let open1 = rw (sym menu, sym place) at (opened-picture b e.sight x y m p some) in
    let last = simp to_z-of_z at (rw (sym c.index-places-open.is) at c.in_ok-draw_part.ensures) in
    let count : (1 + length (placed_headers x y 0 b.menus)) + 2 * length m.items ≡ 1 + (length b.menus + open_calls (open_menu b)) = omega (arith, length-headers x y 0 b.menus, rw (sym menu) at (opened-calls b m some)) in
    record {
      ok = three _ _ e _ _ (heads b x y) (opened b x y) blank shown.ok (last.ok ∙ ap (with_picture e) (sym open1));
      counts = calls-then _ _ _ _ _ (calls-then _ _ _ 1 _ c.in_ok-draw_blank.ensures.draws.counts shown.counts) last.counts ∙ ap (λ n. added c.args.viewport.now.counts (drawn 0 n)) count;
      rect = search rules;
      err = search rules;
    }
