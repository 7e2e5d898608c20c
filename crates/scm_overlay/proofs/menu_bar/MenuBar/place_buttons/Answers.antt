use Rattle.std.proofs.Common.{◌∙◌, ◌<◌, ◌≤◌, ◌++◌, length, ap, sym, append-nil, arith, ◌+ℤ◌, pos, FitsSigned, w64}
use Rattle.std.proofs.lemmas.Int.{to_z-of_z}
use Rattle.scm_render.proofs.StepLemmas.{InRange-fits}
use Rattle.scm_widgets.specs.Screens.{sight}
use Rattle.scm_overlay.specs.Menus.{menus_before, placed_headers, placed_open}
use Rattle.scm_overlay.proofs.PlaceLemmas.{header-column, length-headers, not-opened, opened-items}
use Rattle.scm_overlay.proofs.menu_bar.MenuBar.place_buttons.Goals as goal

pub place_headers-requires : goal.place_headers-requires
place_headers-requires c =
    let fx : FitsSigned w64 c.args.x = c.ranges.x in
    let fy : FitsSigned w64 c.args.y = c.ranges.y in
    rw c.as_slice-menus.ensures (simp to_z-of_z c.requires.headers)

pub returns-then-menus-open : goal.returns-then-menus-open
returns-then-menus-open c =
    let fx : FitsSigned w64 c.args.x = c.ranges.x in
    let fy : FitsSigned w64 c.args.y = c.ranges.y in
    let b = c.args.self.now in
    let heads = simp to_z-of_z at (rw c.as_slice-menus.ensures at c.in_ok-placed.ensures.ok) in
    let past : length b.menus ≤ menus_before b.expanded_menu_idx (length b.menus) = rw (c.as_slice-menus.ensures, c.open_idx-open.ensures) at c.if-menus-open.true in
    let none = ap (placed_open c.args.x c.args.y) (not-opened b.menus b.expanded_menu_idx 0 past) in
    record { ok = heads ∙ sym (append-nil _) ∙ ap (λ k. placed_headers c.args.x c.args.y 0 b.menus ++ k) (sym none) }

pub prove-unreachable-requires : goal.prove-unreachable-requires
prove-unreachable-requires c =
    let fx : FitsSigned w64 c.args.x = c.ranges.x in
    let fy : FitsSigned w64 c.args.y = c.ranges.y in
    let heads = c.as_slice-places.ensures.value ∙ simp to_z-of_z at (rw c.as_slice-menus.ensures at c.in_ok-placed.ensures.ok) in
    omega (arith, ap length heads, ap length c.as_slice-menus.ensures, length-headers c.args.x c.args.y 0 c.args.self.now.menus, c.if-menus-open.false, c.if-prove.true)

pub overflow_add-y : goal.overflow_add-y
overflow_add-y c =
    let fy : FitsSigned w64 c.args.y = c.ranges.y in
    simp to_z-of_z (InRange-fits _ c.requires.below)

pub place_items-requires : goal.place_items-requires
place_items-requires c =
    let fx : FitsSigned w64 c.args.x = c.ranges.x in
    let fy : FitsSigned w64 c.args.y = c.ranges.y in
    let below : FitsSigned w64 (c.args.y +ℤ pos 1) = InRange-fits _ c.requires.below in
    let b = c.args.self.now in
    let x = c.args.x in
    let y = c.args.y in
    let heads = simp to_z-of_z at (rw c.as_slice-menus.ensures at c.in_ok-placed.ensures.ok) in
    let some : menus_before b.expanded_menu_idx (length b.menus) < length b.menus = omega (arith, ap length c.as_slice-menus.ensures, c.open_idx-open.ensures, c.if-menus-open.false) in
    let m = c.index-menus-open.result in
    let p = c.index-places-open.result in
    let menu = rw (c.as_slice-menus.ensures, c.open_idx-open.ensures) at c.index-menus-open.is in
    let place = rw (c.as_slice-places.ensures.value, heads, c.open_idx-open.ensures) at c.index-places-open.is in
    let fp : FitsSigned w64 p.rect.x = InRange-fits _ (rw (sym place) at (header-column b.menus _ 0 (sight 0 0 0) x y p some (c.requires.headers (sight 0 0 0)))) in
    let items = rw (sym menu, sym place) at (opened-items b x y m p some) in
    rw (c.as_slice.ensures, sym c.index-places-open.is, sym c.index-menus-open.is) (simp to_z-of_z (rw items at c.requires.items))

pub returns : goal.returns
returns c =
    let fx : FitsSigned w64 c.args.x = c.ranges.x in
    let fy : FitsSigned w64 c.args.y = c.ranges.y in
    let below : FitsSigned w64 (c.args.y +ℤ pos 1) = InRange-fits _ c.requires.below in
    let b = c.args.self.now in
    let x = c.args.x in
    let y = c.args.y in
    let heads = simp to_z-of_z at (rw c.as_slice-menus.ensures at c.in_ok-placed.ensures.ok) in
    let some : menus_before b.expanded_menu_idx (length b.menus) < length b.menus = omega (arith, ap length c.as_slice-menus.ensures, c.open_idx-open.ensures, c.if-menus-open.false) in
    let m = c.index-menus-open.result in
    let p = c.index-places-open.result in
    let menu = rw (c.as_slice-menus.ensures, c.open_idx-open.ensures) at c.index-menus-open.is in
    let place = rw (c.as_slice-places.ensures.value, heads, c.open_idx-open.ensures) at c.index-places-open.is in
    let fp : FitsSigned w64 p.rect.x = InRange-fits _ (rw (sym place) at (header-column b.menus _ 0 (sight 0 0 0) x y p some (c.requires.headers (sight 0 0 0)))) in
    let items = rw (sym menu, sym place) at (opened-items b x y m p some) in
    let made = rw heads at (simp to_z-of_z at (rw (c.as_slice.ensures, sym c.index-places-open.is, sym c.index-menus-open.is) at c.in_ok-place_items.ensures.ok)) in
    record { ok = made ∙ ap (λ k. placed_headers x y 0 b.menus ++ k) (sym items) }
