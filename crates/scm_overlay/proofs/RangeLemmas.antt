-- What menus and dialogs draw is in range.
use Rattle.std.proofs.Common.{◌≡◌, ℕ, suc, ◌+◌, ◌≤◌, ◌^◌, List, [], ◌∷◌, length, refl, arith}
use Rattle.std.specs.Prelude.{ℤ, pos, neg_ℤ, ◌+ℤ◌, ◌-ℤ◌, ◌≤ℤ◌, Option, Some, None}
use Rattle.scm_cells.specs.Rect.{RectInRange}
use Rattle.scm_cells.specs.declared.rect.Rect.{Rect}
use Rattle.scm_cells.proofs.RectLemmas.{places}
use Rattle.scm_render.specs.Picture.{PictureInRange}
use Rattle.scm_render.specs.Canvas.{Sight}
use Rattle.scm_render.specs.Centring.{centred_rect}
use Rattle.scm_render.specs.Drawing.{row_rect, blank_picture, span_picture, frame_picture}
use Rattle.scm_render.proofs.CentringLemmas.{centred-fits}
use Rattle.scm_render.proofs.PictureLemmas.{PictureInRange-nothing, PictureInRange-followed, PictureInRange-right, PictureInRange-as_part}
use Rattle.scm_widgets.specs.declared.ids.ComponentId.TheVariants as ids
use Rattle.scm_widgets.specs.declared.button.Button.{Button}
use Rattle.scm_overlay.specs.declared.menu.MenuItem.{MenuItem}
use Rattle.scm_overlay.specs.declared.menu.Menu.{Menu}
use Rattle.scm_overlay.specs.declared.menu_bar.MenuBar.{MenuBar}
use Rattle.scm_widgets.specs.Pictures.{button_picture}
use Rattle.scm_widgets.specs.Buttons.{button_part, button_width, placed_picture, placed_from_right, ArePlacedInRange}
use Rattle.scm_overlay.specs.Menus.{header_button, item_button, header_step, widest_item, headers_width, open_menu_with_column, placed_headers, placed_items, items_picture, menu_picture, open_picture, menu_bar_picture}
use Rattle.scm_widgets.specs.ShownDialogs.{ShownDialog}
use Rattle.scm_overlay.specs.Dialogs.{dialog_rect, dialog_buttons, dialog_picture, widest_line}
use Rattle.scm_widgets.specs.Screens.{sight}
use Rattle.scm_overlay.proofs.Ranges.{most, IsShortMenu, IsShortBar, button_columns}
use Rattle.scm_overlay.proofs.MenuPartsLemmas.{header-width}
use Rattle.scm_widgets.proofs.Near.{IsNear}
use Rattle.scm_widgets.proofs.PlacedLemmas.{placed-any}
use Rattle.scm_widgets.specs.DrawBounds.{IsInDrawBounds, RectIsInDrawBounds}

-- ---- rows and buttons

rect-range : (r : Rect) → neg_ℤ (pos (2 ^ 61)) ≤ℤ r.x → (r.x +ℤ pos r.width) ≤ℤ pos (2 ^ 61) → IsNear r.y → (r.y +ℤ pos r.height) ≤ℤ pos (2 ^ 61) → RectInRange r
rect-range r a b c d = record {
  x = record { low = omega (arith, places, a); high = omega (arith, places, b) };
  end_x = record { low = omega (arith, places, a); high = omega (arith, places, b) };
  y = record { low = omega (arith, places, c.low); high = omega (arith, places, c.high) };
  end_y = record { low = omega (arith, places, c.low); high = omega (arith, places, d) };
}

-- a row that begins far from the ends of the range, and ends far from them
row-range : (x y : ℤ) (n : ℕ) → neg_ℤ (pos (2 ^ 61)) ≤ℤ x → (x +ℤ pos n) ≤ℤ pos (2 ^ 61) → IsNear y → RectInRange (row_rect x y n)
row-range x y n a b c = rect-range (row_rect x y n) a b c (omega (arith, places, c.high))

module _ {K : Type 0} where
  button-range : (b : Button K) (s : Sight) (x y : ℤ) → neg_ℤ (pos (2 ^ 61)) ≤ℤ x → (x +ℤ pos (button_width b)) ≤ℤ pos (2 ^ 61) → IsNear y → PictureInRange (button_part b s x y)
  unfolding button_picture span_picture button_width
  button-range b s x y p q r = PictureInRange-as_part b.id _ (record { areas = (row-range x y (button_width b) p q r, tt) })

  blank-range : (s : Sight) (x y : ℤ) (n : ℕ) → neg_ℤ (pos (2 ^ 61)) ≤ℤ x → (x +ℤ pos n) ≤ℤ pos (2 ^ 61) → IsNear y → PictureInRange {K = K} (blank_picture s (row_rect x y n))
  unfolding blank_picture
  blank-range s x y n p q r = record { areas = (row-range x y n p q r, tt) }

  buttons-range : (s : Sight) (end y : ℤ) (bs : List (Button K)) → end ≤ℤ pos (2 ^ 61) → neg_ℤ (pos (2 ^ 61)) ≤ℤ (end -ℤ pos (button_columns bs)) → IsNear y → PictureInRange (placed_picture s (placed_from_right end y bs))
  unfolding placed_picture placed_from_right button_columns
  buttons-range s end y [] p q r = PictureInRange-nothing
  buttons-range s end y (b ∷ bs) p q r =
      PictureInRange-followed _ _ (button-range b s (end -ℤ pos (button_width b)) y (omega (arith, places)) (omega (arith, places)) r)
      (buttons-range s ((end -ℤ pos (button_width b)) -ℤ pos 1) y bs (omega (arith, places)) (omega (arith, places)) r)

-- ---- menus

item-width : (k : ℕ) (t : MenuItem) → button_width (item_button k t) ≡ button_width (item_button 0 t)
unfolding button_width
item-width k t = refl

headers-range : (s : Sight) (x y : ℤ) (k : ℕ) (ms : List Menu) → neg_ℤ (pos (2 ^ 61)) ≤ℤ x → (x +ℤ pos (headers_width ms)) ≤ℤ pos (2 ^ 61) → IsNear y → PictureInRange (placed_picture s (placed_headers x y k ms))
unfolding placed_picture placed_headers headers_width
headers-range s x y k [] p q r = PictureInRange-nothing
headers-range s x y k (m ∷ ms) p q r =
    let e = header-width k m in
    PictureInRange-followed _ _ (button-range (header_button k m) s x y p (omega (arith, places, e, q)) r)
    (headers-range s (x +ℤ pos (header_step m)) y (suc k) ms (omega (arith, places, p)) (omega (arith, places, q)) r)

next-row : (y : ℤ) (n : ℕ) → IsNear y → IsNear (y +ℤ pos (suc n)) → IsNear (y +ℤ pos 1) × IsNear ((y +ℤ pos 1) +ℤ pos n)
next-row y n p q =
    (record { low = omega (arith, places, p.low); high = omega (arith, places, q.high) }, record { low = omega (arith, places, p.low); high = omega (arith, places, q.high) })

items-range : (n : ℕ) (s : Sight) (x y : ℤ) (k : ℕ) (ts : List MenuItem) → neg_ℤ (pos (2 ^ 61)) ≤ℤ x → (x +ℤ pos n) ≤ℤ pos (2 ^ 61) → widest_item ts ≤ n → IsNear y → IsNear (y +ℤ pos (length ts))
    → PictureInRange (items_picture n s (placed_items x y k ts))
unfolding items_picture placed_items widest_item
items-range n s x y k [] p q w r e = PictureInRange-nothing
items-range n s x y k (t ∷ ts) p q w r e =
    let same = item-width k t in
    let next = next-row y (length ts) r e in
    PictureInRange-followed _ _
    (PictureInRange-followed _ _ (blank-range s x y n p q r) (button-range (item_button k t) s x y p (omega (arith, places, same, q, w)) r))
    (items-range n s x (y +ℤ pos 1) (suc k) ts p q (omega (arith, w)) next.0 next.1)

-- a menu of few items, not too wide
pub menu-here : (s : Sight) (x y : ℤ) (ts : List MenuItem) → neg_ℤ (pos (2 ^ 50)) ≤ℤ x → x ≤ℤ pos (2 ^ 52) → neg_ℤ (pos (2 ^ 50)) ≤ℤ y → y ≤ℤ pos (2 ^ 51) → widest_item ts ≤ 2 ^ 50 → length ts ≤ 2 ^ 50
    → PictureInRange (menu_picture ts s x y)
unfolding menu_picture
menu-here s x y ts p q r t w n =
    items-range (widest_item ts) s x y 0 ts (omega (arith, places, p)) (omega (arith, places, q, w)) (omega arith)
    (record { low = omega (arith, places, r); high = omega (arith, places, t) }) (record { low = omega (arith, places, r); high = omega (arith, places, t, n) })

-- an open menu has few items, and is not too wide
abbrev pub IsFewItems : Option (ℕ × Menu) → Type 0
IsFewItems None = Unit {0}
IsFewItems (Some m) = (m.0 ≤ 2 ^ 50) × ((widest_item m.1.items ≤ 2 ^ 50) × (length m.1.items ≤ 2 ^ 50))

open-range : (s : Sight) (x y : ℤ) (ms : Option (ℕ × Menu)) → IsFewItems ms → IsInDrawBounds x → IsInDrawBounds y → PictureInRange (open_picture ms s x y)
open-range s x y None p h k = PictureInRange-nothing
open-range s x y (Some m) p h k =
    PictureInRange-as_part ids.MenuHeader _
    (menu-here s (x +ℤ pos m.0) (y +ℤ pos 1) m.1.items (omega (arith, places, h.low)) (omega (arith, places, h.high, p.0)) (omega (arith, places, k.low)) (omega (arith, places, k.high)) p.1.0 p.1.1)

here-near : (z : ℤ) → IsInDrawBounds z → IsNear z
here-near z h = record { low = omega (arith, places, h.low); high = omega (arith, places, h.high) }

-- the menu bar and its open menu, wherever they are drawn
pub bar-here : (b : MenuBar) (s : Sight) (x y : ℤ) → RectIsInDrawBounds s.rect → IsInDrawBounds x → IsInDrawBounds y → headers_width b.menus ≤ 2 ^ 50 → IsFewItems (open_menu_with_column 0 b.menus b.expanded_menu_idx) → PictureInRange (menu_bar_picture b s x y)
unfolding menu_bar_picture
bar-here b s x y r p q h few =
    PictureInRange-followed _ _ (blank-range s s.rect.x s.rect.y s.rect.width (omega (arith, places, r.x.low)) (omega (arith, places, r.end_x.high)) (here-near s.rect.y r.y))
    (PictureInRange-followed _ _ (headers-range s x y 0 b.menus (omega (arith, places, p.low)) (omega (arith, places, p.high, h)) (here-near y q)) (open-range s x y (open_menu_with_column 0 b.menus b.expanded_menu_idx) few p q))

short-few : (m : Option (ℕ × Menu)) → IsShortMenu m → IsFewItems m
short-few None h = tt
short-few (Some m) h = (omega (arith, h.0), (omega (arith, h.0), omega (arith, h.1)))

pub screen-here : (w h s : ℕ) → w ≤ most → h ≤ most → s ≤ most → RectIsInDrawBounds (sight w h s).rect
screen-here w h s p q r = record {
  x = record { low = omega (arith, places); high = omega (arith, places) };
  end_x = record { low = omega (arith, places); high = omega (arith, places, p) };
  y = record { low = omega (arith, places); high = omega (arith, places, r) };
  end_y = record { low = omega (arith, places); high = omega (arith, places, q, r) };
}

-- the menu bar and its open menu, on a screen at row s
pub bar-range : (w h s : ℕ) (b : MenuBar) → w ≤ most → h ≤ most → s ≤ most → IsShortBar b → PictureInRange (menu_bar_picture b (sight w h s) (pos 0) (pos s))
bar-range w h s b p q r short =
    let here = screen-here w h s p q r in
    bar-here b (sight w h s) (pos 0) (pos s) here here.x here.y (omega (arith, short.0)) (short-few (open_menu_with_column 0 b.menus b.expanded_menu_idx) short.1)

-- ---- dialogs

-- a sight without a mask
abbrev whole : Rect → Sight
whole screen = record { rect = screen; mask = None }

module _ {K : Type 0} where
  frame-range : (s : Sight) (r : Rect) (title : List ℕ) (body : List (List ℕ)) → RectInRange r → PictureInRange {K = K} (frame_picture s r title body)
  unfolding frame_picture
  frame-range s r title body p = record { areas = (p, tt) }

  -- a dialog, whose buttons are not too wide
  pub dialog-here : (d : ShownDialog K) (s : Sight) → RectIsInDrawBounds s.rect → button_columns d.buttons ≤ 2 ^ 50 → PictureInRange (dialog_picture d s)
  unfolding dialog_picture centred_rect
  dialog-here d s r short =
      let x = centred-fits s.rect.width (widest_line d.body + 2) 60 (omega arith) in
      let y = centred-fits s.rect.height (length d.body + 2) 20 (omega arith) in
      let place = dialog_rect d s.rect in
      PictureInRange-followed _ _
      (frame-range s place d.title d.body (rect-range place (omega (arith, places, r.x.low)) (omega (arith, places, r.end_x.high, x))
      (record { low = omega (arith, places, r.y.low); high = omega (arith, places, r.end_y.high, y) }) (omega (arith, places, r.end_y.high, y))))
      (buttons-range s ((place.x +ℤ pos place.width) -ℤ pos 1) ((place.y +ℤ pos place.height) -ℤ pos 1) d.buttons
      (omega (arith, places, r.end_x.high, x)) (omega (arith, places, r.x.low, short)) (record { low = omega (arith, places, r.y.low); high = omega (arith, places, r.end_y.high, y) }))

  -- the buttons of such a dialog are in range
  pub dialog-placed : (d : ShownDialog K) (screen : Rect) → RectIsInDrawBounds screen → button_columns d.buttons ≤ 2 ^ 50 → ArePlacedInRange (dialog_buttons d (dialog_rect d screen))
  unfolding dialog_picture
  dialog-placed d screen r short = placed-any (whole screen) _ (PictureInRange-right _ _ (dialog-here d (whole screen) r short))

-- a rectangle within the bounds is in range
pub bounds-in : (r : Rect) → RectIsInDrawBounds r → RectInRange r
bounds-in r b = rect-range r (omega (arith, places, b.x.low)) (omega (arith, places, b.end_x.high)) (here-near r.y b.y) (omega (arith, places, b.end_y.high))
