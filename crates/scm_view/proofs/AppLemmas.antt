-- The documents of commits beside each other: their masks and columns are in range.
use Rattle.std.proofs.Common.{◌≡◌, ℕ, ◌+◌, ◌-◌, ◌<◌, ◌≤◌, ◌^◌, ℤ, pos, ◌+ℤ◌, ◌-ℤ◌, ◌<ℤ◌, List, [], ◌∷◌, length, drop, get_or, refl, arith, add-one, drop-cons, FitsSigned, w64}
use Rattle.std.specs.Prelude.{min, Some, Bool, true, false, ◌==◌, if◌then◌else◌}
use Rattle.std.specs.Int.{int_min, int_max}
use Rattle.std.proofs.lemmas.List.{drop_all}
use Rattle.scm_cells.specs.Rect.{InRange, RectInRange, or_zero, end_x_of, rect_between}
use Rattle.scm_cells.specs.Mask.{MaskInRange, apply_of}
use Rattle.scm_cells.specs.declared.rect.Rect.{Rect}
use Rattle.scm_cells.specs.declared.mask.Mask.{Mask}
use Rattle.scm_cells.proofs.RectLemmas.{places}
use Rattle.scm_render.specs.Picture.{PictureInRange, nothing, followed_by, part, box_rect}
use Rattle.scm_render.specs.Canvas.{Sight}
use Rattle.scm_render.specs.Centring.{centred_rect}
use Rattle.scm_render.specs.Drawing.{blank_picture}
use Rattle.scm_render.proofs.PictureLemmas.{PictureInRange-left, PictureInRange-right}
use Rattle.scm_render.proofs.StepLemmas.{text-place}
use Rattle.scm_widgets.specs.declared.ids.ComponentId.TheVariants as ids
use Rattle.scm_document.specs.declared.commit_view.CommitView.{CommitView}
use Rattle.scm_overlay.specs.declared.menu_bar.MenuBar.{MenuBar}
use Rattle.scm_document.specs.Rows.{ShownFile, document_of}
use Rattle.scm_document.specs.Pictures.{no_files_picture, files_picture, body_picture, document_picture, commit_picture}
use Rattle.scm_overlay.specs.Menus.{menu_bar_picture}
use Rattle.scm_document.specs.ViewColumns.{nearest_column, view_mask, view_picture, view_counts, views_counts, next_view}
use Rattle.scm_view.specs.AppView.{views_picture}
use Rattle.scm_document.proofs.FilesLemmas.{one_file-fits}
use Rattle.scm_document.proofs.RowsLemmas.{followed-nothing}
use Rattle.scm_document.proofs.CountLemmas.{plus-none}

-- ---- views beside each other

-- a view, and the others from a column on
pub views_picture-more : (vs : List CommitView) (i : ℕ) (d : CommitView) (n : ℕ) (s : Sight) (x z : ℤ) → i < length vs → z ≡ next_view (get_or vs i d) s x n
    → views_picture (drop i vs) n s x ≡ followed_by (part ids.AppFiles (view_picture (get_or vs i d) s x n)) (views_picture (drop (i + 1) vs) n s z)
unfolding views_picture
views_picture-more vs i d n s x z h e = rw (add-one, drop-cons vs i d h, e) refl

pub views_picture-end : (vs : List CommitView) (i n : ℕ) (s : Sight) (x : ℤ) → length vs ≤ i → views_picture (drop i vs) n s x ≡ nothing
unfolding views_picture
views_picture-end vs i n s x h = rw (drop_all i vs h) refl

-- one view alone
pub views_picture-one : (vs : List CommitView) (d : CommitView) (n : ℕ) (s : Sight) (x : ℤ) → length vs ≡ 1 → views_picture vs n s x ≡ part ids.AppFiles (view_picture (get_or vs 0 d) s x n)
unfolding views_picture
views_picture-one (v ∷ []) d n s x h = followed-nothing (part ids.AppFiles (view_picture v s x n))
views_picture-one _ d n s x h = absurd (omega (arith, h))

pub views_counts-one : (vs : List CommitView) (d : CommitView) (n : ℕ) (s : Sight) (x : ℤ) → length vs ≡ 1 → views_counts vs n s x ≡ view_counts (get_or vs 0 d) s x n
unfolding views_counts
views_counts-one (v ∷ []) d n s x h = plus-none (view_counts v s x n)
views_counts-one _ d n s x h = absurd (omega (arith, h))

-- ---- the mask

pub held-in : (r : Rect) (x : ℤ) → RectInRange r → InRange (nearest_column r x)
held-in r x h = record { low = omega (arith, places, h.x.low, h.end_x.low); high = omega (arith, places, h.end_x.high) }

mask-end : (left e : ℤ) (n : ℕ) → InRange left → InRange e → InRange (left +ℤ pos (min n (or_zero (e -ℤ left))))
mask-end left e n p q = record { low = omega (arith, places, p.low); high = omega (arith, places, p.high, q.high) }

pub mask-in : (s : Sight) (x : ℤ) (n : ℕ) → RectInRange s.rect → InRange (s.rect.y +ℤ pos 1) → MaskInRange (view_mask s x n)
mask-in s x n h below = record {
  x = held-in s.rect x h;
  end_x = mask-end (nearest_column s.rect x) (end_x_of s.rect) _ (held-in s.rect x h) h.end_x;
  y = below;
  end_y = tt;
}

-- ---- the column of the next view

before_gap : (x : ℤ) (g : ℕ) → InRange (x +ℤ (pos 0 +ℤ pos g)) → x <ℤ pos (2 ^ 62)
before_gap x g r = omega (arith, places, r.high)

no_files-column : (s : Sight) (x y : ℤ) → PictureInRange (no_files_picture s x y) → x <ℤ pos (2 ^ 62)
unfolding no_files_picture centred_rect
no_files-column s x y r = before_gap x _ (text-place _ _ _ _ r).0

files-column : (fs : List ShownFile) (s : Sight) (x y : ℤ) → (length fs == 0) ≡ false → PictureInRange (files_picture fs s x y) → x <ℤ pos (2 ^ 62)
unfolding files_picture
files-column [] s x y e r = absurd (cc e)
files-column (f ∷ fs) s x y e r = (one_file-fits f s x y (PictureInRange-left _ _ r)).left.high

body-column : (fs : List ShownFile) (s : Sight) (x y below : ℤ) → PictureInRange (body_picture fs s x y below) → x <ℤ pos (2 ^ 62)
body-column fs s x y below r = go (length fs == 0) refl r
  where
    go : (t : Bool) → (length fs == 0) ≡ t → PictureInRange (if t then no_files_picture s x y else files_picture fs s x below) → x <ℤ pos (2 ^ 62)
    go true e p = no_files-column s x y p
    go false e p = files-column fs s x below e p

pub view-column : (v : CommitView) (s : Sight) (x y : ℤ) → PictureInRange (commit_picture v s x y) → x <ℤ pos (2 ^ 62)
unfolding commit_picture document_picture
view-column v s x y r = body-column (document_of v).files s x y _ (PictureInRange-right _ _ r)

-- no more columns than the mask has
cut-columns : (a b e f : ℤ) (n : ℕ) → a +ℤ pos n ≡ e → or_zero (int_min e f -ℤ int_max a b) ≤ n
cut-columns a b e f n h = omega (arith, places, h)

pub apply-columns : (m : Mask) (r : Rect) (n : ℕ) → m.width ≡ Some n → (apply_of m r).width ≤ n
unfolding rect_between
apply-columns m r n e = rw e (cut-columns m.x r.x _ (end_x_of r) n refl)

column-fits : (x b e : ℤ) (n k : ℕ) → FitsSigned w64 x → x <ℤ pos (2 ^ 62) → InRange e → k ≤ min (n - or_zero (int_min (int_max x b) e -ℤ x)) (or_zero (e -ℤ int_min (int_max x b) e))
    → FitsSigned w64 (x +ℤ pos k) × FitsSigned w64 ((x +ℤ pos k) +ℤ pos 1)
column-fits x b e n k f low h q = (omega (arith, places, low, h.high, q), omega (arith, places, low, h.high, q))

pub next-fits : (v : CommitView) (s : Sight) (x : ℤ) (n : ℕ) → FitsSigned w64 x → InRange (end_x_of s.rect) → PictureInRange (view_picture v s x n)
    → FitsSigned w64 (x +ℤ pos (apply_of (view_mask s x n) (box_rect (view_picture v s x n))).width) × FitsSigned w64 (next_view v s x n)
next-fits v s x n f h r = column-fits x s.rect.x (end_x_of s.rect) n _ f (view-column v _ x (pos 1) r) h (apply-columns (view_mask s x n) (box_rect (view_picture v s x n)) _ refl)

pub after-fits : (v : CommitView) (s : Sight) (x z : ℤ) (n : ℕ) → FitsSigned w64 x → InRange (end_x_of s.rect) → PictureInRange (view_picture v s x n) → z ≡ next_view v s x n → FitsSigned w64 z
after-fits v s x z n f h r e = rw e (next-fits v s x n f h r).1

-- ---- the menu bar

-- its row is on the screen
pub bar-below : (b : MenuBar) (s : Sight) (x y : ℤ) → PictureInRange (menu_bar_picture b s x y) → InRange (s.rect.y +ℤ pos 1)
unfolding menu_bar_picture blank_picture
bar-below b s x y r = (PictureInRange-left _ _ r).areas.0.end_y
