-- Files below one another.
use Rattle.std.proofs.Common.{◌≡◌, FitsSigned, w64, ap, arith, ℕ, ◌+◌, ◌<◌, ◌≤◌, ◌==◌, false, ℤ, pos, ◌+ℤ◌, List, [], ◌∷◌, length, map, drop, get_or, refl, add-one, drop-cons}
use Rattle.std.specs.Prelude.{suc, min}
use Rattle.std.proofs.lemmas.List.{drop_all}
use Rattle.scm_cells.specs.Rect.{InRange, RectInRange}
use Rattle.scm_cells.proofs.RectLemmas.{places}
use Rattle.scm_render.specs.Picture.{PictureInRange, nothing, followed_by}
use Rattle.scm_render.specs.Canvas.{Sight, under}
use Rattle.scm_render.proofs.PictureLemmas.{PictureInRange-left, PictureInRange-part}
use Rattle.scm_document.specs.declared.file_view.FileView.{FileView}
use Rattle.scm_document.specs.Rows.{ShownFile, shown_file, file_rows}
use Rattle.scm_document.specs.Pictures.{file_mask, one_file_picture, files_picture, no_files_place}
use Rattle.scm_render.specs.Centring.{centred_rect, centred_gap}
use Rattle.scm_render.specs.Drawing.{reach}
use Rattle.scm_document.proofs.SectionsLemmas.{FileFits, file-fits}

pub one_file-fits : (f : ShownFile) (s : Sight) (x y : ℤ) → PictureInRange (one_file_picture f s x y) → FileFits f x y
unfolding one_file_picture
one_file-fits f s x y r = file-fits f (under (file_mask s x y) s) x y (PictureInRange-part _ _ (PictureInRange-left _ _ r))

pub files_picture-more : (vs : List FileView) (i : ℕ) (d : FileView) (s : Sight) (x y : ℤ) → i < length vs
    → files_picture (map shown_file (drop i vs)) s x y
    ≡ followed_by (one_file_picture (shown_file (get_or vs i d)) s x y) (files_picture (map shown_file (drop (i + 1) vs)) s x (y +ℤ pos (length (file_rows (shown_file (get_or vs i d))))))
unfolding files_picture
files_picture-more vs i d s x y h = rw (add-one, drop-cons vs i d h) refl

pub files_picture-end : (vs : List FileView) (i : ℕ) (s : Sight) (x y : ℤ) → length vs ≤ i → files_picture (map shown_file (drop i vs)) s x y ≡ nothing
unfolding files_picture
files_picture-end vs i s x y h = rw (drop_all i vs h) refl

pub files-top : (fs : List ShownFile) (s : Sight) (x y : ℤ) → (length fs == 0) ≡ false → PictureInRange (files_picture fs s x y) → InRange y
unfolding files_picture
files-top [] s x y e r = absurd (cc e)
files-top (f ∷ fs) s x y e r = (one_file-fits f s x y (PictureInRange-left _ _ r)).top

pub length-shown : (vs : List FileView) → length (map shown_file vs) ≡ length vs
length-shown [] = refl
length-shown (v ∷ vs) = ap suc (length-shown vs)

-- a room of a screen's size
pub room-in : (w h : ℕ) → RectInRange (record { x = pos 0; y = pos 0; width = min w 65535; height = min h 65535 })
room-in w h = record {
  x = record { low = omega (arith, places); high = omega (arith, places) };
  end_x = record { low = omega (arith, places); high = omega (arith, places) };
  y = record { low = omega (arith, places); high = omega (arith, places) };
  end_y = record { low = omega (arith, places); high = omega (arith, places) };
}

gap-fits : (n least : ℕ) → FitsSigned w64 (pos 0 +ℤ pos (centred_gap (min n 65535) least 50))
gap-fits n least = omega (arith, places)

-- the place of the words for no files
pub place-fits : (s : Sight) → (FitsSigned w64 (no_files_place s).x) × (FitsSigned w64 (no_files_place s).y)
unfolding centred_rect
place-fits s = (gap-fits (reach s).width 29, gap-fits (reach s).height 1)
