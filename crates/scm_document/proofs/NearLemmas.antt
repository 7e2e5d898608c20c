-- What is drawn near the document's corner is in range.
use Rattle.std.proofs.Common.{◌≡◌, ℕ, ◌+◌, ◌≤◌, ◌^◌, Bool, ℤ, pos, ◌+ℤ◌, ◌-ℤ◌, ◌≤ℤ◌, neg_ℤ, List, [], ◌∷◌, length, length-append, refl, arith, suc}
use Rattle.std.specs.Int.{int_min, int_max}
use Rattle.std.specs.Prelude.{int_lt, min, ◌==◌, Option, Some, None}
use Rattle.std.specs.Char.{encode_utf8}
use Rattle.scm_cells.proofs.BoundLemmas.{text_width-le}
use Rattle.scm_render.specs.Centring.{centred_rect, centred_gap}
use Rattle.scm_cells.specs.Clusters.{text_width}
use Rattle.scm_cells.specs.Row.{ellipsis}
use Rattle.scm_cells.proofs.WidthLemmas.{width-ellipsis}
use Rattle.scm_cells.specs.Rect.{RectInRange, end_x_of, or_zero, rect_between}
use Rattle.scm_cells.proofs.RectLemmas.{places}
use Rattle.scm_render.specs.Picture.{PictureInRange}
use Rattle.scm_render.specs.Canvas.{Sight, under}
use Rattle.scm_render.specs.Drawing.{row_rect, reach, texts_width, span_picture, line_picture, text_picture, blank_picture}
use Rattle.scm_render.proofs.PictureLemmas.{PictureInRange-as_part, PictureInRange-followed, PictureInRange-if, PictureInRange-nothing, PictureInRange-covering}
use Rattle.scm_widgets.specs.DrawBounds.{IsInDrawBounds}
use Rattle.scm_document.specs.DrawBounds.{SightIsInDrawBounds}
use Rattle.scm_widgets.proofs.Near.{IsNear}
use Rattle.scm_document.proofs.Near.{SightIsNear, IsNarrow, IsNarrowBox, IsNarrowHeading, IsNarrowRow, AreNarrow, AreNarrowSections, IsNarrowFile, AreNarrowFiles, IsNarrowMessage, IsNarrowDocument}
use Rattle.scm_widgets.specs.Texts.{box_text, button_text}
use Rattle.scm_document.specs.Texts.{divider_text, message_text, no_files_text}
use Rattle.scm_widgets.specs.Boxes.{IdBox}
use Rattle.scm_rows.specs.Heights.{message_height}
use Rattle.scm_rows.proofs.HeightLemmas.{message-le}
use Rattle.scm_document.specs.Rows.{Heading, DocRow, HeaderRow, SectionRow, LineRow, MarkRow, ContextRow, DotsRow, BlankRow, ShownSection, ShownFile, Document, sections_rows, file_rows}
use Rattle.scm_document.specs.FilesRows.{files_rows}
use Rattle.scm_widgets.specs.Pictures.{to_end, rest_of_row, whole_row, box_picture, box_part, fold_column, highlight, button_picture}
use Rattle.scm_document.specs.Pictures.{heading_width, heading_mask, title_picture, heading_picture, changed_picture, context_picture, row_picture, rows_picture, sections_picture, shown_file_picture, file_mask, pinned_mask, mask_row, is_pinned, pinned_picture, one_file_picture, files_picture, edit_button, beside_button, button_row_picture, message_picture, no_files_picture, document_picture}

-- ---- rectangles

-- a row of a rectangle that begins hardly past what is near
row-in : (x y : ℤ) (n : ℕ) → neg_ℤ (pos (2 ^ 60 + 100)) ≤ℤ x → x ≤ℤ pos (2 ^ 60 + 100) → IsNear y → n ≤ 2 ^ 61 → RectInRange (row_rect x y n)
row-in x y n p q h w = record {
  x = record { low = omega (arith, places); high = omega (arith, places) };
  end_x = record { low = omega (arith, places); high = omega (arith, places) };
  y = record { low = omega (arith, places); high = omega (arith, places) };
  end_y = record { low = omega (arith, places); high = omega (arith, places) };
}

greater-near : (a b : ℤ) → IsNear a → IsNear b → IsNear (int_max a b)
greater-near a b p q = record { low = omega (arith, places); high = omega (arith, places) }

end-near : (a b e f : ℤ) → IsNear a → IsNear b → IsNear f → IsNear (int_max a b +ℤ pos (or_zero (int_min e f -ℤ int_max a b)))
end-near a b e f p q r = record { low = omega (arith, places); high = omega (arith, places) }

-- how far drawing reaches in a near sight
pub record ReachIsNear (s : Sight) : Type 0 where
  pub x : IsNear (reach s).x
  pub end_x : IsNear (end_x_of (reach s))

pub reach-near : (s : Sight) → SightIsNear s → ReachIsNear s
unfolding reach rect_between
reach-near s n = record { x = greater-near _ _ n.mask_x n.x; end_x = end-near _ _ _ _ n.mask_x n.x n.end_x }

-- ---- calls

module _ {K : Type 0} where
  span-in : (s : Sight) (x y : ℤ) (t : List ℕ) → neg_ℤ (pos (2 ^ 60 + 100)) ≤ℤ x → x ≤ℤ pos (2 ^ 60 + 100) → IsNear y → text_width t ≤ 2 ^ 60 → PictureInRange {K = K} (span_picture s x y t)
  unfolding span_picture
  span-in s x y t p q h w = record { areas = (row-in x y (text_width t) p q h (omega arith), tt) }

  line-in : (s : Sight) (x y : ℤ) (ts : List (List ℕ)) → neg_ℤ (pos (2 ^ 60 + 100)) ≤ℤ x → x ≤ℤ pos (2 ^ 60 + 100) → IsNear y → IsNarrow ts → PictureInRange {K = K} (line_picture s x y ts)
  unfolding line_picture
  line-in s x y ts p q h w = record { areas = (row-in x y (texts_width ts) p q h (omega arith), tt) }

  ellipsis-in : (s : Sight) (y : ℤ) → SightIsNear s → IsNear y → PictureInRange {K = K} (span_picture s (end_x_of (reach s) -ℤ pos 1) y ellipsis)
  ellipsis-in s y n q =
      let e : IsNear (end_x_of (reach s)) = (reach-near s n).end_x in
      let w : text_width ellipsis ≤ 2 ^ 60 = omega (arith, width-ellipsis) in
      span-in s (end_x_of (reach s) -ℤ pos 1) y ellipsis (omega (arith, places)) (omega (arith, places)) q w

  text-in : (s : Sight) (x y : ℤ) (ts : List (List ℕ)) → SightIsNear s → neg_ℤ (pos (2 ^ 60 + 100)) ≤ℤ x → x ≤ℤ pos (2 ^ 60 + 100) → IsNear y → IsNarrow ts → PictureInRange {K = K} (text_picture s x y ts)
  unfolding text_picture
  text-in s x y ts n p q h w =
      PictureInRange-followed _ _ (line-in s x y ts p q h w)
      (PictureInRange-if (int_lt (end_x_of (reach s)) (x +ℤ pos (texts_width ts))) _ _ (ellipsis-in s y n h) PictureInRange-nothing)

  blank-in : (s : Sight) (x y : ℤ) (n : ℕ) → RectInRange (row_rect x y n) → PictureInRange {K = K} (blank_picture s (row_rect x y n))
  unfolding blank_picture
  blank-in s x y n r = record { areas = (r, tt) }

box-in : (b : IdBox) (s : Sight) (x y : ℤ) → neg_ℤ (pos (2 ^ 60 + 100)) ≤ℤ x → x ≤ℤ pos (2 ^ 60 + 100) → IsNear y → IsNarrowBox b → PictureInRange (box_part b s x y)
unfolding box_picture
box-in b s x y p q h w = PictureInRange-as_part _ _ (span-in s x y (box_text b) p q h w)

-- ---- rows

rest_of_row-in : (s : Sight) (x y : ℤ) → SightIsNear s → IsNear x → IsNear y → RectInRange (rest_of_row s x y)
rest_of_row-in s x y n p q =
    let e : IsNear (end_x_of (reach s)) = (reach-near s n).end_x in
    let w : to_end s x ≤ 2 ^ 61 = omega (arith, places) in
    row-in x y (to_end s x) (omega (arith, places)) (omega (arith, places)) q w

whole_row-in : (s : Sight) (y : ℤ) → SightIsNear s → IsNear y → RectInRange (whole_row s y)
whole_row-in s y n q =
    let r : ReachIsNear s = reach-near s n in
    let a : IsNear (reach s).x = r.x in
    let e : IsNear (end_x_of (reach s)) = r.end_x in
    let w : (reach s).width ≤ 2 ^ 61 = omega (arith, places) in
    row-in (reach s).x y (reach s).width (omega (arith, places)) (omega (arith, places)) q w

under-near : (s : Sight) (x y : ℤ) → SightIsNear s → IsNear x → SightIsNear (under (heading_mask s x y) s)
under-near s x y n p = record { x = n.x; end_x = n.end_x; mask_x = p }

pub heading-in : (h : Heading) (s : Sight) (x y : ℤ) → SightIsNear s → IsNear x → IsNear y → IsNarrowHeading h → PictureInRange (heading_picture h s x y)
unfolding heading_picture title_picture
heading-in h s x y n p q w =
    let e : IsNear (end_x_of (reach s)) = (reach-near s n).end_x in
    let wide : heading_width s x ≤ 2 ^ 61 = omega (arith, places) in
    let u : SightIsNear (under (heading_mask s x y) s) = under-near s x y n p in
    let low : neg_ℤ (pos (2 ^ 60 + 100)) ≤ℤ x = omega (arith, places) in
    let high : x ≤ℤ pos (2 ^ 60 + 100) = omega (arith, places) in
    PictureInRange-followed _ _ (box-in h.fold s (fold_column s) y (omega (arith, places)) (omega (arith, places)) q w.fold)
    (PictureInRange-followed _ _ (blank-in _ x y (heading_width s x) (row-in x y (heading_width s x) low high q wide))
    (PictureInRange-followed _ _ (box-in h.toggle _ x y low high q w.toggle)
    (text-in _ (x +ℤ pos 4) y (h.title ∷ []) u (omega (arith, places)) (omega (arith, places)) q w.title)))

pub changed-in : (b : IdBox) (ts : List (List ℕ)) (s : Sight) (x y : ℤ) → SightIsNear s → neg_ℤ (pos (2 ^ 60)) ≤ℤ x → x ≤ℤ pos (2 ^ 60 + 50) → IsNear y → IsNarrowBox b → IsNarrow ts → PictureInRange (changed_picture b ts s x y)
unfolding changed_picture
changed-in b ts s x y n p q h w v =
    PictureInRange-followed _ _ (PictureInRange-covering _ (whole_row-in s y n h))
    (PictureInRange-followed _ _ (box-in b s x y (omega (arith, places)) (omega (arith, places)) h w)
    (text-in s (x +ℤ pos 4) y ts n (omega (arith, places)) (omega (arith, places)) h v))

pub context-in : (ts : List (List ℕ)) (s : Sight) (x y : ℤ) → SightIsNear s → neg_ℤ (pos (2 ^ 60)) ≤ℤ x → x ≤ℤ pos (2 ^ 60 + 50) → IsNear y → IsNarrow ts → PictureInRange (context_picture ts s x y)
unfolding context_picture
context-in ts s x y n p q h v =
    PictureInRange-followed _ _ (PictureInRange-covering _ (whole_row-in s y n h))
    (text-in s x y ts n (omega (arith, places)) (omega (arith, places)) h v)

highlight-in : (b : Bool) (s : Sight) (y : ℤ) → SightIsNear s → IsNear y → PictureInRange (highlight b s y)
highlight-in b s y n h = PictureInRange-if b _ _ (PictureInRange-covering _ (whole_row-in s y n h)) PictureInRange-nothing

pub row-near : (r : DocRow) (s : Sight) (x y : ℤ) → SightIsNear s → IsNear x → IsNear y → IsNarrowRow r → PictureInRange (row_picture r s x y)
unfolding row_picture
row-near (HeaderRow key h) s x y n p q w = PictureInRange-as_part _ _ (heading-in h s x y n p q w)
row-near (SectionRow selected h) s x y n p q w = PictureInRange-followed _ _ (heading-in h s x y n p q w) (highlight-in selected s y n q)
row-near (LineRow key b ts) s x y n p q w =
    PictureInRange-followed _ _ (PictureInRange-covering _ (rest_of_row-in s x y n p q))
    (PictureInRange-as_part _ _ (changed-in b ts s (x +ℤ pos 2) y n (omega (arith, places)) (omega (arith, places)) q w.0 w.1))
row-near (MarkRow selected b t) s x y n p q w =
    PictureInRange-followed _ _ (PictureInRange-covering _ (rest_of_row-in s x y n p q))
    (PictureInRange-followed _ _ (box-in b s x y (omega (arith, places)) (omega (arith, places)) q w.0)
    (PictureInRange-followed _ _ (text-in s (x +ℤ pos 4) y (t ∷ []) n (omega (arith, places)) (omega (arith, places)) q w.1)
    (highlight-in selected s y n q)))
row-near (ContextRow key ts) s x y n p q w =
    PictureInRange-followed _ _ (PictureInRange-covering _ (rest_of_row-in s x y n p q))
    (PictureInRange-as_part _ _ (context-in ts s (x +ℤ pos 2) y n (omega (arith, places)) (omega (arith, places)) q w))
row-near (DotsRow t) s x y n p q w =
    PictureInRange-followed _ _ (PictureInRange-covering _ (rest_of_row-in s x y n p q))
    (span-in s (x +ℤ pos 6) y t (omega (arith, places)) (omega (arith, places)) q w)
row-near BlankRow s x y n p q w = blank-in s x y (to_end s x) (rest_of_row-in s x y n p q)

-- ---- rows below one another: the first and the last are near

next-near : (y : ℤ) (n : ℕ) → IsNear y → IsNear (y +ℤ pos (suc n)) → IsNear (y +ℤ pos 1) × IsNear ((y +ℤ pos 1) +ℤ pos n)
next-near y n p q =
    (record { low = omega (arith, places); high = omega (arith, places) }, record { low = omega (arith, places); high = omega (arith, places) })

pub rows-near : (rs : List DocRow) (s : Sight) (x y : ℤ) → SightIsNear s → IsNear x → IsNear y → IsNear (y +ℤ pos (length rs)) → AreNarrow rs → PictureInRange (rows_picture rs s x y)
unfolding rows_picture
rows-near [] s x y n p q e w = PictureInRange-nothing
rows-near (r ∷ rs) s x y n p q e w =
    let next = next-near y (length rs) q e in
    PictureInRange-followed _ _ (row-near r s x y n p q w.0) (rows-near rs s x (y +ℤ pos 1) n p next.0 next.1 w.1)

between-near : (y : ℤ) (n m : ℕ) → IsNear y → IsNear (y +ℤ pos (n + m)) → IsNear (y +ℤ pos n) × IsNear ((y +ℤ pos n) +ℤ pos m)
between-near y n m p q =
    (record { low = omega (arith, places); high = omega (arith, places) }, record { low = omega (arith, places); high = omega (arith, places) })

pub sections-near : (ps : List ShownSection) (s : Sight) (x y : ℤ) → SightIsNear s → IsNear x → IsNear y → IsNear (y +ℤ pos (length (sections_rows ps))) → AreNarrowSections ps → PictureInRange (sections_picture ps s x y)
unfolding sections_picture sections_rows
sections-near [] s x y n p q e w = PictureInRange-nothing
sections-near (a ∷ ps) s x y n p q e w =
    let next = between-near y (length a.rows) (length (sections_rows ps)) q (rw (length-append a.rows (sections_rows ps)) at e) in
    PictureInRange-followed _ _ (PictureInRange-as_part _ _ (rows-near a.rows s x y n p q next.0 w.0)) (sections-near ps s x (y +ℤ pos (length a.rows)) n p next.0 next.1 w.1)

-- ---- files

pub file-near : (f : ShownFile) (s : Sight) (x y : ℤ) → SightIsNear s → IsNear x → IsNear (x +ℤ pos 2) → IsNear y → IsNear (y +ℤ pos (length (file_rows f))) → IsNarrowHeading f.heading → AreNarrowSections f.sections
    → PictureInRange (shown_file_picture f s x y)
unfolding shown_file_picture file_rows
file-near f s x y n p p2 q e w v =
    let next = next-near y (length (sections_rows f.sections)) q e in
    PictureInRange-followed _ _ (row-near (HeaderRow f.key f.heading) s x y n p q w) (sections-near f.sections s (x +ℤ pos 2) (y +ℤ pos 1) n p2 next.0 next.1 v)

file_mask-near : (s : Sight) (x y : ℤ) → SightIsNear s → IsNear x → SightIsNear (under (file_mask s x y) s)
file_mask-near s x y n p = record { x = n.x; end_x = n.end_x; mask_x = p }

pinned_mask-near : (s : Sight) (x y : ℤ) → SightIsNear s → IsNear x → SightIsNear (under (pinned_mask s x y) s)
pinned_mask-near s x y n p = record { x = n.x; end_x = n.end_x; mask_x = p }

pub one_file-near : (f : ShownFile) (s : Sight) (x y : ℤ) → SightIsNear s → IsNear (mask_row s) → IsNear x → IsNear (x +ℤ pos 2) → IsNear y → IsNear (y +ℤ pos (length (file_rows f))) → IsNarrowFile f
    → PictureInRange (one_file_picture f s x y)
unfolding one_file_picture pinned_picture
one_file-near f s x y n m p p2 q e w =
    PictureInRange-followed _ _ (PictureInRange-as_part _ _ (file-near f (under (file_mask s x y) s) x y (file_mask-near s x y n p) p p2 q e w.heading w.sections))
    (PictureInRange-if (is_pinned (mask_row s) y (length (file_rows f))) _ _
    (row-near (HeaderRow f.key f.heading) (under (pinned_mask s x (mask_row s)) s) x (mask_row s) (pinned_mask-near s x (mask_row s) n p) p m w.heading) PictureInRange-nothing)

pub files-near : (fs : List ShownFile) (s : Sight) (x y : ℤ) → SightIsNear s → IsNear (mask_row s) → IsNear x → IsNear (x +ℤ pos 2) → IsNear y → IsNear (y +ℤ pos (length (files_rows fs))) → AreNarrowFiles fs
    → PictureInRange (files_picture fs s x y)
unfolding files_picture files_rows
files-near [] s x y n m p p2 q e w = PictureInRange-nothing
files-near (f ∷ fs) s x y n m p p2 q e w =
    let next = between-near y (length (file_rows f)) (length (files_rows fs)) q (rw (length-append (file_rows f) (files_rows fs)) at e) in
    PictureInRange-followed _ _ (one_file-near f s x y n m p p2 q next.0 w.0) (files-near fs s x (y +ℤ pos (length (file_rows f))) n m p p2 next.0 next.1 w.1)

-- ---- messages

button-narrow : (commit : ℕ) → text_width (button_text (edit_button commit)) ≤ 2 ^ 60
button-narrow commit =
    let bytes : length (button_text (edit_button commit)) ≡ 14 = refl in
    omega (arith, text_width-le (button_text (edit_button commit)))

divider-narrow : text_width divider_text ≤ 2 ^ 60
unfolding encode_utf8
divider-narrow =
    let bytes : length divider_text ≡ 5 = refl in
    omega (arith, text_width-le divider_text)

third_row-in : (s : Sight) (x y : ℤ) → SightIsNear s → IsNear x → IsNear y → RectInRange (rest_of_row s x (y +ℤ pos 2))
third_row-in s x y n p q =
    let r : RectInRange (rest_of_row s x y) = rest_of_row-in s x y n p q in
    record {
      x = r.x;
      end_x = r.end_x;
      y = record { low = omega (arith, places); high = omega (arith, places) };
      end_y = record { low = omega (arith, places); high = omega (arith, places) };
    }

pub message-near : (commit : ℕ) (m : Option (List ℕ)) (s : Sight) (x y : ℤ) → SightIsNear s → IsNear x → IsNear y → IsNear (y +ℤ pos 1) → IsNarrowMessage m → PictureInRange (message_picture commit m s x y)
unfolding message_picture button_row_picture beside_button button_picture
message-near commit None s x y n p q e w = PictureInRange-nothing
message-near commit (Some m) s x y n p q e w =
    PictureInRange-followed _ _ (blank-in s x y (to_end s x) (rest_of_row-in s x y n p q))
    (PictureInRange-followed _ _
    (PictureInRange-followed _ _ (PictureInRange-as_part _ _ (span-in s x (y +ℤ pos 1) (button_text (edit_button commit)) (omega (arith, places)) (omega (arith, places)) e (button-narrow commit)))
    (PictureInRange-followed _ _ (span-in s (x +ℤ pos 15) (y +ℤ pos 1) divider_text (omega (arith, places)) (omega (arith, places)) e divider-narrow)
    (text-in s (x +ℤ pos 19) (y +ℤ pos 1) (message_text m ∷ []) n (omega (arith, places)) (omega (arith, places)) e w)))
    (blank-in s x (y +ℤ pos 2) (to_end s x) (third_row-in s x y n p q)))

-- ---- a document

gap-small_room : (n least : ℕ) → centred_gap (min n 65535) least 50 ≤ 65535
gap-small_room n least = omega arith

words-narrow : texts_width (no_files_text ∷ []) ≤ 2 ^ 60
unfolding texts_width
words-narrow =
    let bytes : length no_files_text ≡ 29 = refl in
    omega (arith, text_width-le no_files_text)

pub no_files-near : (s : Sight) (x y : ℤ) → SightIsNear s → IsNear x → IsNear y → IsNear (x +ℤ pos 65535) → IsNear (y +ℤ pos 65535) → PictureInRange (no_files_picture s x y)
unfolding no_files_picture centred_rect
no_files-near s x y n p q p2 q2 =
    let a = gap-small_room (reach s).width 29 in
    let b = gap-small_room (reach s).height 1 in
    text-in s (x +ℤ (pos 0 +ℤ pos (centred_gap (min (reach s).width 65535) 29 50))) (y +ℤ (pos 0 +ℤ pos (centred_gap (min (reach s).height 65535) 1 50))) (no_files_text ∷ []) n
    (above x _ p) (below x _ p2 a) (record { low = lower y _ q; high = upper y _ q2 b }) words-narrow
  where
    lower : (z : ℤ) (g : ℕ) → IsNear z → neg_ℤ (pos (2 ^ 60)) ≤ℤ (z +ℤ (pos 0 +ℤ pos g))
    lower z g n = omega (arith, places)

    upper : (z : ℤ) (g : ℕ) → IsNear (z +ℤ pos 65535) → g ≤ 65535 → (z +ℤ (pos 0 +ℤ pos g)) ≤ℤ pos (2 ^ 60)
    upper z g n h = omega (arith, places)

    above : (z : ℤ) (g : ℕ) → IsNear z → neg_ℤ (pos (2 ^ 60 + 100)) ≤ℤ (z +ℤ (pos 0 +ℤ pos g))
    above z g n = omega (arith, places)

    below : (z : ℤ) (g : ℕ) → IsNear (z +ℤ pos 65535) → g ≤ 65535 → (z +ℤ (pos 0 +ℤ pos g)) ≤ℤ pos (2 ^ 60 + 100)
    below z g n h = omega (arith, places)

-- places that are here are near, and so is what is not far from them
here-near : (z : ℤ) (n : ℕ) → IsInDrawBounds z → n ≤ 2 ^ 59 → IsNear (z +ℤ pos n)
here-near z n c h = record { low = omega (arith, places); high = omega (arith, places) }

pub still-near : (z : ℤ) → IsInDrawBounds z → IsNear z
still-near z c = record { low = omega (arith, places); high = omega (arith, places) }

then-near : (z : ℤ) (n m : ℕ) → IsInDrawBounds z → n ≤ 3 → m ≤ 2 ^ 59 → IsNear ((z +ℤ pos n) +ℤ pos m)
then-near z n m c h k = record { low = omega (arith, places); high = omega (arith, places) }

pub document-near : (d : Document) (s : Sight) (x y : ℤ) → SightIsInDrawBounds s → IsInDrawBounds x → IsInDrawBounds y → length (files_rows d.files) ≤ 2 ^ 59 → IsNarrowDocument d → PictureInRange (document_picture d s x y)
unfolding document_picture
document-near d s x y c p q h w =
    let n : SightIsNear s = record { x = still-near _ c.x; end_x = still-near _ c.end_x; mask_x = still-near _ c.mask_x } in
    let px = still-near x p in
    let py = still-near y q in
    let three = message-le d.message in
    PictureInRange-followed _ _ (PictureInRange-as_part _ _ (message-near d.commit d.message s x y n px py (here-near y 1 q (omega arith)) w.message))
    (PictureInRange-if (length d.files == 0) _ _
    (no_files-near s x y n px py (here-near x 65535 p (omega arith)) (here-near y 65535 q (omega arith)))
    (files-near d.files s x (y +ℤ pos (message_height d.message)) n (still-near _ c.mask_y) px (here-near x 2 p (omega arith)) (here-near y (message_height d.message) q (omega arith))
    (then-near y (message_height d.message) (length (files_rows d.files)) q three h) w.files))
