-- Rows below one another.
use Rattle.std.proofs.Common.{◌≡◌, ℕ, ◌≤◌, ℤ, pos, ◌+ℤ◌, List, [], ◌∷◌, length, refl, ap, ◌∙◌, sym, arith, suc, ◌++◌, append_assoc, append-nil, FitsSigned, w64}
use Rattle.std.proofs.lemmas.List.{length-take}
use Rattle.std.specs.Prelude.{Result, Ok, Err, OnOk, take}
use Rattle.std.proofs.lemmas.Int.{ints}
use Rattle.scm_cells.specs.Rect.{InRange}
use Rattle.scm_render.specs.Picture.{PictureInRange, nothing, followed_by, covering, part, Picture}
use Rattle.scm_render.specs.Canvas.{Sight}
use Rattle.scm_render.proofs.PictureLemmas.{PictureInRange-left, PictureInRange-right, PictureInRange-part, RectInRange-covering}
use Rattle.scm_widgets.specs.declared.ids.ComponentId.{ComponentId}
use Rattle.scm_types.specs.declared.keys.LineKey.{LineKey}
use Rattle.scm_document.specs.declared.section_view.SectionView.{SectionView}
use Rattle.scm_document.specs.declared.section_line_view.SectionLineView.{SectionLineView}
use Rattle.scm_document.specs.declared.section_line_view.SectionLineViewInner.{SectionLineViewInner}
use Rattle.scm_document.specs.declared.section_line_view.SectionLineViewInner.TheVariants as inner
use Rattle.scm_widgets.specs.Boxes.{IdBox}
use Rattle.scm_document.specs.Rows.{DocRow, HeaderRow, SectionRow, BlankRow, numbered_row, numbered_rows, rows_of_lines, view_row, line_id}
use Rattle.scm_widgets.specs.Pictures.{IdPicture, rest_of_row, whole_row, box_picture}
use Rattle.scm_document.specs.Pictures.{inner_picture, line_picture, row_picture, rows_picture, changed_picture, context_picture}
use Rattle.scm_render.proofs.StepLemmas.{span-place, text-place, InRange-fits}
use Rattle.scm_document.proofs.HeadingLemmas.{heading-rect}
use Rattle.scm_render.proofs.DrawLemmas.{blank_in_range}

-- the row below one that is in range is too
pub row-end : (r : DocRow) (s : Sight) (x y : ℤ) → PictureInRange (row_picture r s x y) → InRange (y +ℤ pos 1)
unfolding row_picture changed_picture context_picture
row-end (HeaderRow k h) s x y r = (heading-rect h s x y (PictureInRange-part _ _ r)).end_y
row-end (SectionRow b h) s x y r = (heading-rect h s x y (PictureInRange-left _ _ r)).end_y
row-end BlankRow s x y r = (blank_in_range {K = ComponentId} s (rest_of_row s x y) r).end_y
row-end _ s x y r = (RectInRange-covering _ (PictureInRange-left _ _ r)).end_y

module _ {L : Type 0} (row : ℕ → L → DocRow) where
  pub length-lines : (i : ℕ) (ls : List L) → length (rows_of_lines row i ls) ≡ length ls
  unfolding rows_of_lines
  length-lines i [] = refl
  length-lines i (l ∷ ls) = ap suc (length-lines (suc i) ls)

-- the place of a line that is in range is too
pub changed-place : (b : IdBox) (ts : List (List ℕ)) (s : Sight) (x y : ℤ) → PictureInRange (changed_picture b ts s x y) → InRange x
unfolding changed_picture box_picture
changed-place b ts s x y r = (span-place s x y _ (PictureInRange-part _ _ (PictureInRange-left _ _ (PictureInRange-right _ _ r)))).0

pub context-place : (ts : List (List ℕ)) (s : Sight) (x y : ℤ) → PictureInRange (context_picture ts s x y) → InRange x
unfolding context_picture
context-place ts s x y r = (text-place s x y ts (PictureInRange-right _ _ r)).0

inner-picture : (k : LineKey) (i : SectionLineViewInner) (s : Sight) (x y : ℤ)
    → row_picture (view_row (record { line_key = k; inner = i })) s x y ≡ followed_by (covering (rest_of_row s x y)) (part (line_id k) (inner_picture i s (x +ℤ pos 2) y))
unfolding row_picture
inner-picture k (inner.Unchanged l n) s x y = refl
inner-picture k (inner.Changed b change l) s x y = refl

pub view_row-picture : (w : SectionLineView) (s : Sight) (x y : ℤ) → row_picture (view_row w) s x y ≡ followed_by (covering (rest_of_row s x y)) (part (line_id w.line_key) (line_picture w s (x +ℤ pos 2) y))
unfolding line_picture
view_row-picture w s x y = inner-picture w.line_key w.inner s x y

inner-cover : (i : SectionLineViewInner) (s : Sight) (x y : ℤ) → PictureInRange (inner_picture i s x y) → PictureInRange {K = ComponentId} (covering (whole_row s y))
unfolding changed_picture context_picture
inner-cover (inner.Unchanged l n) s x y r = PictureInRange-left _ _ r
inner-cover (inner.Changed b change l) s x y r = PictureInRange-left _ _ r

-- the row that a line covers is in range
pub line-cover : (w : SectionLineView) (s : Sight) (x y : ℤ) → PictureInRange (line_picture w s x y) → PictureInRange {K = ComponentId} (covering (whole_row s y))
unfolding line_picture
line-cover w s x y r = inner-cover w.inner s x y r

inner-place : (i : SectionLineViewInner) (s : Sight) (x y : ℤ) → PictureInRange (inner_picture i s x y) → InRange x
inner-place (inner.Unchanged l n) s x y r = context-place _ s x y r
inner-place (inner.Changed b change l) s x y r = changed-place b _ s x y r

pub view-place : (w : SectionLineView) (s : Sight) (x y : ℤ) → PictureInRange (row_picture (view_row w) s x y) → InRange (x +ℤ pos 2)
view-place w s x y r = inner-place w.inner s (x +ℤ pos 2) y (PictureInRange-part _ _ (PictureInRange-right _ _ (rw (inner-picture w.line_key w.inner s x y) at r)))

-- ---- lists of rows

picture-same : (a b : IdPicture) → a.puts ≡ b.puts → a.boxes ≡ b.boxes → a.areas ≡ b.areas → a ≡ b
picture-same a b p q r =
    let e : ◌≡◌ {A = IdPicture} (record { puts = a.puts; boxes = a.boxes; areas = a.areas }) (record { puts = b.puts; boxes = b.boxes; areas = b.areas }) = cc in e

pub followed-assoc : (a b c : IdPicture) → followed_by (followed_by a b) c ≡ followed_by a (followed_by b c)
unfolding followed_by
followed-assoc a b c =
    picture-same _ _ (append_assoc a.puts b.puts c.puts) (append_assoc a.boxes b.boxes c.boxes) (append_assoc a.areas b.areas c.areas)

pub nothing-followed : (a : IdPicture) → followed_by nothing a ≡ a
unfolding followed_by nothing
nothing-followed a = picture-same _ _ refl refl refl

pub followed-nothing : {K : Type 0} (a : Picture K) → followed_by a nothing ≡ a
unfolding followed_by nothing
followed-nothing a = λ i. record { puts = append-nil a.puts i; boxes = append-nil a.boxes i; areas = append-nil a.areas i }

-- rows, and below them others
pub rows_picture-append : (rs qs : List DocRow) (s : Sight) (x y : ℤ) → rows_picture (rs ++ qs) s x y ≡ followed_by (rows_picture rs s x y) (rows_picture qs s x (y +ℤ pos (length rs)))
unfolding rows_picture
rows_picture-append [] qs s x y =
    ap (rows_picture qs s x) (omega (arith, ints)) ∙ sym (nothing-followed (rows_picture qs s x (y +ℤ pos 0)))
rows_picture-append (r ∷ rs) qs s x y =
    ap (followed_by (row_picture r s x y)) (rows_picture-append rs qs s x (y +ℤ pos 1) ∙ ap (λ z. followed_by (rows_picture rs s x (y +ℤ pos 1)) (rows_picture qs s x z)) (omega (arith, ints)))
    ∙ sym (followed-assoc (row_picture r s x y) (rows_picture rs s x (y +ℤ pos 1)) (rows_picture qs s x (y +ℤ pos (suc (length rs)))))

-- the row below the last fits
pub rows-fit : (rs : List DocRow) (s : Sight) (x y : ℤ) → FitsSigned w64 y → PictureInRange (rows_picture rs s x y) → FitsSigned w64 (y +ℤ pos (length rs))
unfolding rows_picture
rows-fit [] s x y f r = let same : y ≡ y +ℤ pos 0 = omega (arith, ints) in rw (sym same) f
rows-fit (a ∷ rs) s x y f r =
    let one : FitsSigned w64 (y +ℤ pos 1) = InRange-fits _ (row-end a s x y (PictureInRange-left _ _ r)) in
    let more = rows-fit rs s x (y +ℤ pos 1) one (PictureInRange-right _ _ r) in
    let same : (y +ℤ pos 1) +ℤ pos (length rs) ≡ y +ℤ pos (suc (length rs)) = omega (arith, ints) in
    rw same at more

-- where a call that may fail succeeds
pub on-ok : {T E P Q : Type 0} (r : Result T E) → (P → Q) → OnOk r P → OnOk r Q
on-ok (Ok v) f p = f p
on-ok (Err e) f p = tt

pub length-taken : (v : SectionView) (n : ℕ) (ls : List (List ℕ)) → n ≤ length ls → length (numbered_rows v 0 (take n ls)) ≡ n
length-taken v n ls h = length-lines (numbered_row v) 0 (take n ls) ∙ (length-take n ls ∙ omega arith)
