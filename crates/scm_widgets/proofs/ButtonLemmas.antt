-- What texts, blanks and buttons draw on a screen without a mask.
use Rattle.std.proofs.Common.{◌≡◌, ℕ, zero, suc, Bool, true, false, cond, List, [], ◌∷◌, refl, sym, ◌∙◌, arith}
use Rattle.std.specs.Prelude.{ℤ, pos, ◌+ℤ◌, ◌-ℤ◌, ◌≤ℤ◌, int_le, int_lt, ◌&&◌, Option, Some, None}
use Rattle.std.specs.Ordering.{int_eq}
use Rattle.std.specs.Int.{int_min, int_max}
use Rattle.std.proofs.lemmas.Int.{ints}
use Rattle.scm_cells.specs.Row.{put}
use Rattle.scm_cells.specs.Rect.{end_x_of, end_y_of, or_zero, rect_between, intersect_of}
use Rattle.scm_cells.specs.Clusters.{text_width}
use Rattle.scm_cells.specs.declared.rect.Rect.{Rect}
use Rattle.scm_cells.proofs.RectLemmas.{places}
use Rattle.scm_render.specs.Picture.{Picture, part, box_rect}
use Rattle.scm_render.specs.Around.{join, around, no_rect}
use Rattle.scm_render.specs.Canvas.{Row, Sight, clamp_column}
use Rattle.scm_render.proofs.RowsWithin.{put_within}
use Rattle.scm_render.specs.Drawing.{text_puts, row_rect, reach, span_picture}
use Rattle.scm_render.specs.Hits.{holds, has_id, hit}
use Rattle.scm_render.specs.Lines.{line}
use Rattle.scm_render.proofs.RowLemmas.{OneRow, one_same, one_text}
use Rattle.scm_render.proofs.AroundLemmas.{around-one, join-empty, join-from_empty, is_empty-in}
use Rattle.scm_widgets.specs.Layers.{Strip, clear, is_within}
use Rattle.scm_widgets.specs.declared.button.Button.{Button}
use Rattle.scm_widgets.specs.Texts.{button_text}
use Rattle.scm_widgets.specs.Pictures.{button_picture}
use Rattle.scm_widgets.specs.Buttons.{button_width, button_part, button_strip}
use Rattle.scm_widgets.specs.Screens.{screen, sight}
use Rattle.scm_widgets.proofs.DrawsStrips.{DrawsStrips, at_row, past_row, no_row}

-- ---- how far drawing reaches

-- a rectangle that lies in another
pub record Inside (a v : Rect) : Type 0 where
  pub left : v.x ≤ℤ a.x
  pub right : end_x_of a ≤ℤ end_x_of v
  pub top : v.y ≤ℤ a.y
  pub bottom : end_y_of a ≤ℤ end_y_of v

one_way : (a v : ℤ) (n m : ℕ) → v ≤ℤ a → (a +ℤ pos n) ≤ℤ (v +ℤ pos m) → (int_max a v ≡ a) × (or_zero (int_min (a +ℤ pos n) (v +ℤ pos m) -ℤ int_max a v) ≡ n)
one_way a v n m p q = (omega (arith, places), omega (arith, places))

pub intersect-inside : (a v : Rect) → Inside a v → intersect_of a v ≡ a
unfolding rect_between
intersect-inside a v h =
    let x = one_way a.x v.x a.width v.width h.left h.right in
    let y = one_way a.y v.y a.height v.height h.top h.bottom in
    λ i. record { x = x.0 i; y = y.0 i; width = x.1 i; height = y.1 i }

inside-itself : (v : Rect) → Inside v v
inside-itself v = record { left = omega (arith, places); right = omega (arith, places); top = omega (arith, places); bottom = omega (arith, places) }

pub reach-screen : (w h s : ℕ) → reach (sight w h s) ≡ screen w h s
unfolding reach
reach-screen w h s = intersect-inside (screen w h s) (screen w h s) (inside-itself (screen w h s))

-- ---- a text between two columns

-- a text in the columns of the screen
within-screen : (w h s : ℕ) (c : ℤ) (t : List ℕ) (row : Row) → put_within (screen w h s) (screen w h s) c t row ≡ put row c t 0 w
within-screen w h s c t row =
    let column : c -ℤ pos 0 ≡ c = omega (arith, ints) in
    let low : clamp_column w (pos 0 -ℤ pos 0) ≡ 0 = omega (arith, places) in
    let high : clamp_column w (end_x_of (screen w h s) -ℤ pos 0) ≡ w = omega (arith, places) in
    rw (column, low, high) refl

pub one-line : {K : Type 0} (s : Strip K) (y z : ℤ) (row : Row) → cond (int_eq z y) (s.shows row) row ≡ (line clear (s ∷ []) y z).shows row
unfolding line
one-line s y z row = go (int_eq z y)
  where
    go : (t : Bool) → cond t (s.shows row) row ≡ (cond t s clear).shows row
    go true = refl
    go false = refl

pub no-owner : {K : Type 0} (s : Strip K) (y z : ℤ) (x : ℕ) → s.owner x ≡ None → ◌≡◌ {A = Option K} None ((line clear (s ∷ []) y z).owner x)
unfolding line
no-owner s y z x e = go (int_eq z y)
  where
    go : (t : Bool) → ◌≡◌ {A = Option _} None ((cond t s clear).owner x)
    go true = sym e
    go false = refl

-- pictures without boxes that change one row
pub draws_row : {K : Type 0} (same_id : K → K → Bool) (is_clickable : K → Bool) (v : Rect) (P : K → Type 0) (m : Picture K) (y : ℤ) (f : Row → Row) → m.boxes ≡ [] → OneRow v v y m.puts f
    → DrawsStrips same_id is_clickable v P m y (record { shows = f; owner = λ x. None } ∷ [])
unfolding hit
draws_row same_id is_clickable v P m y f none h = record {
  paints = λ z row p q. h z row p ∙ one-line (record { shows = f; owner = λ x. None }) y z row;
  owns = λ rep live z x p. rw none (no-owner (record { shows = f; owner = λ x. None }) y z x refl);
  ids = rw none tt;
}

pub one-text : (w h s : ℕ) (c y : ℤ) (t : List ℕ) → OneRow (screen w h s) (screen w h s) y (text_puts (reach (sight w h s)) c y t) (λ row. put row c t 0 w)
one-text w h s c y t =
    rw (reach-screen w h s)
    (one_same (screen w h s) (screen w h s) y (text_puts (screen w h s) c y t) (put_within (screen w h s) (screen w h s) c t) (λ row. put row c t 0 w) (within-screen w h s c t)
    (one_text (screen w h s) (screen w h s) (screen w h s) c y t (λ p. p)))

-- ---- buttons

pub row_test : (y z : ℤ) → (int_le y z && int_lt z (y +ℤ pos 1)) ≡ int_eq z y
row_test y z = go (int_eq z y) refl
  where
    go : (t : Bool) → int_eq z y ≡ t → (int_le y z && int_lt z (y +ℤ pos 1)) ≡ t
    go true e = at_row y z 0 e
    go false e = sym (past_row y z 0 e) ∙ no_row (y +ℤ pos 1) z

and_none : (a b c : Bool) → c ≡ false → (a && (b && c)) ≡ false
and_none true true c e = e
and_none true false c e = refl
and_none false b c e = refl

and_false : (a b : Bool) → b ≡ false → (a && b) ≡ false
and_false true b e = e
and_false false b e = refl

pub holds-nothing : (z : ℤ) (x : ℕ) → holds no_rect z (pos x) ≡ false
unfolding holds
holds-nothing z x = let e : int_lt (pos x) (end_x_of no_rect) ≡ false = grind (arith, ints) in and_none _ _ _ e

holds-row : (c y z : ℤ) (n x : ℕ) → holds (row_rect c y n) z (pos x) ≡ (int_eq z y && is_within c n x)
unfolding holds
holds-row c y z n x = rw (row_test y z) refl

-- the box of a text owns the columns of the text on its row
pub holds-text : (c y z : ℤ) (n x : ℕ) → holds (around no_rect (row_rect c y n ∷ [])) z (pos x) ≡ (int_eq z y && is_within c n x)
holds-text c y z zero x =
    rw (around-one no_rect (row_rect c y 0), join-empty no_rect (row_rect c y 0) refl)
    (holds-nothing z x ∙ sym (and_false (int_eq z y) (is_within c 0 x) (no_row c (pos x))))
holds-text c y z (suc n) x = rw (around-one no_rect (row_rect c y (suc n)), join-from_empty no_rect (row_rect c y (suc n)) refl (is_empty-in (row_rect c y (suc n)) (omega arith) (omega arith))) (holds-row c y z (suc n) x)

abbrev pub IsId : {K : Type 0} → K → K → Type 0
IsId i j = j ≡ i

cell-line : {K : Type 0} (i : K) (test : ℕ → Bool) (f : Row → Row) (y z : ℤ) (x : ℕ)
    → cond (int_eq z y && test x) (Some i) None ≡ (line clear (record { shows = f; owner = λ x. cond (test x) (Some i) None } ∷ []) y z).owner x
unfolding line
cell-line i test f y z x = go (int_eq z y)
  where
    go : (t : Bool) → cond (t && test x) (Some i) None ≡ (cond t (record { shows = f; owner = λ x. cond (test x) (Some i) None }) clear).owner x
    go true = refl
    go false = refl

pub draws_button : {K : Type 0} (same_id : K → K → Bool) (is_clickable : K → Bool) (w h s : ℕ) (b : Button K) (c y : ℤ) → is_clickable b.id ≡ true
    → DrawsStrips same_id is_clickable (screen w h s) (IsId b.id) (button_part b (sight w h s) c y) y (button_strip w c b ∷ [])
unfolding part button_picture button_width span_picture box_rect hit has_id
draws_button same_id is_clickable w h s b c y click = record {
  paints = λ z row p q. one-text w h s c y (button_text b) z row p ∙ one-line (button_strip w c b) y z row;
  owns = λ rep live z x p.
      rw (click, live b.id refl, holds-text c y z (text_width (button_text b)) x)
      (cell-line b.id (is_within c (text_width (button_text b))) (λ row. put row c (button_text b) 0 w) y z x);
  ids = (refl, tt);
}

pub box-plain_button : {K : Type 0} (b : Button K) (s : Sight) (c y : ℤ) → box_rect (button_part b s c y) ≡ join no_rect (row_rect c y (button_width b))
unfolding part box_rect button_picture span_picture button_width
box-plain_button b s c y = around-one no_rect (row_rect c y (text_width (button_text b)))
