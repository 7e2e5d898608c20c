-- The status row alone, and below the rows of a session.
use Rattle.std.proofs.Common.{◌≡◌, ℕ, ◌+◌, ◌-◌, ◌<◌, List, [], length, get_or, set, replicate, refl, sym, ap, ◌∙◌, subst, arith}
use Rattle.std.specs.Prelude.{pos}
use Rattle.std.proofs.lemmas.List.{get_or-set_same, get_or-replicate, length-set, length-replicate}
use Rattle.scm_cells.specs.Cell.{Cell, blank}
use Rattle.scm_cells.specs.Clusters.{text_width}
use Rattle.scm_cells.specs.Row.{put}
use Rattle.scm_cells.specs.Screen.{Screen}
use Rattle.scm_front.specs.declared.layer.Front.{Front}
use Rattle.scm_front_paint.specs.Below.{width_of}
use Rattle.scm_front_paint.specs.Pane.{offset}
use Rattle.scm_front_paint.specs.Seen.{Seen}
use Rattle.scm_front_paint.specs.StatusRow.{HasStatusRow}
use Rattle.scm_front_paint.specs.declared.status.LeftText.{LeftText}
use Rattle.scm_front_paint.specs.Status.{left_column, left_of, right_of, status_screen}

module _ (w : ℕ) (l : LeftText) (r : List ℕ) where
  abbrev room : ℕ
  room = w - text_width r

  abbrev blanks : List Cell
  blanks = replicate w blank

  -- the left text on a row, and the right one
  abbrev left_on : List Cell → List Cell
  left_on row = put row (left_column l.kind (text_width l.text - room)) l.text 0 room

  abbrev right_on : List Cell → List Cell
  right_on row = put row (pos room) r 0 w

  abbrev rows_above : ℕ → List (List Cell)
  rows_above h = replicate (h + 1) blanks

  abbrev with_left : ℕ → List (List Cell)
  with_left h = set (rows_above h) h (left_on (get_or (rows_above h) h []))

  above-long : (h : ℕ) → h < length (rows_above h)
  above-long h = let e : length (rows_above h) ≡ h + 1 = length-replicate (h + 1) blanks in omega (arith, e)

  left-long : (h : ℕ) → h < length (with_left h)
  left-long h = subst (λ (n : ℕ). h < n) (sym (length-set (rows_above h) h (left_on (get_or (rows_above h) h [])))) (above-long h)

  left-row : (h : ℕ) → get_or (with_left h) h [] ≡ left_on blanks
  left-row h =
      get_or-set_same (rows_above h) h (left_on (get_or (rows_above h) h [])) [] (above-long h)
      ∙ ap left_on (get_or-replicate (h + 1) h blanks [] (omega arith))

  last-row : (h : ℕ) → get_or (status_screen w h l r).rows h [] ≡ right_on (left_on blanks)
  last-row h =
      get_or-set_same (with_left h) h (right_on (get_or (with_left h) h [])) [] (left-long h)
      ∙ ap right_on (left-row h)

  -- the status row below `h` rows is that of the screen without rows above it
  pub status-row-alone : (h : ℕ) → get_or (status_screen w h l r).rows h [] ≡ get_or (status_screen w 0 l r).rows 0 []
  status-row-alone h = last-row h ∙ sym (last-row 0)

-- a screen of the status row alone, by the names of a caller
pub status-row-is : (v : Seen) (accept : List ℕ) (front second : Front) (width x : ℕ) (left : LeftText) (right text : List ℕ) (screen : Screen)
    → front ≡ v.front → left ≡ left_of front → width ≡ width_of v → x ≡ offset v.pane v.front.beneath → second ≡ v.front
    → right ≡ right_of second width left x accept → text ≡ right → screen ≡ status_screen width 0 left text → HasStatusRow v accept screen
status-row-is v accept front second width x left right text screen f l w o s r t e =
    let on_left : left ≡ left_of v.front = l ∙ ap left_of f in
    let on_right : text ≡ right_of v.front (width_of v) (left_of v.front) (offset v.pane v.front.beneath) accept = t ∙ r ∙ rw (s, w, on_left, o) refl in
    let same : screen ≡ status_screen (width_of v) 0 (left_of v.front) (right_of v.front (width_of v) (left_of v.front) (offset v.pane v.front.beneath) accept) =
    e ∙ rw (w, on_left, on_right) refl in
    record {
      rows = ap (λ (shown : Screen). shown.rows) same;
    }
