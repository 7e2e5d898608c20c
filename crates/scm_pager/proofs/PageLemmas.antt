-- The page of a pager: its size, and that what the code puts on a grid is the page.
use Rattle.std.proofs.Common.{◌≡◌, ℕ, zero, suc, ◌+◌, ◌-◌, ◌<◌, ◌==◌, Bool, true, false, List, [], ◌∷◌, length, if◌then◌else◌, refl, ap, ◌∙◌, arith}
use Rattle.std.proofs.lemmas.Bool.Decides.{nat_tests}
use Rattle.std.proofs.lemmas.List.{length-replicate}
use Rattle.scm_types.specs.declared.file.File.{File}
use Rattle.scm_cells.specs.Screen.{Screen, blank_screen}
use Rattle.scm_terminal.specs.StyledCell.{picture}
use Rattle.scm_pager.specs.declared.lines.SideLine.{SideLine}
use Rattle.scm_pager.specs.declared.pager.Pager.{Pager}
use Rattle.scm_pager.specs.Pages.{left_text, page_lines, page_of, page_picture, page_style, right_text, with_line, with_lines, with_status}

lines-wide : (width : ℕ) (p : Pager) (row : ℕ) (lines : List SideLine) (s : Screen) → (with_lines width p row lines s).width ≡ s.width
lines-wide width p row [] s = refl
lines-wide width p row (line ∷ lines) s = lines-wide width p (row + 1) lines (with_line width p row line s)

-- a page has the width that is asked
pub page-wide : (p : Pager) (file : File) (width height : ℕ) (lines : List SideLine) → (page_of p file width height lines).width ≡ width
page-wide p file width height lines = steps (height == 0)
  where
    steps : (b : Bool)
        → (if b then blank_screen width height
        else with_status width (height - 1) (left_text p file) (right_text p file lines) (with_lines width p 0 lines (blank_screen width height))).width
        ≡ width
    steps true = refl
    steps false = lines-wide width p 0 lines (blank_screen width height)

has-row : (height : ℕ) → (height ≡ 0 → ⊥) → 0 < height
has-row zero tall = elim (tall refl) [ ]
has-row (suc n) tall = omega arith

is-some : (height : ℕ) → (height ≡ 0 → ⊥) → (height == 0) ≡ false
is-some height tall = let some : 0 < height = has-row height tall in grind (arith, nat_tests)

-- the status row is on the grid
pub has-status : (width height count : ℕ) (blank : Screen) → (height ≡ 0 → ⊥) → blank ≡ blank_screen width height → count ≡ length blank.rows → height - 1 < count
has-status width height count blank tall b e =
    let some : 0 < height = has-row height tall in
    let high : length blank.rows ≡ height = rw b (length-replicate height _) in
    rw (e, high) (omega arith)

-- lines and a status row on a blank grid are the page
pub page-is : (p : Pager) (file : File) (width height : ℕ) (lines shown : List SideLine) (left right : List ℕ) (blank done page : Screen)
    → (height ≡ 0 → ⊥) → blank ≡ blank_screen width height → left ≡ left_text p file → right ≡ right_text p file lines → shown ≡ lines
    → done ≡ with_lines blank.width p 0 shown blank → done.width ≡ blank.width → page ≡ with_status done.width (height - 1) left right done
    → page ≡ page_of p file width height lines
page-is p file width height lines shown left right blank done page tall b l r s d w e =
    e ∙ ap (λ (n : ℕ). with_status n (height - 1) left right done) (w ∙ ap (λ (t : Screen). t.width) b)
    ∙ rw (is-some height tall, d, l, r, s, b) refl

-- the picture of a page
pub picture-is : (p : Pager) (file : File) (width height : ℕ) (lines : List SideLine) (status : ℕ) (page : Screen)
    → lines ≡ page_lines p file height → status ≡ height - 1 → page ≡ page_of p file width height lines
    → picture (page_style lines status) page ≡ page_picture p file width height
picture-is p file width height lines status page l s e = rw (e, s, l) refl
