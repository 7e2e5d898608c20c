-- Windows over sections: binary contents drop what was before them, as the split of a file says.
use Rattle.std.proofs.Common.{◌≡◌, ℕ, Bool, true, false, ◌||◌, List, [], ◌∷◌, take, drop, if◌then◌else◌, refl, ap, sym, ◌∙◌}
use Rattle.std.specs.List.{flat_map, list_any}
use Rattle.scm_types.specs.declared.section.Section.{Section}
use Rattle.scm_types.specs.Split.{is_binary, tail_of}
use Rattle.scm_types.specs.declared.file.File.{File}
use Rattle.scm_pager.specs.Sides.{is_replaced, lines_of, shown_lines}
use Rattle.scm_pager.specs.WindowView.{Shown}
use Rattle.scm_pager.specs.Windows.{after_all_lines, after_sections, capped_length, cleared, empty_window}
use Rattle.scm_pager.proofs.WindowLemmas.{after-append, cleared-lines, new-count, new-rows}

pub or-left : (a b : Bool) → (a || b) ≡ false → a ≡ false
or-left true b e = e
or-left false b e = refl

pub or-right : (a b : Bool) → (a || b) ≡ false → b ≡ false
or-right true b e = cc
or-right false b e = e

-- sections without binary contents all count
pub tail-whole : (ss : List Section) → list_any is_binary ss ≡ false → tail_of ss ≡ ss
tail-whole [] e = refl
tail-whole (s ∷ ss) e = rw (or-left (is_binary s) (list_any is_binary ss) e, or-right (is_binary s) (list_any is_binary ss) e) refl

-- a window after sections
sections-are : (selected : Bool) (w : Shown) (ss : List Section)
    → after_sections selected w ss
    ≡ (if list_any is_binary ss then after_all_lines (cleared w) (flat_map (lines_of selected) (tail_of ss)) else after_all_lines w (flat_map (lines_of selected) ss))
sections-are selected w [] = refl
sections-are selected w (s ∷ ss) = steps (is_binary s) (list_any is_binary ss) (λ v. sections-are selected v ss)
  where
    steps : (a b : Bool)
        → ((v : Shown) → after_sections selected v ss ≡ (if b then after_all_lines (cleared v) (flat_map (lines_of selected) (tail_of ss)) else after_all_lines v (flat_map (lines_of selected) ss)))
        → after_sections selected (if a then cleared w else after_all_lines w (lines_of selected s)) ss
        ≡ (if a || b then after_all_lines (cleared w) (flat_map (lines_of selected) (if b then tail_of ss else if a then ss else s ∷ ss)) else after_all_lines w (flat_map (lines_of selected) (s ∷ ss)))
    steps true true ih = ih (cleared w)
    steps true false ih = ih (cleared w)
    steps false true ih =
        ih (after_all_lines w (lines_of selected s))
        ∙ ap (λ (v : Shown). after_all_lines v (flat_map (lines_of selected) (tail_of ss))) (cleared-lines w (lines_of selected s))
    steps false false ih = ih (after_all_lines w (lines_of selected s)) ∙ after-append w (lines_of selected s) (flat_map (lines_of selected) ss)

-- a new window after sections: it took the lines of those behind the last binary contents
new-window : (selected : Bool) (top height : ℕ) (ss : List Section)
    → after_sections selected (empty_window top height) ss ≡ after_all_lines (empty_window top height) (flat_map (lines_of selected) (tail_of ss))
new-window selected top height ss = sections-are selected (empty_window top height) ss ∙ pick (list_any is_binary ss) refl
  where
    pick : (b : Bool) → list_any is_binary ss ≡ b
        → (if b then after_all_lines (cleared (empty_window top height)) (flat_map (lines_of selected) (tail_of ss)) else after_all_lines (empty_window top height) (flat_map (lines_of selected) ss))
        ≡ after_all_lines (empty_window top height) (flat_map (lines_of selected) (tail_of ss))
    pick true e = refl
    pick false e = ap (λ (l : List Section). after_all_lines (empty_window top height) (flat_map (lines_of selected) l)) (sym (tail-whole ss e))

-- ---- a side

-- a new window that took the sections of a file took the lines of its side
module _ (selected : Bool) (top height : ℕ) (file : File) (w : Shown) (no : is_replaced selected file ≡ false)
    (e : w ≡ after_sections selected (empty_window top height) file.sections) where
  pub side-count : w.count ≡ capped_length (shown_lines selected file)
  side-count = rw (e, new-window selected top height file.sections, no) (new-count top height (flat_map (lines_of selected) (tail_of file.sections)))

  pub side-rows : w.rows ≡ take height (drop top (shown_lines selected file))
  side-rows = rw (e, new-window selected top height file.sections, no) (new-rows top height (flat_map (lines_of selected) (tail_of file.sections)))
