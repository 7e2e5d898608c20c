-- The number of lines of sections is the one that a window over them counts.
use Rattle.std.proofs.Common.{◌≡◌, ℕ, ◌+◌, Bool, true, false, List, [], ◌∷◌, length, if◌then◌else◌, refl, ap, sym, ◌∙◌, arith}
use Rattle.scm_types.specs.declared.section.Section.{Section}
use Rattle.scm_types.specs.declared.file.File.{File}
use Rattle.scm_types.specs.Split.{is_binary}
use Rattle.scm_pager.specs.Counts.{count_after, counted}
use Rattle.scm_pager.specs.Sides.{is_replaced, lines_of, shown_lines}
use Rattle.scm_pager.specs.WindowView.{Shown}
use Rattle.scm_pager.specs.Windows.{after_all_lines, after_section, after_sections, capped, capped_length, cleared, empty_window}
use Rattle.scm_pager.proofs.WindowLemmas.{count-lines}
use Rattle.scm_pager.proofs.SectionLemmas.{side-count}

-- a section
after : (selected : Bool) (w : Shown) (n : ℕ) (s : Section) → w.count ≡ capped n
    → (after_section selected w s).count ≡ count_after selected w.count s
after selected w n s e = pick (is_binary s)
  where
    same : capped (n + length (lines_of selected s)) ≡ capped (w.count + length (lines_of selected s))
    same = rw e (omega arith)

    pick : (b : Bool) → (if b then cleared w else after_all_lines w (lines_of selected s)).count ≡ (if b then 0 else capped (w.count + length (lines_of selected s)))
    pick true = refl
    pick false = count-lines w (lines_of selected s) n e ∙ same

-- what the code counts is within its range
in-range : (selected : Bool) (n : ℕ) (s : Section) → count_after selected n s ≡ capped (count_after selected n s)
in-range selected n s = pick (is_binary s)
  where
    pick : (b : Bool) → (if b then 0 else capped (n + length (lines_of selected s))) ≡ capped (if b then 0 else capped (n + length (lines_of selected s)))
    pick true = omega arith
    pick false = omega arith

-- sections
all : (selected : Bool) (w : Shown) (ss : List Section) → w.count ≡ capped w.count → (after_sections selected w ss).count ≡ counted selected w.count ss
all selected w [] e = refl
all selected w (s ∷ ss) e =
    let one : (after_section selected w s).count ≡ count_after selected w.count s = after selected w w.count s e in
    let next : (after_section selected w s).count ≡ capped (after_section selected w s).count = one ∙ in-range selected w.count s ∙ ap capped (sym one) in
    all selected (after_section selected w s) ss next ∙ ap (λ (n : ℕ). counted selected n ss) one

-- a side
pub counted-side : (selected : Bool) (file : File) → is_replaced selected file ≡ false → counted selected 0 file.sections ≡ capped_length (shown_lines selected file)
counted-side selected file whole =
    sym (all selected (empty_window 0 0) file.sections (omega arith))
    ∙ side-count selected 0 0 file (after_sections selected (empty_window 0 0) file.sections) whole refl

-- a side that binary contents take the place of
pub no-side : (selected : Bool) (file : File) → is_replaced selected file ≡ true → 0 ≡ capped_length (shown_lines selected file)
no-side selected file gone = rw gone (omega arith)
