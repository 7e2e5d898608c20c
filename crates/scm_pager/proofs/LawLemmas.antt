-- The lines that a pager shows are those of the split.
use Rattle.std.proofs.Common.{◌≡◌, ℕ, Bool, true, false, List, [], ◌∷◌, ◌++◌, map, filter, Option, Some, None, option_map, unwrap_or, if◌then◌else◌, refl, ap, sym, ◌∙◌}
use Rattle.std.proofs.lemmas.List.{map-append}
use Rattle.std.specs.List.{concat, flat_map}
use Rattle.std.specs.Option.{option_or}
use Rattle.scm_types.specs.declared.file.File.{File}
use Rattle.scm_types.specs.declared.line.SectionChangedLine.{SectionChangedLine}
use Rattle.scm_types.specs.declared.section.Section.{Section}
use Rattle.scm_types.specs.declared.section.Section.TheVariants as section
use Rattle.scm_types.specs.declared.split.SelectedContents.{SelectedContents}
use Rattle.scm_types.specs.declared.split.SelectedContents.TheVariants as contents
use Rattle.scm_types.specs.Split.{binary_change, is_emptied, last_binary_change, same, section_lines, side_contents, side_lines, tail_of, takes, text_side}
use Rattle.scm_pager.specs.declared.lines.SideLine.{SideLine}
use Rattle.scm_pager.specs.Sides.{changed_line, context_line, is_on, last_mark, lines_of, mark_or, shown_lines}

-- the text of a line
abbrev text_of : SideLine → List ℕ
text_of line = line.text

-- ---- texts

context-texts : (lines : List (List ℕ)) → map text_of (map context_line lines) ≡ lines
context-texts [] = refl
context-texts (line ∷ lines) = ap (λ (rest : List (List ℕ)). line ∷ rest) (context-texts lines)

changed-texts : (lines : List SectionChangedLine) → map text_of (map changed_line lines) ≡ map (λ (l : SectionChangedLine). l.line) lines
changed-texts [] = refl
changed-texts (line ∷ lines) = ap (λ (rest : List (List ℕ)). line.line ∷ rest) (changed-texts lines)

section-texts : (selected : Bool) (s : Section) → map text_of (lines_of selected s) ≡ section_lines selected s
section-texts selected (section.Unchanged lines) = context-texts lines
section-texts selected (section.Changed lines) = changed-texts (filter (takes selected) lines)
section-texts selected (section.FileMode is_checked mode) = refl
section-texts selected (section.Binary is_checked old new) = refl

all-texts : (selected : Bool) (ss : List Section) → map text_of (flat_map (lines_of selected) ss) ≡ flat_map (section_lines selected) ss
all-texts selected [] = refl
all-texts selected (s ∷ ss) =
    map-append text_of (lines_of selected s) (flat_map (lines_of selected) ss)
    ∙ ap (λ (l : List (List ℕ)). l ++ map text_of (flat_map (lines_of selected) ss)) (section-texts selected s)
    ∙ ap (λ (l : List (List ℕ)). section_lines selected s ++ l) (all-texts selected ss)

no-texts : (lines : List SideLine) → map text_of lines ≡ [] → lines ≡ []
no-texts [] e = refl
no-texts (line ∷ lines) e = cc

-- ---- binary contents

-- the mark of a change, if there is one
abbrev mark_of : Option (Bool × SelectedContents) → Option Bool
mark_of found = option_map (λ (c : Bool × SelectedContents). c.0) found

mark-or : (mark : Option Bool) (s : Section) → mark_or mark s ≡ option_or (mark_of (binary_change s)) mark
mark-or mark (section.Unchanged lines) = refl
mark-or mark (section.Changed lines) = refl
mark-or mark (section.FileMode is_checked mode) = refl
mark-or mark (section.Binary is_checked old new) = refl

last-mark : (mark : Option Bool) (ss : List Section) → last_mark mark ss ≡ option_or (mark_of (last_binary_change ss)) mark
last-mark mark [] = refl
last-mark mark (s ∷ ss) = last-mark (mark_or mark s) ss ∙ steps (last_binary_change ss)
  where
    steps : (found : Option (Bool × SelectedContents)) → option_or (mark_of found) (mark_or mark s) ≡ option_or (mark_of (option_or found (binary_change s))) mark
    steps (Some c) = refl
    steps None = mark-or mark s

-- what a change puts in the place of a side, or else nothing
abbrev put_by : Option (Bool × SelectedContents) → SelectedContents
put_by None = contents.Unchanged
put_by (Some c) = c.1

-- contents that are no text, and are not unchanged
abbrev is_bytes : SelectedContents → Bool
is_bytes contents.Unchanged = false
is_bytes (contents.Binary old new) = true
is_bytes (contents.Text text) = false

-- a change puts no text there
section-bytes : (s : Section) (c : Bool × SelectedContents) → binary_change s ≡ Some c → is_bytes c.1 ≡ true
section-bytes (section.Unchanged lines) c e = cc
section-bytes (section.Changed lines) c e = cc
section-bytes (section.FileMode is_checked mode) c e = cc
section-bytes (section.Binary is_checked old new) c e = sym (ap (λ (found : Option (Bool × SelectedContents)). is_bytes (put_by found)) e)

last-bytes : (ss : List Section) (c : Bool × SelectedContents) → last_binary_change ss ≡ Some c → is_bytes c.1 ≡ true
last-bytes [] c e = cc
last-bytes (s ∷ ss) c e = steps (last_binary_change ss) (last-bytes ss) e
  where
    steps : (found : Option (Bool × SelectedContents))
        → ((d : Bool × SelectedContents) → found ≡ Some d → is_bytes d.1 ≡ true)
        → option_or found (binary_change s) ≡ Some c → is_bytes c.1 ≡ true
    steps (Some d) ih f = ih c f
    steps None ih f = section-bytes s c f

-- ---- sides

text-is : (is_empty : Bool) (lines : List (List ℕ)) (text : List ℕ) → text_side is_empty lines ≡ contents.Text text → concat lines ≡ text
text-is true [] text e = cc
text-is false [] text e = cc
text-is is_empty (l ∷ ls) text e = cc

no-text : (is_empty : Bool) (lines : List (List ℕ)) → text_side is_empty lines ≡ contents.Unchanged → lines ≡ []
no-text is_empty [] e = refl
no-text is_empty (l ∷ ls) e = cc

-- a side as a change leaves it, or else as its lines do
abbrev side_by : Bool → Option (Bool × SelectedContents) → SelectedContents → SelectedContents
side_by selected found text =
    unwrap_or (option_map (λ (c : Bool × SelectedContents). if same c.0 selected then c.1 else text) found) text

module _ (selected : Bool) (file : File) where
  -- the lines, if no change is in their place
  abbrev lines_by : Option (Bool × SelectedContents) → List SideLine
  lines_by found = if is_on selected (option_or (mark_of found) None) then [] else flat_map (lines_of selected) (tail_of file.sections)

  -- the text of the lines
  abbrev own_side : SelectedContents
  own_side = text_side (is_emptied selected file) (side_lines selected file)

  shown-lines : shown_lines selected file ≡ lines_by (last_binary_change file.sections)
  shown-lines =
      ap (λ (mark : Option Bool). if is_on selected mark then [] else flat_map (lines_of selected) (tail_of file.sections))
      (last-mark None file.sections)

  own-texts : map text_of (flat_map (lines_of selected) (tail_of file.sections)) ≡ side_lines selected file
  own-texts = all-texts selected (tail_of file.sections)

  text-by : (text : List ℕ) (found : Option (Bool × SelectedContents))
      → ((c : Bool × SelectedContents) → found ≡ Some c → is_bytes c.1 ≡ true)
      → side_by selected found own_side ≡ contents.Text text → concat (map text_of (lines_by found)) ≡ text
  text-by text None bytes e = ap concat own-texts ∙ text-is (is_emptied selected file) (side_lines selected file) text e
  text-by text (Some c) bytes e = steps (same c.0 selected) e
    where
      steps : (b : Bool) → (if b then c.1 else own_side) ≡ contents.Text text
          → concat (map text_of (if b then [] else flat_map (lines_of selected) (tail_of file.sections))) ≡ text
      steps true f = let no : true ≡ false = sym (bytes c refl) ∙ ap is_bytes f in cc
      steps false f = ap concat own-texts ∙ text-is (is_emptied selected file) (side_lines selected file) text f

  none-by : (found : Option (Bool × SelectedContents)) → side_by selected found own_side ≡ contents.Unchanged → lines_by found ≡ []
  none-by None e = no-texts (flat_map (lines_of selected) (tail_of file.sections)) (own-texts ∙ no-text (is_emptied selected file) (side_lines selected file) e)
  none-by (Some c) e = steps (same c.0 selected) e
    where
      steps : (b : Bool) → (if b then c.1 else own_side) ≡ contents.Unchanged
          → (if b then [] else flat_map (lines_of selected) (tail_of file.sections)) ≡ []
      steps true f = refl
      steps false f = no-texts (flat_map (lines_of selected) (tail_of file.sections)) (own-texts ∙ no-text (is_emptied selected file) (side_lines selected file) f)

  -- the lines are the text of a side that has one
  pub side-text : (text : List ℕ) → side_contents selected file ≡ contents.Text text → concat (map text_of (shown_lines selected file)) ≡ text
  side-text text e =
      ap (λ (lines : List SideLine). concat (map text_of lines)) shown-lines
      ∙ text-by text (last_binary_change file.sections) (last-bytes file.sections) e

  -- a side that is unchanged has none
  pub side-none : side_contents selected file ≡ contents.Unchanged → shown_lines selected file ≡ []
  side-none e = shown-lines ∙ none-by (last_binary_change file.sections) e
