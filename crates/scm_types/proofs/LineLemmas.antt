-- The two texts of a file without a binary section, as the lines that stand in them.
use Rattle.std.proofs.Common.{◌≡◌, ℕ, Bool, true, false, not, List, [], ◌∷◌, map, filter, refl, ap, sym, ◌∙◌, cond, None}
use Rattle.std.specs.List.{flat_map, list_any, concat}
use Rattle.std.proofs.lemmas.List.{map-append}
use Rattle.std.proofs.lemmas.List.Elements.{filter-append}
use Rattle.scm_types.specs.declared.line.ChangeType.{ChangeType}
use Rattle.scm_types.specs.declared.line.ChangeType.TheVariants.{Added, Removed}
use Rattle.scm_types.specs.declared.line.SectionChangedLine.{SectionChangedLine}
use Rattle.scm_types.specs.declared.section.Section.{Section}
use Rattle.scm_types.specs.declared.section.Section.TheVariants.{Unchanged, Changed, FileMode, Binary}
use Rattle.scm_types.specs.declared.file.File.{File}
use Rattle.scm_types.specs.declared.split.SelectedContents.TheVariants as contents
use Rattle.scm_types.specs.Split.{takes, takes_change, is_binary, tail_of, section_lines, side_lines, last_binary_change, side_contents, is_emptied}
use Rattle.scm_types.specs.Laws.{FileLine, Context, Change, line_text, lines_of_section, is_in_side, joined_lines, has_binary, KeepsEveryLine, unchanged_as_empty}
use Rattle.scm_types.proofs.LawLemmas.{counted_text}

-- exactly one side takes a changed line
takes_change-other : (t : ChangeType) (b : Bool) → takes_change false t b ≡ not (takes_change true t b)
takes_change-other Added b = refl
takes_change-other Removed true = refl
takes_change-other Removed false = refl

takes-other : (l : SectionChangedLine) → takes false l ≡ not (takes true l)
takes-other l = takes_change-other l.change_type l.is_checked

context_lines : (side : Bool) (texts : List (List ℕ)) → map line_text (filter (is_in_side side) (map Context texts)) ≡ texts
context_lines side [] = refl
context_lines side (t ∷ ts) = ap (λ ls. t ∷ ls) (context_lines side ts)

changed_lines : (side : Bool) (ls : List SectionChangedLine) → map line_text (filter (is_in_side side) (map Change ls)) ≡ map (λ (l : SectionChangedLine). l.line) (filter (takes side) ls)
changed_lines side [] = refl
changed_lines side (l ∷ ls) = picked (takes side l) (filter (is_in_side side) (map Change ls)) (filter (takes side) ls) (changed_lines side ls)
  where
    picked : (b : Bool) (xs : List FileLine) (ys : List SectionChangedLine) → map line_text xs ≡ map (λ (l : SectionChangedLine). l.line) ys → map line_text (cond b (Change l ∷ xs) xs) ≡ map (λ (l : SectionChangedLine). l.line) (cond b (l ∷ ys) ys)
    picked true xs ys e = ap (λ (zs : List (List ℕ)). l.line ∷ zs) e
    picked false xs ys e = e

section_lines-stand : (side : Bool) (s : Section) → map line_text (filter (is_in_side side) (lines_of_section s)) ≡ section_lines side s
section_lines-stand side (Unchanged lines) = context_lines side lines
section_lines-stand side (Changed lines) = changed_lines side lines
section_lines-stand side (FileMode c m) = refl
section_lines-stand side (Binary c old new) = refl

lines-stand : (side : Bool) (ss : List Section) → map line_text (filter (is_in_side side) (flat_map lines_of_section ss)) ≡ flat_map (section_lines side) ss
lines-stand side [] = refl
lines-stand side (s ∷ ss) =
    rw (filter-append (is_in_side side) (lines_of_section s) (flat_map lines_of_section ss), map-append line_text (filter (is_in_side side) (lines_of_section s)) (filter (is_in_side side) (flat_map lines_of_section ss)), section_lines-stand side s, lines-stand side ss) refl

tail-without : (ss : List Section) → list_any is_binary ss ≡ false → tail_of ss ≡ ss
tail-without [] e = refl
tail-without (Unchanged lines ∷ ss) e = rw e refl
tail-without (Changed lines ∷ ss) e = rw e refl
tail-without (FileMode c m ∷ ss) e = rw e refl
tail-without (Binary c old new ∷ ss) e = cc

last_binary-without : (ss : List Section) → list_any is_binary ss ≡ false → last_binary_change ss ≡ None
last_binary-without [] e = refl
last_binary-without (Unchanged lines ∷ ss) e = rw (last_binary-without ss e) refl
last_binary-without (Changed lines ∷ ss) e = rw (last_binary-without ss e) refl
last_binary-without (FileMode c m ∷ ss) e = rw (last_binary-without ss e) refl
last_binary-without (Binary c old new ∷ ss) e = cc

contents-joined : (side : Bool) (file : File) → has_binary file ≡ false → unchanged_as_empty (side_contents side file) ≡ contents.Text (joined_lines side file)
contents-joined side file e =
    rw (last_binary-without file.sections e) (counted_text (is_emptied side file) (side_lines side file) ∙ ap (λ ls. contents.Text (concat ls)) (ap (λ ss. flat_map (section_lines side) ss) (tail-without file.sections e) ∙ sym (lines-stand side file.sections)))

pub keeps_every_line : (file : File) → has_binary file ≡ false → KeepsEveryLine file
keeps_every_line file e = record {
  context = λ text selected. refl;
  changed = takes-other;
  selected = contents-joined true file e;
  unselected = contents-joined false file e;
}
