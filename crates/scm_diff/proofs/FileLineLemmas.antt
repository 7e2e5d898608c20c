-- The lines of a side, as lines of the file that stand there by their marks.
use Rattle.std.proofs.Common.{◌≡◌, ℕ, Bool, true, false, ◌||◌, List, [], ◌∷◌, map, filter, refl, ap, sym, ◌∙◌, cond}
use Rattle.std.specs.List.{flat_map, list_any}
use Rattle.std.proofs.lemmas.List.{map-append}
use Rattle.std.proofs.lemmas.List.Elements.{filter-append}
use Rattle.scm_types.specs.declared.line.SectionChangedLine.{SectionChangedLine}
use Rattle.scm_types.specs.declared.section.Section.{Section}
use Rattle.scm_types.specs.declared.section.Section.TheVariants.{Unchanged, Changed, FileMode, Binary}
use Rattle.scm_types.specs.declared.file.File.{File}
use Rattle.scm_types.specs.Marks.{section_with_marks}
use Rattle.scm_types.specs.Split.{takes, is_binary, tail_of, section_lines, side_lines}
use Rattle.scm_types.specs.Laws.{FileLine, Context, Change, line_text, lines_of_section, lines_of_file, is_in_side}

context-texts : (side : Bool) (texts : List (List ℕ)) → map line_text (filter (is_in_side side) (map Context texts)) ≡ texts
context-texts side [] = refl
context-texts side (t ∷ ts) = ap (λ ls. t ∷ ls) (context-texts side ts)

changed-texts : (side : Bool) (ls : List SectionChangedLine) → map line_text (filter (is_in_side side) (map Change ls)) ≡ map (λ (l : SectionChangedLine). l.line) (filter (takes side) ls)
changed-texts side [] = refl
changed-texts side (l ∷ ls) = picked (takes side l) (filter (is_in_side side) (map Change ls)) (filter (takes side) ls) (changed-texts side ls)
  where
    picked : (b : Bool) (xs : List FileLine) (ys : List SectionChangedLine) → map line_text xs ≡ map (λ (l : SectionChangedLine). l.line) ys → map line_text (cond b (Change l ∷ xs) xs) ≡ map (λ (l : SectionChangedLine). l.line) (cond b (l ∷ ys) ys)
    picked true xs ys e = ap (λ (zs : List (List ℕ)). l.line ∷ zs) e
    picked false xs ys e = e

section-texts : (side : Bool) (s : Section) → map line_text (filter (is_in_side side) (lines_of_section s)) ≡ section_lines side s
section-texts side (Unchanged lines) = context-texts side lines
section-texts side (Changed lines) = changed-texts side lines
section-texts side (FileMode c m) = refl
section-texts side (Binary c old new) = refl

all-texts : (side : Bool) (ss : List Section) → map line_text (filter (is_in_side side) (flat_map lines_of_section ss)) ≡ flat_map (section_lines side) ss
all-texts side [] = refl
all-texts side (s ∷ ss) =
    rw (filter-append (is_in_side side) (lines_of_section s) (flat_map lines_of_section ss), map-append line_text (filter (is_in_side side) (lines_of_section s)) (filter (is_in_side side) (flat_map lines_of_section ss)), section-texts side s, all-texts side ss) refl

-- without a binary section all sections count
pub tail-all : (ss : List Section) → list_any is_binary ss ≡ false → tail_of ss ≡ ss
tail-all [] e = refl
tail-all (Unchanged lines ∷ ss) e = rw e refl
tail-all (Changed lines ∷ ss) e = rw e refl
tail-all (FileMode c m ∷ ss) e = rw e refl
tail-all (Binary c old new ∷ ss) e = cc

binary-marked : (f : Bool → Bool) (s : Section) → is_binary (section_with_marks f s) ≡ is_binary s
binary-marked f (Unchanged lines) = refl
binary-marked f (Changed lines) = refl
binary-marked f (FileMode c m) = refl
binary-marked f (Binary c o n) = refl

-- marks change no kind of section
pub any-marked : (f : Bool → Bool) (ss : List Section) → list_any is_binary (map (section_with_marks f) ss) ≡ list_any is_binary ss
any-marked f [] = refl
any-marked f (s ∷ ss) = ap (λ b. b || list_any is_binary (map (section_with_marks f) ss)) (binary-marked f s) ∙ ap (λ b. is_binary s || b) (any-marked f ss)

-- the lines of a side are the lines of the file that stand there
pub side-texts : (file : File) (side : Bool) → list_any is_binary file.sections ≡ false → side_lines side file ≡ map line_text (filter (is_in_side side) (lines_of_file file))
side-texts file side e = ap (flat_map (section_lines side)) (tail-all file.sections e) ∙ sym (all-texts side file.sections)
