-- Files of changes, and their marks.
use Rattle.std.proofs.Common.{◌≡◌, ℕ, ◌-◌, ◌==◌, List, [], ◌∷◌, ◌++◌, length, take, drop, map, filter, cond, Bool, true, false, not, if◌then◌else◌, refl, ap, sym, ◌∙◌, subst, append_assoc, Option, None, option_map, unwrap_or}
use Rattle.std.specs.Prelude.{slice_range}
use Rattle.std.specs.List.{concat, flat_map, list_any, AllByRecursion}
use Rattle.std.proofs.lemmas.Bool.{eqb-true}
use Rattle.std.proofs.lemmas.List.{map-append}
use Rattle.std.proofs.lemmas.List.Concat.{flat_map-append}
use Rattle.std.proofs.lemmas.List.Folds.{list_any-append}
use Rattle.std.proofs.lemmas.List.Elements.{All-from_recursion, recursion_from_All, All-take, All-drop, filter-append}
use Rattle.scm_types.specs.declared.file_mode.FileMode.{FileMode as Mode}
use Rattle.scm_types.specs.declared.file_mode.FileMode.TheVariants.{Unix, Absent}
use Rattle.scm_types.specs.declared.line.ChangeType.TheVariants.{Added, Removed}
use Rattle.scm_types.specs.declared.line.SectionChangedLine.{SectionChangedLine}
use Rattle.scm_types.specs.declared.section.Section.{Section}
use Rattle.scm_types.specs.declared.section.Section.TheVariants.{Unchanged, Changed, FileMode, Binary}
use Rattle.scm_types.specs.declared.file.File.{File}
use Rattle.scm_types.specs.Marks.{file_with_marks, line_with_mark, section_with_marks}
use Rattle.scm_types.specs.Laws.{file_after_toggle, unchanged_as_empty}
use Rattle.scm_types.specs.Split.{changed_lines, section_lines, side_lines, side_mode, tail_of, takes, is_binary, first_mode_change, same, side_contents}
use Rattle.scm_types.proofs.LawLemmas.{side_contents_toggled, side_lines_toggled, side_mode_toggled}
use Rattle.scm_types.proofs.LineLemmas.{keeps_every_line}
use Rattle.scm_types.specs.declared.split.SelectedContents.TheVariants as contents
use Rattle.scm_embed.specs.Lines.{lines_of}
use Rattle.scm_diff.specs.declared.hunk.Hunk.{Hunk}
use Rattle.scm_diff.specs.declared.change.Version.{Version}
use Rattle.scm_diff.specs.Hunks.{AreHunks}
use Rattle.scm_diff.specs.Pairs.{unchecked_line}
use Rattle.scm_diff.specs.Sections.{AreHunkSections, AreSections, HasMore, context_sections}
use Rattle.scm_diff.specs.Sides.{IsLine, side_text, text_of, with_line_ends}
use Rattle.scm_diff.specs.Change.{IsChange, IsPairMarked, IsReplaced, checked, checked_line, is_same_mode, mode_of, mode_sections, text_in, unchecked}
use Rattle.scm_diff.proofs.PairLemmas.{merge-lines, merge-unchecked}
use Rattle.scm_diff.proofs.LineLemmas.{concat-lines_of, lines_are_lines, lines_of-text_of, text_of-lines_of}
use Rattle.scm_diff.proofs.FileLineLemmas.{any-marked, side-texts, tail-all}
use Rattle.scm_diff.proofs.ChangedSectionLemmas.{old-lines, new-lines}

-- ---- what holds of the sections of lines

-- a fact about sections that context and the merged lines of hunks have
module _ (P : List Section → Type 0) (none : P []) (context : (lines : List (List ℕ)) → P (Unchanged lines ∷ [])) (change : (ls : List SectionChangedLine) → map (line_with_mark (λ _. false)) ls ≡ ls → P (Changed ls ∷ [])) (both : (xs ys : List Section) → P xs → P ys → P (xs ++ ys)) where
  context-has : (lines : List (List ℕ)) → P (context_sections lines)
  context-has lines = at (length lines == 0)
    where
      at : (t : Bool) → P (if t then [] else Unchanged lines ∷ [])
      at true = none
      at false = context lines

  hunk-has : (old new : List (List ℕ)) (i : ℕ) (h : Hunk) (ss : List Section) → AreHunkSections old new i h ss → P ss
  hunk-has old new i h ss m =
      subst P (sym m.sections_are)
      (both (context_sections (slice_range old i h.old_start)) (Changed m.lines ∷ []) (context-has (slice_range old i h.old_start))
      (change m.lines (merge-unchecked (slice_range old h.old_start h.old_end) (slice_range new h.new_start h.new_end) m.lines m.merged)))

  pub sections-have : (old new : List (List ℕ)) (i : ℕ) (hs : List Hunk) (ss : List Section) → AreSections old new i hs ss → P ss
  sections-have old new i [] ss e = subst P (sym e) (context-has (drop i old))
  sections-have old new i (h ∷ hs) ss s =
      subst P (sym s.2) (both s.0 s.1 (hunk-has old new i h s.0 s.3) (sections-have old new h.old_end hs s.1 s.4))

any-false : (xs ys : List Section) → list_any is_binary xs ≡ false → list_any is_binary ys ≡ false → list_any is_binary (xs ++ ys) ≡ false
any-false xs ys a b = rw (list_any-append is_binary xs ys, a, b) refl

not-binary : (old new : List (List ℕ)) (i : ℕ) (hs : List Hunk) (ss : List Section) → AreSections old new i hs ss → list_any is_binary ss ≡ false
not-binary = sections-have (λ xs. list_any is_binary xs ≡ false) refl (λ lines. refl) (λ ls e. refl) any-false

modes-none : (xs ys : List Section) → first_mode_change xs ≡ None → first_mode_change ys ≡ None → first_mode_change (xs ++ ys) ≡ None
modes-none [] ys a b = b
modes-none (Unchanged lines ∷ xs) ys a b = modes-none xs ys a b
modes-none (Changed lines ∷ xs) ys a b = modes-none xs ys a b
modes-none (FileMode c m ∷ xs) ys a b = cc
modes-none (Binary c o n ∷ xs) ys a b = modes-none xs ys a b

no-mode : (old new : List (List ℕ)) (i : ℕ) (hs : List Hunk) (ss : List Section) → AreSections old new i hs ss → first_mode_change ss ≡ None
no-mode = sections-have (λ xs. first_mode_change xs ≡ None) refl (λ lines. refl) (λ ls e. refl) modes-none

abbrev pub all_unchecked : List Section → List Section
all_unchecked = map (section_with_marks (λ _. false))

change-unchecked : (ls : List SectionChangedLine) → map (line_with_mark (λ _. false)) ls ≡ ls → all_unchecked (Changed ls ∷ []) ≡ Changed ls ∷ []
change-unchecked ls e = ap (λ xs. Changed xs ∷ []) e

both-unchecked : (xs ys : List Section) → all_unchecked xs ≡ xs → all_unchecked ys ≡ ys → all_unchecked (xs ++ ys) ≡ xs ++ ys
both-unchecked xs ys a b = map-append (section_with_marks (λ _. false)) xs ys ∙ ap (λ zs. zs ++ all_unchecked ys) a ∙ ap (λ zs. xs ++ zs) b

is-unchecked : (old new : List (List ℕ)) (i : ℕ) (hs : List Hunk) (ss : List Section) → AreSections old new i hs ss → all_unchecked ss ≡ ss
is-unchecked = sections-have (λ xs. all_unchecked xs ≡ xs) refl (λ lines. refl) change-unchecked both-unchecked

-- ---- the texts of all lines

-- the texts of the lines of a section
abbrev texts_in : Section → List (List ℕ)
texts_in (Unchanged lines) = lines
texts_in (Changed lines) = map (λ (l : SectionChangedLine). l.line) lines
texts_in (FileMode c m) = []
texts_in (Binary c o n) = []

-- each text of the sections is a line
abbrev AreLines : List Section → Type 0
AreLines [] = Unit {0}
AreLines (s ∷ ss) = AllByRecursion IsLine (texts_in s) × AreLines ss

texts-marked : (f : Bool → Bool) (ls : List SectionChangedLine) → map (λ (l : SectionChangedLine). l.line) (map (line_with_mark f) ls) ≡ map (λ (l : SectionChangedLine). l.line) ls
texts-marked f [] = refl
texts-marked f (l ∷ ls) = ap (λ xs. l.line ∷ xs) (texts-marked f ls)

section-marked : (f : Bool → Bool) (s : Section) → texts_in (section_with_marks f s) ≡ texts_in s
section-marked f (Unchanged lines) = refl
section-marked f (Changed lines) = texts-marked f lines
section-marked f (FileMode c m) = refl
section-marked f (Binary c o n) = refl

lines-marked : (f : Bool → Bool) (ss : List Section) → AreLines (map (section_with_marks f) ss) → AreLines ss
lines-marked f [] h = tt
lines-marked f (s ∷ ss) h = (subst (AllByRecursion IsLine) (section-marked f s) h.0, lines-marked f ss h.1)

taken-lines : (side : Bool) (ls : List SectionChangedLine) → AllByRecursion IsLine (map (λ (l : SectionChangedLine). l.line) ls) → AllByRecursion IsLine (changed_lines side ls)
taken-lines side [] h = tt
taken-lines side (l ∷ ls) h = at (takes side l) (taken-lines side ls h.1)
  where
    at : (t : Bool) → AllByRecursion IsLine (changed_lines side ls) → AllByRecursion IsLine (map (λ (l : SectionChangedLine). l.line) (cond t (l ∷ filter (takes side) ls) (filter (takes side) ls)))
    at true r = (h.0, r)
    at false r = r

side-of-section : (side : Bool) (s : Section) → AllByRecursion IsLine (texts_in s) → AllByRecursion IsLine (section_lines side s)
side-of-section side (Unchanged lines) h = h
side-of-section side (Changed lines) h = taken-lines side lines h
side-of-section side (FileMode c m) h = tt
side-of-section side (Binary c o n) h = tt

and-lines : (xs ys : List (List ℕ)) → AllByRecursion IsLine xs → AllByRecursion IsLine ys → AllByRecursion IsLine (xs ++ ys)
and-lines [] ys a b = b
and-lines (x ∷ xs) ys a b = (a.0, and-lines xs ys a.1 b)

side-of-sections : (side : Bool) (ss : List Section) → AreLines ss → AllByRecursion IsLine (flat_map (section_lines side) ss)
side-of-sections side [] h = tt
side-of-sections side (s ∷ ss) h = and-lines (section_lines side s) (flat_map (section_lines side) ss) (side-of-section side s h.0) (side-of-sections side ss h.1)

tail-lines : (ss : List Section) → AreLines ss → AreLines (tail_of ss)
tail-lines [] h = tt
tail-lines (s ∷ ss) h = at (list_any is_binary ss) (is_binary s) (tail-lines ss h.1)
  where
    at : (a b : Bool) → AreLines (tail_of ss) → AreLines (if a then tail_of ss else if b then ss else s ∷ ss)
    at true b r = r
    at false true r = h.1
    at false false r = h

-- the lines of a side of a file with any marks
pub marked-lines : (marked : File) (side : Bool) → AreLines (unchecked marked).sections → lines_of (side_text side marked) ≡ with_line_ends (side_lines side marked)
marked-lines marked side h = lines_of-text_of (side_lines side marked) (side-of-sections side (tail_of marked.sections) (tail-lines marked.sections (lines-marked (λ _. false) marked.sections h)))

-- ---- the lines of the file of a change

front-lines : (n : ℕ) (ls : List (List ℕ)) → AllByRecursion IsLine ls → AllByRecursion IsLine (take n ls)
front-lines n ls h = recursion_from_All IsLine (take n ls) (All-take IsLine n ls (All-from_recursion IsLine ls h))

back-lines : (n : ℕ) (ls : List (List ℕ)) → AllByRecursion IsLine ls → AllByRecursion IsLine (drop n ls)
back-lines n ls h = recursion_from_All IsLine (drop n ls) (All-drop IsLine n ls (All-from_recursion IsLine ls h))

slice-lines : (i k : ℕ) (ls : List (List ℕ)) → AllByRecursion IsLine ls → AllByRecursion IsLine (slice_range ls i k)
slice-lines i k ls h = front-lines (k - i) (drop i ls) (back-lines i ls h)

both-lines : (xs ys : List Section) → AreLines xs → AreLines ys → AreLines (xs ++ ys)
both-lines [] ys a b = b
both-lines (x ∷ xs) ys a b = (a.0, both-lines xs ys a.1 b)

context-are : (lines : List (List ℕ)) → AllByRecursion IsLine lines → AreLines (context_sections lines)
context-are lines h = at (length lines == 0)
  where
    at : (t : Bool) → AreLines (if t then [] else Unchanged lines ∷ [])
    at true = tt
    at false = (h, tt)

hunk-are : (old new : List (List ℕ)) (i : ℕ) (g : Hunk) (ss : List Section) → AreHunkSections old new i g ss → AllByRecursion IsLine old → AllByRecursion IsLine new → AreLines ss
hunk-are old new i g ss m h k =
    subst AreLines (sym m.sections_are)
    (both-lines (context_sections (slice_range old i g.old_start)) (Changed m.lines ∷ [])
    (context-are (slice_range old i g.old_start) (slice-lines i g.old_start old h))
    (merge-lines (slice_range old g.old_start g.old_end) (slice_range new g.new_start g.new_end) m.lines m.merged (slice-lines g.old_start g.old_end old h) (slice-lines g.new_start g.new_end new k), tt))

sections-are : (old new : List (List ℕ)) (i : ℕ) (hs : List Hunk) (ss : List Section) → AreSections old new i hs ss → AllByRecursion IsLine old → AllByRecursion IsLine new → AreLines ss
sections-are old new i [] ss e h k = subst AreLines (sym e) (context-are (drop i old) (back-lines i old h))
sections-are old new i (g ∷ hs) ss s h k = subst AreLines (sym s.2) (both-lines s.0 s.1 (hunk-are old new i g s.0 s.3 h k) (sections-are old new g.old_end hs s.1 s.4 h k))

-- ---- the file

-- the file of a change
abbrev pub file_of : List ℕ → Option Version → Option Version → List Section → File
file_of path old new ss = record {
  old_path = None;
  path = path;
  file_mode = mode_of old;
  sections = mode_sections (mode_of old) (mode_of new) ++ ss;
}

-- the sections of modes
mode-not-binary : (a b : Mode) → list_any is_binary (mode_sections a b) ≡ false
mode-not-binary a b = at (is_same_mode a b)
  where
    at : (t : Bool) → list_any is_binary (if t then [] else FileMode false b ∷ []) ≡ false
    at true = refl
    at false = refl

mode-no-lines : (side : Bool) (a b : Mode) → flat_map (section_lines side) (mode_sections a b) ≡ []
mode-no-lines side a b = at (is_same_mode a b)
  where
    at : (t : Bool) → flat_map (section_lines side) (if t then [] else FileMode false b ∷ []) ≡ []
    at true = refl
    at false = refl

mode-unchecked : (a b : Mode) → all_unchecked (mode_sections a b) ≡ mode_sections a b
mode-unchecked a b = at (is_same_mode a b)
  where
    at : (t : Bool) → all_unchecked (if t then [] else FileMode false b ∷ []) ≡ (if t then [] else FileMode false b ∷ [])
    at true = refl
    at false = refl

mode-are : (a b : Mode) → AreLines (mode_sections a b)
mode-are a b = at (is_same_mode a b)
  where
    at : (t : Bool) → AreLines (if t then [] else FileMode false b ∷ [])
    at true = tt
    at false = (tt, tt)

same-modes : (a b : Mode) → is_same_mode a b ≡ true → a ≡ b
same-modes Absent Absent e = refl
same-modes Absent (Unix y) e = cc
same-modes (Unix x) Absent e = cc
same-modes (Unix x) (Unix y) e = ap Unix (eqb-true x y e)

-- the mode that the sections leave on a side
abbrev mode_left : Bool → Mode → List Section → Mode
mode_left side m ss = unwrap_or (option_map (λ (c : Bool × Mode). if same c.0 side then c.1 else m) (first_mode_change ss)) m

mode-selected : (a b : Mode) (ss : List Section) → first_mode_change ss ≡ None → mode_left true a (mode_sections a b ++ ss) ≡ a
mode-selected a b ss e = at (is_same_mode a b)
  where
    at : (t : Bool) → mode_left true a ((if t then [] else FileMode false b ∷ []) ++ ss) ≡ a
    at true = rw e refl
    at false = refl

mode-unselected : (a b : Mode) (ss : List Section) → first_mode_change ss ≡ None → mode_left false a (mode_sections a b ++ ss) ≡ b
mode-unselected a b ss e = at (is_same_mode a b) refl
  where
    at : (t : Bool) → is_same_mode a b ≡ t → mode_left false a ((if t then [] else FileMode false b ∷ []) ++ ss) ≡ b
    at true s = rw e (same-modes a b s)
    at false s = refl

-- everything checked is nothing checked, toggled
lines-twice : (ls : List SectionChangedLine) → map (line_with_mark not) (map (line_with_mark (λ _. false)) ls) ≡ map (line_with_mark (λ _. true)) ls
lines-twice [] = refl
lines-twice (l ∷ ls) = ap (λ xs. line_with_mark (λ _. true) l ∷ xs) (lines-twice ls)

section-twice : (s : Section) → section_with_marks not (section_with_marks (λ _. false) s) ≡ section_with_marks (λ _. true) s
section-twice (Unchanged lines) = refl
section-twice (Changed lines) = ap Changed (lines-twice lines)
section-twice (FileMode c m) = refl
section-twice (Binary c o n) = refl

all-twice : (ss : List Section) → map (section_with_marks not) (map (section_with_marks (λ _. false)) ss) ≡ map (section_with_marks (λ _. true)) ss
all-twice [] = refl
all-twice (s ∷ ss) = ap (λ x. x ∷ map (section_with_marks not) (map (section_with_marks (λ _. false)) ss)) (section-twice s) ∙ ap (λ xs. section_with_marks (λ _. true) s ∷ xs) (all-twice ss)

-- ---- a pair that is checked

-- the lines of the selected side around some changed lines
around-lines : (front back : List Section) (before lines after : List SectionChangedLine) → flat_map (section_lines true) (front ++ Changed (before ++ (lines ++ after)) ∷ back) ≡ (flat_map (section_lines true) front ++ changed_lines true before) ++ (changed_lines true lines ++ (changed_lines true after ++ flat_map (section_lines true) back))
around-lines front back before lines after =
    let C : List SectionChangedLine → List (List ℕ) = changed_lines true in
    let F = flat_map (section_lines true) front in
    let B = flat_map (section_lines true) back in
    flat_map-append (section_lines true) front (Changed (before ++ (lines ++ after)) ∷ back)
    ∙ ap (λ xs. F ++ (xs ++ B)) (changed-append before (lines ++ after) ∙ ap (λ xs. C before ++ xs) (changed-append lines after))
    ∙ ap (λ xs. F ++ xs) (append_assoc (C before) (C lines ++ C after) B ∙ ap (λ xs. C before ++ xs) (append_assoc (C lines) (C after) B))
    ∙ sym (append_assoc F (C before) (C lines ++ (C after ++ B)))
  where
    changed-append : (xs ys : List SectionChangedLine) → changed_lines true (xs ++ ys) ≡ changed_lines true xs ++ changed_lines true ys
    changed-append xs ys = ap (map (λ (l : SectionChangedLine). l.line)) (filter-append (takes true) xs ys) ∙ map-append (λ (l : SectionChangedLine). l.line) (filter (takes true) xs) (filter (takes true) ys)

around-binary : (front back : List Section) (xs ys : List SectionChangedLine) → list_any is_binary (front ++ Changed xs ∷ back) ≡ false → list_any is_binary (front ++ Changed ys ∷ back) ≡ false
around-binary front back xs ys e = list_any-append is_binary front (Changed ys ∷ back) ∙ sym (list_any-append is_binary front (Changed xs ∷ back)) ∙ e

-- without a binary section a checked pair replaces its line
pair-replaced : (file marked : File) (r a : List ℕ) → list_any is_binary file.sections ≡ false → IsPairMarked file marked r a → IsReplaced (side_lines true file) r a (side_text true marked)
pair-replaced file marked r a e p =
    let F = p.sections_before in let B = p.sections_after in let x = p.lines_before in let y = p.lines_after in
    let old : List SectionChangedLine = unchecked_line Removed r ∷ unchecked_line Added a ∷ [] in
    let new : List SectionChangedLine = checked_line Removed r ∷ checked_line Added a ∷ [] in
    let plain : list_any is_binary (F ++ Changed (x ++ (old ++ y)) ∷ B) ≡ false = ap (list_any is_binary) (sym p.were) ∙ e in
    record {
      before = flat_map (section_lines true) F ++ changed_lines true x;
      after = changed_lines true y ++ flat_map (section_lines true) B;
      were = ap (flat_map (section_lines true)) (tail-all file.sections e ∙ p.were) ∙ around-lines F B x old y;
      are = ap (λ xs. text_of (flat_map (section_lines true) (tail_of xs))) p.are
          ∙ ap (λ xs. text_of (flat_map (section_lines true) xs)) (tail-all (F ++ Changed (x ++ (new ++ y)) ∷ B) (around-binary F B (x ++ (old ++ y)) (x ++ (new ++ y)) plain))
          ∙ ap text_of (around-lines F B x new y);
    }

module _ (path : List ℕ) (old new : Option Version) (hs : List Hunk) (S : List Section) (h : AreHunks (lines_of (text_in old)) (lines_of (text_in new)) hs) (s : AreSections (lines_of (text_in old)) (lines_of (text_in new)) 0 hs S) where
  abbrev F : File
  F = file_of path old new S

  abbrev A : List (List ℕ)
  A = lines_of (text_in old)

  abbrev B : List (List ℕ)
  B = lines_of (text_in new)

  abbrev M : List Section
  M = mode_sections (mode_of old) (mode_of new)

  none-binary : list_any is_binary (M ++ S) ≡ false
  none-binary = any-false M S (mode-not-binary (mode_of old) (mode_of new)) (not-binary A B 0 hs S s)

  whole : tail_of F.sections ≡ M ++ S
  whole = tail-all (M ++ S) none-binary

  side-is : (side : Bool) → side_lines side F ≡ flat_map (section_lines side) S
  side-is side = ap (flat_map (section_lines side)) whole ∙ flat_map-append (section_lines side) M S ∙ ap (λ xs. xs ++ flat_map (section_lines side) S) (mode-no-lines side (mode_of old) (mode_of new))

  pub selected-lines : side_lines true F ≡ A
  selected-lines = side-is true ∙ old-lines A B 0 0 0 hs S h s

  pub unselected-lines : side_lines false F ≡ B
  unselected-lines = side-is false ∙ new-lines A B 0 0 0 hs S h s

  no-marks : unchecked F ≡ F
  no-marks = ap (λ ss. record F { sections = ss }) (both-unchecked M S (mode-unchecked (mode_of old) (mode_of new)) (is-unchecked A B 0 hs S s))

  are-lines : AreLines F.sections
  are-lines = both-lines M S (mode-are (mode_of old) (mode_of new)) (sections-are A B 0 hs S s (lines_are_lines (text_in old)) (lines_are_lines (text_in new)))

  checked-toggled : checked F ≡ file_after_toggle F
  checked-toggled = ap (λ ss. record F { sections = ss }) (sym (all-twice F.sections)) ∙ ap (file_with_marks not) no-marks

  checked-lines : (side : Bool) → side_lines side (checked F) ≡ side_lines (not side) F
  checked-lines side = ap (side_lines side) checked-toggled ∙ side_lines_toggled side F

  -- the contents that the split gives
  split-text : (side : Bool) → unchanged_as_empty (side_contents side F) ≡ contents.Text (concat (side_lines side F))
  split-text true = (keeps_every_line F none-binary).selected ∙ ap (λ ls. contents.Text (concat ls)) (sym (side-texts F true none-binary))
  split-text false = (keeps_every_line F none-binary).unselected ∙ ap (λ ls. contents.Text (concat ls)) (sym (side-texts F false none-binary))

  checked-split : (side : Bool) → unchanged_as_empty (side_contents side (checked F)) ≡ unchanged_as_empty (side_contents (not side) F)
  checked-split side = ap (λ (f : File). unchanged_as_empty (side_contents side f)) checked-toggled ∙ side_contents_toggled side F

  old-text : side_text true F ≡ text_in old
  old-text = ap text_of selected-lines ∙ text_of-lines_of (text_in old)

  new-text : side_text false F ≡ text_in new
  new-text = ap text_of unselected-lines ∙ text_of-lines_of (text_in new)

  old-mode : side_mode true F ≡ mode_of old
  old-mode = mode-selected (mode_of old) (mode_of new) S (no-mode A B 0 hs S s)

  new-mode : side_mode false F ≡ mode_of new
  new-mode = mode-unselected (mode_of old) (mode_of new) S (no-mode A B 0 hs S s)

  pub is-change : IsChange path old new F
  is-change = record {
    same_path = refl;
    no_old_path = refl;
    old_mode = refl;
    hunks = hs;
    are_hunks = h;
    sections = S;
    sections_are = refl;
    are_sections = s;
    nothing_checked = no-marks;
    selected = old-text;
    unselected = new-text;
    split_selected = split-text true ∙ ap (λ ls. contents.Text (concat ls)) selected-lines ∙ ap contents.Text (concat-lines_of (text_in old));
    split_unselected = split-text false ∙ ap (λ ls. contents.Text (concat ls)) unselected-lines ∙ ap contents.Text (concat-lines_of (text_in new));
    selected_mode = old-mode;
    unselected_mode = new-mode;
    checked_selected = ap text_of (checked-lines true) ∙ new-text;
    checked_unselected = ap text_of (checked-lines false) ∙ old-text;
    checked_split_selected = checked-split true ∙ split-text false ∙ ap (λ ls. contents.Text (concat ls)) unselected-lines ∙ ap contents.Text (concat-lines_of (text_in new));
    checked_split_unselected = checked-split false ∙ split-text true ∙ ap (λ ls. contents.Text (concat ls)) selected-lines ∙ ap contents.Text (concat-lines_of (text_in old));
    checked_selected_mode = ap (side_mode true) checked-toggled ∙ side_mode_toggled true F ∙ new-mode;
    checked_unselected_mode = ap (side_mode false) checked-toggled ∙ side_mode_toggled false F ∙ old-mode;
    pair_selected = λ marked r a p. subst (λ ls. IsReplaced ls r a (side_text true marked)) selected-lines (pair-replaced F marked r a none-binary p);
    any_marks = λ marked side e.
        marked-lines marked side (subst (λ (f : File). AreLines f.sections) (sym e) are-lines)
        ∙ ap with_line_ends (side-texts marked side (sym (any-marked (λ _. false) marked.sections) ∙ ap (λ (f : File). list_any is_binary f.sections) e ∙ none-binary));
  }

-- the file of a mode and sections
abbrev file_with : List ℕ → Mode → List Section → File
file_with path mode ss = record { old_path = None; path = path; file_mode = mode; sections = ss }

-- the file that the code makes
pub change-made : (path : List ℕ) (old new : Option Version) (hs : List Hunk) (mode : Mode) (modes all : List Section) → AreHunks (lines_of (text_in old)) (lines_of (text_in new)) hs → mode ≡ mode_of old → modes ≡ mode_sections (mode_of old) (mode_of new) → HasMore (AreSections (lines_of (text_in old)) (lines_of (text_in new)) 0 hs) modes all → IsChange path old new (record { old_path = None; path = path; file_mode = mode; sections = all })
change-made path old new hs mode modes all h m e a =
    let same : file_of path old new a.more ≡ file_with path mode all =
    ap (λ ss. file_with path (mode_of old) ss) (sym (a.joined ∙ ap (λ ss. ss ++ a.more) e))
    ∙ ap (λ x. file_with path x all) (sym m) in
    subst (IsChange path old new) same (is-change path old new hs a.more h a.holds)
