-- Plans: deeds that lead from the marks of a state to others, and folds that are closed again.
use Rattle.std.specs.Prelude.{ℕ, ◌+◌, Bool, true, false, not, ◌&&◌, ◌||◌, List, [], ◌∷◌, ◌++◌, fold, slice_get, Option, Some, None, if◌then◌else◌}
use Rattle.scm_types.specs.Marks.{file_marks, section_marks, tristate_of}
use Rattle.scm_types.specs.declared.file.File.{File}
use Rattle.scm_types.specs.declared.line.SectionChangedLine.{SectionChangedLine}
use Rattle.scm_types.specs.declared.section.Section.{Section}
use Rattle.scm_types.specs.declared.section.Section.TheVariants as sections
use Rattle.scm_types.specs.declared.tristate.Tristate.{Tristate}
use Rattle.scm_types.specs.declared.tristate.Tristate.TheVariants as tristate
use Rattle.scm_types.specs.Keys.{file_of, section_of_line, has_key}
use Rattle.scm_types.specs.declared.keys.SelectionKey.{SelectionKey}
use Rattle.scm_types.specs.declared.keys.SelectionKey.TheVariants as keys
use Rattle.scm_selection.specs.KeyLists.{file_key, line_key, section_key}
use Rattle.scm_front_items.specs.declared.plans.Common.{Common}
use Rattle.scm_front_items.specs.declared.plans.Common.TheVariants as common
use Rattle.scm_front_items.specs.declared.plans.Part.{Part}
use Rattle.scm_front_items.specs.declared.plans.Part.TheVariants as part
use Rattle.scm_front_items.specs.declared.targets.Deed.{Deed}
use Rattle.scm_front_items.specs.declared.targets.Deed.TheVariants.{Fold, Mark}
use Rattle.scm_front_items.specs.Ranges.{is_mode_section}
use Rattle.scm_front_items.specs.Steps.{agree}
use Rattle.scm_front_items.specs.Targets.{is_as, target}

-- ---- what marks have in common

-- one more mark, after marks with this in common
abbrev pub common_with : Common → Bool → Common
common_with common.Nothing mark = common.Mark mark
common_with (common.Mark other) mark = if is_as other mark then common.Mark other else common.Mixed
common_with common.Mixed mark = common.Mixed

-- the marks of a file, by section
abbrev pub common_of_file : List (List Bool) → Common
common_of_file marks = fold (λ (c : Common) (list : List Bool). fold common_with c list) common.Nothing marks

-- ---- the deeds so far, and those that set marks

-- the list that is there, or none
abbrev pub list_in : {X : Type 0} → Option (List X) → List X
list_in None = []
list_in (Some xs) = xs

-- one that sets the marks of a key
abbrev pub with_mark_deed : SelectionKey → Bool → List Deed → List Deed
with_mark_deed key mark ds = ds ++ Mark (target key mark) ∷ []

-- whether a toggle unchecks the file or section first, although it is to be checked
abbrev pub is_unchecked_first : Tristate → Bool → Bool
is_unchecked_first tristate.Partial mark = mark
is_unchecked_first tristate.True mark = false
is_unchecked_first tristate.False mark = false

abbrev pub with_unmark_deed : SelectionKey → Tristate → Bool → List Deed → List Deed
with_unmark_deed key t mark ds = if is_unchecked_first t mark then with_mark_deed key false ds else ds

-- those of a whole file or section
abbrev pub with_whole_deeds : SelectionKey → Tristate → Bool → List Deed → List Deed
with_whole_deeds key t mark ds = with_mark_deed key mark (with_unmark_deed key t mark ds)

-- whether the mark, if it is there, is `mark`
abbrev pub is_some_as : Bool → Option Bool → Bool
is_some_as mark None = false
is_some_as mark (Some other) = is_as mark other

-- whether a section changes the mode of its file, and its mark is to be `mark`
abbrev pub is_mode_to : Bool → Section → List Bool → Bool
is_mode_to mark s wanted = is_mode_section s && is_some_as mark (slice_get wanted 0)

-- those of the mode changes of a file that are to be `mark`, from section i on
abbrev pub with_mode_deed : SelectionKey → Bool → Section → List Bool → List Deed → List Deed
with_mode_deed key mark s wanted ds = if is_mode_to mark s wanted then with_mark_deed key mark ds else ds

abbrev pub with_mode_deeds : ℕ → Bool → List (List Bool) → ℕ → List Section → List Deed → List Deed
with_mode_deeds file mark wanted i [] ds = ds
with_mode_deeds file mark wanted i (s ∷ ss) ds =
    with_mode_deeds file mark wanted (i + 1) ss (with_mode_deed (section_key file i) mark s (list_in (slice_get wanted i)) ds)

-- those of the lines of a section whose marks are others, from line i on
abbrev pub with_line_deed : SelectionKey → SectionChangedLine → Option Bool → List Deed → List Deed
with_line_deed key l None ds = ds
with_line_deed key l (Some mark) ds = if is_as mark l.is_checked then ds else with_mark_deed key mark ds

abbrev pub with_line_deeds : ℕ → ℕ → List Bool → ℕ → List SectionChangedLine → List Deed → List Deed
with_line_deeds file section wanted i [] ds = ds
with_line_deeds file section wanted i (l ∷ ls) ds = with_line_deeds file section wanted (i + 1) ls (with_line_deed (line_key file section i) l (slice_get wanted i) ds)

abbrev pub with_deeds_of_lines : ℕ → ℕ → Section → List Bool → List Deed → List Deed
with_deeds_of_lines file i (sections.Unchanged lines) wanted ds = ds
with_deeds_of_lines file i (sections.Changed lines) wanted ds = with_line_deeds file i wanted 0 lines ds
with_deeds_of_lines file i (sections.FileMode is_checked mode) wanted ds = ds
with_deeds_of_lines file i (sections.Binary is_checked old new) wanted ds = ds

-- those of section i of a file: of the whole section if all of it is to have one mark, else of its lines
abbrev pub with_common_deeds : Common → ℕ → ℕ → Section → List Bool → List Deed → List Deed
with_common_deeds common.Nothing file i s wanted ds = ds
with_common_deeds (common.Mark mark) file i s wanted ds = with_whole_deeds (section_key file i) (tristate_of (section_marks s)) mark ds
with_common_deeds common.Mixed file i s wanted ds = with_deeds_of_lines file i s wanted ds

-- none if it has these marks, or changes the mode of the file
abbrev pub is_left : Section → List Bool → Bool
is_left s wanted = agree 0 wanted (section_marks s) || is_mode_section s

abbrev pub with_section_deeds : ℕ → ℕ → Section → List Bool → List Deed → List Deed
with_section_deeds file i s wanted ds = if is_left s wanted then ds else with_common_deeds (fold common_with common.Nothing wanted) file i s wanted ds

abbrev pub with_deeds_of_sections : ℕ → List (List Bool) → ℕ → List Section → List Deed → List Deed
with_deeds_of_sections file wanted i [] ds = ds
with_deeds_of_sections file wanted i (s ∷ ss) ds = with_deeds_of_sections file wanted (i + 1) ss (with_section_deeds file i s (list_in (slice_get wanted i)) ds)

-- the first ones of file i: of the whole file if all of it is to have one mark, else of its mode changes
abbrev pub with_first_deeds : Common → ℕ → File → List (List Bool) → List Deed → List Deed
with_first_deeds common.Nothing i file wanted ds = ds
with_first_deeds (common.Mark mark) i file wanted ds = with_whole_deeds (file_key i) (tristate_of (file_marks file)) mark ds
with_first_deeds common.Mixed i file wanted ds = with_mode_deeds i true wanted 0 file.sections (with_mode_deeds i false wanted 0 file.sections ds)

-- whether the sections from index i on have these marks, as far as there are any
abbrev pub sections_agree : List (List Bool) → ℕ → List Section → Bool
sections_agree wanted i [] = true
sections_agree wanted i (s ∷ ss) = agree 0 (list_in (slice_get wanted i)) (section_marks s) && sections_agree wanted (i + 1) ss

-- those of a part of the plan, of a file and of files from index i on
abbrev pub with_part_deeds : Part → ℕ → File → List (List Bool) → List Deed → List Deed
with_part_deeds part.First i file wanted ds = with_first_deeds (common_of_file wanted) i file wanted ds
with_part_deeds part.Last i file wanted ds = with_deeds_of_sections i wanted 0 file.sections ds

abbrev pub with_file_deeds : Part → ℕ → File → List (List Bool) → List Deed → List Deed
with_file_deeds p i file wanted ds = if sections_agree wanted 0 file.sections then ds else with_part_deeds p i file wanted ds

abbrev pub with_plan : Part → List (List (List Bool)) → ℕ → List File → List Deed → List Deed
with_plan p wanted i [] ds = ds
with_plan p wanted i (f ∷ fs) ds = with_plan p wanted (i + 1) fs (with_file_deeds p i f (list_in (slice_get wanted i)) ds)

-- ---- folds

-- the section that a key names or lies in
abbrev pub section_around : SelectionKey → SelectionKey
section_around keys.None = keys.None
section_around (keys.File key) = keys.None
section_around (keys.Section key) = keys.Section key
section_around (keys.Line key) = keys.Section (section_of_line key)

-- whether a key names something that is not unfolded
abbrev pub is_folded : List SelectionKey → SelectionKey → Bool
is_folded expanded keys.None = false
is_folded expanded (keys.File key) = not (has_key expanded (keys.File key))
is_folded expanded (keys.Section key) = not (has_key expanded (keys.Section key))
is_folded expanded (keys.Line key) = not (has_key expanded (keys.Line key))

-- the deed that folds a key again, if it is folded before
abbrev pub fold_of : List SelectionKey → SelectionKey → List Deed
fold_of expanded key = if is_folded expanded key then Fold key ∷ [] else []

-- the deeds that fold the sections and the files of keys again
abbrev pub section_folds : List SelectionKey → List SelectionKey → List Deed
section_folds expanded [] = []
section_folds expanded (key ∷ ks) = fold_of expanded (section_around key) ++ section_folds expanded ks

abbrev pub file_folds : List SelectionKey → List SelectionKey → List Deed
file_folds expanded [] = []
file_folds expanded (key ∷ ks) = fold_of expanded (file_of key) ++ file_folds expanded ks
