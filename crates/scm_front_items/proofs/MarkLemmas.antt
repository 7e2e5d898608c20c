-- The marks of lines after lines are set.
use Rattle.std.proofs.Common.{◌≡◌, ◌≢◌, ℕ, zero, suc, Bool, true, false, cond, ◌&&◌, ◌||◌, List, [], ◌∷◌, map, refl, sym, ap, ◌∙◌, subst, Option, Some, None, inl, inr, arith}
use Rattle.std.specs.Prelude.{filter, nat_eq, nat_lt, not, length, option_map, option_and_then, slice_get}
use Rattle.std.specs.List.{list_all, list_any}
use Rattle.std.proofs.lemmas.Bool.{and_parts, and_right, cases_eq, or_parts}
use Rattle.std.proofs.lemmas.Bool.Decides.{nat_tests}
use Rattle.std.proofs.lemmas.Option.{slice_get-map, slice_get_within}
use Rattle.scm_types.specs.Edits.{modify}
use Rattle.scm_types.specs.Keys.{is_key, has_key}
use Rattle.scm_types.specs.Marks.{line_with_mark}
use Rattle.scm_types.specs.Mode.{is_absent}
use Rattle.scm_types.specs.Repair.{with_deletion_unchecked, with_mode_checked}
use Rattle.scm_types.specs.declared.file.File.{File}
use Rattle.scm_types.specs.declared.file_mode.FileMode.{FileMode}
use Rattle.scm_types.specs.declared.line.SectionChangedLine.{SectionChangedLine}
use Rattle.scm_types.specs.declared.section.Section.{Section}
use Rattle.scm_types.specs.declared.section.Section.TheVariants as sections
use Rattle.scm_types.specs.declared.keys.LineKey.{LineKey}
use Rattle.scm_types.specs.declared.keys.SelectionKey.{SelectionKey}
use Rattle.scm_types.specs.declared.keys.SelectionKey.TheVariants as keys
use Rattle.scm_types.proofs.EditLemmas.{slice_get-modify, slice_get-modify-other}
use Rattle.scm_selection.proofs.RelationLemmas.{key-same}
use Rattle.scm_selection.specs.KeyLists.{is_line}
use Rattle.scm_selection.specs.KeysAround.{sections_in, sections_at, lines_of, lines_in, lines_at, is_key_of}
use Rattle.scm_selection.specs.Toggle.{after_lines, line_mark, with_key_toggled, with_line_alone_inverted, with_line_inverted, with_line_toggled, with_this_line_toggled}
use Rattle.scm_front_items.specs.Targets.{target, is_as, passes_if_there, is_key_as, is_marked, after_target, after_deeds}
use Rattle.scm_front_items.specs.Ranges.{is_between, is_in_range, is_mode_section, marking}

abbrev Line : Type 0
Line = SectionChangedLine

-- the line at a place
abbrev pub line_at : List File → ℕ → ℕ → ℕ → Option SectionChangedLine
line_at files file section line = slice_get (lines_at (sections_at files file) section) line

abbrev inverted : Line → Line
inverted = line_with_mark not

-- ---- what follows a toggle of a line keeps all lines

deletion-lines : (s : Section) → lines_of (with_deletion_unchecked s) ≡ lines_of s
deletion-lines (sections.Unchanged lines) = refl
deletion-lines (sections.Changed lines) = refl
deletion-lines (sections.FileMode is_checked mode) = refl
deletion-lines (sections.Binary is_checked old new) = refl

mode-lines : (s : Section) → lines_of (with_mode_checked s) ≡ lines_of s
mode-lines (sections.Unchanged lines) = refl
mode-lines (sections.Changed lines) = refl
mode-lines (sections.FileMode is_checked mode) = refl
mode-lines (sections.Binary is_checked old new) = refl

in-mapped : (g : Section → Section) → ((s : Section) → lines_of (g s) ≡ lines_of s) → (o : Option Section) → lines_in (option_map g o) ≡ lines_in o
in-mapped g e None = refl
in-mapped g e (Some s) = e s

mapped-lines : (g : Section → Section) → ((s : Section) → lines_of (g s) ≡ lines_of s) → (list : List Section) (section : ℕ)
    → lines_at (map g list) section ≡ lines_at list section
mapped-lines g e list section = ap lines_in (slice_get-map g list section) ∙ in-mapped g e (slice_get list section)

either-lines : (b : Bool) (list : List Section) (section : ℕ) → lines_at (cond b (map with_mode_checked list) list) section ≡ lines_at list section
either-lines true list section = mapped-lines with_mode_checked mode-lines list section
either-lines false list section = refl

followed-lines : (mode : FileMode) (b : Bool) (list : List Section) (section : ℕ) → lines_at (after_lines mode b list) section ≡ lines_at list section
followed-lines mode false list section = mapped-lines with_deletion_unchecked deletion-lines list section
followed-lines mode true list section = either-lines (is_absent mode) list section

-- ---- the lines of a file with one line toggled

inverted-lines : (line : ℕ) (s : Section) → lines_of (with_line_inverted line s) ≡ modify inverted (lines_of s) line
inverted-lines line (sections.Unchanged lines) = refl
inverted-lines line (sections.Changed lines) = refl
inverted-lines line (sections.FileMode is_checked mode) = refl
inverted-lines line (sections.Binary is_checked old new) = refl

in-inverted : (line : ℕ) (o : Option Section) → lines_in (option_map (with_line_inverted line) o) ≡ modify inverted (lines_in o) line
in-inverted line None = refl
in-inverted line (Some s) = inverted-lines line s

same-section : (list : List Section) (section line : ℕ) → lines_at (modify (with_line_inverted line) list section) section ≡ modify inverted (lines_at list section) line
same-section list section line = ap lines_in (slice_get-modify (with_line_inverted line) list section) ∙ in-inverted line (slice_get list section)

other-section : (list : List Section) (section line other : ℕ) → section ≢ other → lines_at (modify (with_line_inverted line) list section) other ≡ lines_at list other
other-section list section line other ne = ap lines_in (slice_get-modify-other (with_line_inverted line) list section other ne)

-- a line that is not there has no mark, and nothing is toggled
mark-in : (line : ℕ) (o : Option Section) → option_and_then (line_mark line) o ≡ option_map (λ (l : Line). l.is_checked) (slice_get (lines_in o) line)
mark-in line None = refl
mark-in line (Some (sections.Unchanged lines)) = refl
mark-in line (Some (sections.Changed lines)) = refl
mark-in line (Some (sections.FileMode is_checked mode)) = refl
mark-in line (Some (sections.Binary is_checked old new)) = refl

place-kept : (list : List Section) (section line s l : ℕ) → (section ≡ s → line ≢ l)
    → slice_get (lines_at (modify (with_line_inverted line) list section) s) l ≡ slice_get (lines_at list s) l
place-kept list section line s l ne = elim (cases_eq section s) [
  | inl e ↦
      subst (λ (x : ℕ). slice_get (lines_at (modify (with_line_inverted line) list section) x) l ≡ slice_get (lines_at list x) l) e
      (ap (λ (ls : List Line). slice_get ls l) (same-section list section line) ∙ slice_get-modify-other inverted (lines_at list section) line l (ne e))
  | inr away ↦ ap (λ (ls : List Line). slice_get ls l) (other-section list section line s away)
]

file-kept : (file : File) (section line s l : ℕ) (mark : Option Bool) → (section ≡ s → line ≢ l)
    → slice_get (lines_at (with_this_line_toggled file section line mark).sections s) l ≡ slice_get (lines_at file.sections s) l
file-kept file section line s l None ne = refl
file-kept file section line s l (Some b) ne =
    ap (λ (ls : List Line). slice_get ls l) (followed-lines file.file_mode (not b) (modify (with_line_inverted line) file.sections section) s)
    ∙ place-kept file.sections section line s l ne

file-set : (file : File) (section line : ℕ) (mark : Option Bool) → mark ≡ option_map (λ (l : Line). l.is_checked) (slice_get (lines_at file.sections section) line)
    → slice_get (lines_at (with_this_line_toggled file section line mark).sections section) line ≡ option_map inverted (slice_get (lines_at file.sections section) line)
file-set file section line None e = nothing (slice_get (lines_at file.sections section) line) e
  where
    nothing : (o : Option Line) → None ≡ option_map (λ (l : Line). l.is_checked) o → o ≡ option_map inverted o
    nothing None e = refl
    nothing (Some l) e = cc
file-set file section line (Some b) e =
    ap (λ (ls : List Line). slice_get ls line) (followed-lines file.file_mode (not b) (modify (with_line_inverted line) file.sections section) section ∙ same-section file.sections section line)
    ∙ slice_get-modify inverted (lines_at file.sections section) line

-- ---- a key of a line

abbrev at : List File → LineKey → Option Line
at files k = line_at files k.file_idx k.section_idx k.line_idx

abbrev toggled : LineKey → List File → List File
toggled k files = with_key_toggled (keys.Line k) files

-- the line itself is inverted
pub line-set : (files : List File) (k : LineKey) → at (toggled k files) k ≡ option_map inverted (at files k)
line-set files k =
    let g = with_line_toggled k.section_idx k.line_idx in
    ap (λ (o : Option File). slice_get (lines_at (sections_in o) k.section_idx) k.line_idx) (slice_get-modify g files k.file_idx) ∙ of-file (slice_get files k.file_idx)
  where
    of-file : (o : Option File) → slice_get (lines_at (sections_in (option_map (with_line_toggled k.section_idx k.line_idx) o)) k.section_idx) k.line_idx
        ≡ option_map inverted (slice_get (lines_at (sections_in o) k.section_idx) k.line_idx)
    of-file None = refl
    of-file (Some file) = file-set file k.section_idx k.line_idx _ (mark-in k.line_idx (slice_get file.sections k.section_idx))

-- other lines are as before
pub line-kept : (files : List File) (k j : LineKey) → (k.file_idx ≡ j.file_idx → k.section_idx ≡ j.section_idx → k.line_idx ≢ j.line_idx) → at (toggled k files) j ≡ at files j
line-kept files k j ne = elim (cases_eq k.file_idx j.file_idx) [
  | inl e ↦
      subst (λ (x : ℕ). slice_get (lines_at (sections_at (toggled k files) x) j.section_idx) j.line_idx ≡ slice_get (lines_at (sections_at files x) j.section_idx) j.line_idx) e
      (ap (λ (o : Option File). slice_get (lines_at (sections_in o) j.section_idx) j.line_idx) (slice_get-modify (with_line_toggled k.section_idx k.line_idx) files k.file_idx)
      ∙ of-file (slice_get files k.file_idx) (ne e))
  | inr away ↦ ap (λ (o : Option File). slice_get (lines_at (sections_in o) j.section_idx) j.line_idx) (slice_get-modify-other (with_line_toggled k.section_idx k.line_idx) files k.file_idx j.file_idx away)
]
  where
    of-file : (o : Option File) → (k.section_idx ≡ j.section_idx → k.line_idx ≢ j.line_idx)
        → slice_get (lines_at (sections_in (option_map (with_line_toggled k.section_idx k.line_idx) o)) j.section_idx) j.line_idx
        ≡ slice_get (lines_at (sections_in o) j.section_idx) j.line_idx
    of-file None ne = refl
    of-file (Some file) ne = file-kept file k.section_idx k.line_idx j.section_idx j.line_idx _ ne

-- ---- the keys of a list

the-first : (a b : Bool) → (a || b) ≡ true → b ≡ false → a ≡ true
the-first true b e f = refl
the-first false b e f = cc

-- the two keys name one place
place-same : (j k : LineKey) → is_key (keys.Line j) (keys.Line k) ≡ false → j.commit_idx ≡ k.commit_idx
    → k.file_idx ≡ j.file_idx → k.section_idx ≡ j.section_idx → k.line_idx ≢ j.line_idx
place-same j k e c f s l = grind (arith, nat_tests)

in-first : (has : Bool) (n : ℕ) → (nat_eq n 0 && has) ≡ true → n ≡ 0
in-first has n e = grind (arith, nat_tests)

-- one key more keeps the line, if it is another line's
step-kept : (files : List File) (mark : Bool) (key : SelectionKey) (j : LineKey) → j.commit_idx ≡ 0 → is_line key ≡ true
    → is_key (keys.Line j) key ≡ false → at (after_target files (target key mark)) j ≡ at files j
step-kept files mark keys.None j c e ne = cc
step-kept files mark (keys.File key) j c e ne = cc
step-kept files mark (keys.Section key) j c e ne = cc
step-kept files mark (keys.Line k) j c e ne = by_test _ refl
  where
    by_test : (b : Bool) → (is_key_of files (keys.Line k) && not (is_marked files (target (keys.Line k) mark))) ≡ b → at (cond b (toggled k files) files) j ≡ at files j
    by_test false e = refl
    by_test true e =
        let zero : k.commit_idx ≡ 0 = in-first (nat_lt k.line_idx (length (lines_at (sections_at files k.file_idx) k.section_idx))) k.commit_idx (first-of (is_key_of files (keys.Line k)) (not (is_marked files (target (keys.Line k) mark))) e) in
        line-kept files k j (place-same j k ne (c ∙ sym zero))
      where
        first-of : (a b : Bool) → (a && b) ≡ true → a ≡ true
        first-of true b e = refl
        first-of false b e = e

-- the key itself sets its line
now-set : (mark b : Bool) → is_as mark b ≡ false → is_as mark (not b) ≡ true
now-set true true e = cc
now-set true false e = refl
now-set false true e = refl
now-set false false e = cc

within : (n : ℕ) (lines : List Line) (line : ℕ) (l : Line) → n ≡ 0 → slice_get lines line ≡ Some l → (nat_eq n 0 && nat_lt line (length lines)) ≡ true
within n lines line l e is = let h = slice_get_within lines line l is in grind (arith, nat_tests)

step-sets : (files : List File) (mark : Bool) (j : LineKey) → j.commit_idx ≡ 0
    → is_key_as (after_target files (target (keys.Line j) mark)) mark (keys.Line j) ≡ true
step-sets files mark j c = by_line (at files j) refl
  where
    wanted : Option Line → Bool
    wanted o = passes_if_there (λ (l : Line). is_as mark l.is_checked) o

    after-test : (b : Bool) → (is_key_of files (keys.Line j) && not (wanted (at files j))) ≡ b → wanted (at (cond b (toggled j files) files) j) ≡ true
        → wanted (at (after_target files (target (keys.Line j) mark)) j) ≡ true
    after-test b e h = subst (λ (x : Bool). wanted (at (cond x (toggled j files) files) j) ≡ true) (sym e) h

    by_mark : (l : Line) → at files j ≡ Some l → (b : Bool) → is_as mark l.is_checked ≡ b → wanted (at (after_target files (target (keys.Line j) mark)) j) ≡ true
    by_mark l e true is =
        let marked : wanted (at files j) ≡ true = ap wanted e ∙ is in
        after-test false (ap (λ (w : Bool). is_key_of files (keys.Line j) && not w) marked ∙ and_right (is_key_of files (keys.Line j)) false refl) marked
    by_mark l e false is =
        let there : is_key_of files (keys.Line j) ≡ true = within j.commit_idx (lines_at (sections_at files j.file_idx) j.section_idx) j.line_idx l c e in
        let undone : (is_key_of files (keys.Line j) && not (wanted (at files j))) ≡ true = ap (λ (h : Bool). h && not (wanted (at files j))) there ∙ ap not (ap wanted e ∙ is) in
        after-test true undone (ap wanted (line-set files j ∙ ap (option_map inverted) e) ∙ now-set mark l.is_checked is)

    by_line : (o : Option Line) → at files j ≡ o → wanted (at (after_target files (target (keys.Line j) mark)) j) ≡ true
    by_line None e =
        let marked : wanted (at files j) ≡ true = ap wanted e in
        after-test false (ap (λ (w : Bool). is_key_of files (keys.Line j) && not w) marked ∙ and_right (is_key_of files (keys.Line j)) false refl) marked
    by_line (Some l) e = by_mark l e (is_as mark l.is_checked) refl

module _ (mark : Bool) (j : LineKey) (c : j.commit_idx ≡ 0) where
  pub keeps-all : (ks : List SelectionKey) (files : List File) → list_all is_line ks ≡ true → has_key ks (keys.Line j) ≡ false
      → at (after_deeds files (marking mark ks)) j ≡ at files j
  keeps-all [] files l h = refl
  keeps-all (k ∷ ks) files l h =
      let parts = and_parts (is_line k) (list_all is_line ks) l in
      let others = or_parts (is_key (keys.Line j) k) (has_key ks (keys.Line j)) h in
      keeps-all ks (after_target files (target k mark)) parts.1 others.1 ∙ step-kept files mark k j c parts.0 others.0

  pub sets-all : (ks : List SelectionKey) (files : List File) → list_all is_line ks ≡ true → has_key ks (keys.Line j) ≡ true
      → is_key_as (after_deeds files (marking mark ks)) mark (keys.Line j) ≡ true
  sets-all [] files l h = cc
  sets-all (k ∷ ks) files l h = by_rest (has_key ks (keys.Line j)) refl (λ e. sets-all ks (after_target files (target k mark)) (and_parts (is_line k) (list_all is_line ks) l).1 e)
    where
      rest : list_all is_line ks ≡ true
      rest = (and_parts (is_line k) (list_all is_line ks) l).1

      by_rest : (b : Bool) → has_key ks (keys.Line j) ≡ b
          → (has_key ks (keys.Line j) ≡ true → is_key_as (after_deeds files (marking mark (k ∷ ks))) mark (keys.Line j) ≡ true)
          → is_key_as (after_deeds files (marking mark (k ∷ ks))) mark (keys.Line j) ≡ true
      by_rest true e more = more e
      by_rest false e more =
          let same : keys.Line j ≡ k = key-same (keys.Line j) k (the-first (is_key (keys.Line j) k) (has_key ks (keys.Line j)) h e) in
          let one = subst (λ (x : SelectionKey). is_key_as (after_target files (target x mark)) mark (keys.Line j) ≡ true) same (step-sets files mark j c) in
          ap (λ (o : Option Line). passes_if_there (λ (l : Line). is_as mark l.is_checked) o) (keeps-all ks (after_target files (target k mark)) rest e) ∙ one

-- a range has lines alone
either-all : (b : Bool) (k : SelectionKey) (ks : List SelectionKey) → (b ≡ true → is_line k ≡ true) → list_all is_line ks ≡ true → list_all is_line (cond b (k ∷ ks) ks) ≡ true
either-all true k ks is h = rw (is refl) h
either-all false k ks is h = h

pub all-lines : (a b : SelectionKey) (ks : List SelectionKey) → list_all is_line (filter (is_in_range a b) ks) ≡ true
all-lines a b [] = refl
all-lines a b (k ∷ ks) = either-all (is_in_range a b k) k (filter (is_in_range a b) ks) (λ e. (and_parts (is_line k) (is_between a b k) e).0) (all-lines a b ks)

-- ---- files without a mode section

mode-kept : (line : ℕ) (s : Section) → is_mode_section (with_line_inverted line s) ≡ is_mode_section s
mode-kept line (sections.Unchanged lines) = refl
mode-kept line (sections.Changed lines) = refl
mode-kept line (sections.FileMode is_checked mode) = refl
mode-kept line (sections.Binary is_checked old new) = refl

modes-kept : (line : ℕ) (list : List Section) (section : ℕ) → list_any is_mode_section (modify (with_line_inverted line) list section) ≡ list_any is_mode_section list
modes-kept line [] section = refl
modes-kept line (s ∷ ss) zero = ap (λ (b : Bool). b || list_any is_mode_section ss) (mode-kept line s)
modes-kept line (s ∷ ss) (suc section) = ap (λ (b : Bool). is_mode_section s || b) (modes-kept line ss section)

pub deletion-same : (s : Section) → is_mode_section s ≡ false → with_deletion_unchecked s ≡ s
deletion-same (sections.Unchanged lines) e = refl
deletion-same (sections.Changed lines) e = refl
deletion-same (sections.FileMode is_checked mode) e = cc
deletion-same (sections.Binary is_checked old new) e = refl

pub mode-same : (s : Section) → is_mode_section s ≡ false → with_mode_checked s ≡ s
mode-same (sections.Unchanged lines) e = refl
mode-same (sections.Changed lines) e = refl
mode-same (sections.FileMode is_checked mode) e = cc
mode-same (sections.Binary is_checked old new) e = refl

all-same : (g : Section → Section) → ((s : Section) → is_mode_section s ≡ false → g s ≡ s) → (list : List Section) → list_any is_mode_section list ≡ false → map g list ≡ list
all-same g f [] e = refl
all-same g f (s ∷ ss) e =
    let parts = or_parts (is_mode_section s) (list_any is_mode_section ss) e in
    rw (f s parts.0, all-same g f ss parts.1) refl

either-same : (b : Bool) (list : List Section) → list_any is_mode_section list ≡ false → cond b (map with_mode_checked list) list ≡ list
either-same true list e = all-same with_mode_checked mode-same list e
either-same false list e = refl

nothing-follows : (mode : FileMode) (b : Bool) (list : List Section) → list_any is_mode_section list ≡ false → after_lines mode b list ≡ list
nothing-follows mode false list e = all-same with_deletion_unchecked deletion-same list e
nothing-follows mode true list e = either-same (is_absent mode) list e

pub inverted-alone : (file : File) (section line : ℕ) (b : Bool) → list_any is_mode_section file.sections ≡ false
    → option_and_then (line_mark line) (slice_get file.sections section) ≡ Some b → with_line_toggled section line file ≡ with_line_alone_inverted section line file
inverted-alone file section line b none is =
    ap (λ (mark : Option Bool). with_this_line_toggled file section line mark) is
    ∙ ap (λ (list : List Section). record file { sections = list })
    (nothing-follows file.file_mode (not b) (modify (with_line_inverted line) file.sections section) (modes-kept line file.sections section ∙ none))
