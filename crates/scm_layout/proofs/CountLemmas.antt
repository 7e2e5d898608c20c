-- The counts of sections and files, and what a toggle changes of them.
use Rattle.std.proofs.Common.{◌≡◌, ℕ, zero, suc, ◌+◌, ◌<◌, ◌≤◌, Bool, true, false, not, List, [], ◌∷◌, ◌++◌, length, map, drop, get_or, slice_get, Option, Some, None, cond, refl, ap, sym, ◌∙◌, add-one, drop-cons, arith}
use Rattle.std.specs.Prelude.{count_by, sum_by, option_map, option_and_then, if◌then◌else◌}
use Rattle.std.specs.List.{flat_map}
use Rattle.std.proofs.lemmas.List.{drop_all, length-map, length-append}
use Rattle.std.proofs.lemmas.List.Sums.{count_by-le-length, sum_by-append, sum_by-cons}
use Rattle.scm_types.specs.declared.file.File.{File}
use Rattle.scm_types.specs.declared.file_mode.FileMode.{FileMode as Mode}
use Rattle.scm_types.specs.declared.line.SectionChangedLine.{SectionChangedLine}
use Rattle.scm_types.specs.declared.section.Section.{Section}
use Rattle.scm_types.specs.declared.section.Section.TheVariants.{Changed, FileMode, Binary}
use Rattle.scm_types.specs.Edits.{modify}
use Rattle.scm_types.specs.Limits.{file_size, max_items, section_size}
use Rattle.scm_types.specs.Marks.{checked_count, file_marks, is_editable_section, line_with_mark, section_marks}
use Rattle.scm_types.specs.Mode.{is_absent}
use Rattle.scm_types.specs.Repair.{with_deletion_unchecked, with_mode_checked}
use Rattle.scm_types.proofs.EditLemmas.{map-modify-same}
use Rattle.scm_selection.specs.Toggle.{after_lines, line_mark, with_line_alone_inverted, with_line_inverted, with_line_toggled}
use Rattle.scm_rows.specs.Lines.{is_removed, old_lines}
use Rattle.scm_layout.specs.declared.section_counts.SectionCounts.{SectionCounts}
use Rattle.scm_layout.specs.declared.file_counts.FileCounts.{FileCounts}
use Rattle.scm_layout.specs.Counts.{checked_in, editable_after, file_counts, items_in, modes_in, section_counts, sections_counts}
use Rattle.scm_layout.specs.Recounts.{AreCountsButLine, AreCountsButMarks, checked_after_mark, may_follow, recounted, remarked, stepped, total_checked, total_items, with_file_line_counted, with_line_counted, with_sections, zipped}
use Rattle.scm_layout.proofs.BareLemmas.{after_lines-hidden, bare, bare_file, bare_section, editable-same, editables-same, items-bare, items-same, line-hidden, modes-same, old_lines-same, size-bare, sum-mapped, deletion-hidden, mode-hidden}
use Rattle.scm_layout.proofs.ModeLemmas.{after_lines-kept}

-- ---- the items of a section

pub items_of_lines : (lines : List SectionChangedLine) → length (map (λ (l : SectionChangedLine). l.is_checked) lines) ≡ length lines
items_of_lines lines = length-map lines (λ (l : SectionChangedLine). l.is_checked)

pub checked_of_mark : (b : Bool) → (if b then 1 else 0) ≡ checked_count (b ∷ [])
checked_of_mark true = refl
checked_of_mark false = refl

-- ---- the loop that counts the sections of a file

pub at_most_one_more : (b : Bool) (n m : ℕ) → n ≤ m → (if b then n + 1 else n) ≤ m + 1
at_most_one_more true n m h = omega arith
at_most_one_more false n m h = omega arith

pub sections_counts-more : (editable lines i : ℕ) (sections : List Section) (d : Section) → i < length sections
    → sections_counts editable lines (drop i sections)
    ≡ section_counts editable lines (get_or sections i d) ∷ sections_counts (editable_after editable (get_or sections i d)) (lines + old_lines (get_or sections i d)) (drop (i + 1) sections)
unfolding sections_counts
sections_counts-more editable lines i sections d h =
    let more : drop i sections ≡ get_or sections i d ∷ drop (i + 1) sections = rw add-one (drop-cons sections i d h) in
    rw more refl

pub sections_counts-end : (editable lines i : ℕ) (sections : List Section) → length sections ≤ i → sections_counts editable lines (drop i sections) ≡ []
unfolding sections_counts
sections_counts-end editable lines i sections h = rw (drop_all i sections h) refl

pub old_lines-more : (i : ℕ) (sections : List Section) (d : Section) → i < length sections → sum_by old_lines (drop i sections) ≡ old_lines (get_or sections i d) + sum_by old_lines (drop (i + 1) sections)
old_lines-more i sections d h =
    let more : drop i sections ≡ get_or sections i d ∷ drop (i + 1) sections = rw add-one (drop-cons sections i d h) in
    rw more (sum_by-cons old_lines (get_or sections i d) (drop (i + 1) sections))

old_lines-le : (section : Section) → old_lines section ≤ section_size section
old_lines-le (Changed lines) = count_by-le-length is_removed lines
old_lines-le _ = omega arith

pub old_lines-fit : (sections : List Section) → sum_by old_lines sections ≤ sum_by section_size sections
old_lines-fit [] = omega arith
old_lines-fit (s ∷ ss) = omega (arith, sum_by-cons old_lines s ss, sum_by-cons section_size s ss, old_lines-le s, old_lines-fit ss)

-- ---- totals

-- the marks of sections, in order
abbrev marks : List Section → List Bool
marks sections = flat_map section_marks sections

checked-append : (xs ys : List Bool) → checked_count (xs ++ ys) ≡ checked_count xs + checked_count ys
checked-append xs ys = sum_by-append (λ b. cond b 1 0) xs ys

pub total_checked-marks : (editable lines : ℕ) (sections : List Section) → total_checked (sections_counts editable lines sections) ≡ checked_count (marks sections)
unfolding sections_counts
total_checked-marks editable lines [] = refl
total_checked-marks editable lines (s ∷ ss) =
    sum_by-cons (λ (c : SectionCounts). c.checked) (section_counts editable lines s) (sections_counts (editable_after editable s) (lines + old_lines s) ss)
    ∙ ap (λ n. checked_in s + n) (total_checked-marks (editable_after editable s) (lines + old_lines s) ss)
    ∙ sym (checked-append (section_marks s) (marks ss))

pub total_items-marks : (editable lines : ℕ) (sections : List Section) → total_items (sections_counts editable lines sections) ≡ length (marks sections)
unfolding sections_counts
total_items-marks editable lines [] = refl
total_items-marks editable lines (s ∷ ss) =
    sum_by-cons (λ (c : SectionCounts). c.items) (section_counts editable lines s) (sections_counts (editable_after editable s) (lines + old_lines s) ss)
    ∙ ap (λ n. items_in s + n) (total_items-marks (editable_after editable s) (lines + old_lines s) ss)
    ∙ sym (length-append (section_marks s) (marks ss))

items-le : (s : Section) → items_in s ≤ 1 + section_size s
items-le (Changed lines) = omega (arith, items_of_lines lines)
items-le _ = omega arith

marks-le : (ss : List Section) → length (marks ss) ≤ length ss + sum_by section_size ss
marks-le [] = omega arith
marks-le (s ∷ ss) = omega (arith, length-append (section_marks s) (marks ss), sum_by-cons section_size s ss, items-le s, marks-le ss)

-- a file has no more items than sections and lines
pub items-fit : (file : File) → length (file_marks file) ≤ file_size file
items-fit file = marks-le file.sections

pub checked-fit : (file : File) → checked_count (file_marks file) ≤ file_size file
checked-fit file = omega (arith, items-fit file, count_by-le-length (λ b. b) (file_marks file))

pub old_lines-fit_file : (file : File) → sum_by old_lines file.sections ≤ file_size file
old_lines-fit_file file = omega (arith, old_lines-fit file.sections)

-- ---- what files have in common that are the same without their marks

pub head-same : {A B : Type 0} (f : A → B) (x y : A) (xs ys : List A) → map f (x ∷ xs) ≡ map f (y ∷ ys) → f x ≡ f y
head-same f x y xs ys e = cc

pub tail-same : {A B : Type 0} (f : A → B) (x y : A) (xs ys : List A) → map f (x ∷ xs) ≡ map f (y ∷ ys) → map f xs ≡ map f ys
tail-same f x y xs ys e = cc

pub none-same : {A B : Type 0} {C : Type 0} (f : A → B) (x : A) (xs : List A) → map f [] ≡ map f (x ∷ xs) → C
none-same f x xs e = absurd cc

lengths-bare : (ss : List Section) → length (marks (bare ss)) ≡ length (marks ss)
lengths-bare [] = refl
lengths-bare (s ∷ ss) =
    length-append (section_marks (bare_section s)) (marks (bare ss))
    ∙ ap (λ n. n + length (marks (bare ss))) (items-bare s)
    ∙ ap (λ n. items_in s + n) (lengths-bare ss)
    ∙ sym (length-append (section_marks s) (marks ss))

lengths-same : (ss ts : List Section) → bare ss ≡ bare ts → length (marks ss) ≡ length (marks ts)
lengths-same ss ts e = sym (lengths-bare ss) ∙ ap (λ us. length (marks us)) e ∙ lengths-bare ts

-- the sections of files that are the same without their marks
pub sections-same : (f g : File) → bare_file f ≡ bare_file g → bare f.sections ≡ bare g.sections
sections-same f g e = ap (λ (h : File). h.sections) e

pub file_length-same : (f g : File) → bare_file f ≡ bare_file g → length f.sections ≡ length g.sections
file_length-same f g e = sym (length-map f.sections bare_section) ∙ ap (λ (h : File). length h.sections) e ∙ length-map g.sections bare_section

pub file_size-bare : (f : File) → file_size (bare_file f) ≡ file_size f
file_size-bare f =
    ap (λ n. n + sum_by section_size (bare f.sections)) (length-map f.sections bare_section)
    ∙ ap (λ n. length f.sections + n) (sum-mapped section_size bare_section size-bare f.sections)

pub file_size-same : (f g : File) → bare_file f ≡ bare_file g → file_size f ≡ file_size g
file_size-same f g e = sym (file_size-bare f) ∙ ap (λ (h : File). file_size h) e ∙ file_size-bare g

pub length-sections_counts : (editable lines : ℕ) (ss : List Section) → length (sections_counts editable lines ss) ≡ length ss
unfolding sections_counts
length-sections_counts editable lines [] = refl
length-sections_counts editable lines (s ∷ ss) = ap suc (length-sections_counts (editable_after editable s) (lines + old_lines s) ss)

-- ---- counts of sections after their marks changed

-- the counts of a section by their numbers
abbrev counts_with : ℕ → ℕ → ℕ → ℕ → SectionCounts
counts_with items checked editable lines = record { items = items; checked = checked; editable_before = editable; lines_before = lines }

-- the counts of the sections after one, where they are the same without its marks
after-same : (editable lines : ℕ) (s t : Section) (rest : List Section) → bare_section s ≡ bare_section t
    → sections_counts (editable_after editable s) (lines + old_lines s) rest ≡ sections_counts (editable_after editable t) (lines + old_lines t) rest
after-same editable lines s t rest e =
    ap (λ b. sections_counts (if b then editable + 1 else editable) (lines + old_lines s) rest) (editable-same s t e)
    ∙ ap (λ n. sections_counts (editable_after editable t) (lines + n) rest) (old_lines-same s t e)

zipped-recounted : (editable lines : ℕ) (ss ts : List Section) → bare ss ≡ bare ts → zipped recounted (sections_counts editable lines ss) ts ≡ sections_counts editable lines ts
unfolding sections_counts
zipped-recounted editable lines [] [] e = refl
zipped-recounted editable lines [] (t ∷ ts) e = none-same bare_section t ts e
zipped-recounted editable lines (s ∷ ss) [] e = none-same bare_section s ss (sym e)
zipped-recounted editable lines (s ∷ ss) (t ∷ ts) e =
    let head = head-same bare_section s t ss ts e in
    let tail = tail-same bare_section s t ss ts e in
    ap (λ n. counts_with n (checked_in t) editable lines ∷ zipped recounted (sections_counts (editable_after editable s) (lines + old_lines s) ss) ts) (items-same s t head)
    ∙ ap (λ cs. section_counts editable lines t ∷ zipped recounted cs ts) (after-same editable lines s t ss head)
    ∙ ap (λ cs. section_counts editable lines t ∷ cs) (zipped-recounted (editable_after editable t) (lines + old_lines t) ss ts tail)

-- the counts of a file by their numbers
abbrev file_with : ℕ → ℕ → ℕ → ℕ → List SectionCounts → FileCounts
file_with editable modes items checked sections = record { editable = editable; modes = modes; items = items; checked = checked; sections = sections }

-- the counts of a file whose sections were counted to `cs` after its marks changed
counted-same : (f g : File) (cs : List SectionCounts) → bare_file f ≡ bare_file g → cs ≡ sections_counts 0 0 g.sections → with_sections cs (file_counts f) ≡ file_counts g
counted-same f g cs e counted =
    let same = sections-same f g e in
    ap (λ ds. file_with (count_by is_editable_section f.sections) (modes_in f.sections) (length (marks f.sections)) (total_checked ds) ds) counted
    ∙ ap (λ n. file_with n (modes_in f.sections) (length (marks f.sections)) (total_checked (sections_counts 0 0 g.sections)) (sections_counts 0 0 g.sections)) (editables-same f.sections g.sections same)
    ∙ ap (λ n. file_with (count_by is_editable_section g.sections) n (length (marks f.sections)) (total_checked (sections_counts 0 0 g.sections)) (sections_counts 0 0 g.sections)) (modes-same f.sections g.sections same)
    ∙ ap (λ n. file_with (count_by is_editable_section g.sections) (modes_in g.sections) n (total_checked (sections_counts 0 0 g.sections)) (sections_counts 0 0 g.sections)) (lengths-same f.sections g.sections same)
    ∙ ap (λ n. file_with (count_by is_editable_section g.sections) (modes_in g.sections) (length (marks g.sections)) n (sections_counts 0 0 g.sections)) (total_checked-marks 0 0 g.sections)

-- sections counted to those of a file have no more checked items than the file may have
total-fits : (g : File) (cs : List SectionCounts) → cs ≡ sections_counts 0 0 g.sections → file_size g ≤ max_items → total_checked cs ≤ max_items
total-fits g cs counted fits =
    let total : total_checked cs ≡ checked_count (file_marks g) = ap (λ ds. total_checked ds) counted ∙ total_checked-marks 0 0 g.sections in
    omega (arith, checked-fit g)

-- ---- a file counted anew

module _ (c : FileCounts) (g : File) (h : AreCountsButMarks c g) where
  recounted-sections : zipped recounted c.sections g.sections ≡ sections_counts 0 0 g.sections
  recounted-sections =
      ap (λ (d : FileCounts). zipped recounted d.sections g.sections) h.counts
      ∙ zipped-recounted 0 0 h.before.sections g.sections (sections-same h.before g h.same)

  pub recount-is : with_sections (zipped recounted c.sections g.sections) c ≡ file_counts g
  recount-is =
      ap (λ (d : FileCounts). with_sections (zipped recounted c.sections g.sections) d) h.counts
      ∙ counted-same h.before g (zipped recounted c.sections g.sections) h.same recounted-sections

  pub recount-lengths : length c.sections ≡ length g.sections
  recount-lengths =
      ap (λ (d : FileCounts). length d.sections) h.counts
      ∙ length-sections_counts 0 0 h.before.sections
      ∙ file_length-same h.before g h.same

  pub recount-fits : total_checked (zipped recounted c.sections g.sections) ≤ max_items
  recount-fits =
      let size : file_size h.before ≡ file_size g = file_size-same h.before g h.same in
      let fits : file_size h.before ≤ max_items = h.fits in
      total-fits g (zipped recounted c.sections g.sections) recounted-sections (omega arith)

-- ---- a line that was checked or unchecked

-- one more if `checked`, else one less
abbrev Steps : Bool → ℕ → ℕ → Type 0
Steps true n m = m ≡ n + 1
Steps false n m = n ≡ m + 1

steps-below : (checked : Bool) (a n m : ℕ) → Steps checked n m → Steps checked (a + n) (a + m)
steps-below true a n m h = omega arith
steps-below false a n m h = omega arith

steps-above : (checked : Bool) (a n m : ℕ) → Steps checked n m → Steps checked (n + a) (m + a)
steps-above true a n m h = omega arith
steps-above false a n m h = omega arith

steps-by : (checked : Bool) (n n' m m' : ℕ) → n ≡ n' → m ≡ m' → Steps checked n' m' → Steps checked n m
steps-by true n n' m m' e f h = omega arith
steps-by false n n' m m' e f h = omega arith

stepped-is : (checked : Bool) (n m : ℕ) → Steps checked n m → m ≡ stepped checked n
stepped-is true n m h = h
stepped-is false n m h = omega arith

steps-mark : (checked b : Bool) (n : ℕ) → b ≡ not checked → Steps checked (cond b 1 0 + n) (cond (not b) 1 0 + n)
steps-mark true false n h = omega arith
steps-mark false true n h = omega arith
steps-mark _ _ n h = absurd cc

-- the marks of changed lines
abbrev line_marks : List SectionChangedLine → List Bool
line_marks lines = map (λ (l : SectionChangedLine). l.is_checked) lines

count-cons : (b : Bool) (bs : List Bool) → checked_count (b ∷ bs) ≡ cond b 1 0 + checked_count bs
count-cons b bs = sum_by-cons (λ x. cond x 1 0) b bs

-- the mark at the line
first_mark : (b c : Bool) → Some b ≡ Some c → b ≡ c
first_mark b c e = cc

no_mark : {C : Type 0} (c : Bool) → ◌≡◌ {A = Option Bool} None (Some c) → C
no_mark c e = absurd cc

lines-step : (checked : Bool) (lines : List SectionChangedLine) (line : ℕ) → option_map (λ (l : SectionChangedLine). l.is_checked) (slice_get lines line) ≡ Some (not checked)
    → Steps checked (checked_count (line_marks lines)) (checked_count (line_marks (modify (line_with_mark not) lines line)))
lines-step checked [] line h = no_mark (not checked) h
lines-step checked (l ∷ ls) zero h =
    steps-by checked _ _ _ _ (count-cons l.is_checked (line_marks ls)) (count-cons (not l.is_checked) (line_marks ls))
    (steps-mark checked l.is_checked (checked_count (line_marks ls)) (first_mark l.is_checked (not checked) h))
lines-step checked (l ∷ ls) (suc line) h =
    steps-by checked _ _ _ _ (count-cons l.is_checked (line_marks ls)) (count-cons l.is_checked (line_marks (modify (line_with_mark not) ls line)))
    (steps-below checked (cond l.is_checked 1 0) _ _ (lines-step checked ls line h))

section-step : (checked : Bool) (s : Section) (line : ℕ) → line_mark line s ≡ Some (not checked) → Steps checked (checked_in s) (checked_in (with_line_inverted line s))
section-step checked (Changed lines) line h = lines-step checked lines line h
section-step checked _ line h = no_mark (not checked) h

-- the mark of a line of a file's sections
abbrev mark_at : ℕ → ℕ → List Section → Option Bool
mark_at section line ss = option_and_then (line_mark line) (slice_get ss section)

sections-step : (checked : Bool) (ss : List Section) (section line : ℕ) → mark_at section line ss ≡ Some (not checked)
    → Steps checked (checked_count (marks ss)) (checked_count (marks (modify (with_line_inverted line) ss section)))
sections-step checked [] section line h = no_mark (not checked) h
sections-step checked (s ∷ ss) zero line h =
    steps-by checked _ _ _ _ (checked-append (section_marks s) (marks ss)) (checked-append (section_marks (with_line_inverted line s)) (marks ss))
    (steps-above checked (checked_count (marks ss)) _ _ (section-step checked s line h))
sections-step checked (s ∷ ss) (suc section) line h =
    steps-by checked _ _ _ _ (checked-append (section_marks s) (marks ss)) (checked-append (section_marks s) (marks (modify (with_line_inverted line) ss section)))
    (steps-below checked (checked_in s) _ _ (sections-step checked ss section line h))

sections-line : (checked : Bool) (editable lines : ℕ) (ss : List Section) (section line : ℕ) → mark_at section line ss ≡ Some (not checked)
    → sections_counts editable lines (modify (with_line_inverted line) ss section) ≡ modify (with_line_counted checked) (sections_counts editable lines ss) section
unfolding sections_counts
sections-line checked editable lines [] section line h = refl
sections-line checked editable lines (s ∷ ss) zero line h =
    let same = line-hidden line s in
    let t = with_line_inverted line s in
    ap (λ n. counts_with n (checked_in t) editable lines ∷ sections_counts (editable_after editable t) (lines + old_lines t) ss) (items-same t s same)
    ∙ ap (λ n. counts_with (items_in s) n editable lines ∷ sections_counts (editable_after editable t) (lines + old_lines t) ss) (stepped-is checked (checked_in s) (checked_in t) (section-step checked s line h))
    ∙ ap (λ cs. counts_with (items_in s) (stepped checked (checked_in s)) editable lines ∷ cs) (after-same editable lines t s ss same)
sections-line checked editable lines (s ∷ ss) (suc section) line h =
    ap (λ cs. section_counts editable lines s ∷ cs) (sections-line checked (editable_after editable s) (lines + old_lines s) ss section line h)

this_line-hidden : (section line : ℕ) (ss : List Section) → bare (modify (with_line_inverted line) ss section) ≡ bare ss
this_line-hidden section line ss = map-modify-same bare_section (with_line_inverted line) ss section (line-hidden line)

line-counted : (checked : Bool) (section line : ℕ) (f : File) → mark_at section line f.sections ≡ Some (not checked)
    → with_file_line_counted checked section (file_counts f) ≡ file_counts (with_line_alone_inverted section line f)
line-counted checked section line f h =
    let ss = f.sections in
    let ts = modify (with_line_inverted line) ss section in
    let same : bare ss ≡ bare ts = sym (this_line-hidden section line ss) in
    let made = modify (with_line_counted checked) (sections_counts 0 0 ss) section in
    ap (λ n. file_with n (modes_in ss) (length (marks ss)) (stepped checked (checked_count (marks ss))) made) (editables-same ss ts same)
    ∙ ap (λ n. file_with (count_by is_editable_section ts) n (length (marks ss)) (stepped checked (checked_count (marks ss))) made) (modes-same ss ts same)
    ∙ ap (λ n. file_with (count_by is_editable_section ts) (modes_in ts) n (stepped checked (checked_count (marks ss))) made) (lengths-same ss ts same)
    ∙ ap (λ n. file_with (count_by is_editable_section ts) (modes_in ts) (length (marks ts)) n made) (sym (stepped-is checked (checked_count (marks ss)) (checked_count (marks ts)) (sections-step checked ss section line h)))
    ∙ ap (λ cs. file_with (count_by is_editable_section ts) (modes_in ts) (length (marks ts)) (checked_count (marks ts)) cs) (sym (sections-line checked 0 0 ss section line h))

-- ---- the marks that follow

zipped-remarked : (change : Section → Section) → ((s : Section) → bare_section (change s) ≡ bare_section s) → ((s : Section) → checked_after_mark (checked_in s) (change s) ≡ checked_in (change s))
    → (editable lines : ℕ) (ss : List Section) → zipped remarked (sections_counts editable lines ss) (map change ss) ≡ sections_counts editable lines (map change ss)
unfolding sections_counts
zipped-remarked change hidden marked editable lines [] = refl
zipped-remarked change hidden marked editable lines (s ∷ ss) =
    let t = change s in
    let rest = zipped remarked (sections_counts (editable_after editable s) (lines + old_lines s) ss) (map change ss) in
    ap (λ n. counts_with n (checked_after_mark (checked_in s) t) editable lines ∷ rest) (sym (items-same t s (hidden s)))
    ∙ ap (λ n. counts_with (items_in t) n editable lines ∷ rest) (marked s)
    ∙ ap (λ cs. section_counts editable lines t ∷ cs) (zipped-remarked change hidden marked (editable_after editable s) (lines + old_lines s) ss)
    ∙ ap (λ cs. section_counts editable lines t ∷ cs) (sym (after-same editable lines t s (map change ss) (hidden s)))

unchanged-marked : (s : Section) → checked_after_mark (checked_in s) s ≡ checked_in s
unchanged-marked (FileMode is_checked mode) = checked_of_mark is_checked
unchanged-marked (Binary is_checked old new) = checked_of_mark is_checked
unchanged-marked _ = refl

remarked-same : (editable lines : ℕ) (ss : List Section) → zipped remarked (sections_counts editable lines ss) ss ≡ sections_counts editable lines ss
unfolding sections_counts
remarked-same editable lines [] = refl
remarked-same editable lines (s ∷ ss) =
    ap (λ n. counts_with (items_in s) n editable lines ∷ zipped remarked (sections_counts (editable_after editable s) (lines + old_lines s) ss) ss) (unchanged-marked s)
    ∙ ap (λ cs. section_counts editable lines s ∷ cs) (remarked-same (editable_after editable s) (lines + old_lines s) ss)

deletion-marked : (s : Section) → checked_after_mark (checked_in s) (with_deletion_unchecked s) ≡ checked_in (with_deletion_unchecked s)
deletion-marked (FileMode is_checked mode) = checked_of_mark (if is_absent mode then false else is_checked)
deletion-marked (Binary is_checked old new) = checked_of_mark is_checked
deletion-marked _ = refl

mode-marked : (s : Section) → checked_after_mark (checked_in s) (with_mode_checked s) ≡ checked_in (with_mode_checked s)
mode-marked (FileMode is_checked mode) = checked_of_mark true
mode-marked (Binary is_checked old new) = checked_of_mark is_checked
mode-marked _ = refl

creation-remarked : (is_new : Bool) (ss : List Section) → zipped remarked (sections_counts 0 0 ss) (if is_new then map with_mode_checked ss else ss) ≡ sections_counts 0 0 (if is_new then map with_mode_checked ss else ss)
creation-remarked true ss = zipped-remarked with_mode_checked mode-hidden mode-marked 0 0 ss
creation-remarked false ss = remarked-same 0 0 ss

after_lines-remarked : (mode : Mode) (checked : Bool) (ss : List Section) → zipped remarked (sections_counts 0 0 ss) (after_lines mode checked ss) ≡ sections_counts 0 0 (after_lines mode checked ss)
after_lines-remarked mode false ss = zipped-remarked with_deletion_unchecked deletion-hidden deletion-marked 0 0 ss
after_lines-remarked mode true ss = creation-remarked (is_absent mode) ss

-- the file after the marks that follow from a line
abbrev followed : Bool → File → File
followed checked f = record f { sections = after_lines f.file_mode checked f.sections }

followed-hidden : (checked : Bool) (f : File) → bare_file f ≡ bare_file (followed checked f)
followed-hidden checked f = ap (λ (ss : List Section). record f { sections = ss }) (sym (after_lines-hidden f.file_mode checked f.sections))

follow-is : (checked : Bool) (f : File) (may : Bool) → may_follow (file_counts f) f checked ≡ may
    → (if may then with_sections (zipped remarked (sections_counts 0 0 f.sections) (followed checked f).sections) (file_counts f) else file_counts f) ≡ file_counts (followed checked f)
follow-is checked f true e =
    counted-same f (followed checked f) (zipped remarked (sections_counts 0 0 f.sections) (followed checked f).sections) (followed-hidden checked f) (after_lines-remarked f.file_mode checked f.sections)
follow-is checked f false e = ap (λ (ss : List Section). file_counts (record f { sections = ss })) (sym (after_lines-kept f.file_mode checked f.sections e))

-- ---- a file counted after a line was toggled

toggled-line : (section line : ℕ) (f : File) (checked : Bool) → mark_at section line f.sections ≡ Some (not checked)
    → with_line_toggled section line f ≡ followed checked (with_line_alone_inverted section line f)
toggled-line section line f true h = rw h refl
toggled-line section line f false h = rw h refl

module _ (c : FileCounts) (g : File) (section : ℕ) (checked : Bool) (h : AreCountsButLine c g section checked) where
  -- the file with the line inverted, without the marks that follow
  abbrev between : File
  between = with_line_alone_inverted section h.line h.before

  after-is : g ≡ followed checked between
  after-is = h.after ∙ toggled-line section h.line h.before checked h.mark

  between-same : bare_file h.before ≡ bare_file between
  between-same = ap (λ (ss : List Section). record h.before { sections = ss }) (sym (this_line-hidden section h.line h.before.sections))

  pub line-counts : with_file_line_counted checked section c ≡ file_counts between
  line-counts = ap (λ (d : FileCounts). with_file_line_counted checked section d) h.counts ∙ line-counted checked section h.line h.before h.mark

  pub line-checked : c.checked ≤ max_items
  line-checked =
      let fits : file_size h.before ≤ max_items = h.fits in
      let counts : c.checked ≡ checked_count (file_marks h.before) = ap (λ (d : FileCounts). d.checked) h.counts in
      omega (arith, checked-fit h.before)

  pub line-total : total_checked c.sections ≤ max_items
  line-total = total-fits h.before c.sections (ap (λ (d : FileCounts). d.sections) h.counts) h.fits

  -- the counts after the line, without the marks that follow
  module _ (d : FileCounts) (e : d ≡ with_file_line_counted checked section c) where
    counts-between : d ≡ file_counts between
    counts-between = e ∙ line-counts

    pub follow-lengths : length d.sections ≡ length g.sections
    follow-lengths =
        ap (λ (b : FileCounts). length b.sections) counts-between
        ∙ length-sections_counts 0 0 between.sections
        ∙ file_length-same between (followed checked between) (followed-hidden checked between)
        ∙ ap (λ (b : File). length b.sections) (sym after-is)

    follow-sections : zipped remarked d.sections g.sections ≡ sections_counts 0 0 g.sections
    follow-sections =
        ap (λ (b : FileCounts). zipped remarked b.sections g.sections) counts-between
        ∙ ap (λ (b : File). zipped remarked (sections_counts 0 0 between.sections) b.sections) after-is
        ∙ after_lines-remarked between.file_mode checked between.sections
        ∙ ap (λ (b : File). sections_counts 0 0 b.sections) (sym after-is)

    pub follow-fits : total_checked (zipped remarked d.sections g.sections) ≤ max_items
    follow-fits =
        let fits : file_size h.before ≤ max_items = h.fits in
        let first : file_size h.before ≡ file_size between = file_size-same h.before between between-same in
        let second : file_size between ≡ file_size (followed checked between) = file_size-same between (followed checked between) (followed-hidden checked between) in
        let third : file_size g ≡ file_size (followed checked between) = ap (λ (b : File). file_size b) after-is in
        total-fits g (zipped remarked d.sections g.sections) follow-sections (omega arith)

    pub follow-counts : (if may_follow d g checked then with_sections (zipped remarked d.sections g.sections) d else d) ≡ file_counts g
    follow-counts =
        ap (λ (b : FileCounts). if may_follow b g checked then with_sections (zipped remarked b.sections g.sections) b else b) counts-between
        ∙ ap (λ (b : File). if may_follow (file_counts between) b checked then with_sections (zipped remarked (sections_counts 0 0 between.sections) b.sections) (file_counts between) else file_counts between) after-is
        ∙ follow-is checked between (may_follow (file_counts between) between checked) refl
        ∙ ap (λ (b : File). file_counts b) (sym after-is)
