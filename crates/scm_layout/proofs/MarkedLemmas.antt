-- How much of a state is marked, by the counts of its sections and files.
use Rattle.std.proofs.Common.{◌≡◌, ℕ, zero, suc, ◌+◌, ◌-◌, ◌<◌, ◌≤◌, ◌^◌, ◌==◌, min, nat_lt, Bool, true, false, not, List, [], ◌∷◌, length, map, get_or, slice_get, Option, Some, None, cond, refl, ap, ap₂, sym, ◌∙◌, arith}
use Rattle.std.specs.Prelude.{count_by, sum_by, option_map, option_and_then, if◌then◌else◌}
use mathlib.Core.Bool.{not-not}
use Rattle.std.proofs.lemmas.Bool.Decides.{nat_tests}
use Rattle.std.proofs.lemmas.List.Sums.{sum_by-cons}
use Rattle.scm_types.specs.declared.file.File.{File}
use Rattle.scm_types.specs.declared.file_mode.FileMode.{FileMode as Mode}
use Rattle.scm_types.specs.declared.keys.LineKey.{LineKey}
use Rattle.scm_types.specs.declared.line.SectionChangedLine.{SectionChangedLine}
use Rattle.scm_types.specs.declared.section.Section.{Section}
use Rattle.scm_types.specs.declared.section.Section.TheVariants.{Unchanged, Changed, FileMode, Binary}
use Rattle.scm_types.specs.declared.tristate.Tristate.TheVariants as tristates
use Rattle.scm_types.specs.Edits.{modify}
use Rattle.scm_types.specs.Limits.{file_size, max_items}
use Rattle.scm_types.specs.Marks.{checked_count, file_marks, line_with_mark}
use Rattle.scm_types.specs.Mode.{is_absent}
use Rattle.scm_types.specs.Repair.{with_deletion_unchecked, with_mode_checked}
use Rattle.scm_types.proofs.LimitLemmas.{items_room}
use Rattle.scm_selection.specs.Counts.{is_changed, is_changed_by}
use Rattle.scm_selection.specs.Toggle.{after_lines, line_mark, with_line_inverted, with_line_toggled, with_this_line_toggled}
use Rattle.scm_rows.specs.Lines.{old_lines}
use Rattle.scm_layout.specs.declared.section_counts.SectionCounts.{SectionCounts}
use Rattle.scm_layout.specs.declared.file_counts.FileCounts.{FileCounts}
use Rattle.scm_layout.specs.declared.marked.Share.{Share}
use Rattle.scm_layout.specs.declared.state_counts.StateCounts.{StateCounts}
use Rattle.scm_layout.specs.Counts.{checked_in, counts_of, editable_after, file_counts, section_counts, sections_counts}
use Rattle.scm_layout.specs.Marked.{changed_files, changed_in_file, checked_in_file, checked_in_section, checked_lines, part_at}
use Rattle.scm_layout.specs.Recounts.{AreStateCountsButFile, AreStateCountsButLine, exchanged, files_counts, share_at, total_checked}
use Rattle.scm_layout.proofs.BareLemmas.{bare_file, file_line-hidden, sum-mapped}
use Rattle.scm_layout.proofs.CountLemmas.{checked-fit, file_size-bare, file_size-same, total_checked-marks}

-- the checked items of a section with changed lines are its checked lines
pub checked-lines : (lines : List SectionChangedLine) → checked_in (Changed lines) ≡ count_by (λ (l : SectionChangedLine). l.is_checked) lines
checked-lines [] = refl
checked-lines (line ∷ lines) =
    sum_by-cons (λ (b : Bool). cond b 1 0) line.is_checked (map (λ (l : SectionChangedLine). l.is_checked) lines)
    ∙ ap (λ (n : ℕ). cond line.is_checked 1 0 + n) (checked-lines lines)
    ∙ sym (sum_by-cons (λ (l : SectionChangedLine). cond l.is_checked 1 0) line lines)

-- no section has more checked lines than checked items
few-in-section : (s : Section) → checked_in_section s ≤ checked_in s
few-in-section (Unchanged lines) = omega arith
few-in-section (Changed lines) = omega (arith, checked-lines lines)
few-in-section (FileMode is_checked mode) = omega arith
few-in-section (Binary is_checked old new) = omega arith

few-in-sections : (editable lines : ℕ) (ss : List Section) → sum_by checked_in_section ss ≤ total_checked (sections_counts editable lines ss)
unfolding sections_counts
few-in-sections editable lines [] = omega arith
few-in-sections editable lines (s ∷ ss) =
    let counts = sections_counts (editable_after editable s) (lines + old_lines s) ss in
    omega
    (arith, sum_by-cons checked_in_section s ss, sum_by-cons (λ (c : SectionCounts). c.checked) (section_counts editable lines s) counts, few-in-section s, few-in-sections (editable_after editable s) (lines + old_lines s) ss)

-- where no item is checked, no line is
pub none-checked : (f : File) → checked_count (file_marks f) ≡ 0 → checked_in_file f ≡ 0
none-checked f e = omega (arith, few-in-sections 0 0 f.sections, total_checked-marks 0 0 f.sections, e)

-- the count of a section is that of its checked items
pub checked-at : (editable lines i : ℕ) (ss : List Section) (d : Section) (c : SectionCounts) → i < length ss
    → (get_or (sections_counts editable lines ss) i c).checked ≡ checked_in (get_or ss i d)
unfolding sections_counts
checked-at editable lines i [] d c h = absurd (omega arith)
checked-at editable lines zero (s ∷ ss) d c h = refl
checked-at editable lines (suc i) (s ∷ ss) d c h = checked-at (editable_after editable s) (lines + old_lines s) i ss d c (omega arith)

-- ---- files that are not wholly unchecked

none-left : (n : ℕ) → (n == 0) ≡ true → nat_lt 0 n ≡ false
none-left n e = grind (arith, nat_tests)

some-left : (n : ℕ) → (n == 0) ≡ false → nat_lt 0 n ≡ true
some-left n e = grind (arith, nat_tests)

-- a file is not wholly unchecked if an item of it is checked
pub changed-is : (f : File) → nat_lt 0 (checked_count (file_marks f)) ≡ is_changed f
changed-is f = go (checked == 0) (checked == length (file_marks f)) refl
  where
    checked : ℕ
    checked = checked_count (file_marks f)

    go : (none all : Bool) → (checked == 0) ≡ none
        → nat_lt 0 checked ≡ is_changed_by (if none then tristates.False else if all then tristates.True else tristates.Partial)
    go true all e = none-left checked e
    go false true e = some-left checked e
    go false false e = some-left checked e

pub changed-counted : (fs : List File) → count_by (λ (c : FileCounts). nat_lt 0 c.checked) (files_counts fs) ≡ changed_files fs
changed-counted [] = refl
changed-counted (f ∷ fs) =
    sum_by-cons (λ (c : FileCounts). cond (nat_lt 0 c.checked) 1 0) (file_counts f) (files_counts fs)
    ∙ ap₂ (λ (b : Bool) (n : ℕ). cond b 1 0 + n) (changed-is f) (changed-counted fs)
    ∙ sym (sum_by-cons (λ (g : File). cond (is_changed g) 1 0) f fs)

-- ---- totals are within the limit of a state

lines-fit : (f : File) → checked_in_file f ≤ file_size f
lines-fit f = omega (arith, few-in-sections 0 0 f.sections, total_checked-marks 0 0 f.sections, checked-fit f)

one-if : (b : Bool) (n : ℕ) → nat_lt 0 n ≡ b → (if b then 1 else 0) ≤ n
one-if true zero e = absurd (cc e)
one-if true (suc n) e = omega arith
one-if false n e = omega arith

changed-fit : (f : File) → changed_in_file f ≤ file_size f
changed-fit f = omega (arith, one-if (is_changed f) (checked_count (file_marks f)) (changed-is f), checked-fit f)

sums-fit : (n : File → ℕ) → ((f : File) → n f ≤ file_size f) → (fs : List File) → sum_by n fs ≤ sum_by file_size fs
sums-fit n h [] = omega arith
sums-fit n h (f ∷ fs) = omega (arith, sum_by-cons n f fs, sum_by-cons file_size f fs, h f, sums-fit n h fs)

part-fits : (n : File → ℕ) (fs : List File) (i : ℕ) → part_at n fs i ≤ sum_by n fs
part-fits n [] i = omega arith
part-fits n (f ∷ fs) zero = omega (arith, sum_by-cons n f fs)
part-fits n (f ∷ fs) (suc i) = omega (arith, sum_by-cons n f fs, part-fits n fs i)

exact : (n : ℕ) → n ≤ max_items → min n (2 ^ 64 - 1) ≡ n
exact n h = omega (arith, items_room)

pub lines-exact : (fs : List File) → sum_by file_size fs ≤ max_items → min (checked_lines fs) (2 ^ 64 - 1) ≡ checked_lines fs
lines-exact fs h = exact (checked_lines fs) (omega (arith, sums-fit checked_in_file lines-fit fs))

pub part-exact : (fs : List File) (i : ℕ) → sum_by file_size fs ≤ max_items → min (part_at checked_in_file fs i) (2 ^ 64 - 1) ≡ part_at checked_in_file fs i
part-exact fs i h = exact (part_at checked_in_file fs i) (omega (arith, part-fits checked_in_file fs i, sums-fit checked_in_file lines-fit fs))

-- ---- what one file adds

pub lines_at-is : (fs : List File) (i : ℕ) (f : File) → i < length fs → f ≡ get_or fs i f → checked_in_file f ≡ part_at checked_in_file fs i
lines_at-is [] i f h e = absurd (omega arith)
lines_at-is (g ∷ gs) zero f h e = ap checked_in_file e
lines_at-is (g ∷ gs) (suc i) f h e = lines_at-is gs i f (omega arith) e

pub changed_at-is : (fs : List File) (i : ℕ) (c d : FileCounts) → i < length fs → c ≡ get_or (files_counts fs) i d
    → (if nat_lt 0 c.checked then 1 else 0) ≡ part_at changed_in_file fs i
changed_at-is [] i c d h e = absurd (omega arith)
changed_at-is (g ∷ gs) zero c d h e =
    ap (λ (n : FileCounts). if nat_lt 0 n.checked then 1 else 0) e ∙ ap (λ b. if b then 1 else 0) (changed-is g)
changed_at-is (g ∷ gs) (suc i) c d h e = changed_at-is gs i c d (omega arith) e

pub part-past : (n : File → ℕ) (fs : List File) (i : ℕ) → length fs ≤ i → part_at n fs i ≡ 0
part-past n [] i h = refl
part-past n (f ∷ fs) zero h = absurd (omega arith)
part-past n (f ∷ fs) (suc i) h = part-past n fs i (omega arith)

-- a share by its numbers
abbrev share_with : ℕ → ℕ → Share
share_with lines changed = record { lines = lines; changed = changed }

pub shares-are : (lines changed : ℕ) (fs : List File) (i : ℕ) → lines ≡ part_at checked_in_file fs i → changed ≡ part_at changed_in_file fs i → share_with lines changed ≡ share_at fs i
shares-are lines changed fs i e f = ap (λ n. share_with n changed) e ∙ ap (λ n. share_with (part_at checked_in_file fs i) n) f

-- a sum after one file changed
part-changed : (n : File → ℕ) (change : File → File) (fs : List File) (i : ℕ)
    → sum_by n (modify change fs i) + part_at n fs i ≡ sum_by n fs + part_at n (modify change fs i) i
part-changed n change [] i = refl
part-changed n change (f ∷ fs) zero = omega (arith, sum_by-cons n f fs, sum_by-cons n (change f) fs)
part-changed n change (f ∷ fs) (suc i) = omega (arith, sum_by-cons n f fs, sum_by-cons n f (modify change fs i), part-changed n change fs i)

-- ---- a line that was checked or unchecked

-- 1 if `b`, else 0
abbrev one : Bool → ℕ
one b = cond b 1 0

first_mark : (b c : Bool) → Some b ≡ Some c → b ≡ c
first_mark b c e = cc

no_mark : {C : Type 0} (c : Bool) → ◌≡◌ {A = Option Bool} None (Some c) → C
no_mark c e = absurd cc

-- whether a line is checked
abbrev marked : SectionChangedLine → ℕ
marked l = cond l.is_checked 1 0

lines-after : (was : Bool) (ls : List SectionChangedLine) (line : ℕ) → option_map (λ (l : SectionChangedLine). l.is_checked) (slice_get ls line) ≡ Some was
    → sum_by marked (modify (line_with_mark not) ls line) + one was ≡ sum_by marked ls + one (not was)
lines-after was [] line h = no_mark was h
lines-after was (l ∷ ls) zero h =
    let e : l.is_checked ≡ was = first_mark l.is_checked was h in
    omega (arith, sum_by-cons marked l ls, sum_by-cons marked (line_with_mark not l) ls, ap one e, ap (λ b. one (not b)) e)
lines-after was (l ∷ ls) (suc line) h =
    omega (arith, sum_by-cons marked l ls, sum_by-cons marked l (modify (line_with_mark not) ls line), lines-after was ls line h)

section-after : (was : Bool) (s : Section) (line : ℕ) → line_mark line s ≡ Some was
    → checked_in_section (with_line_inverted line s) + one was ≡ checked_in_section s + one (not was)
section-after was (Changed lines) line h = lines-after was lines line h
section-after was _ line h = no_mark was h

sections-after : (was : Bool) (ss : List Section) (section line : ℕ) → option_and_then (line_mark line) (slice_get ss section) ≡ Some was
    → sum_by checked_in_section (modify (with_line_inverted line) ss section) + one was ≡ sum_by checked_in_section ss + one (not was)
sections-after was [] section line h = no_mark was h
sections-after was (s ∷ ss) zero line h =
    omega (arith, sum_by-cons checked_in_section s ss, sum_by-cons checked_in_section (with_line_inverted line s) ss, section-after was s line h)
sections-after was (s ∷ ss) (suc section) line h =
    omega (arith, sum_by-cons checked_in_section s ss, sum_by-cons checked_in_section s (modify (with_line_inverted line) ss section), sections-after was ss section line h)

deletion-lines : (s : Section) → checked_in_section (with_deletion_unchecked s) ≡ checked_in_section s
deletion-lines (Changed lines) = refl
deletion-lines _ = refl

mode-lines : (s : Section) → checked_in_section (with_mode_checked s) ≡ checked_in_section s
mode-lines (Changed lines) = refl
mode-lines _ = refl

creation-lines : (is_new : Bool) (ss : List Section) → sum_by checked_in_section (if is_new then map with_mode_checked ss else ss) ≡ sum_by checked_in_section ss
creation-lines true ss = sum-mapped checked_in_section with_mode_checked mode-lines ss
creation-lines false ss = refl

-- the marks that follow from a line are of no line
followed-lines : (mode : Mode) (checked : Bool) (ss : List Section) → sum_by checked_in_section (after_lines mode checked ss) ≡ sum_by checked_in_section ss
followed-lines mode false ss = sum-mapped checked_in_section with_deletion_unchecked deletion-lines ss
followed-lines mode true ss = creation-lines (is_absent mode) ss

file-after : (was : Bool) (f : File) (section line : ℕ) → option_and_then (line_mark line) (slice_get f.sections section) ≡ Some was
    → checked_in_file (with_line_toggled section line f) + one was ≡ checked_in_file f + one (not was)
file-after was f section line h =
    let set = modify (with_line_inverted line) f.sections section in
    let toggled : checked_in_file (with_line_toggled section line f) ≡ sum_by checked_in_section set =
    ap (λ (m : Option Bool). checked_in_file (with_this_line_toggled f section line m)) h ∙ followed-lines f.file_mode (not was) set in
    omega (arith, sections-after was f.sections section line h)

files-after : (was : Bool) (fs : List File) (i section line : ℕ)
    → option_and_then (λ (f : File). option_and_then (line_mark line) (slice_get f.sections section)) (slice_get fs i) ≡ Some was
    → checked_lines (modify (with_line_toggled section line) fs i) + one was ≡ checked_lines fs + one (not was)
files-after was [] i section line h = no_mark was h
files-after was (f ∷ fs) zero section line h =
    omega (arith, sum_by-cons checked_in_file f fs, sum_by-cons checked_in_file (with_line_toggled section line f) fs, file-after was f section line h)
files-after was (f ∷ fs) (suc i) section line h =
    omega (arith, sum_by-cons checked_in_file f fs, sum_by-cons checked_in_file f (modify (with_line_toggled section line) fs i), files-after was fs i section line h)

-- the line was among the checked ones, if it was checked
had-line : (was : Bool) (n m : ℕ) → n + one was ≡ m + one (not was) → one was ≤ m
had-line true n m h = omega arith
had-line false n m h = omega arith

-- ---- one file changed its marks

sum-modified : (n : File → ℕ) (change : File → File) → ((f : File) → n (change f) ≡ n f) → (fs : List File) (i : ℕ) → sum_by n (modify change fs i) ≡ sum_by n fs
sum-modified n change same [] i = refl
sum-modified n change same (f ∷ fs) zero = omega (arith, sum_by-cons n f fs, sum_by-cons n (change f) fs, same f)
sum-modified n change same (f ∷ fs) (suc i) = omega (arith, sum_by-cons n f fs, sum_by-cons n f (modify change fs i), sum-modified n change same fs i)

-- files have the same size after marks of one changed
pub modified-fit : (change : File → File) (before files : List File) (i : ℕ) → files ≡ modify change before i → ((f : File) → bare_file (change f) ≡ bare_file f)
    → sum_by file_size before ≤ max_items → sum_by file_size files ≤ max_items
modified-fit change before files i after same fits =
    let sizes : sum_by file_size files ≡ sum_by file_size before =
    ap (λ (fs : List File). sum_by file_size fs) after ∙ sum-modified file_size change (λ f. file_size-same (change f) f (same f)) before i in
    omega arith

-- files have the same size after marks of all changed
pub all-fit : (before files : List File) → map bare_file before ≡ map bare_file files → sum_by file_size before ≤ max_items → sum_by file_size files ≤ max_items
all-fit before files same fits =
    let sizes : sum_by file_size files ≡ sum_by file_size before =
    sym (sum-mapped file_size bare_file file_size-bare files) ∙ ap (λ (fs : List File). sum_by file_size fs) (sym same) ∙ sum-mapped file_size bare_file file_size-bare before in
    omega arith

-- a total `t` of numbers `n`, of which a file had `b` and has `a`
module _ (n : File → ℕ) (change : File → File) (before files : List File) (i t b a : ℕ) (after : files ≡ modify change before i) (total : t ≡ sum_by n before) (was : b ≡ part_at n before i) (now : a ≡ part_at n files i) where
  had : b ≤ t
  had = omega (arith, part-fits n before i)

  total-after : t - b + a ≡ sum_by n files
  total-after =
      let step : sum_by n files + part_at n before i ≡ sum_by n before + part_at n files i = rw after (part-changed n change before i) in
      omega (arith, had)

  total-room : ((f : File) → n f ≤ file_size f) → sum_by file_size files ≤ max_items → t - b + a < 2 ^ 64
  total-room small fits = omega (arith, items_room, total-after, sums-fit n small files)

-- the counts of a state by their numbers
abbrev state_with : List FileCounts → ℕ → ℕ → StateCounts
state_with files lines changed = record { files = files; checked_lines = lines; changed_files = changed }

pub counts-are : (counts : List FileCounts) (lines changed : ℕ) (files : List File) → counts ≡ files_counts files → lines ≡ checked_lines files → changed ≡ changed_files files
    → state_with counts lines changed ≡ counts_of files
counts-are counts lines changed files e f g =
    ap (λ cs. state_with cs lines changed) e
    ∙ ap (λ n. state_with (files_counts files) n changed) f
    ∙ ap (λ n. state_with (files_counts files) (checked_lines files) n) g

-- the totals after marks of file i changed, which added `share` before
module _ (c : StateCounts) (files : List File) (i : ℕ) (share : Share) (h : AreStateCountsButFile c files i share) where
  lines-total : c.checked_lines ≡ checked_lines h.before
  lines-total = ap (λ (d : StateCounts). d.checked_lines) h.is_counted

  changed-total : c.changed_files ≡ changed_files h.before
  changed-total = ap (λ (d : StateCounts). d.changed_files) h.is_counted

  lines-share : share.lines ≡ part_at checked_in_file h.before i
  lines-share = ap (λ (s : Share). s.lines) h.share_is

  changed-share : share.changed ≡ part_at changed_in_file h.before i
  changed-share = ap (λ (s : Share). s.changed) h.share_is

  pub file-fits : sum_by file_size files ≤ max_items
  file-fits = modified-fit h.change h.before files i h.after h.same h.fits

  pub file-had_lines : share.lines ≤ c.checked_lines
  file-had_lines = omega (arith, lines-total, lines-share, part-fits checked_in_file h.before i)

  pub file-had_changed : share.changed ≤ c.changed_files
  file-had_changed = omega (arith, changed-total, changed-share, part-fits changed_in_file h.before i)

  module _ (now : Share) (e : now ≡ share_at files i) where
    lines-now : now.lines ≡ part_at checked_in_file files i
    lines-now = ap (λ (s : Share). s.lines) e

    changed-now : now.changed ≡ part_at changed_in_file files i
    changed-now = ap (λ (s : Share). s.changed) e

    pub file-lines_room : c.checked_lines - share.lines + now.lines < 2 ^ 64
    file-lines_room =
        total-room checked_in_file h.change h.before files i c.checked_lines share.lines now.lines h.after lines-total lines-share lines-now lines-fit file-fits

    pub file-changed_room : c.changed_files - share.changed + now.changed < 2 ^ 64
    file-changed_room =
        total-room changed_in_file h.change h.before files i c.changed_files share.changed now.changed h.after changed-total changed-share changed-now changed-fit file-fits

    pub file-totals : (counts : List FileCounts) → counts ≡ files_counts files → exchanged (record c { files = counts }) share now ≡ counts_of files
    file-totals counts counted =
        counts-are counts (c.checked_lines - share.lines + now.lines) (c.changed_files - share.changed + now.changed) files counted
        (total-after checked_in_file h.change h.before files i c.checked_lines share.lines now.lines h.after lines-total lines-share lines-now)
        (total-after changed_in_file h.change h.before files i c.changed_files share.changed now.changed h.after changed-total changed-share changed-now)

-- the totals after a line was set to `checked`; its file added `changed` before
module _ (c : StateCounts) (files : List File) (key : LineKey) (checked : Bool) (changed : ℕ) (h : AreStateCountsButLine c files key checked changed) where
  line-total : c.checked_lines ≡ checked_lines h.before
  line-total = ap (λ (d : StateCounts). d.checked_lines) h.is_counted

  line-changed_total : c.changed_files ≡ changed_files h.before
  line-changed_total = ap (λ (d : StateCounts). d.changed_files) h.is_counted

  abbrev change : File → File
  change = with_line_toggled key.section_idx key.line_idx

  line-fits : sum_by file_size files ≤ max_items
  line-fits = modified-fit change h.before files key.file_idx h.after (file_line-hidden key.section_idx key.line_idx) h.fits

  line-after : checked_lines files + one (not checked) ≡ checked_lines h.before + one checked
  line-after =
      let made : checked_lines files + one (not checked) ≡ checked_lines h.before + one (not (not checked)) =
      rw h.after (files-after (not checked) h.before key.file_idx key.section_idx key.line_idx h.mark) in
      made ∙ ap (λ b. checked_lines h.before + one b) (not-not checked)

  pub line-had : one (not checked) ≤ c.checked_lines
  line-had =
      omega
      (arith, line-total, had-line (not checked) (checked_lines files) (checked_lines h.before) (line-after ∙ ap (λ b. checked_lines h.before + one b) (sym (not-not checked))))

  line-lines : c.checked_lines - one (not checked) + one checked ≡ checked_lines files
  line-lines = omega (arith, line-total, line-had, line-after)

  pub line-room : c.checked_lines - one (not checked) + one checked < 2 ^ 64
  line-room = omega (arith, items_room, line-lines, line-fits, sums-fit checked_in_file lines-fit files)

  pub line-had_changed : changed ≤ c.changed_files
  line-had_changed = omega (arith, line-changed_total, h.changed_is, part-fits changed_in_file h.before key.file_idx)

  module _ (now : ℕ) (e : now ≡ part_at changed_in_file files key.file_idx) where
    pub line-changed_room : c.changed_files - changed + now < 2 ^ 64
    line-changed_room =
        total-room changed_in_file change h.before files key.file_idx c.changed_files changed now h.after line-changed_total h.changed_is e changed-fit line-fits

    pub line-totals : (counts : List FileCounts) → counts ≡ files_counts files
        → state_with counts (c.checked_lines - one (not checked) + one checked) (c.changed_files - changed + now) ≡ counts_of files
    line-totals counts counted =
        counts-are counts (c.checked_lines - one (not checked) + one checked) (c.changed_files - changed + now) files counted line-lines
        (total-after changed_in_file change h.before files key.file_idx c.changed_files changed now h.after line-changed_total h.changed_is e)
