-- A file without a change of the mode: no mark follows from a line of it.
use Rattle.std.proofs.Common.{◌≡◌, ℕ, zero, suc, ◌+◌, ◌&&◌, ◌||◌, Bool, true, false, not, List, [], ◌∷◌, map, slice_get, Option, Some, None, cond, refl, ap, sym, ◌∙◌, arith}
use Rattle.std.specs.Prelude.{◌==◌, option_map, option_and_then, if◌then◌else◌}
use Rattle.std.proofs.lemmas.Bool.Decides.{nat_tests}
use Rattle.std.proofs.lemmas.List.Sums.{sum_by-cons}
use Rattle.scm_types.specs.declared.file.File.{File}
use Rattle.scm_types.specs.declared.file_mode.FileMode.{FileMode as Mode}
use Rattle.scm_types.specs.declared.line.SectionChangedLine.{SectionChangedLine}
use Rattle.scm_types.specs.declared.section.Section.{Section}
use Rattle.scm_types.specs.declared.section.Section.TheVariants.{Changed, FileMode}
use Rattle.scm_types.specs.Edits.{modify}
use Rattle.scm_types.specs.Marks.{line_with_mark}
use Rattle.scm_types.specs.Mode.{is_absent}
use Rattle.scm_types.specs.Repair.{with_deletion_unchecked, with_mode_checked}
use Rattle.scm_types.proofs.EditLemmas.{map-modify-same}
use Rattle.scm_selection.specs.Toggle.{after_lines, line_mark, with_line_alone_inverted, with_line_inverted, with_line_toggled, with_this_line_toggled}
use Rattle.scm_layout.specs.Counts.{is_mode, modes_in}
use Rattle.scm_layout.specs.Recounts.{files_counts, has_modes_at}
use Rattle.scm_layout.proofs.BareLemmas.{bare_section, line-hidden, modes-same}

-- ---- nothing follows

deletion-kept : (s : Section) → is_mode s ≡ false → with_deletion_unchecked s ≡ s
deletion-kept (FileMode is_checked mode) h = absurd (cc h)
deletion-kept _ h = refl

mode-kept : (s : Section) → is_mode s ≡ false → with_mode_checked s ≡ s
mode-kept (FileMode is_checked mode) h = absurd (cc h)
mode-kept _ h = refl

none-counted : (b : Bool) → ◌≡◌ {A = ℕ} (cond b 1 0) 0 → b ≡ false
none-counted true h = absurd (omega arith)
none-counted false h = refl

-- a change of modes alone changes nothing where there are none
sections-kept : (change : Section → Section) → ((s : Section) → is_mode s ≡ false → change s ≡ s) → (ss : List Section) → modes_in ss ≡ 0 → map change ss ≡ ss
sections-kept change same [] h = refl
sections-kept change same (s ∷ ss) h =
    let both : ◌≡◌ {A = ℕ} (cond (is_mode s) 1 0 + modes_in ss) 0 = sym (sum_by-cons (λ u. cond (is_mode u) 1 0) s ss) ∙ h in
    let first : ◌≡◌ {A = ℕ} (cond (is_mode s) 1 0) 0 = omega arith in
    let others : modes_in ss ≡ 0 = omega arith in
    ap (λ t. t ∷ map change ss) (same s (none-counted (is_mode s) first)) ∙ ap (λ ts. s ∷ ts) (sections-kept change same ss others)

creation-without : (is_new : Bool) (ss : List Section) → modes_in ss ≡ 0 → (if is_new then map with_mode_checked ss else ss) ≡ ss
creation-without true ss h = sections-kept with_mode_checked mode-kept ss h
creation-without false ss h = refl

-- without a change of the mode nothing follows
after_lines-without : (mode : Mode) (checked : Bool) (ss : List Section) → modes_in ss ≡ 0 → after_lines mode checked ss ≡ ss
after_lines-without mode false ss h = sections-kept with_deletion_unchecked deletion-kept ss h
after_lines-without mode true ss h = creation-without (is_absent mode) ss h

creation-none : (is_new : Bool) (ss : List Section) → is_new ≡ false → (if is_new then map with_mode_checked ss else ss) ≡ ss
creation-none true ss h = absurd (cc h)
creation-none false ss h = refl

-- a line that is checked in a file that is not new leaves the other marks
after_lines-none : (mode : Mode) (checked : Bool) (ss : List Section) → (not checked || is_absent mode) ≡ false → after_lines mode checked ss ≡ ss
after_lines-none mode false ss h = absurd (cc h)
after_lines-none mode true ss h = creation-none (is_absent mode) ss h

no-modes : (n : ℕ) → not (n == 0) ≡ false → n ≡ 0
no-modes n h = grind (arith, nat_tests)

-- where nothing may follow, nothing does
pub after_lines-kept : (mode : Mode) (checked : Bool) (ss : List Section) → (not (modes_in ss == 0) && (not checked || is_absent mode)) ≡ false → after_lines mode checked ss ≡ ss
after_lines-kept mode checked ss h = go (not (modes_in ss == 0)) refl h
  where
    go : (has : Bool) → not (modes_in ss == 0) ≡ has → (has && (not checked || is_absent mode)) ≡ false → after_lines mode checked ss ≡ ss
    go true e k = after_lines-none mode checked ss k
    go false e k = after_lines-without mode checked ss (no-modes (modes_in ss) e)

-- ---- a line that is not there

no-some : {A C : Type 0} (x : A) → ◌≡◌ {A = Option A} (Some x) None → C
no-some x e = absurd cc

lines-missing : (lines : List SectionChangedLine) (line : ℕ) → option_map (λ (l : SectionChangedLine). l.is_checked) (slice_get lines line) ≡ None → modify (line_with_mark not) lines line ≡ lines
lines-missing [] line e = refl
lines-missing (l ∷ ls) zero e = no-some l.is_checked e
lines-missing (l ∷ ls) (suc line) e = ap (λ ms. l ∷ ms) (lines-missing ls line e)

section-missing : (s : Section) (line : ℕ) → line_mark line s ≡ None → with_line_inverted line s ≡ s
section-missing (Changed lines) line e = ap Changed (lines-missing lines line e)
section-missing _ line e = refl

sections-missing : (ss : List Section) (section line : ℕ) → option_and_then (line_mark line) (slice_get ss section) ≡ None → modify (with_line_inverted line) ss section ≡ ss
sections-missing [] section line e = refl
sections-missing (s ∷ ss) zero line e = ap (λ t. t ∷ ss) (section-missing s line e)
sections-missing (s ∷ ss) (suc section) line e = ap (λ ts. s ∷ ts) (sections-missing ss section line e)

-- ---- a toggle of a line inverts it alone

modes-inverted : (section line : ℕ) (ss : List Section) → modes_in (modify (with_line_inverted line) ss section) ≡ modes_in ss
modes-inverted section line ss =
    modes-same (modify (with_line_inverted line) ss section) ss (map-modify-same bare_section (with_line_inverted line) ss section (line-hidden line))

file-alone : (section line : ℕ) (f : File) → modes_in f.sections ≡ 0 → with_line_alone_inverted section line f ≡ with_line_toggled section line f
file-alone section line f h = go (option_and_then (line_mark line) (slice_get f.sections section)) refl
  where
    go : (mark : Option Bool) → option_and_then (line_mark line) (slice_get f.sections section) ≡ mark → with_line_alone_inverted section line f ≡ with_this_line_toggled f section line mark
    go None e = ap (λ (ss : List Section). record f { sections = ss }) (sections-missing f.sections section line e)
    go (Some checked) e =
        ap (λ (ss : List Section). record f { sections = ss })
        (sym (after_lines-without f.file_mode (not checked) (modify (with_line_inverted line) f.sections section) (modes-inverted section line f.sections ∙ h)))

-- the files after a line was inverted alone, if its file is counted without a change of the mode
pub line-alone : (files : List File) (i section line : ℕ) → has_modes_at (files_counts files) i ≡ false
    → modify (with_line_alone_inverted section line) files i ≡ modify (with_line_toggled section line) files i
line-alone [] i section line h = refl
line-alone (f ∷ fs) zero section line h = ap (λ g. g ∷ fs) (file-alone section line f (no-modes (modes_in f.sections) h))
line-alone (f ∷ fs) (suc i) section line h = ap (λ gs. f ∷ gs) (line-alone fs i section line h)
