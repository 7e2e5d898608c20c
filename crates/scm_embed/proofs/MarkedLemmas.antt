-- Marks that are handed in, and what they leave of a state.
use Rattle.std.proofs.Common.{◌≡◌, ◌≢◌, ℕ, zero, suc, ◌+◌, ◌<◌, ◌≤◌, Bool, true, false, cond, IsTrue, List, [], ◌∷◌, ◌++◌, length, map, take, drop, refl, sym, ap, ap₂, ◌∙◌, subst, Option, Some, None, arith}
use Rattle.std.specs.Prelude.{nat_eq, option_map, slice_get}
use Rattle.std.specs.List.{flat_map}
use Rattle.std.proofs.lemmas.List.{length-append, length-drop, length-map, take-append-drop, map-append}
use Rattle.std.proofs.lemmas.Bool.Decides.{nat_tests}
use Rattle.scm_types.specs.declared.file.File.{File}
use Rattle.scm_types.specs.declared.line.SectionChangedLine.{SectionChangedLine}
use Rattle.scm_types.specs.declared.section.Section.{Section}
use Rattle.scm_types.specs.declared.section.Section.TheVariants as sections
use Rattle.scm_types.specs.declared.state.RecordState.{RecordState}
use Rattle.scm_types.specs.Edits.{modify}
use Rattle.scm_types.specs.Marks.{file_marks, file_with_marks, line_with_mark, section_marks, section_with_marks}
use Rattle.scm_types.proofs.EditLemmas.{map-modify-same, slice_get-modify, slice_get-modify-other}
use Rattle.scm_embed.specs.Marked.{HasMarks, after_marks, first_mark, fits_file, fits_marks, is_one, marked_file, marked_line, marked_lines, marked_section, marked_sections, marked_state, without_marks}

-- ---- the marks of what is marked

fits-less : (a b n : ℕ) → a + b ≡ n → a ≤ n
fits-less a b n e = omega arith

lines-marked : (bytes : List ℕ) (lines : List SectionChangedLine) → length lines ≤ length bytes
    → map (λ (l : SectionChangedLine). l.is_checked) (marked_lines bytes lines) ≡ map is_one (take (length lines) bytes)
lines-marked bytes [] le = refl
lines-marked [] (line ∷ lines) le = absurd (omega arith)
lines-marked (byte ∷ bytes) (line ∷ lines) le = ap (λ l. is_one byte ∷ l) (lines-marked bytes lines (omega arith))

one-marked : (bytes : List ℕ) → 1 ≤ length bytes → first_mark bytes ∷ [] ≡ map is_one (take 1 bytes)
one-marked [] le = absurd (omega arith)
one-marked (byte ∷ bytes) le = refl

section-marked : (bytes : List ℕ) (s : Section) → length (section_marks s) ≤ length bytes
    → section_marks (marked_section bytes s) ≡ map is_one (take (length (section_marks s)) bytes)
section-marked bytes (sections.Unchanged lines) le = refl
section-marked bytes (sections.Changed lines) le =
    let long : length (map (λ (l : SectionChangedLine). l.is_checked) lines) ≡ length lines = length-map lines (λ (l : SectionChangedLine). l.is_checked) in
    lines-marked bytes lines (subst (λ (n : ℕ). n ≤ length bytes) long le) ∙ ap (λ n. map is_one (take n bytes)) (sym long)
section-marked bytes (sections.FileMode is_checked mode) le = one-marked bytes le
section-marked bytes (sections.Binary is_checked old new) le = one-marked bytes le

sections-marked : (ss : List Section) (bytes : List ℕ) → length (flat_map section_marks ss) ≡ length bytes
    → flat_map section_marks (marked_sections bytes ss) ≡ map is_one bytes
sections-marked [] [] e = refl
sections-marked [] (byte ∷ bytes) e = absurd (omega arith)
sections-marked (s ∷ ss) bytes e =
    let n : ℕ = length (section_marks s) in
    let both : n + length (flat_map section_marks ss) ≡ length bytes = sym (length-append (section_marks s) (flat_map section_marks ss)) ∙ e in
    let left : length (drop n bytes) ≡ length (flat_map section_marks ss) = omega (arith, length-drop n bytes) in
    ap₂ (λ (a b : List Bool). a ++ b) (section-marked bytes s (fits-less _ _ _ both)) (sections-marked ss (drop n bytes) (sym left))
    ∙ sym (map-append is_one (take n bytes) (drop n bytes)) ∙ ap (map is_one) (take-append-drop n bytes)

-- ---- what is not a mark

lines-same : (bytes : List ℕ) (lines : List SectionChangedLine) → map (line_with_mark (λ _. false)) (marked_lines bytes lines) ≡ map (line_with_mark (λ _. false)) lines
lines-same bytes [] = refl
lines-same bytes (line ∷ lines) = ap (λ l. line_with_mark (λ _. false) line ∷ l) (lines-same (drop 1 bytes) lines)

section-same : (bytes : List ℕ) (s : Section) → section_with_marks (λ _. false) (marked_section bytes s) ≡ section_with_marks (λ _. false) s
section-same bytes (sections.Unchanged lines) = refl
section-same bytes (sections.Changed lines) = ap sections.Changed (lines-same bytes lines)
section-same bytes (sections.FileMode is_checked mode) = refl
section-same bytes (sections.Binary is_checked old new) = refl

sections-same : (bytes : List ℕ) (ss : List Section) → map (section_with_marks (λ _. false)) (marked_sections bytes ss) ≡ map (section_with_marks (λ _. false)) ss
sections-same bytes [] = refl
sections-same bytes (s ∷ ss) = ap₂ (λ a b. a ∷ b) (section-same bytes s) (sections-same (drop (length (section_marks s)) bytes) ss)

pub file-same : (bytes : List ℕ) (file : File) → file_with_marks (λ _. false) (marked_file bytes file) ≡ file_with_marks (λ _. false) file
file-same bytes file = ap (λ (list : List Section). record file { sections = list }) (sections-same bytes file.sections)

-- ---- the state

tells : (a b : ℕ) → nat_eq a b ≡ true → a ≡ b
tells a b e = grind (arith, nat_tests)

file-handed_in : (bytes : List ℕ) (o : Option File) → fits_file bytes o ≡ true → option_map file_marks (option_map (marked_file bytes) o) ≡ Some (map is_one bytes)
file-handed_in bytes None e = cc
file-handed_in bytes (Some file) e = ap Some (sections-marked file.sections bytes (tells _ _ e))

marked : (i : ℕ) (bytes : List ℕ) (state : RecordState) → fits_marks i bytes state ≡ true → HasMarks i bytes state (marked_state i bytes state)
marked i bytes state e = record {
  handed_in = ap (option_map file_marks) (slice_get-modify (marked_file bytes) state.files i) ∙ file-handed_in bytes (slice_get state.files i) e;
  others = λ j other. slice_get-modify-other (marked_file bytes) state.files i j other;
  rest = ap (λ (list : List File). record state { files = list }) (map-modify-same (file_with_marks (λ _. false)) (marked_file bytes) state.files i (file-same bytes));
}

pub set_if_fit : (i : ℕ) (bytes : List ℕ) (state : RecordState) → IsTrue (fits_marks i bytes state) → HasMarks i bytes state (after_marks i bytes state)
set_if_fit i bytes state e = subst (λ (b : Bool). HasMarks i bytes state (cond b (marked_state i bytes state) state)) (sym e) (marked i bytes state e)

pub kept_if_not : (i : ℕ) (bytes : List ℕ) (state : RecordState) → fits_marks i bytes state ≡ false → after_marks i bytes state ≡ state
kept_if_not i bytes state e = ap (λ (b : Bool). cond b (marked_state i bytes state) state) e
