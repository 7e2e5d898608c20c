-- Keys one after the other, and which of them are sections.
use Rattle.std.proofs.Common.{◌≡◌, ℕ, zero, suc, ◌+◌, ◌<◌, true, List, [], ◌∷◌, ◌++◌, length, drop, refl, ap, sym, ◌∙◌, append_assoc, arith}
use Rattle.std.specs.Prelude.{filter}
use Rattle.scm_types.specs.declared.line.SectionChangedLine.{SectionChangedLine}
use Rattle.scm_types.specs.declared.section.Section.{Section}
use Rattle.scm_types.specs.declared.section.Section.TheVariants.{Unchanged, Changed, FileMode, Binary}
use Rattle.scm_types.specs.Marks.{is_editable_section}
use Rattle.scm_types.specs.declared.keys.SelectionKey.{SelectionKey}
use Rattle.scm_selection.specs.KeyLists.{section_key, line_key, line_keys, section_keys, is_section}

-- one more line
pub line_keys-drop : (file section first i : ℕ) (lines : List SectionChangedLine) → i < length lines → line_keys file section first (drop i lines) ≡ line_key file section first ∷ line_keys file section (first + 1) (drop (i + 1) lines)
line_keys-drop file section first i [] h = absurd (omega arith)
line_keys-drop file section first zero (l ∷ ls) h = refl
line_keys-drop file section first (suc i) (l ∷ ls) h =
    let e : suc i + 1 ≡ suc (i + 1) = omega arith in rw e (line_keys-drop file section first i ls (omega arith))

pub line_keys-more : (keys : List SelectionKey) (file section i : ℕ) (lines : List SectionChangedLine) → i < length lines → (keys ++ line_key file section i ∷ []) ++ line_keys file section (i + 1) (drop (i + 1) lines) ≡ keys ++ line_keys file section i (drop i lines)
line_keys-more keys file section i lines h = append_assoc keys _ _ ∙ ap (λ ks. keys ++ ks) (sym (line_keys-drop file section i i lines h))

-- which keys of a section are a section's
no_line_keys : (file section first : ℕ) (lines : List SectionChangedLine) → filter is_section (line_keys file section first lines) ≡ []
no_line_keys file section first [] = refl
no_line_keys file section first (l ∷ ls) = no_line_keys file section (first + 1) ls

pub section_key-alone : (file section : ℕ) (s : Section) → is_editable_section s ≡ true → filter is_section (section_keys file section s) ≡ section_key file section ∷ []
section_key-alone file section (Unchanged lines) h = cc
section_key-alone file section (Changed lines) h = ap (λ ks. section_key file section ∷ ks) (no_line_keys file section 0 lines)
section_key-alone file section (FileMode is_checked mode) h = refl
section_key-alone file section (Binary is_checked old new) h = refl
