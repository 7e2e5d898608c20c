-- The lines of a state, kept as a flag, while the rest of a session changes: toggles change no key, and folds of files and sections
-- change no line.
use Rattle.std.proofs.Common.{◌≡◌, ℕ, ◌+◌, Bool, true, false, List, [], ◌∷◌, ◌++◌, refl, sym, ap, ap₂, ◌∙◌}
use Rattle.std.specs.Prelude.{filter, map, if◌then◌else◌}
use Rattle.scm_types.specs.declared.keys.SelectionKey.{SelectionKey}
use Rattle.scm_types.specs.declared.keys.SelectionKey.TheVariants as keys
use Rattle.scm_types.specs.declared.file.File.{File}
use Rattle.scm_types.specs.declared.line.SectionChangedLine.{SectionChangedLine}
use Rattle.scm_types.specs.declared.section.Section.{Section}
use Rattle.scm_types.specs.declared.section.Section.TheVariants.{Unchanged, Changed, FileMode, Binary}
use Rattle.scm_types.specs.declared.state.RecordState.{RecordState}
use Rattle.scm_types.specs.Keys.{file_of_line, file_of_section, section_of_line}
use Rattle.scm_types.specs.Limits.{state_size}
use Rattle.scm_types.specs.Marks.{file_with_marks, line_with_mark, section_with_marks}
use Rattle.scm_layout.specs.Layouts.{layout_of}
use Rattle.scm_selection.specs.KeyLists.{all_keys, file_key, files_keys, is_line, line_key, line_keys, section_key, section_keys, sections_keys}
use Rattle.scm_selection.specs.KeySet.{key_set, with_key}
use Rattle.scm_selection.specs.Toggle.{with_all_inverted, with_all_set, with_key_toggled}
use Rattle.scm_view.specs.ViewState.{ViewState}
use Rattle.scm_view_state.specs.LineKeys.{with_lines}
use Rattle.scm_view_state.proofs.LineSetLemmas.{with-with}
use Rattle.scm_record.specs.declared.session.ActiveSession.TheInside.{Inside}
use Rattle.scm_record.specs.Session.{Session, with_files_changed, with_keys_above}
use Rattle.scm_record.specs.SessionView.{HasLayout, session_of, with_expanded}
use Rattle.scm_layout.proofs.BareLemmas.{all_set-hidden, inverted-hidden, toggle-hidden}

-- ---- toggles

lines-bare : (file section first : ℕ) (ms : List SectionChangedLine) → line_keys file section first (map (line_with_mark (λ _. false)) ms) ≡ line_keys file section first ms
lines-bare file section first [] = refl
lines-bare file section first (m ∷ ms) = ap (λ l. line_key file section first ∷ l) (lines-bare file section (first + 1) ms)

section-bare : (file section : ℕ) (x : Section) → section_keys file section (section_with_marks (λ _. false) x) ≡ section_keys file section x
section-bare file section (Unchanged lines) = refl
section-bare file section (Changed lines) = ap (λ l. section_key file section ∷ l) (lines-bare file section 0 lines)
section-bare file section (FileMode is_checked mode) = refl
section-bare file section (Binary is_checked old new) = refl

sections-bare : (file section : ℕ) (xs : List Section) → sections_keys file section (map (section_with_marks (λ _. false)) xs) ≡ sections_keys file section xs
sections-bare file section [] = refl
sections-bare file section (x ∷ xs) = ap₂ (λ (a b : List SelectionKey). a ++ b) (section-bare file section x) (sections-bare file (section + 1) xs)

files-bare : (file : ℕ) (fs : List File) → files_keys file (map (file_with_marks (λ _. false)) fs) ≡ files_keys file fs
files-bare file [] = refl
files-bare file (f ∷ fs) = ap₂ (λ (a b : List SelectionKey). (file_key file ∷ a) ++ b) (sections-bare file 0 f.sections) (files-bare (file + 1) fs)

-- files that differ in marks alone have the same keys
same-keys : (fs gs : List File) → map (file_with_marks (λ _. false)) fs ≡ map (file_with_marks (λ _. false)) gs → all_keys fs ≡ all_keys gs
same-keys fs gs e = sym (files-bare 0 fs) ∙ ap (files_keys 0) e ∙ files-bare 0 gs

toggled-keys : (key : SelectionKey) (fs : List File) → all_keys (with_key_toggled key fs) ≡ all_keys fs
toggled-keys key fs = same-keys (with_key_toggled key fs) fs (toggle-hidden key fs)

inverted-keys : (fs : List File) → all_keys (with_all_inverted fs) ≡ all_keys fs
inverted-keys fs = same-keys (with_all_inverted fs) fs (inverted-hidden fs)

set-keys : (fs : List File) → all_keys (with_all_set fs) ≡ all_keys fs
set-keys fs = same-keys (with_all_set fs) fs (all_set-hidden fs)

module _ (all : Bool) (e : List SelectionKey) where
  kept-lines : (fs gs : List File) → all_keys gs ≡ all_keys fs → with_lines all gs e ≡ with_lines all fs e
  kept-lines fs gs same = go all
    where
      go : (b : Bool) → with_lines b gs e ≡ with_lines b fs e
      go true = ap (λ (ks : List SelectionKey). e ++ key_set (filter is_line ks)) same
      go false = refl

  pub toggled-lines : (key : SelectionKey) (fs : List File) → with_lines all (with_key_toggled key fs) e ≡ with_lines all fs e
  toggled-lines key fs = kept-lines fs (with_key_toggled key fs) (toggled-keys key fs)

  pub inverted-lines : (fs : List File) → with_lines all (with_all_inverted fs) e ≡ with_lines all fs e
  inverted-lines fs = kept-lines fs (with_all_inverted fs) (inverted-keys fs)

  pub set-lines : (fs : List File) → with_lines all (with_all_set fs) e ≡ with_lines all fs e
  set-lines fs = kept-lines fs (with_all_set fs) (set-keys fs)

-- the layout after marks changed
pub marked-layout : (old new : Inside) → HasLayout old → new.view_state.expanded ≡ old.view_state.expanded
    → ((e : List SelectionKey) → old.layout ≡ layout_of old.view_state.state e → new.layout ≡ layout_of new.view_state.state e)
    → new.layout.rows ≡ old.layout.rows → state_size new.view_state.state ≡ state_size old.view_state.state → new.frame_rows ≡ old.frame_rows → HasLayout new
marked-layout old new has same follows rows size shared = record {
  layout = follows old.view_state.expanded has.layout ∙ ap (layout_of new.view_state.state) (sym same);
  shared = rw (shared, rows) has.shared;
  size = rw size has.size;
}

-- the session after the files changed
pub marked-session : {before now : Session} → before ≡ now → (change : Session → List File → List File) (state : RecordState) (expanded : List SelectionKey)
    → before.shown.state.is_read_only ≡ false → state ≡ record before.shown.state { files = change before before.shown.state.files } → expanded ≡ before.shown.expanded
    → ◌≡◌ {A = Session} (record before { shown = record before.shown { state = state; expanded = expanded } }) (with_files_changed (change now) now)
marked-session {before} same change state expanded free is kept =
    let made : RecordState → List SelectionKey → Session = λ x ks. record before { shown = record before.shown { state = x; expanded = ks } } in
    let last : Session = made (record before.shown.state { files = change before before.shown.state.files }) before.shown.expanded in
    ap₂ made is kept ∙ sym (ap (λ (b : Bool). if b then before else last) free) ∙ ap (λ (s : Session). with_files_changed (change s) s) same

-- ---- folds of files and sections

pub above-with : (all : Bool) (fs : List File) (e : List SelectionKey) (key : SelectionKey) → with_keys_above (with_lines all fs e) key ≡ with_lines all fs (with_keys_above e key)
above-with all fs e keys.None = refl
above-with all fs e (keys.File key) = refl
above-with all fs e (keys.Section key) = with-with fs e all (keys.File (file_of_section key)) refl
above-with all fs e (keys.Line key) =
    ap (λ (ks : List SelectionKey). with_key ks (keys.Section (section_of_line key))) (with-with fs e all (keys.File (file_of_line key)) refl)
    ∙ with-with fs (with_key e (keys.File (file_of_line key))) all (keys.Section (section_of_line key)) refl

-- the session with other expanded keys
pub expanded-session : (r : Inside) (now : Session) (shown : ViewState) (made want : List SelectionKey) → session_of r ≡ now → shown ≡ r.view_state → made ≡ want
    → ◌≡◌ {A = Session} (with_expanded (session_of (record r { view_state = shown })) made) (with_expanded now want)
expanded-session r now shown made want is opened same =
    ap (λ (v : ViewState). with_expanded (session_of (record r { view_state = v })) made) opened
    ∙ ap₂ (λ (s : Session) (ks : List SelectionKey). with_expanded s ks) is same
