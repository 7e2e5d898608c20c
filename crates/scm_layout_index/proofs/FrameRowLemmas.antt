-- A fold changes the sections of one file, or of none.
use Rattle.std.proofs.Common.{◌≡◌, ℕ, zero, suc, ◌+◌, ◌&&◌, Bool, true, false, List, [], ◌∷◌, length, map, refl, ap, sym, ◌∙◌, arith, nat_eq, Option, Some, None}
use Rattle.std.specs.Prelude.{IfSome, slice_get}
use Rattle.std.proofs.lemmas.Bool.Decides.{nat_tests}
use Rattle.scm_types.specs.declared.file.File.{File}
use Rattle.scm_types.specs.declared.keys.FileKey.{FileKey}
use Rattle.scm_types.specs.declared.keys.SelectionKey.{SelectionKey}
use Rattle.scm_types.specs.declared.keys.SelectionKey.TheVariants as keys
use Rattle.scm_types.specs.declared.section.Section.{Section}
use Rattle.scm_types.specs.declared.state.RecordState.{RecordState}
use Rattle.scm_types.specs.Keys.{has_key, is_key, section_key_of}
use Rattle.scm_layout.specs.declared.file_rows.FileRows.{FileRows}
use Rattle.scm_layout.specs.declared.state_rows.StateRows.{StateRows}
use Rattle.scm_layout.specs.declared.state_layout.Layout.{Layout}
use Rattle.scm_layout.specs.Layouts.{files_top, layout_of}
use Rattle.scm_layout.specs.Rows.{each_file_rows, file_key_of, file_rows, is_expanded, is_first_open, is_open, moved_to, sections_rows, stacked, visible_height}
use Rattle.scm_layout.specs.SectionStack.{shapes_of}
use Rattle.scm_rows.specs.Heights.{shape_of}
use Rattle.scm_layout.proofs.AgreeLemmas.{rows-agree}
use Rattle.scm_layout.proofs.StackLemmas.{length-stacked}
use Rattle.scm_layout_index.specs.declared.frame_rows.Change.{Change}
use Rattle.scm_layout_index.specs.declared.frame_rows.Change.TheVariants.{Nothing, Files, Sections}
use Rattle.scm_layout_index.specs.declared.frame_rows.FrameRows.{FrameRows}
use Rattle.scm_layout_index.specs.FrameRows.{AreSectionsBut, FitRows, HaveChanged, change_by, is_named, noted}

-- the file whose sections a fold of a key changes, if any
abbrev file_by : SelectionKey → Option ℕ
file_by keys.None = None
file_by (keys.File key) = None
file_by (keys.Section key) = Some key.file_idx
file_by (keys.Line key) = None

-- the key of a section of another file is another key
other-section : (key : SelectionKey) (i m : ℕ) → is_named (file_by key) i ≡ false → is_key (keys.Section (section_key_of (file_key_of 0 i) m)) key ≡ false
other-section keys.None i m away = refl
other-section (keys.File k) i m away = refl
other-section (keys.Line k) i m away = refl
other-section (keys.Section k) i m away = go (nat_eq 0 k.commit_idx) (nat_eq i k.file_idx) (nat_eq m k.section_idx && true) other
  where
    other : nat_eq i k.file_idx ≡ false
    other = grind (arith, nat_tests)

    go : (a b c : Bool) → b ≡ false → (a && (b && c)) ≡ false
    go true b c e = ap (λ x. x && c) e
    go false b c e = refl

module _ (ks ls : List SelectionKey) (key : SelectionKey) (others : (x : SelectionKey) → is_key x key ≡ false → has_key ks x ≡ has_key ls x) where
  agree : (i : ℕ) → is_named (file_by key) i ≡ false → (m : ℕ) → is_expanded ks (file_key_of 0 i) m ≡ is_expanded ls (file_key_of 0 i) m
  agree i away m = others (keys.Section (section_key_of (file_key_of 0 i) m)) (other-section key i m away)

  -- the sections of another file are the same
  same-sections : (i n t u : ℕ) (fs : List File) (old new : FileRows) → is_named (file_by key) (i + n) ≡ false
      → slice_get (stacked t (each_file_rows ls 0 i fs)) n ≡ Some old → slice_get (stacked u (each_file_rows ks 0 i fs)) n ≡ Some new → old.sections ≡ new.sections
  unfolding stacked each_file_rows
  same-sections i n t u [] old new away at by = absurd (cc at)
  same-sections i zero t u (f ∷ fs) old new away at by =
      let here : i + zero ≡ i = omega arith in
      let before : moved_to t (file_rows ls (file_key_of 0 i) f) ≡ old = cc at in
      let after : moved_to u (file_rows ks (file_key_of 0 i) f) ≡ new = cc by in
      sym (ap (λ (r : FileRows). r.sections) before)
      ∙ sym (rows-agree ks ls (file_key_of 0 i) (length f.sections) 0 0 false f.sections (λ m low high. agree i (ap (is_named (file_by key)) (sym here) ∙ away) m))
      ∙ ap (λ (r : FileRows). r.sections) after
  same-sections i (suc n) t u (f ∷ fs) old new away at by =
      let next : suc i + n ≡ i + suc n = omega arith in
      same-sections (suc i) n _ _ fs old new (ap (is_named (file_by key)) next ∙ away) at by

  section-shapes : (l : List SelectionKey) (k : FileKey) (total i top : ℕ) (before : Bool) (ss : List Section) → shapes_of (sections_rows l k total i top before ss) ≡ map shape_of ss
  unfolding sections_rows
  section-shapes l k total i top before [] = refl
  section-shapes l k total i top before (s ∷ ss) =
      ap (λ xs. shape_of s ∷ xs) (section-shapes l k total (suc i) (top + visible_height l k total i before s (is_first_open l k (suc i) ss)) (is_open l k i s) ss)

  -- the sections of each file are the same ones
  same-shapes : (i n t u : ℕ) (fs : List File) (old new : FileRows)
      → slice_get (stacked t (each_file_rows ls 0 i fs)) n ≡ Some old → slice_get (stacked u (each_file_rows ks 0 i fs)) n ≡ Some new → shapes_of old.sections ≡ shapes_of new.sections
  unfolding stacked each_file_rows
  same-shapes i n t u [] old new at by = absurd (cc at)
  same-shapes i zero t u (f ∷ fs) old new at by =
      let before : moved_to t (file_rows ls (file_key_of 0 i) f) ≡ old = cc at in
      let after : moved_to u (file_rows ks (file_key_of 0 i) f) ≡ new = cc by in
      sym (ap (λ (r : FileRows). shapes_of r.sections) before)
      ∙ section-shapes ls (file_key_of 0 i) (length f.sections) 0 0 false f.sections
      ∙ sym (section-shapes ks (file_key_of 0 i) (length f.sections) 0 0 false f.sections)
      ∙ ap (λ (r : FileRows). shapes_of r.sections) after
  same-shapes i (suc n) t u (f ∷ fs) old new at by = same-shapes (suc i) n _ _ fs old new at by

  length-each : (l : List SelectionKey) (i : ℕ) (fs : List File) → length (each_file_rows l 0 i fs) ≡ length fs
  unfolding each_file_rows
  length-each l i [] = refl
  length-each l i (f ∷ fs) = ap suc (length-each l (suc i) fs)

  sections-but : (state : RecordState) → AreSectionsBut (layout_of state ls).rows.files (layout_of state ks).rows.files (file_by key)
  sections-but state =
      let top = files_top state.commits in
      record {
        lengths = length-stacked top (each_file_rows ls 0 0 state.files) ∙ length-each ls 0 state.files ∙ sym (length-stacked top (each_file_rows ks 0 0 state.files) ∙ length-each ks 0 state.files);
        same = λ i old new away at by. let here : 0 + i ≡ i = omega arith in same-sections 0 i top top state.files old new (ap (is_named (file_by key)) here ∙ away) at by;
        shapes = λ i old new at by. same-shapes 0 i top top state.files old new at by;
      }

  -- what changed is what the fold changes
  changed-by : (k : SelectionKey) (copy rows : List FileRows) → AreSectionsBut copy rows (file_by k) → HaveChanged (change_by k) copy rows
  changed-by keys.None copy rows h = h
  changed-by (keys.File k) copy rows h = h
  changed-by (keys.Section k) copy rows h = h
  changed-by (keys.Line k) copy rows h = h

  -- a copy that fits the rows before a fold fits those after it once the fold is noted
  pub noted-fits : (r : FrameRows) (state : RecordState) (before after : Layout) → before ≡ layout_of state ls → after ≡ layout_of state ks
      → FitRows r before.rows → FitRows (noted key r.copy r.change) after.rows
  noted-fits r state before after was is fits = go r.copy r.change fits
    where
      go : (copy : Option StateRows) (change : Change) → IfSome copy (λ (c : StateRows). HaveChanged change c.files before.rows.files) → FitRows (noted key copy change) after.rows
      go None Nothing h = tt
      go (Some copy) Nothing h =
          rw (h, was, is) (changed-by key (layout_of state ls).rows.files (layout_of state ks).rows.files (sections-but state))
      go copy Files h = tt
      go copy (Sections file) h = tt
