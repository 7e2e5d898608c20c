-- The runs of a key have each item whose mark a toggle of the key changes.
use Rattle.std.proofs.Common.{◌≡◌, ◌≢◌, ℕ, ◌<◌, Bool, true, false, cond, List, [], ◌++◌, map, length, refl, sym, ap, ◌∙◌, subst, Option, Some, None, inl, inr, arith}
use Rattle.std.specs.Prelude.{not, slice_get, option_map, option_and_then}
use Rattle.std.proofs.lemmas.Bool.{cases_eq}
use Rattle.std.proofs.lemmas.Option.{same_Some, slice_get-map, slice_get_cases}
use Rattle.scm_types.specs.declared.line.SectionChangedLine.{SectionChangedLine}
use Rattle.scm_types.specs.declared.file.File.{File}
use Rattle.scm_types.specs.declared.file_mode.FileMode.{FileMode}
use Rattle.scm_types.specs.declared.section.Section.{Section}
use Rattle.scm_types.specs.declared.section.Section.TheVariants as sections
use Rattle.scm_types.specs.declared.keys.FileKey.{FileKey}
use Rattle.scm_types.specs.declared.keys.SectionKey.{SectionKey}
use Rattle.scm_types.specs.declared.keys.LineKey.{LineKey}
use Rattle.scm_types.specs.declared.keys.SelectionKey.{SelectionKey}
use Rattle.scm_types.specs.declared.keys.SelectionKey.TheVariants as keys
use Rattle.scm_types.specs.Edits.{modify}
use Rattle.scm_types.specs.Marks.{line_with_mark, section_marks, section_with_marks, tristate_of}
use Rattle.scm_types.specs.Mode.{is_absent}
use Rattle.scm_types.specs.Repair.{with_deletion_unchecked, with_mode_checked}
use Rattle.scm_types.proofs.EditLemmas.{map-modify, slice_get-modify, slice_get-modify-other}
use Rattle.scm_selection.specs.KeysAround.{sections_at, sections_in}
use Rattle.scm_selection.specs.Toggle.{after_lines, after_section, line_mark, mark_after, with_file_toggled, with_key_toggled, with_line_inverted, with_line_toggled, with_section_toggled, with_this_line_toggled, with_this_section_toggled}
use Rattle.scm_front_items.specs.declared.runs.Run.{Run}
use Rattle.scm_front_items.specs.Ranges.{is_mode_section}
use Rattle.scm_front_items.specs.Runs.{marks_of_files, marks_with}
use Rattle.scm_front_items.specs.Steps.{marks_in, marks_at, whole_run, sections_runs, runs_of_section, item_run, runs_of_key, changed_step}
use Rattle.scm_front_items.proofs.MarkLemmas.{deletion-same, mode-same}
use Rattle.scm_front_items.proofs.PlaceLemmas.{inner-files, mark_at, shape, Among, Held, covered, same, step-restores}
use Rattle.scm_front_items.proofs.RunPlaceLemmas.{among-left, among-right, among-sections, among-whole, held-there, held-in-files, runs-of-key-own}
use Rattle.scm_front_items.proofs.ShapeLemmas.{shape-toggled}

-- ---- sections that change no mode stay when lines were set

abbrev IsPlain : Section → Type 0
IsPlain s = is_mode_section s ≡ false

lines-leave : (mode : FileMode) (checked : Bool) (list : List Section) (i : ℕ) (s : Section) → slice_get list i ≡ Some s → IsPlain s
    → slice_get (after_lines mode checked list) i ≡ Some s
lines-leave mode false list i s at plain = slice_get-map with_deletion_unchecked list i ∙ ap (option_map with_deletion_unchecked) at ∙ ap (λ (t : Section). Some t) (deletion-same s plain)
lines-leave mode true list i s at plain = either (is_absent mode)
  where
    either : (b : Bool) → slice_get (cond b (map with_mode_checked list) list) i ≡ Some s
    either true = slice_get-map with_mode_checked list i ∙ ap (option_map with_mode_checked) at ∙ ap (λ (t : Section). Some t) (mode-same s plain)
    either false = at

-- ---- a line

inverted-plain : (line : ℕ) (s : Section) → IsPlain s → IsPlain (with_line_inverted line s)
inverted-plain line (sections.Unchanged lines) plain = refl
inverted-plain line (sections.Changed lines) plain = refl
inverted-plain line (sections.FileMode is_checked mode) plain = plain
inverted-plain line (sections.Binary is_checked old new) plain = refl

inverted-other : (line i : ℕ) (s : Section) → line ≢ i → slice_get (section_marks (with_line_inverted line s)) i ≡ slice_get (section_marks s) i
inverted-other line i (sections.Unchanged lines) ne = refl
inverted-other line i (sections.Changed lines) ne =
    ap (λ (marks : List Bool). slice_get marks i) (map-modify (λ (l : SectionChangedLine). l.is_checked) (line_with_mark not) not lines line (λ l. refl))
    ∙ slice_get-modify-other not (map (λ (l : SectionChangedLine). l.is_checked) lines) line i ne
inverted-other line i (sections.FileMode is_checked mode) ne = refl
inverted-other line i (sections.Binary is_checked old new) ne = refl

-- the mark of item `i` of section `s`
abbrev mark_in_list : List Section → ℕ → ℕ → Option Bool
mark_in_list list s i = slice_get (marks_in (slice_get list s)) i

module _ (file : File) (section line s i : ℕ) (sec : Section) (at : slice_get file.sections s ≡ Some sec) (plain : IsPlain sec) (ne : section ≡ s → line ≢ i) where
  abbrev inverted_list : List Section
  inverted_list = modify (with_line_inverted line) file.sections section

  followed : (b : Bool) (t : Section) → slice_get inverted_list s ≡ Some t → IsPlain t → slice_get (section_marks t) i ≡ slice_get (section_marks sec) i
      → mark_in_list (after_lines file.file_mode b inverted_list) s i ≡ mark_in_list file.sections s i
  followed b t is p e =
      ap (λ (o : Option Section). slice_get (marks_in o) i) (lines-leave file.file_mode b inverted_list s t is p) ∙ e
      ∙ ap (λ (o : Option Section). slice_get (marks_in o) i) (sym at)

  by-place : (b : Bool) → mark_in_list (after_lines file.file_mode b inverted_list) s i ≡ mark_in_list file.sections s i
  by-place b = elim (cases_eq section s) [
    | inl is ↦
        followed b (with_line_inverted line sec)
        (subst (λ (x : ℕ). slice_get (modify (with_line_inverted line) file.sections x) s ≡ Some (with_line_inverted line sec)) (sym is)
        (slice_get-modify (with_line_inverted line) file.sections s ∙ ap (option_map (with_line_inverted line)) at))
        (inverted-plain line sec plain) (inverted-other line i sec (ne is))
    | inr away ↦ followed b sec (slice_get-modify-other (with_line_inverted line) file.sections section s away ∙ at) plain refl
  ]

  this-line : (mark : Option Bool) → mark_in_list (with_this_line_toggled file section line mark).sections s i ≡ mark_in_list file.sections s i
  this-line None = refl
  this-line (Some checked) = by-place (not checked)

  line-leaves : mark_in_list (with_line_toggled section line file).sections s i ≡ mark_in_list file.sections s i
  line-leaves = this-line (option_and_then (line_mark line) (slice_get file.sections section))

-- ---- a section

module _ (file : File) (index s i : ℕ) (sec : Section) (at : slice_get file.sections s ≡ Some sec) (plain : IsPlain sec) (ne : index ≢ s) where
  set-leaves : (selected : Section) (checked : Bool) → IsPlain selected
      → mark_in_list (after_section file.file_mode checked selected (modify (section_with_marks (λ _. checked)) file.sections index)) s i ≡ mark_in_list file.sections s i
  set-leaves selected checked = by-kind selected
    where
      list : List Section
      list = modify (section_with_marks (λ _. checked)) file.sections index

      there : slice_get list s ≡ Some sec
      there = slice_get-modify-other (section_with_marks (λ _. checked)) file.sections index s ne ∙ at

      left : (o : Option Section) → o ≡ Some sec → slice_get (marks_in o) i ≡ mark_in_list file.sections s i
      left o is = ap (λ (x : Option Section). slice_get (marks_in x) i) (is ∙ sym at)

      by-kind : (t : Section) → IsPlain t → mark_in_list (after_section file.file_mode checked t list) s i ≡ mark_in_list file.sections s i
      by-kind (sections.Unchanged lines) p = left (slice_get list s) there
      by-kind (sections.Changed lines) p = left (slice_get (after_lines file.file_mode checked list) s) (lines-leave file.file_mode checked list s sec there plain)
      by-kind (sections.FileMode is_checked mode) p = absurd (cc p)
      by-kind (sections.Binary is_checked old new) p = left (slice_get list s) there

-- ---- files

mark-there : (files : List File) (f s i : ℕ) (file : File) → slice_get files f ≡ Some file → mark_at (marks_of_files files) f s i ≡ mark_in_list file.sections s i
mark-there files f s i file is =
    ap (λ (list : List Bool). slice_get list i) (inner-files files f s) ∙ ap (λ (o : Option File). mark_in_list (sections_in o) s i) is

away-same : (g : File → File) (files : List File) (n f s i : ℕ) → n ≢ f → mark_at (marks_of_files (modify g files n)) f s i ≡ mark_at (marks_of_files files) f s i
away-same g files n f s i ne =
    ap (λ (list : List Bool). slice_get list i) (inner-files (modify g files n) f s)
    ∙ ap (λ (o : Option File). mark_in_list (sections_in o) s i) (slice_get-modify-other g files n f ne)
    ∙ ap (λ (list : List Bool). slice_get list i) (sym (inner-files files f s))

here-same : (g : File → File) (files : List File) (n s i : ℕ) (file : File) → slice_get files n ≡ Some file
    → mark_in_list (g file).sections s i ≡ mark_in_list file.sections s i → mark_at (marks_of_files (modify g files n)) n s i ≡ mark_at (marks_of_files files) n s i
here-same g files n s i file is e =
    mark-there (modify g files n) n s i (g file) (slice_get-modify g files n ∙ ap (option_map g) is) ∙ e ∙ sym (mark-there files n s i file is)

-- of a changed file each item is looked at
by-file : (g : File → File) (files : List File) (n : ℕ) (runs : List Run) → shape (marks_of_files (modify g files n)) ≡ shape (marks_of_files files)
    → ((s i : ℕ) (file : File) (sec : Section) → slice_get files n ≡ Some file → slice_get file.sections s ≡ Some sec → i < length (section_marks sec)
    → Held runs (marks_of_files files) (marks_of_files (modify g files n)) n s i)
    → (f s i : ℕ) → Held runs (marks_of_files files) (marks_of_files (modify g files n)) f s i
by-file g files n runs e there f s i = elim (cases_eq n f) [
  | inl is ↦
      subst (λ (x : ℕ). Held runs (marks_of_files files) (marks_of_files (modify g files n)) x s i) is
      (held-there files (modify g files n) e runs n s i (λ file sec at in_file h. there s i file sec at in_file h))
  | inr ne ↦ same (away-same g files n f s i ne)
]

holds-file : (files : List File) (k : FileKey) (f s i : ℕ) → Held (runs_of_key files (keys.File k)) (marks_of_files files) (marks_of_files (with_key_toggled (keys.File k) files)) f s i
holds-file files k f s i = elim (cases_eq k.file_idx f) [
  | inl is ↦
      subst (λ (x : ℕ). Held (runs_of_key files (keys.File k)) (marks_of_files files) (marks_of_files (with_key_toggled (keys.File k) files)) x s i) is
      (held-in-files files (with_key_toggled (keys.File k) files) (shape-toggled (keys.File k) files) k.file_idx k.file_idx k.file_idx s i (omega arith) (omega arith))
  | inr ne ↦ same (away-same with_file_toggled files k.file_idx f s i ne)
]

module _ (files : List File) (k : LineKey) where
  abbrev line_runs : List Run
  line_runs = runs_of_key files (keys.Line k)

  abbrev modes_of_line : List Run
  modes_of_line = sections_runs true k.file_idx 0 (sections_at files k.file_idx)

  abbrev after_line : List File
  after_line = with_key_toggled (keys.Line k) files

  line-itself : (o : Option Bool) (sec : Section) (b : Bool) → o ≡ Some b → Among (item_run k.file_idx k.section_idx k.line_idx o) k.file_idx k.section_idx k.line_idx
  line-itself None sec b e = absurd (cc e)
  line-itself (Some mark) sec b e = inl (record { file = refl; section = refl; from = omega arith; to = omega arith })

  line-plain : (s i : ℕ) (file : File) (sec : Section) → slice_get files k.file_idx ≡ Some file → slice_get file.sections s ≡ Some sec → i < length (section_marks sec)
      → IsPlain sec → Held line_runs (marks_of_files files) (marks_of_files after_line) k.file_idx s i
  line-plain s i file sec is at h plain = elim (cases_eq k.section_idx s) [
    | inl in_section ↦ elim (cases_eq k.line_idx i) [
      | inl in_line ↦
          subst (λ (x : ℕ). Held line_runs (marks_of_files files) (marks_of_files after_line) k.file_idx x i) in_section
          (subst (λ (y : ℕ). Held line_runs (marks_of_files files) (marks_of_files after_line) k.file_idx k.section_idx y) in_line
          (covered (among-right modes_of_line _ k.file_idx k.section_idx k.line_idx (itself in_section in_line))))
      | inr other ↦ same (here-same (with_line_toggled k.section_idx k.line_idx) files k.file_idx s i file is (line-leaves file k.section_idx k.line_idx s i sec at plain (λ e. other)))
    ]
    | inr away ↦ same (here-same (with_line_toggled k.section_idx k.line_idx) files k.file_idx s i file is (line-leaves file k.section_idx k.line_idx s i sec at plain (λ e. absurd (away e))))
  ]
    where
      marks : marks_at files k.file_idx s ≡ section_marks sec
      marks = ap (λ (o : Option File). marks_in (slice_get (sections_in o) s)) is ∙ ap marks_in at

      itself : k.section_idx ≡ s → k.line_idx ≡ i
          → Among (item_run k.file_idx k.section_idx k.line_idx (slice_get (marks_at files k.file_idx k.section_idx) k.line_idx)) k.file_idx k.section_idx k.line_idx
      itself e f = elim (slice_get_cases (section_marks sec) i).1 [
        | inl there ↦
            line-itself (slice_get (marks_at files k.file_idx k.section_idx) k.line_idx) sec there.0
            (subst (λ (x : ℕ). slice_get (marks_at files k.file_idx x) k.line_idx ≡ Some there.0) (sym e)
            (subst (λ (y : ℕ). slice_get (marks_at files k.file_idx s) y ≡ Some there.0) (sym f)
            (ap (λ (list : List Bool). slice_get list i) marks ∙ there.2)))
        | inr past ↦ absurd (omega (arith, h, past.0))
      ]

  line-held : (s i : ℕ) (file : File) (sec : Section) → slice_get files k.file_idx ≡ Some file → slice_get file.sections s ≡ Some sec → i < length (section_marks sec)
      → (b : Bool) → is_mode_section sec ≡ b → Held line_runs (marks_of_files files) (marks_of_files after_line) k.file_idx s i
  line-held s i file sec is at h false mode = line-plain s i file sec is at h mode
  line-held s i file sec is at h true mode =
      covered (among-left modes_of_line _ k.file_idx s i
      (among-sections true k.file_idx (sections_at files k.file_idx) s i sec (ap (λ (o : Option File). slice_get (sections_in o) s) is ∙ at) mode h))

  holds-line : (f s i : ℕ) → Held line_runs (marks_of_files files) (marks_of_files after_line) f s i
  holds-line = by-file (with_line_toggled k.section_idx k.line_idx) files k.file_idx line_runs (shape-toggled (keys.Line k) files)
      (λ s i file sec is at h. line-held s i file sec is at h (is_mode_section sec) refl)

module _ (files : List File) (k : SectionKey) where
  abbrev after_section_key : List File
  after_section_key = with_key_toggled (keys.Section k) files

  abbrev list_of : List Section
  list_of = sections_at files k.file_idx

  abbrev HeldBy : List Run → ℕ → ℕ → Type 0
  HeldBy runs s i = Held runs (marks_of_files files) (marks_of_files after_section_key) k.file_idx s i

  -- the toggle leaves section `s`
  section-left : (runs : List Run) (s i : ℕ) (file : File) → slice_get files k.file_idx ≡ Some file
      → mark_in_list (with_section_toggled k.section_idx file).sections s i ≡ mark_in_list file.sections s i → HeldBy runs s i
  section-left runs s i file is e = same (here-same (with_section_toggled k.section_idx) files k.file_idx s i file is e)

  module _ (s i : ℕ) (file : File) (sec : Section) (is : slice_get files k.file_idx ≡ Some file) (at : slice_get file.sections s ≡ Some sec) (h : i < length (section_marks sec)) where
    in-list : slice_get list_of s ≡ Some sec
    in-list = ap (λ (o : Option File). slice_get (sections_in o) s) is ∙ at

    left-by : (runs : List Run) (o : Option Section) → slice_get file.sections k.section_idx ≡ o
        → mark_in_list (with_this_section_toggled file k.section_idx o).sections s i ≡ mark_in_list file.sections s i → HeldBy runs s i
    left-by runs o e same_mark =
        section-left runs s i file is (subst (λ (x : Option Section). mark_in_list (with_this_section_toggled file k.section_idx x).sections s i ≡ mark_in_list file.sections s i) (sym e) same_mark)

    -- a section that changes no mode is toggled
    plain-toggled : (selected : Section) → slice_get file.sections k.section_idx ≡ Some selected → IsPlain selected → (b : Bool) → is_mode_section sec ≡ b
        → HeldBy (sections_runs true k.file_idx 0 list_of ++ whole_run k.file_idx k.section_idx (section_marks selected)) s i
    plain-toggled selected e plain true mode =
        covered (among-left (sections_runs true k.file_idx 0 list_of) _ k.file_idx s i (among-sections true k.file_idx list_of s i sec in-list mode h))
    plain-toggled selected e plain false mode = elim (cases_eq k.section_idx s) [
      | inl here ↦
          let selected_is : selected ≡ sec = same_Some selected sec (sym e ∙ ap (λ (x : ℕ). slice_get file.sections x) here ∙ at) in
          subst (λ (x : ℕ). HeldBy (sections_runs true k.file_idx 0 list_of ++ whole_run k.file_idx k.section_idx (section_marks selected)) x i) here
          (covered (among-right (sections_runs true k.file_idx 0 list_of) _ k.file_idx k.section_idx i
          (among-whole k.file_idx k.section_idx i (section_marks selected) (subst (λ (x : Section). i < length (section_marks x)) (sym selected_is) h))))
      | inr away ↦ left-by _ (Some selected) e (set-leaves file k.section_idx s i sec at mode away selected (mark_after (tristate_of (section_marks selected))) plain)
    ]

    by-mode : (selected : Section) → slice_get file.sections k.section_idx ≡ Some selected → (b : Bool) → is_mode_section selected ≡ b
        → HeldBy (cond b (sections_runs false k.file_idx 0 list_of) (sections_runs true k.file_idx 0 list_of ++ whole_run k.file_idx k.section_idx (section_marks selected))) s i
    by-mode selected e true mode = covered (among-sections false k.file_idx list_of s i sec in-list refl h)
    by-mode selected e false mode = plain-toggled selected e mode (is_mode_section sec) refl

    by-selected : (o : Option Section) → slice_get file.sections k.section_idx ≡ o → HeldBy (runs_of_section k.file_idx k.section_idx list_of o) s i
    by-selected None e = left-by [] None e refl
    by-selected (Some selected) e = by-mode selected e (is_mode_section selected) refl

    section-held : HeldBy (runs_of_key files (keys.Section k)) s i
    section-held =
        let e : slice_get list_of k.section_idx ≡ slice_get file.sections k.section_idx = ap (λ (o : Option File). slice_get (sections_in o) k.section_idx) is in
        by-selected (slice_get list_of k.section_idx) (sym e)

  holds-section : (f s i : ℕ) → Held (runs_of_key files (keys.Section k)) (marks_of_files files) (marks_of_files after_section_key) f s i
  holds-section = by-file (with_section_toggled k.section_idx) files k.file_idx (runs_of_key files (keys.Section k)) (shape-toggled (keys.Section k) files)
      (λ s i file sec is at h. section-held s i file sec is at h)

-- a toggle changes only marks of the runs of its key
pub toggle-holds : (files : List File) (key : SelectionKey) (f s i : ℕ) → Held (runs_of_key files key) (marks_of_files files) (marks_of_files (with_key_toggled key files)) f s i
toggle-holds files keys.None f s i = same refl
toggle-holds files (keys.File k) f s i = holds-file files k f s i
toggle-holds files (keys.Section k) f s i = holds-section files k f s i
toggle-holds files (keys.Line k) f s i = holds-line files k f s i

-- so the step of a toggle leads back
pub toggle-restores : (files : List File) (key : SelectionKey)
    → marks_with (changed_step (with_key_toggled key files) (runs_of_key files key)) (marks_of_files (with_key_toggled key files)) ≡ marks_of_files files
toggle-restores files key =
    step-restores files (with_key_toggled key files) (shape-toggled key files) (runs_of_key files key) (runs-of-key-own files key) (λ f s i. toggle-holds files key f s i)
