-- What is kept of a range leads from the marks after it back to those before it.
use Rattle.std.proofs.Common.{◌≡◌, ℕ, max, min, Bool, true, false, cond, List, [], ◌∷◌, ◌++◌, refl, sym, ◌∙◌, subst, Option}
use Rattle.std.specs.Prelude.{IfSome}
use Rattle.std.specs.List.{list_all}
use Rattle.std.proofs.lemmas.Bool.{and_parts}
use Rattle.scm_types.specs.declared.file.File.{File}
use Rattle.scm_types.specs.declared.keys.SelectionKey.{SelectionKey}
use Rattle.scm_types.specs.Keys.{file_of}
use Rattle.scm_selection.specs.Toggle.{with_key_toggled}
use Rattle.scm_record.specs.Jumps.{after_jump, after_selecting, can_select}
use Rattle.scm_record.specs.Live.{Live}
use Rattle.scm_record.specs.LiveCalls.{Call}
use Rattle.scm_record.specs.declared.live.Turn.{Turn}
use Rattle.scm_record.specs.declared.live.Turn.TheVariants as turns
use Rattle.scm_front_items.specs.declared.history.History.{History}
use Rattle.scm_front_items.specs.declared.runs.Run.{Run}
use Rattle.scm_front_items.specs.declared.targets.Deed.{Deed}
use Rattle.scm_front_items.specs.declared.targets.Deed.TheVariants.{Fold, Mark}
use Rattle.scm_front_items.specs.Plans.{file_folds, fold_of, is_folded, section_around, section_folds}
use Rattle.scm_front_items.specs.Ranges.{mark_for, marking}
use Rattle.scm_front_items.specs.Runs.{marks_of_files}
use Rattle.scm_front_items.specs.Steps.{file_number, is_file_within, runs_of_range}
use Rattle.scm_front_items.specs.Targets.{is_open_deed, key_of}
use Rattle.scm_front_items.proofs.DeedRunLemmas.{StaysOutside, files-restore, lines-inside, number-outside, toggle-outside}
use Rattle.scm_front_items.proofs.PlaceLemmas.{shape}
use Rattle.scm_front_items.proofs.RunPlaceLemmas.{runs-of-files-own}
use Rattle.scm_front_items.proofs.ShapeLemmas.{shape-toggled}
use Rattle.scm_front.specs.Deeds.{DeedDone, DeedsLead, RoundLeads, does, done, ends, event_of, is_due, leaves, returns, skips}
use Rattle.scm_front.specs.Fronts.{files_of, range_deeds, range_lines, selection_of}
use Rattle.scm_front.specs.declared.recording.Reach.TheVariants.{Item, Nothing}
use Rattle.scm_front.specs.declared.recording.Author.TheVariants.{User}
use Rattle.scm_front.specs.Recording.{RecordsAt, RemembersAt, reach_of}
use Rattle.scm_front.proofs.EffectLemmas.{After, as_was, by_all, by_item}
use Rattle.scm_front.proofs.RangeLemmas.{selecting-files}
use Rattle.scm_front.specs.Scrolling.{QuietRound, quiet}
use Rattle.scm_front.proofs.RememberLemmas.{FilesAt, calm-event, event-after, turn-remembers, weaker}
use Rattle.scm_front.proofs.ScrollLemmas.{round-calm, scrolls-keep, selecting-calm}

-- ---- deeds in some files

-- a deed marks only within the files
abbrev marks_within : ℕ → ℕ → Deed → Bool
marks_within first last (Mark t) = is_file_within first last t.key
marks_within first last (Fold key) = true

module _ (given : List File) (first last : ℕ) where
  -- the files are as at first outside, and have as many marks in each section
  pub record Stays (files : List File) : Type 0 where
    pub sizes : shape (marks_of_files files) ≡ shape (marks_of_files given)
    pub outside : StaysOutside first last given files

  item-stays : (key : SelectionKey) (files new : List File) → is_file_within first last key ≡ true → After files (Item key) new → Stays files → Stays new
  item-stays key files new inside (as_was e) h = subst Stays (sym e) h
  item-stays key files new inside (by_item k is e) h =
      let same : key ≡ k = cc is in
      subst Stays (sym e)
      (subst (λ (x : SelectionKey). Stays (with_key_toggled x files)) same
      (record {
        sizes = shape-toggled key files ∙ h.sizes;
        outside = λ f out. toggle-outside key files f (number-outside first last f (file_number key) out inside) ∙ h.outside f out;
      }))
  item-stays key files new inside (by_all is e) h = absurd (cc is)

  nothing-stays : (files new : List File) → After files Nothing new → Stays files → Stays new
  nothing-stays files new (as_was e) h = subst Stays (sym e) h
  nothing-stays files new (by_item k is e) h = absurd (cc is)
  nothing-stays files new (by_all is e) h = absurd (cc is)

  selected : (l : Live) (key : SelectionKey) (can : Bool) → can ≡ true → selection_of (cond can (after_jump l key) l) ≡ key
  selected l key true e = refl
  selected l key false e = absurd (cc e)

  reached : (l : Live) (deed : Deed) (turn : Turn) → l.session.pending ≡ [] → (d : DeedDone l deed turn)
      → FilesAt (After (files_of l) (reach_of (after_selecting l (key_of deed)) (event_of deed))) turn
  reached l deed turn calm d =
      weaker _ _ (λ new h. subst (λ (fs : List File). After fs (reach_of (after_selecting l (key_of deed)) (event_of deed)) new) (selecting-files l (key_of deed)) h) turn
      (event-after (after_selecting l (key_of deed)) (event_of deed) turn (selecting-calm l (key_of deed) calm) d.event)

  deed-stays : (l : Live) (deed : Deed) (turn : Turn) → is_due l deed ≡ true → marks_within first last deed ≡ true → l.session.pending ≡ [] → DeedDone l deed turn
      → Stays (files_of l) → FilesAt Stays turn
  deed-stays l (Mark t) turn due inside calm d h =
      let can = (and_parts (can_select l t.key) (is_open_deed (files_of l) l.session.shown.expanded (Mark t)) due).0 in
      weaker _ Stays (λ new after. item-stays t.key (files_of l) new inside (subst (λ (key : SelectionKey). After (files_of l) (Item key) new) (selected l t.key (can_select l t.key) can) after) h) turn
      (reached l (Mark t) turn calm d)
  deed-stays l (Fold key) turn due inside calm d h = weaker _ Stays (λ new after. nothing-stays (files_of l) new after h) turn (reached l (Fold key) turn calm d)

  deeds-stay : {l : Live} {deeds : List Deed} {calls : List Call} {turn : Turn} → DeedsLead l deeds calls turn → list_all (marks_within first last) deeds ≡ true
      → l.session.pending ≡ [] → Stays (files_of l) → FilesAt Stays turn
  deeds-stay done all calm h = h
  deeds-stay (skips {deed = deed} {deeds = deeds} due later) all calm h =
      deeds-stay later (and_parts (marks_within first last deed) (list_all (marks_within first last) deeds) all).1 calm h
  deeds-stay (does {l = l} {next = next} {deed = deed} {deeds = deeds} due d later) all calm h =
      let parts = and_parts (marks_within first last deed) (list_all (marks_within first last) deeds) all in
      deeds-stay later parts.1 (calm-event _ (event_of deed) (turns.Waiting next) d.event) (deed-stays l deed (turns.Waiting next) due parts.0 calm d h)
  deeds-stay (ends {l = l} {deed = deed} {deeds = deeds} {turn = turn} due d f) all calm h =
      deed-stays l deed turn due (and_parts (marks_within first last deed) (list_all (marks_within first last) deeds) all).0 calm d h

  round-stays : {l : Live} {deeds : List Deed} {back : SelectionKey} {calls : List Call} {turn : Turn} → RoundLeads l deeds back calls turn
      → list_all (marks_within first last) deeds ≡ true → l.session.pending ≡ [] → Stays (files_of l) → FilesAt Stays turn
  round-stays (returns {mid = mid} {back = back} d j) all calm h = subst Stays (sym (selecting-files mid back)) (deeds-stay d all calm h)
  round-stays (leaves d f) all calm h = deeds-stay d all calm h

  quiet-stays : {l : Live} {deeds : List Deed} {back : SelectionKey} {calls : List Call} {turn : Turn} → QuietRound l deeds back calls turn
      → list_all (marks_within first last) deeds ≡ true → l.session.pending ≡ [] → Stays (files_of l) → FilesAt Stays turn
  quiet-stays (quiet round more e) all calm h = scrolls-keep Stays more (round-calm round calm) (round-stays round all calm h)

-- ---- the deeds of a range

module _ (first last : ℕ) where
  all-after : (xs ys : List Deed) → list_all (marks_within first last) xs ≡ true → list_all (marks_within first last) ys ≡ true → list_all (marks_within first last) (xs ++ ys) ≡ true
  all-after [] ys h k = k
  all-after (x ∷ xs) ys h k =
      let parts = and_parts (marks_within first last x) (list_all (marks_within first last) xs) h in
      rw parts.0 (all-after xs ys parts.1 k)

  one-fold : (b : Bool) (key : SelectionKey) → list_all (marks_within first last) (cond b (Fold key ∷ []) []) ≡ true
  one-fold true key = refl
  one-fold false key = refl

  marks-inside : (mark : Bool) (ks : List SelectionKey) → list_all (is_file_within first last) ks ≡ true → list_all (marks_within first last) (marking mark ks) ≡ true
  marks-inside mark [] h = refl
  marks-inside mark (k ∷ ks) h =
      let parts = and_parts (is_file_within first last k) (list_all (is_file_within first last) ks) h in
      rw parts.0 (marks-inside mark ks parts.1)

  section-folds-inside : (expanded ks : List SelectionKey) → list_all (marks_within first last) (section_folds expanded ks) ≡ true
  section-folds-inside expanded [] = refl
  section-folds-inside expanded (k ∷ ks) =
      all-after (fold_of expanded (section_around k)) (section_folds expanded ks) (one-fold (is_folded expanded (section_around k)) (section_around k)) (section-folds-inside expanded ks)

  file-folds-inside : (expanded ks : List SelectionKey) → list_all (marks_within first last) (file_folds expanded ks) ≡ true
  file-folds-inside expanded [] = refl
  file-folds-inside expanded (k ∷ ks) =
      all-after (fold_of expanded (file_of k)) (file_folds expanded ks) (one-fold (is_folded expanded (file_of k)) (file_of k)) (file-folds-inside expanded ks)

  either-inside : (b : Bool) (deeds : List Deed) → list_all (marks_within first last) deeds ≡ true → list_all (marks_within first last) (cond b [] deeds) ≡ true
  either-inside true deeds h = refl
  either-inside false deeds h = h

module _ (l : Live) (anchor : SelectionKey) where
  abbrev first_file : ℕ
  first_file = min (file_number anchor) (file_number (selection_of l))

  abbrev last_file : ℕ
  last_file = max (file_number anchor) (file_number (selection_of l))

  range-inside : list_all (marks_within first_file last_file) (range_deeds l anchor) ≡ true
  range-inside =
      let lines = range_lines l anchor in
      let marks = marking (mark_for (files_of l) lines) lines in
      let sections = section_folds l.session.shown.expanded lines in
      let files = file_folds l.session.shown.expanded lines in
      either-inside first_file last_file l.session.shown.state.is_read_only ((marks ++ sections) ++ files)
      (all-after first_file last_file (marks ++ sections) files
      (all-after first_file last_file marks sections
      (marks-inside first_file last_file (mark_for (files_of l) lines) lines (lines-inside anchor (selection_of l) (files_of l)))
      (section-folds-inside first_file last_file l.session.shown.expanded lines))
      (file-folds-inside first_file last_file l.session.shown.expanded lines))

  -- so what is kept of a range leads back
  pub range-remembers : (turn : Turn) (old new : History) (before : Option (List Run)) {deeds : List Deed} {back : SelectionKey} → l.session.pending ≡ []
      → IfSome before (λ (runs : List Run). runs ≡ runs_of_range anchor (selection_of l) (files_of l)) → deeds ≡ range_deeds l anchor
      → ((calls : List Call) × QuietRound l deeds back calls turn) → RecordsAt User old before turn new → RemembersAt (marks_of_files (files_of l)) old turn new
  range-remembers turn old new before {deeds} {back} calm taken same led r =
      let round = subst (λ (list : List Deed). QuietRound l list back led.0 turn) same led.1 in
      turn-remembers (files_of l) (runs_of_range anchor (selection_of l) (files_of l)) (Stays (files_of l) first_file last_file)
      (λ after h. files-restore (files_of l) after h.sizes first_file last_file h.outside) (runs-of-files-own (files_of l) first_file last_file) old new before taken turn
      (quiet-stays (files_of l) first_file last_file round range-inside calm (record { sizes = refl; outside = λ f out. refl })) r
