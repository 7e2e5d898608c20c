-- A session that can be drawn stays so: marks and short messages leave a state within the limits, and the scroll is held.
use Rattle.std.proofs.Common.{◌≡◌, ℕ, zero, suc, ◌≤◌, ◌&&◌, Bool, true, false, List, [], ◌∷◌, length, map, cond, sym, ap, ◌∙◌, refl, subst, arith}
use Rattle.std.specs.Prelude.{IsTrue, nat_le}
use Rattle.std.specs.List.{list_all}
use Rattle.std.proofs.lemmas.Bool.{and_from, and_parts}
use Rattle.scm_types.specs.declared.line.SectionChangedLine.{SectionChangedLine}
use Rattle.scm_types.specs.declared.section.Section.{Section}
use Rattle.scm_types.specs.declared.section.Section.TheVariants as sections
use Rattle.scm_types.specs.declared.file.File.{File}
use Rattle.scm_types.specs.declared.state.Commit.{Commit}
use Rattle.scm_types.specs.declared.state.RecordState.{RecordState}
use Rattle.scm_types.specs.Edits.{modify}
use Rattle.scm_types.specs.Limits.{max_items, state_size, is_short_text, is_short_option, has_short_texts, has_short_texts_in_file, is_accepted_state, max_scroll}
use Rattle.scm_types.specs.Marks.{line_with_mark, section_with_marks, file_with_marks}
use Rattle.scm_types.proofs.EditLemmas.{length-modify}
use Rattle.scm_input.specs.declared.events.Event.{Event}
use Rattle.scm_record.specs.declared.session.Flow.{Flow}
use Rattle.scm_selection.specs.Toggle.{with_key_toggled, with_all_inverted, with_all_set}
use Rattle.scm_record.specs.Session.{Session, IsDrawable, start, padded_commits, with_message, commit_with_message}
use Rattle.scm_record.specs.Frames.{Scene}
use Rattle.scm_record.specs.Step.{change}
use Rattle.scm_layout.proofs.BareLemmas.{all_set-hidden, inverted-hidden, toggle-hidden}
use Rattle.scm_layout.proofs.MarkLemmas.{size-same}
use Rattle.scm_record.proofs.StepLemmas as steps
use Rattle.scm_record.proofs.StepLemmas.{Marks, toggled, inverted, all_set, Scrolls, unscrolled, scrolled, leads}

-- ---- lists in which what counts is as before

all-same : {A : Type 0} (p : A → Bool) (v : A → A) → ((x : A) → p (v x) ≡ p x) → (xs : List A) → list_all p (map v xs) ≡ list_all p xs
all-same p v same [] = refl
all-same p v same (x ∷ xs) = ap (λ b. b && list_all p (map v xs)) (same x) ∙ ap (λ b. p x && b) (all-same p v same xs)

-- ---- marks

abbrev are_short : List File → Bool
are_short files = list_all has_short_texts_in_file files

module _ (f : Bool → Bool) where
  short-section : (s : Section) → has_short_texts (section_with_marks f s) ≡ has_short_texts s
  short-section (sections.Unchanged lines) = refl
  short-section (sections.Changed lines) = all-same (λ (l : SectionChangedLine). is_short_text l.line) (line_with_mark f) (λ l. refl) lines
  short-section (sections.FileMode is_checked mode) = refl
  short-section (sections.Binary is_checked old new) = refl

  short-file : (file : File) → has_short_texts_in_file (file_with_marks f file) ≡ has_short_texts_in_file file
  short-file file =
      ap (λ b. is_short_option file.old_path && is_short_text file.path && b) (all-same has_short_texts (section_with_marks f) short-section file.sections)

  short-marked : (files : List File) → are_short (map (file_with_marks f) files) ≡ are_short files
  short-marked files = all-same has_short_texts_in_file (file_with_marks f) short-file files

-- whether a state with these commits, this count of items and short texts is accepted
abbrev is_within : List Commit → ℕ → Bool → Bool
is_within commits n short =
    nat_le (length commits) 2
    && list_all (λ (c : Commit). is_short_option c.message) commits
    && nat_le n max_items
    && short

-- files that differ in marks alone
abbrev AreMarked : List File → List File → Type 0
AreMarked new old = map (file_with_marks (λ _. false)) new ≡ map (file_with_marks (λ _. false)) old

accepted-marked : (state : RecordState) (files : List File) → AreMarked files state.files → IsTrue (is_accepted_state state) → IsTrue (is_accepted_state (record state { files = files }))
accepted-marked state files e h =
    let size : state_size (record state { files = files }) ≡ state_size state = size-same state files (sym e) in
    let shorts : are_short files ≡ are_short state.files = sym (short-marked (λ _. false) files) ∙ ap are_short e ∙ short-marked (λ _. false) state.files in
    let same : is_within state.commits (state_size (record state { files = files })) (are_short files) ≡ is_within state.commits (state_size state) (are_short state.files) =
    ap (λ n. is_within state.commits n (are_short files)) size ∙ ap (λ b. is_within state.commits (state_size state) b) shorts in
    subst (λ (b : Bool). IsTrue b) (sym same) h

accepted-changed : (read_only : Bool) (s : Session) (f : List File → List File) → AreMarked (f s.shown.state.files) s.shown.state.files → IsTrue (is_accepted_state s.shown.state) → IsTrue (is_accepted_state (cond read_only s (record s { shown = record s.shown { state = record s.shown.state { files = f s.shown.state.files } } })).shown.state)
accepted-changed true s f e h = h
accepted-changed false s f e h = accepted-marked s.shown.state (f s.shown.state.files) e h

marks-accepted : (s : Session) (state : RecordState) (flow : Flow) → Marks s state flow → IsTrue (is_accepted_state s.shown.state) → IsTrue (is_accepted_state state)
marks-accepted s _ _ (steps.unmarked allowed) h = h
marks-accepted s _ _ toggled h = accepted-changed s.shown.state.is_read_only s (with_key_toggled s.shown.selection) (toggle-hidden s.shown.selection s.shown.state.files) h
marks-accepted s _ _ inverted h = accepted-changed s.shown.state.is_read_only s with_all_inverted (inverted-hidden s.shown.state.files) h
marks-accepted s _ _ all_set h = accepted-changed s.shown.state.is_read_only s with_all_set (all_set-hidden s.shown.state.files) h

scrolls-low : (old new : ℕ) → Scrolls old new → old ≤ max_scroll → new ≤ max_scroll
scrolls-low old _ unscrolled h = h
scrolls-low old new (scrolled low) h = low

-- what an event makes of a session that can be drawn can be drawn
pub change-keeps-drawable : (scene : Scene) (s : Session) (event : Event) → IsDrawable s → IsDrawable (change scene s event).session
change-keeps-drawable scene s event h =
    let c = change scene s event in
    let it = leads scene s event in
    record {
      accepted = marks-accepted s c.session.shown.state c.flow it.marks h.accepted;
      scroll = scrolls-low s.scroll c.session.scroll it.scrolls h.scroll;
    }

-- ---- messages

short-said : (text : List ℕ) (cs : List Commit) (i : ℕ) → is_short_text text ≡ true → IsTrue (list_all (λ (c : Commit). is_short_option c.message) cs) → IsTrue (list_all (λ (c : Commit). is_short_option c.message) (modify (commit_with_message text) cs i))
short-said text [] i e h = h
short-said text (c ∷ cs) zero e h = and_from _ _ e (and_parts (is_short_option c.message) _ h).1
short-said text (c ∷ cs) (suc i) e h =
    let parts = and_parts (is_short_option c.message) (list_all (λ (c : Commit). is_short_option c.message) cs) h in
    and_from _ _ parts.0 (short-said text cs i e parts.1)

pub message-keeps-drawable : (s : Session) (commit : ℕ) (text : List ℕ) → is_short_text text ≡ true → IsDrawable s → IsDrawable (with_message s commit text)
message-keeps-drawable s commit text e h =
    let all = and_parts _ _ h.accepted in
    let counted = and_parts _ _ all.0 in
    let said = and_parts _ _ counted.0 in
    let few : nat_le (length (modify (commit_with_message text) s.shown.state.commits commit)) 2 ≡ true =
    ap (λ n. nat_le n 2) (length-modify (commit_with_message text) s.shown.state.commits commit) ∙ said.0 in
    record {
      accepted = and_from _ _ (and_from _ _ (and_from _ _ few (short-said text s.shown.state.commits commit e said.1)) counted.1) all.1;
      scroll = h.scroll;
    }

-- ---- the start

padded-few : (commits : List Commit) → nat_le (length commits) 2 ≡ true → nat_le (length (padded_commits commits)) 2 ≡ true
padded-few [] h = refl
padded-few (first ∷ []) h = refl
padded-few (first ∷ second ∷ rest) h = h

padded-short : (commits : List Commit) → IsTrue (list_all (λ (c : Commit). is_short_option c.message) commits) → IsTrue (list_all (λ (c : Commit). is_short_option c.message) (padded_commits commits))
padded-short [] h = refl
padded-short (first ∷ []) h = and_from _ _ (and_parts (is_short_option first.message) _ h).0 refl
padded-short (first ∷ second ∷ rest) h = h

-- the session of an accepted state can be drawn
pub start-drawable : (given : RecordState) → IsTrue (is_accepted_state given) → IsDrawable (start given)
start-drawable given h =
    let all = and_parts _ _ h in
    let counted = and_parts _ _ all.0 in
    let said = and_parts _ _ counted.0 in
    record {
      accepted = and_from _ _ (and_from _ _ (and_from _ _ (padded-few given.commits said.0) (padded-short given.commits said.1)) counted.1) all.1;
      scroll = omega arith;
    }
