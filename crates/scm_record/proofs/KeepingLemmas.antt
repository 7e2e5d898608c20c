-- A run changes marks alone, and keeps each file coherent.
use Rattle.std.proofs.Common.{◌≡◌, ℕ, zero, suc, ◌≤◌, Bool, true, false, List, [], ◌∷◌, ◌&&◌, ◌||◌, map, length, slice_get, Option, Some, None, cond, sym, ap, ap₂, ◌∙◌, refl, subst, arith}
use Rattle.std.specs.Prelude.{IsTrue, is_some}
use Rattle.std.proofs.lemmas.Bool.{and_parts, leb-true}
use Rattle.std.proofs.lemmas.List.{length-map}
use Rattle.scm_types.specs.declared.section.Section.{Section}
use Rattle.scm_types.specs.declared.section.Section.TheVariants as sections
use Rattle.scm_types.specs.declared.file.File.{File}
use Rattle.scm_types.specs.declared.state.Commit.{Commit}
use Rattle.scm_types.specs.declared.state.RecordState.{RecordState}
use Rattle.scm_types.specs.Limits.{is_accepted_state}
use Rattle.scm_types.specs.Same.{unmarked, with_empty_message}
use Rattle.scm_types.specs.Mode.{is_absent}
use Rattle.scm_types.specs.Edits.{modify}
use Rattle.scm_record.specs.declared.session.Flow.{Flow}
use Rattle.std.specs.List.{list_any}
use Rattle.scm_selection.specs.Coherence.{KeepsCoherent}
use Rattle.scm_selection.proofs.CoherenceLemmas.{keeps_coherent-same}
use Rattle.scm_types.specs.Repair.{is_deletion, is_new_and_deleted}
use Rattle.scm_selection.specs.Toggle.{with_key_toggled, with_all_inverted, with_all_set}
use Rattle.scm_layout.proofs.BareLemmas.{all_set-hidden, bare, bare_file, bare_section, inverted-hidden, toggle-hidden}
use Rattle.scm_record.specs.Session.{Session, start, padded_commits, padded_state, with_files_changed, with_message, message_of, commit_with_message}
use Rattle.scm_record.specs.Step.{change}
use Rattle.scm_record.specs.Run.{World, Point, Before, after, Reaches, world_at}
use Rattle.scm_record.specs.Keeping.{IsKept, has_message}
use Rattle.scm_record.proofs.InvariantLemmas.{IsInvariant, reaches-keeps}
use Rattle.scm_record.proofs.StepCoherenceLemmas.{marks-keep}
use Rattle.scm_record.proofs.StepLemmas as steps
use Rattle.scm_record.proofs.StepLemmas.{Marks, toggled, inverted, all_set, leads, message_at}

message-first : (text : List ℕ) (message : Option (List ℕ)) (cs : List Commit) → is_some message ≡ true → with_empty_message (record { message = Some text }) ∷ cs ≡ with_empty_message (record { message = message }) ∷ cs
message-first text None cs h = cc
message-first text (Some other) cs h = refl

-- a state is the padded given one but for marks, and whole where it is read-only
record IsGiven (given state : RecordState) : Type 0 where
  same : unmarked (padded_state given) ≡ unmarked state
  commits : map has_message state.commits ≡ map has_message (padded_commits given.commits)
  flag : state.is_read_only ≡ given.is_read_only
  files : IsTrue given.is_read_only → state.files ≡ given.files

files-given : (read_only : Bool) (given : RecordState) (s : Session) (f : List File → List File) → ((files : List File) → map bare_file (f files) ≡ map bare_file files) → s.shown.state.is_read_only ≡ read_only → IsGiven given s.shown.state → IsGiven given (cond read_only s (record s { shown = record s.shown { state = record s.shown.state { files = f s.shown.state.files } } })).shown.state
files-given true given s f hidden e h = h
files-given false given s f hidden e h = record {
  same = h.same ∙ ap (λ (fs : List File). record (unmarked s.shown.state) { files = fs }) (sym (hidden s.shown.state.files));
  commits = h.commits;
  flag = h.flag;
  files = λ r. let flag = h.flag in cc;
}

-- marks that change unless the state is read-only
files_changed-given : (given : RecordState) (s : Session) (f : List File → List File) → ((files : List File) → map bare_file (f files) ≡ map bare_file files) → IsGiven given s.shown.state → IsGiven given (with_files_changed f s).shown.state
files_changed-given given s f hidden h = files-given s.shown.state.is_read_only given s f hidden refl h

message-emptied : (text : List ℕ) (cs : List Commit) (i : ℕ) → is_some (message_at cs i) ≡ true → map with_empty_message (modify (commit_with_message text) cs i) ≡ map with_empty_message cs
message-emptied text [] i h = refl
message-emptied text (c ∷ cs) zero h = message-first text c.message (map with_empty_message cs) h
message-emptied text (c ∷ cs) (suc i) h = ap (λ ds. with_empty_message c ∷ ds) (message-emptied text cs i h)

message-has : (text : List ℕ) (cs : List Commit) (i : ℕ) → is_some (message_at cs i) ≡ true → map has_message (modify (commit_with_message text) cs i) ≡ map has_message cs
message-has text [] i h = refl
message-has text (c ∷ cs) zero h = ap (λ b. b ∷ map has_message cs) (sym h)
message-has text (c ∷ cs) (suc i) h = ap (λ ds. has_message c ∷ ds) (message-has text cs i h)

-- a message in place of another one
message-given : (given : RecordState) (s : Session) (commit : ℕ) (text : List ℕ) → IsGiven given s.shown.state → is_some (message_of s commit) ≡ true → IsGiven given (with_message s commit text).shown.state
message-given given s commit text h k = record {
  same = h.same ∙ ap (λ (cs : List Commit). record (unmarked s.shown.state) { commits = cs }) (sym (message-emptied text s.shown.state.commits commit k));
  commits = message-has text s.shown.state.commits commit k ∙ h.commits;
  flag = h.flag;
  files = h.files;
}

-- what an event makes of a session keeps it
marks-given : (given : RecordState) (s : Session) (state : RecordState) (flow : Flow) → Marks s state flow → IsGiven given s.shown.state → IsGiven given state
marks-given given s _ _ (steps.unmarked allowed) h = h
marks-given given s _ _ toggled h = files_changed-given given s (with_key_toggled s.shown.selection) (toggle-hidden s.shown.selection) h
marks-given given s _ _ inverted h = files_changed-given given s with_all_inverted inverted-hidden h
marks-given given s _ _ all_set h = files_changed-given given s with_all_set all_set-hidden h

-- ---- files that stay coherent

-- whether a file is new and also deleted does not depend on its marks
bare-deletion : (s : Section) → is_deletion (bare_section s) ≡ is_deletion s
bare-deletion (sections.Unchanged lines) = refl
bare-deletion (sections.Changed lines) = refl
bare-deletion (sections.FileMode is_checked mode) = refl
bare-deletion (sections.Binary is_checked old new) = refl

bare-deletions : (list : List Section) → list_any is_deletion (bare list) ≡ list_any is_deletion list
bare-deletions [] = refl
bare-deletions (s ∷ list) = ap₂ (λ a b. a || b) (bare-deletion s) (bare-deletions list)

bare-new_and_deleted : (file : File) → is_new_and_deleted (bare_file file) ≡ is_new_and_deleted file
bare-new_and_deleted file = ap (λ b. is_absent file.file_mode && b) (bare-deletions file.sections)

-- the file at an index of another list, which has the same files but for their marks
record IsAt (files : List File) (i : ℕ) (file : File) : Type 0 where
  found : File
  at : slice_get files i ≡ Some found
  same : bare_file found ≡ bare_file file

file-at : (old new : List File) (i : ℕ) (file : File) → map bare_file new ≡ map bare_file old → slice_get old i ≡ Some file → IsAt new i file
file-at [] new i file e h = cc
file-at (f ∷ fs) [] i file e h = cc
file-at (f ∷ fs) (g ∷ gs) zero file e h = record { found = g; at = refl; same = cc }
file-at (f ∷ fs) (g ∷ gs) (suc i) file e h =
    let behind : map bare_file gs ≡ map bare_file fs = cc in
    let r = file-at fs gs i file behind h in
    record { found = r.found; at = r.at; same = r.same }

-- two changes of marks after one another keep each file coherent, if each of them does
coherent-on : (old mid new : List File) → map bare_file mid ≡ map bare_file old → KeepsCoherent old mid → KeepsCoherent mid new → KeepsCoherent old new
coherent-on old mid new e f g i before after is_before is_after pure coherent =
    let m = file-at old mid i before e is_before in
    let still : is_new_and_deleted m.found ≡ false =
    sym (bare-new_and_deleted m.found) ∙ ap is_new_and_deleted m.same ∙ bare-new_and_deleted before ∙ pure in
    g i m.found after m.at is_after still (f i before m.found is_before m.at pure coherent)

-- a state is the padded given one but for marks, and each file stays coherent
pub record Kept (given state : RecordState) : Type 0 where
  alone : IsGiven given state
  coherent : KeepsCoherent given.files state.files

-- a message in place of another one
message-kept : (given : RecordState) (s : Session) (commit : ℕ) (text : List ℕ) → Kept given s.shown.state → is_some (message_of s commit) ≡ true → Kept given (with_message s commit text).shown.state
message-kept given s commit text h k = record { alone = message-given given s commit text h.alone k; coherent = h.coherent }

-- what an event makes of a session keeps it
marks-kept : (given : RecordState) (s : Session) (state : RecordState) (flow : Flow) → Marks s state flow → Kept given s.shown.state → Kept given state
marks-kept given s state flow m h = record {
  alone = marks-given given s state flow m h.alone;
  coherent = coherent-on given.files s.shown.state.files state.files (sym (ap (λ (x : RecordState). x.files) h.alone.same)) h.coherent (marks-keep s state flow m);
}

-- what an event, and a message in place of another one, leave of it
stays-kept : (given : RecordState) → IsInvariant (λ (s : Session). Kept given s.shown.state)
stays-kept given = record {
  drawn = λ s h. h;
  begun = λ s h. h;
  changed = λ scene s event h. let c = change scene s event in marks-kept given s c.session.shown.state c.flow (leads scene s event).marks h;
  answered = λ s commit text message short h. message-kept given s commit text h message;
}

-- and so does all that is reached
pub reaches-kept : (given : RecordState) (p : Point) {q : Point} → Reaches p q → Kept given (world_at p).session.shown.state → Kept given (world_at q).session.shown.state
reaches-kept given p r h = reaches-keeps (λ (s : Session). Kept given s.shown.state) (stays-kept given) r h

pub start-kept : (given : RecordState) → Kept given (start given).shown.state
start-kept given = record {
  alone = record { same = refl; commits = refl; flag = refl; files = λ _. refl };
  coherent = keeps_coherent-same given.files;
}

-- an accepted state has at most two commits
few_commits : (state : RecordState) → IsTrue (is_accepted_state state) → length state.commits ≤ 2
few_commits state h = leb-true _ _ (and_parts _ _ (and_parts _ _ (and_parts _ _ h).0).0).0

padded-two : (commits : List Commit) → length commits ≤ 2 → length (padded_commits commits) ≡ 2
padded-two [] h = refl
padded-two (first ∷ []) h = refl
padded-two (first ∷ second ∷ rest) h = omega arith

-- what is kept of an accepted state
pub is-kept : (given answer : RecordState) → IsTrue (is_accepted_state given) → Kept given answer → IsKept given answer
is-kept given answer accepted kept = record {
  same = kept.alone.same;
  commits = sym (length-map answer.commits has_message) ∙ ap length kept.alone.commits ∙ length-map (padded_commits given.commits) has_message ∙ padded-two given.commits (few_commits given accepted);
  messages = kept.alone.commits;
  read_only = kept.alone.files;
  coherent = kept.coherent;
}

-- what is reached from the start of an accepted state keeps it
pub kept-reached : (given answer : RecordState) (s : Session) (w : World) (q : Point) → IsTrue (is_accepted_state given) → s ≡ start given → w.session ≡ s → Reaches (Before w) q → (world_at q).session.shown.state ≡ answer → IsKept given answer
kept-reached given answer s w q accepted started is_session r returned =
    let begun : Kept given w.session.shown.state = subst (λ (t : Session). Kept given t.shown.state) (sym (is_session ∙ started)) (start-kept given) in
    is-kept given answer accepted (subst (λ (state : RecordState). Kept given state) returned (reaches-kept given (Before w) r begun))
