-- The lines of the items of a small file, computed from the definitions: two lines of context, two removed lines and an added one, a mode, a line
-- of context, and an added line.
use Rattle.std.proofs.Common.{◌≡◌, ℕ, true, false, List, [], ◌∷◌, None, Some, refl}
use Rattle.std.specs.Prelude.{Option}
use Rattle.scm_types.specs.declared.file.File.{File}
use Rattle.scm_types.specs.declared.file_mode.FileMode.TheVariants as modes
use Rattle.scm_types.specs.declared.keys.SelectionKey.TheVariants as keys
use Rattle.scm_types.specs.declared.line.ChangeType.{ChangeType}
use Rattle.scm_types.specs.declared.line.ChangeType.TheVariants.{Added, Removed}
use Rattle.scm_types.specs.declared.line.SectionChangedLine.{SectionChangedLine}
use Rattle.scm_types.specs.declared.section.Section.{Section}
use Rattle.scm_types.specs.declared.section.Section.TheVariants.{Unchanged, Changed, FileMode}
use Rattle.scm_types.specs.declared.state.RecordState.{RecordState}
use Rattle.scm_open_session.specs.declared.line_place.LinePlace.{LinePlace}
use Rattle.scm_open_session.specs.LinePlaces.{place_of}

-- an empty line
abbrev empty : List ℕ
empty = []

-- a changed line
abbrev line : ChangeType → SectionChangedLine
line change = record { is_checked = false; change_type = change; line = empty }

abbrev sections : List Section
sections =
    Unchanged (empty ∷ empty ∷ [])
    ∷ Changed (line Removed ∷ line Removed ∷ line Added ∷ [])
    ∷ FileMode false (modes.Unix 493)
    ∷ Unchanged (empty ∷ [])
    ∷ Changed (line Added ∷ [])
    ∷ []

abbrev file : List Section → File
file sections = record { old_path = None; path = empty; file_mode = modes.Unix 420; sections = sections }

-- a state of two files, of which the second one has these sections
abbrev state : RecordState
state = record { is_read_only = false; commits = []; files = file [] ∷ file sections ∷ [] }

-- a place in the second file
abbrev at : ℕ → ℕ → Option LinePlace
at old new = Some (record { file = 1; old_line = old; new_line = new })

-- the place of the second file, of one of its sections, and of one of its lines
abbrev of_file : Option LinePlace
of_file = place_of (keys.File (record { commit_idx = 0; file_idx = 1 })) state

abbrev of_section : ℕ → Option LinePlace
of_section i = place_of (keys.Section (record { commit_idx = 0; file_idx = 1; section_idx = i })) state

abbrev of_line : ℕ → ℕ → Option LinePlace
of_line i j = place_of (keys.Line (record { commit_idx = 0; file_idx = 1; section_idx = i; line_idx = j })) state

file_begins : of_file ≡ at 1 1
file_begins = refl

context_begins : of_section 0 ≡ at 1 1
context_begins = refl

changes_begin : of_section 1 ≡ at 3 3
changes_begin = refl

-- in the new version a removed line is where the next line is
second_removed_line : of_line 1 1 ≡ at 4 3
second_removed_line = refl

-- in the old version an added line is where the next line is
added_line : of_line 1 2 ≡ at 5 3
added_line = refl

-- a mode has no lines
mode_after_changes : of_section 2 ≡ at 5 4
mode_after_changes = refl

context_after_mode : of_section 3 ≡ at 5 4
context_after_mode = refl

last_line : of_line 4 0 ≡ at 6 5
last_line = refl

nothing_selected : place_of keys.None state ≡ None
nothing_selected = refl

no_such_file : place_of (keys.File (record { commit_idx = 0; file_idx = 2 })) state ≡ None
no_such_file = refl
