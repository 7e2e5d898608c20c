-- What an addition leaves of a state, and why it is refused.
use Rattle.std.specs.Prelude.{ℕ, ◌-◌, ◌==◌, List, [], ◌∷◌, ◌++◌, length, map, Bool, true, false, nat_lt, ◌&&◌, Option, Some, None, slice_get, if◌then◌else◌}
use Rattle.std.specs.List.{list_all}
use Rattle.scm_types.specs.declared.file_mode.FileMode.{FileMode}
use Rattle.scm_types.specs.declared.line.ChangeType.{ChangeType}
use Rattle.scm_types.specs.declared.line.SectionChangedLine.{SectionChangedLine}
use Rattle.scm_types.specs.declared.section.Section.{Section}
use Rattle.scm_types.specs.declared.section.Section.TheVariants as sections
use Rattle.scm_types.specs.declared.file.File.{File}
use Rattle.scm_types.specs.declared.state.Commit.{Commit}
use Rattle.scm_types.specs.declared.state.RecordState.{RecordState}
use Rattle.scm_types.specs.Edits.{modify}
use Rattle.scm_types.specs.Limits.{is_short_option, is_short_text}
use Rattle.scm_embed.specs.declared.addition.Addition.{Addition}
use Rattle.scm_embed.specs.declared.addition.Addition.TheVariants as additions
use Rattle.scm_embed.specs.declared.addition.Part.{Part}
use Rattle.scm_embed.specs.declared.addition.Part.TheVariants as parts
use Rattle.scm_embed.specs.declared.addition.BuildError.{BuildError}
use Rattle.scm_embed.specs.declared.addition.BuildError.TheVariants.{NoFile, TooLong, TooManyCommits, OutOfMemory}
use Rattle.scm_embed.specs.Lines.{lines_of}

-- ---- states

-- the state without commits and files
abbrev pub empty_state : Bool → RecordState
empty_state is_read_only = record { is_read_only = is_read_only; commits = []; files = [] }

-- the commit with this message, if any
abbrev pub commit_of : Option (List ℕ) → Commit
commit_of message = record { message = message }

-- the file without sections
abbrev pub file_of : Option (List ℕ) → List ℕ → FileMode → File
file_of old_path path mode = record { old_path = old_path; path = path; file_mode = mode; sections = [] }

-- ---- lines in sections

-- whether the section has context lines
abbrev pub is_context : Section → Bool
is_context (sections.Unchanged lines) = true
is_context (sections.Changed lines) = false
is_context (sections.FileMode is_checked mode) = false
is_context (sections.Binary is_checked old new) = false

-- whether the section has changed lines
abbrev pub is_changed : Section → Bool
is_changed (sections.Unchanged lines) = false
is_changed (sections.Changed lines) = true
is_changed (sections.FileMode is_checked mode) = false
is_changed (sections.Binary is_checked old new) = false

-- whether there is a section, and `p` is true of it
abbrev pub is_such : (Section → Bool) → Option Section → Bool
is_such p None = false
is_such p (Some section) = p section

-- whether `p` is true of the last section
abbrev pub ends_in : (Section → Bool) → List Section → Bool
ends_in p ss = is_such p (slice_get ss (length ss - 1))

-- the section with more context lines, if it has context lines
abbrev pub with_more_context : List (List ℕ) → Section → Section
with_more_context more (sections.Unchanged lines) = sections.Unchanged (lines ++ more)
with_more_context more (sections.Changed lines) = sections.Changed lines
with_more_context more (sections.FileMode is_checked mode) = sections.FileMode is_checked mode
with_more_context more (sections.Binary is_checked old new) = sections.Binary is_checked old new

-- the section with more changed lines, if it has changed lines
abbrev pub with_more_changes : List SectionChangedLine → Section → Section
with_more_changes more (sections.Unchanged lines) = sections.Unchanged lines
with_more_changes more (sections.Changed lines) = sections.Changed (lines ++ more)
with_more_changes more (sections.FileMode is_checked mode) = sections.FileMode is_checked mode
with_more_changes more (sections.Binary is_checked old new) = sections.Binary is_checked old new

-- the sections with context lines at the end: in the last section if it has context lines, else in a section of their own
abbrev pub with_context : List (List ℕ) → List Section → List Section
with_context more ss =
    if ends_in is_context ss then modify (with_more_context more) ss (length ss - 1) else ss ++ sections.Unchanged more ∷ []

-- the sections with changed lines at the end: in the last section if it has changed lines, else in a section of their own
abbrev pub with_changes : List SectionChangedLine → List Section → List Section
with_changes more ss =
    if ends_in is_changed ss then modify (with_more_changes more) ss (length ss - 1) else ss ++ sections.Changed more ∷ []

-- the changed line with this mark, kind and text
abbrev pub changed_line : Bool → ChangeType → List ℕ → SectionChangedLine
changed_line is_checked change_type line = record { is_checked = is_checked; change_type = change_type; line = line }

-- the lines of a text, as changed lines with this mark and kind
abbrev pub changed_lines : Bool → ChangeType → List ℕ → List SectionChangedLine
changed_lines is_checked change_type text = map (changed_line is_checked change_type) (lines_of text)

-- the section without lines
abbrev pub section_without_lines : Bool → Section
section_without_lines true = sections.Changed []
section_without_lines false = sections.Unchanged []

-- ---- what an addition leaves

-- the sections after the context lines of a text are added; without a line they stay
abbrev pub after_context : List ℕ → List Section → List Section
after_context text ss = if length text == 0 then ss else with_context (lines_of text) ss

-- the sections after the changed lines of a text are added; without a line they stay
abbrev pub after_changes : Bool → ChangeType → List ℕ → List Section → List Section
after_changes is_checked change_type text ss =
    if length text == 0 then ss else with_changes (changed_lines is_checked change_type text) ss

-- the sections of a file after a part is added
abbrev pub after_part : Part → List Section → List Section
after_part (parts.Context text) ss = after_context text ss
after_part (parts.Changes is_checked change_type text) ss = after_changes is_checked change_type text ss
after_part (parts.ContextLine line) ss = with_context (line ∷ []) ss
after_part (parts.ChangedLine is_checked change_type line) ss = with_changes (changed_line is_checked change_type line ∷ []) ss
after_part (parts.Lines is_changed) ss = ss ++ section_without_lines is_changed ∷ []
after_part (parts.Mode is_checked mode) ss = ss ++ sections.FileMode is_checked mode ∷ []
after_part (parts.Binary is_checked old new) ss = ss ++ sections.Binary is_checked old new ∷ []

-- the file after a part is added
abbrev pub file_after_part : Part → File → File
file_after_part part file = record file { sections = after_part part file.sections }

-- the state after an addition
abbrev pub after_addition : Addition → RecordState → RecordState
after_addition (additions.Commit message) state = record state { commits = state.commits ++ commit_of message ∷ [] }
after_addition (additions.File old_path path mode) state = record state { files = state.files ++ file_of old_path path mode ∷ [] }
after_addition (additions.Part part) state =
    record state { files = modify (file_after_part part) state.files (length state.files - 1) }

-- the state with one more file, as it is
abbrev pub with_file : File → RecordState → RecordState
with_file file state = record state { files = state.files ++ file ∷ [] }

-- ---- why an addition is refused

-- whether each text and line of a part is within the limit
abbrev pub is_short_part : Part → Bool
is_short_part (parts.Context text) = list_all is_short_text (lines_of text)
is_short_part (parts.Changes is_checked change_type text) = list_all is_short_text (lines_of text)
is_short_part (parts.ContextLine line) = is_short_text line
is_short_part (parts.ChangedLine is_checked change_type line) = is_short_text line
is_short_part (parts.Lines is_changed) = true
is_short_part (parts.Mode is_checked mode) = true
is_short_part (parts.Binary is_checked old new) = is_short_option old && is_short_option new

-- `None` if the text is short, else `TooLong`
abbrev pub unless_short : Bool → Option BuildError
unless_short true = None
unless_short false = Some TooLong

-- why a commit is refused, if its message is short: the state has two commits
abbrev pub unless_room : Bool → Option BuildError
unless_room true = None
unless_room false = Some TooManyCommits

-- the first reason for which an addition is refused, if any
abbrev pub refusal_of : Addition → RecordState → Option BuildError
refusal_of (additions.Commit message) state =
    if is_short_option message then unless_room (nat_lt (length state.commits) 2) else Some TooLong
refusal_of (additions.File old_path path mode) state = unless_short (is_short_option old_path && is_short_text path)
refusal_of (additions.Part part) state =
    if nat_lt 0 (length state.files) then unless_short (is_short_part part) else Some NoFile

-- An addition ends with an error: the reason for which it is refused, or an allocation failed.
pub data Refuses : Option BuildError → BuildError → Type 0 where
  refuses : {error : BuildError} → Refuses (Some error) error
  no_memory : {refusal : Option BuildError} → Refuses refusal OutOfMemory
