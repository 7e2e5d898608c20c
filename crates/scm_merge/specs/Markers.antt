-- The bytes of a merge with markers around each open conflict.
use Rattle.std.specs.Prelude.{◌==◌, ◌||◌, ℕ, Bool, if◌then◌else◌, not, true, List, [], ◌∷◌, ◌++◌, filter, length, map}
use Rattle.std.specs.List.{list_any, repeat}
use Rattle.scm_types.specs.declared.file.File.{File}
use Rattle.scm_types.specs.declared.section.Section.{Section}
use Rattle.scm_types.specs.declared.section.Section.TheVariants.{Unchanged}
use Rattle.scm_diff.specs.Bytes.{side_bytes}
use Rattle.scm_merge.specs.declared.labels.Labels.{Labels}
use Rattle.scm_merge.specs.declared.roles.Role.{Role}
use Rattle.scm_merge.specs.declared.roles.Role.TheVariants.{Settled, Ours, Base, Theirs}
use Rattle.scm_merge.specs.declared.style.Style.{Style}
use Rattle.scm_merge.specs.Roles.{roles_of}
use Rattle.scm_merge.specs.Sections.{file_with_sections, section_with_texts}
use Rattle.scm_merge.specs.Style.{has_end, style_of, texts_of}

-- the line end of these files: CR LF or LF
abbrev pub line_end : Bool → List ℕ
line_end crlf = if crlf then 13 ∷ 10 ∷ [] else 10 ∷ []

-- whether the byte is LF or CR
abbrev pub is_line_end : ℕ → Bool
is_line_end b = b == 10 || b == 13

-- whether the label is left out: it is empty, or would not stay on one line
abbrev pub is_left_out : List ℕ → Bool
is_left_out label = (length label == 0) || list_any is_line_end label

-- what a marker has behind its signs: a space and the label, unless the label is left out
abbrev pub label_part : List ℕ → List ℕ
label_part label = if is_left_out label then [] else 32 ∷ label

-- the line of a marker
abbrev pub marker : Style → List ℕ → List ℕ → List ℕ
marker style sign label = repeat style.len sign ++ (label_part label ++ line_end style.is_crlf)

-- the line with its line end, which is added if it has none
abbrev pub ended : Bool → List ℕ → List ℕ
ended crlf line = if has_end line then line else line ++ line_end crlf

-- whether the text is a line, and does not only stand for a version without lines
abbrev pub is_line : List ℕ → Bool
is_line text = not (length text == 0)

-- the lines of a version of an open conflict, each with its line end
abbrev pub version_lines : Bool → List (List ℕ) → List (List ℕ)
version_lines crlf texts = map (ended crlf) (filter is_line texts)

-- a version of an open conflict behind its marker
abbrev pub opened : Style → List ℕ → List ℕ → List (List ℕ) → List (List ℕ)
opened style sign label texts = marker style sign label ∷ version_lines style.is_crlf texts

-- their lines of an open conflict between their marker and the last one
abbrev pub closed : Style → List ℕ → List (List ℕ) → List (List ℕ)
closed style label texts = opened style (61 ∷ []) [] texts ++ marker style (62 ∷ []) label ∷ []

-- the lines of a section of an open conflict
abbrev pub role_lines : Style → Labels → Role → List (List ℕ) → List (List ℕ)
role_lines style labels Settled texts = []
role_lines style labels Ours texts = opened style (60 ∷ []) labels.ours.now texts
role_lines style labels Base texts = opened style (124 ∷ []) labels.base.now texts
role_lines style labels Theirs texts = closed style labels.theirs.now texts

-- The section as it is written: a settled one by its marks, and a version of an open conflict as
-- context with its markers, which are `<`, `|`, `=` and `>`.
abbrev pub marked_section : Style → Labels → Role → Section → Section
marked_section style labels Settled s = section_with_texts s
marked_section style labels Ours s = Unchanged (opened style (60 ∷ []) labels.ours.now (texts_of s))
marked_section style labels Base s = Unchanged (opened style (124 ∷ []) labels.base.now (texts_of s))
marked_section style labels Theirs s =
    Unchanged (opened style (61 ∷ []) [] (texts_of s) ++ marker style (62 ∷ []) labels.theirs.now ∷ [])

-- the sections as they are written, each by its role
abbrev pub marked_sections : Style → Labels → List Role → List Section → List Section
marked_sections style labels [] ss = []
marked_sections style labels (r ∷ rs) [] = []
marked_sections style labels (r ∷ rs) (s ∷ ss) = marked_section style labels r s ∷ marked_sections style labels rs ss

-- the sections with markers around each open conflict
abbrev pub sections_with_markers : ℕ → Labels → List Section → List Section
sections_with_markers least labels ss = marked_sections (style_of least ss) labels (roles_of ss) ss

-- the file with markers around each open conflict
abbrev pub file_with_markers : ℕ → Labels → File → File
file_with_markers least labels file = file_with_sections file (sections_with_markers least labels file.sections)

-- the bytes of the merge by the marks of the file, with markers of at least `least` signs around each open conflict
abbrev pub bytes_with_markers : ℕ → Labels → File → List ℕ
bytes_with_markers least labels file = side_bytes true (file_with_markers least labels file)
