-- The JSON form of a state. `X_of` is the X that a JSON value is the form of, or `None`.
use Rattle.std.specs.Prelude.{ℕ, List, [], ◌∷◌, Bool, false, ◌==◌, codes, Option, Some, None, option_and_then, option_map, if◌then◌else◌}
use Rattle.std.specs.Option.{option_map_or, option_or}
use Rattle.std.specs.Str.{bytes_eq}
use Rattle.serde_json.specs.Data.{Data, null, boolean, number, string, array, object, Items, no_items, item}
use Rattle.serde_json.specs.Events.{members_len}
use Rattle.serde_json.specs.Find.{get, as_bool, as_str, as_array, as_object, as_number, as_u64}
use Rattle.scm_types.specs.declared.line.ChangeType.{ChangeType}
use Rattle.scm_types.specs.declared.line.ChangeType.TheVariants.{Added, Removed}
use Rattle.scm_types.specs.declared.file_mode.FileMode.{FileMode}
use Rattle.scm_types.specs.declared.file_mode.FileMode.TheVariants.{Unix, Absent}
use Rattle.scm_types.specs.declared.line.SectionChangedLine.{SectionChangedLine}
use Rattle.scm_types.specs.declared.section.Section.{Section}
use Rattle.scm_types.specs.declared.section.Section.TheVariants as section
use Rattle.scm_types.specs.declared.file.File.{File}
use Rattle.scm_types.specs.declared.state.Commit.{Commit}
use Rattle.scm_types.specs.declared.state.RecordState.{RecordState}

-- whether the value is an object with n members
abbrev pub has_members : ℕ → Data → Bool
has_members n d = option_map_or (λ ms. members_len ms == n) (as_object d) false

-- the member `name` of an object, read by `f`
abbrev pub member_of : {A : Type 0} → (Data → Option A) → List ℕ → Data → Option A
member_of f name d = option_and_then f (get name d)

-- `null`, or a value read by `f`
abbrev pub optional : {A : Type 0} → (Data → Option A) → Data → Option (Option A)
optional f null = Some None
optional f (boolean b) = option_map Some (f (boolean b))
optional f (number n) = option_map Some (f (number n))
optional f (string s) = option_map Some (f (string s))
optional f (array ds) = option_map Some (f (array ds))
optional f (object ms) = option_map Some (f (object ms))

-- the items, each read by `f`, if all are read
abbrev pub all_of : {A : Type 0} → (Data → Option A) → Items → Option (List A)
all_of f no_items = Some []
all_of f (item d ds) = option_and_then (λ a. option_map (λ rest. a ∷ rest) (all_of f ds)) (f d)

-- an array of items read by `f`
abbrev pub list_of : {A : Type 0} → (Data → Option A) → Data → Option (List A)
list_of f d = option_and_then (all_of f) (as_array d)

-- the kind of change called `name`
abbrev pub change_type_of_name : List ℕ → Option ChangeType
change_type_of_name name =
    if bytes_eq name (codes "Added") then Some Added else if bytes_eq name (codes "Removed") then Some Removed else None

-- `"Added"` or `"Removed"`
abbrev pub change_type_of : Data → Option ChangeType
change_type_of d = option_and_then change_type_of_name (as_str d)

-- `{"is_checked":BOOL,"change_type":NAME,"line":TEXT}`
abbrev pub line_of : Data → Option SectionChangedLine
line_of d =
    if has_members 3 d
    then
    option_and_then (λ c.
    option_and_then (λ t.
    option_map (λ l. record { is_checked = c; change_type = t; line = l })
    (member_of as_str (codes "line") d))
    (member_of change_type_of (codes "change_type") d))
    (member_of as_bool (codes "is_checked") d)
    else None

-- `"Absent"`
abbrev pub absent_of : Data → Option FileMode
absent_of d = option_and_then (λ name. if bytes_eq name (codes "Absent") then Some Absent else None) (as_str d)

-- a whole number from 0 to 2^64 - 1
abbrev pub bits_of : Data → Option ℕ
bits_of d = option_and_then as_u64 (as_number d)

-- `{"Unix":NUMBER}`
abbrev pub unix_of : Data → Option FileMode
unix_of d = if has_members 1 d then option_map Unix (member_of bits_of (codes "Unix") d) else None

-- `"Absent"` or `{"Unix":NUMBER}`
abbrev pub mode_of : Data → Option FileMode
mode_of d = option_or (absent_of d) (unix_of d)

-- the context section of `{"lines":[TEXT, ..]}`
abbrev pub unchanged_of : Data → Option Section
unchanged_of d =
    if has_members 1 d
    then option_map section.Unchanged (member_of (list_of as_str) (codes "lines") d)
    else None

-- the section of changed lines of `{"lines":[LINE, ..]}`
abbrev pub changed_of : Data → Option Section
changed_of d =
    if has_members 1 d
    then option_map section.Changed (member_of (list_of line_of) (codes "lines") d)
    else None

-- the mode change of `{"is_checked":BOOL,"mode":MODE}`
abbrev pub file_mode_of : Data → Option Section
file_mode_of d =
    if has_members 2 d
    then
    option_and_then (λ c.
    option_map (λ m. section.FileMode c m)
    (member_of mode_of (codes "mode") d))
    (member_of as_bool (codes "is_checked") d)
    else None

-- the binary change of `{"is_checked":BOOL,"old_description":TEXT,"new_description":TEXT}`
abbrev pub binary_of : Data → Option Section
binary_of d =
    if has_members 3 d
    then
    option_and_then (λ c.
    option_and_then (λ old.
    option_map (λ new. section.Binary c old new)
    (member_of (optional as_str) (codes "new_description") d))
    (member_of (optional as_str) (codes "old_description") d))
    (member_of as_bool (codes "is_checked") d)
    else None

-- the section of the kind called `kind`
abbrev pub fields_of : List ℕ → Data → Option Section
fields_of kind d =
    if bytes_eq kind (codes "Unchanged") then unchanged_of d
    else if bytes_eq kind (codes "Changed") then changed_of d
    else if bytes_eq kind (codes "FileMode") then file_mode_of d
    else if bytes_eq kind (codes "Binary") then binary_of d
    else None

-- `{"KIND":FORM}`, where KIND is the kind of section and FORM one of the four above
abbrev pub section_of : Data → Option Section
section_of d =
    if has_members 1 d
    then
    option_map_or unchanged_of (get (codes "Unchanged") d)
    (option_map_or changed_of (get (codes "Changed") d)
    (option_map_or file_mode_of (get (codes "FileMode") d)
    (member_of binary_of (codes "Binary") d)))
    else None

-- `{"message":TEXT}`, where TEXT can be `null`
abbrev pub commit_of : Data → Option Commit
commit_of d =
    if has_members 1 d
    then option_map (λ m. record { message = m }) (member_of (optional as_str) (codes "message") d)
    else None

-- `{"old_path":TEXT,"path":TEXT,"file_mode":MODE,"sections":[SECTION, ..]}`
abbrev pub file_of : Data → Option File
file_of d =
    if has_members 4 d
    then
    option_and_then (λ old.
    option_and_then (λ path.
    option_and_then (λ mode.
    option_map (λ sections. record { old_path = old; path = path; file_mode = mode; sections = sections })
    (member_of (list_of section_of) (codes "sections") d))
    (member_of mode_of (codes "file_mode") d))
    (member_of as_str (codes "path") d))
    (member_of (optional as_str) (codes "old_path") d)
    else None

-- `{"is_read_only":BOOL,"commits":[COMMIT, ..],"files":[FILE, ..]}`
abbrev pub state_of : Data → Option RecordState
state_of d =
    if has_members 3 d
    then
    option_and_then (λ r.
    option_and_then (λ cs.
    option_map (λ fs. record { is_read_only = r; commits = cs; files = fs })
    (member_of (list_of file_of) (codes "files") d))
    (member_of (list_of commit_of) (codes "commits") d))
    (member_of as_bool (codes "is_read_only") d)
    else None
