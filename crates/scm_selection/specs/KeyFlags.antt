-- Flags for the files and sections of the first commit: each says whether a key is in a set. Indexes count from 0.
use Rattle.std.specs.Prelude.{ℕ, ◌+◌, Bool, true, false, ◌&&◌, List, [], ◌∷◌, ◌++◌, map, length, nat_eq, nat_lt, if◌then◌else◌, Option, Some, None, slice_get}
use Rattle.scm_types.specs.declared.file.File.{File}
use Rattle.scm_types.specs.declared.keys.SelectionKey.{SelectionKey}
use Rattle.scm_types.specs.declared.keys.SelectionKey.TheVariants as keys
use Rattle.scm_types.specs.Edits.{modify}
use Rattle.scm_types.specs.Marks.{is_editable_section}
use Rattle.scm_selection.specs.declared.key_flags.FileFlags.{FileFlags}
use Rattle.scm_selection.specs.KeyLists.{file_key, section_key}
use Rattle.scm_selection.specs.KeySet.{has_key}

-- ---- the keys whose flag is set

-- the keys of sections of file `file` whose flag is set; the first flag is that of section `section`
abbrev pub flagged_sections : ℕ → ℕ → List Bool → List SelectionKey
flagged_sections file section [] = []
flagged_sections file section (flag ∷ flags) =
    if flag then section_key file section ∷ flagged_sections file (section + 1) flags else flagged_sections file (section + 1) flags

-- the keys of file `file` and of its sections whose flag is set
abbrev pub flagged_in : ℕ → FileFlags → List SelectionKey
flagged_in file flags =
    if flags.is_set then file_key file ∷ flagged_sections file 0 flags.sections else flagged_sections file 0 flags.sections

-- the keys of files and sections whose flag is set; the first flags are those of file `file`
abbrev pub flagged_keys : ℕ → List FileFlags → List SelectionKey
flagged_keys file [] = []
flagged_keys file (flags ∷ more) = flagged_in file flags ++ flagged_keys (file + 1) more

-- whether the list `set` contains each key of a list
abbrev pub has_each : List SelectionKey → List SelectionKey → Bool
has_each set [] = true
has_each set (k ∷ ks) = has_key set k && has_each set ks

-- ---- the flag of a key

-- whether there is a flag, and it is set
abbrev pub is_set_in : Option Bool → Bool
is_set_in None = false
is_set_in (Some flag) = flag

-- whether there are flags of a file, and its own is set
abbrev pub is_file_flagged : Option FileFlags → Bool
is_file_flagged None = false
is_file_flagged (Some flags) = flags.is_set

-- whether there are flags of a file, and that of section `section` is set
abbrev pub is_section_flagged : ℕ → Option FileFlags → Bool
is_section_flagged section None = false
is_section_flagged section (Some flags) = is_set_in (slice_get flags.sections section)

-- whether a key has a flag, and it is set
abbrev pub is_flagged : List FileFlags → SelectionKey → Bool
is_flagged flags keys.None = false
is_flagged flags (keys.File key) = nat_eq key.commit_idx 0 && is_file_flagged (slice_get flags key.file_idx)
is_flagged flags (keys.Section key) = nat_eq key.commit_idx 0 && is_section_flagged key.section_idx (slice_get flags key.file_idx)
is_flagged flags (keys.Line key) = false

-- whether there are flags of a file, and among them that of section `section`
abbrev pub has_section_flag : ℕ → Option FileFlags → Bool
has_section_flag section None = false
has_section_flag section (Some flags) = nat_lt section (length flags.sections)

-- whether a key has a flag
abbrev pub has_flag : List FileFlags → SelectionKey → Bool
has_flag flags keys.None = false
has_flag flags (keys.File key) = nat_eq key.commit_idx 0 && nat_lt key.file_idx (length flags)
has_flag flags (keys.Section key) = nat_eq key.commit_idx 0 && has_section_flag key.section_idx (slice_get flags key.file_idx)
has_flag flags (keys.Line key) = false

-- ---- flags that change

-- the flags of a file with its own set to `is_set`
abbrev pub with_own_flag : Bool → FileFlags → FileFlags
with_own_flag is_set flags = record flags { is_set = is_set }

-- the flags of a file with that of section `section` set to `is_set`, if there is one
abbrev pub with_section_flag : Bool → ℕ → FileFlags → FileFlags
with_section_flag is_set section flags = record flags { sections = modify (λ _. is_set) flags.sections section }

-- the flags with that of a key set to `is_set`, if it has one
abbrev pub with_flag : Bool → List FileFlags → SelectionKey → List FileFlags
with_flag is_set flags keys.None = flags
with_flag is_set flags (keys.File key) =
    if nat_eq key.commit_idx 0 then modify (with_own_flag is_set) flags key.file_idx else flags
with_flag is_set flags (keys.Section key) =
    if nat_eq key.commit_idx 0 then modify (with_section_flag is_set key.section_idx) flags key.file_idx else flags
with_flag is_set flags (keys.Line key) = flags

-- ---- the flags of files

-- the flags of a file: its own is `is_set`, and those of sections are set unless they are context
abbrev pub flags_of : Bool → File → FileFlags
flags_of is_set file = record { is_set = is_set; sections = map is_editable_section file.sections }
