-- The texts of the document's rows.
use Rattle.std.specs.Prelude.{ℕ, ◌-◌, ◌==◌, List, [], ◌∷◌, ◌++◌, length, Bool, false, if◌then◌else◌, Option, Some, None, codes, encode_utf8, decimal}
use Rattle.std.specs.Fmt.{digits}
use Rattle.std.specs.List.{before_first, repeat}
use Rattle.std.specs.Str.{trim}
use Rattle.scm_types.specs.declared.line.ChangeType.{ChangeType}
use Rattle.scm_types.specs.declared.line.ChangeType.TheVariants.{Added, Removed}
use Rattle.scm_types.specs.declared.file_mode.FileMode.{FileMode}
use Rattle.scm_types.specs.declared.file_mode.FileMode.TheVariants.{Unix, Absent}

-- ---- headers and sections

-- the path, after the old path and an arrow if the file was renamed
abbrev pub path_text : Option (List ℕ) → List ℕ → List ℕ
path_text None path = path
path_text (Some old) path = old ++ (codes " => " ++ path)

-- a section's number among the editable sections, and their total
abbrev pub section_text : ℕ → ℕ → List ℕ
section_text number total = codes "Section " ++ (decimal number ++ (codes "/" ++ decimal total))

-- the text of a change of file mode
abbrev pub mode_change_text : FileMode → List ℕ
mode_change_text (Unix bits) = codes "File mode set to " ++ digits 8 false bits
mode_change_text Absent = codes "File deleted"

-- the text of a change of binary contents, from the descriptions before and after it
abbrev pub binary_text : Option (List ℕ) → Option (List ℕ) → List ℕ
binary_text (Some old) (Some new) = codes "(binary contents: " ++ (old ++ (codes " -> " ++ (new ++ codes ")")))
binary_text (Some old) None = codes "(binary contents: " ++ (old ++ codes ")")
binary_text None (Some new) = codes "(binary contents: " ++ (new ++ codes ")")
binary_text None None = codes "(binary contents )"

-- ---- lines

-- a line number, right-aligned in five columns, and a space
abbrev pub number_text : ℕ → List ℕ
number_text n = repeat (5 - length (decimal n)) (codes " ") ++ (decimal n ++ codes " ")

-- the sign of a changed line
abbrev pub sign_text : ChangeType → List ℕ
sign_text Added = codes "+ "
sign_text Removed = codes "- "

-- the text of the row of dots: a vertical ellipsis, or a colon in ASCII
abbrev pub dots_text : Bool → List ℕ
dots_text unicode = if unicode then encode_utf8 0x22EE else codes ":"

-- ---- messages

-- the first line of a message without surrounding white space, or `(no message)` if that is empty
unfoldable pub message_text : List ℕ → List ℕ
message_text message =
    let first = trim (before_first (λ b. b == 10) message) in
    if length first == 0 then codes "(no message)" else first

-- the bullet between the edit button and the message, with a space on each side
abbrev pub divider_text : List ℕ
divider_text = 32 ∷ (encode_utf8 0x2022 ++ 32 ∷ [])

-- the empty-state text
abbrev pub no_files_text : List ℕ
no_files_text = codes "There are no changes to view."
