-- Additions to a state, from bytes.
use Rattle.std.specs.Prelude.{ℕ, ◌==◌, List, [], ◌∷◌, Bool, true, false, Option, Some, None, option_map, option_and_then, if◌then◌else◌}
use Rattle.std.specs.Str.{is_utf8}
use Rattle.scm_types.specs.declared.file_mode.FileMode.{FileMode}
use Rattle.scm_types.specs.declared.file_mode.FileMode.TheVariants.{Unix, Absent}
use Rattle.scm_types.specs.declared.line.ChangeType.{ChangeType}
use Rattle.scm_types.specs.declared.line.ChangeType.TheVariants.{Added, Removed}
use Rattle.scm_embed.specs.declared.addition.Addition.{Addition}
use Rattle.scm_embed.specs.declared.addition.Addition.TheVariants as additions
use Rattle.scm_embed.specs.declared.addition.Part.TheVariants as parts
use Rattle.scm_c_values.specs.Keys.{no_index}

-- ---- additions from bytes

-- The text of the bytes. None if they are not UTF-8.
abbrev pub text_of_bytes : List ℕ → Option (List ℕ)
text_of_bytes bytes = if is_utf8 bytes then Some bytes else None

-- The text of the bytes, or no text if there are no bytes. None if they are not UTF-8.
abbrev pub text_if_any : List ℕ → Option (Option (List ℕ))
text_if_any [] = Some None
text_if_any (b ∷ bs) = option_map Some (text_of_bytes (b ∷ bs))

-- The mode with these bits. The greatest `usize` stands for no file.
abbrev pub mode_of_bits : ℕ → FileMode
mode_of_bits bits = if bits == no_index then Absent else Unix bits

-- Whether lines were added or removed.
abbrev pub kind_of_change : Bool → ChangeType
kind_of_change true = Added
kind_of_change false = Removed

-- A commit with a message.
abbrev pub message_of_bytes : List ℕ → Option Addition
message_of_bytes text = option_map (λ (t : List ℕ). additions.Commit (Some t)) (text_of_bytes text)

-- A file. Without bytes it has no old path.
abbrev pub file_of_bytes : List ℕ → List ℕ → ℕ → Option Addition
file_of_bytes path old_path bits = option_and_then (λ (p : List ℕ).
    option_map (λ (o : Option (List ℕ)). additions.File o p (mode_of_bits bits)) (text_if_any old_path)) (text_of_bytes path)

-- Context lines.
abbrev pub context_of_bytes : List ℕ → Option Addition
context_of_bytes text = option_map (λ (t : List ℕ). additions.Part (parts.Context t)) (text_of_bytes text)

-- Changed lines.
abbrev pub changes_of_bytes : Bool → Bool → List ℕ → Option Addition
changes_of_bytes is_added is_checked text =
    option_map (λ (t : List ℕ). additions.Part (parts.Changes is_checked (kind_of_change is_added) t)) (text_of_bytes text)

-- One line, which is all bytes: a changed line if `is_changed`, or else a context line.
abbrev pub line_of_bytes : Bool → Bool → Bool → List ℕ → Option Addition
line_of_bytes true is_added is_checked text =
    option_map (λ (t : List ℕ). additions.Part (parts.ChangedLine is_checked (kind_of_change is_added) t)) (text_of_bytes text)
line_of_bytes false is_added is_checked text = option_map (λ (t : List ℕ). additions.Part (parts.ContextLine t)) (text_of_bytes text)

-- A change of binary contents. Without bytes there is no description.
abbrev pub binary_of_bytes : Bool → List ℕ → List ℕ → Option Addition
binary_of_bytes is_checked old new = option_and_then (λ (o : Option (List ℕ)).
    option_map (λ (n : Option (List ℕ)). additions.Part (parts.Binary is_checked o n)) (text_if_any new)) (text_if_any old)
