-- A file of a state that is made of its old and its new bytes, and the bytes of a side.
use Rattle.std.specs.Prelude.{◌≡◌, ℕ, ◌==◌, ◌&&◌, Bool, true, List, [], ◌∷◌, Option, Some, None, option_map, slice_get, if◌then◌else◌}
use Rattle.std.specs.List.{list_all}
use Rattle.std.specs.Str.{is_utf8}
use Rattle.scm_types.specs.declared.file.File.{File}
use Rattle.scm_types.specs.declared.state.RecordState.{RecordState}
use Rattle.scm_types.specs.Limits.{is_short_text}
use Rattle.scm_embed.specs.Lines.{lines_of}
use Rattle.scm_embed.specs.Additions.{with_file}
use Rattle.scm_diff.specs.declared.change.Version.{Version}
use Rattle.scm_diff.specs.Change.{IsChange}
use Rattle.scm_c_values.specs.declared.texts.TextChange.{TextChange}
use Rattle.scm_c_values.specs.Keys.{no_index}
use Rattle.scm_diff.specs.Bytes as coding

-- ---- what the caller hands in

-- A version of a file that exists: the text that stands for its bytes, and the bits of its mode.
pub record GivenVersion : Type 0 where
  pub text : List ℕ
  pub bits : ℕ

-- The change of a file: its path, its old path, empty without one, and its two versions. `None` is a file that does not exist.
pub record GivenChange : Type 0 where
  pub path : List ℕ
  pub old_path : List ℕ
  pub old : Option GivenVersion
  pub new : Option GivenVersion

-- The version with this text and these bits of the mode. The greatest `usize` stands for no file, whatever the text is.
abbrev pub version_with : List ℕ → ℕ → Option GivenVersion
version_with text bits = if bits == no_index then None else Some (record { text = text; bits = bits })

-- The change with these paths, texts and modes.
abbrev pub change_with : List ℕ → List ℕ → List ℕ → ℕ → List ℕ → ℕ → GivenChange
change_with path old_path old old_bits new new_bits = record {
  path = path;
  old_path = old_path;
  old = version_with old old_bits;
  new = version_with new new_bits;
}

-- The change with these paths, bytes and modes. Bytes that are not UTF-8 have a text too, which stands for them alone.
abbrev pub given_change : List ℕ → List ℕ → List ℕ → ℕ → List ℕ → ℕ → GivenChange
given_change path old_path old old_bits new new_bits =
    change_with path old_path (coding.text_of_bytes old) old_bits (coding.text_of_bytes new) new_bits

-- Whether both paths are UTF-8.
abbrev pub has_text_paths : GivenChange → Bool
has_text_paths c = is_utf8 c.path && is_utf8 c.old_path

-- Whether each line of a version is within the limit.
abbrev pub is_short_version : Option GivenVersion → Bool
is_short_version None = true
is_short_version (Some v) = list_all is_short_text (lines_of v.text)

-- Whether each path and line of a change is within the limit.
abbrev pub is_short_change : GivenChange → Bool
is_short_change c = (is_short_text c.path && is_short_text c.old_path) && (is_short_version c.old && is_short_version c.new)

-- ---- the file

-- A version of `scm_diff`, as the caller hands it in.
abbrev pub seen_version : Version → GivenVersion
seen_version v = record { text = v.text.now; bits = v.mode }

-- A change whose paths are texts, as the caller hands it in.
abbrev pub seen_change : TextChange → GivenChange
seen_change c = record {
  path = c.path.now;
  old_path = c.old_path.now;
  old = option_map seen_version c.old;
  new = option_map seen_version c.new;
}

-- The old path, if there are bytes.
abbrev pub old_path_of : List ℕ → Option (List ℕ)
old_path_of [] = None
old_path_of (b ∷ bs) = Some (b ∷ bs)

-- The file shows how the old version becomes the new one, as `scm_diff` makes it, with nothing checked. It has the old path.
pub record ShowsChange (given : GivenChange) (file : File) : Type 0 where
  -- the versions
  pub old : Option Version
  pub new : Option Version
  pub is_old : option_map seen_version old ≡ given.old
  pub is_new : option_map seen_version new ≡ given.new
  -- the file without the old path
  pub made : File
  pub is_change : IsChange given.path old new made
  pub is : file ≡ record made { old_path = old_path_of given.old_path }

-- The bytes of a version: none if the file does not exist.
abbrev pub bytes_in : List ℕ → ℕ → List ℕ
bytes_in bytes bits = if bits == no_index then [] else bytes

-- ---- the call

-- The code of a change whose paths are UTF-8, while the state is made.
abbrev pub code_of_length : GivenChange → ℕ
code_of_length c = if is_short_change c then 0 else 7

-- A file that shows the change is added to a state.
pub record AddsFile (c : GivenChange) (old new : RecordState) : Type 0 where
  pub file : File
  pub shows : ShowsChange c file
  pub is : new ≡ with_file file old

-- ---- the bytes of a side

-- The bytes of the selected side of file `i` if `selected`, or of the other side: its lines, none of which is joined with another.
abbrev pub side_bytes_at : ℕ → Bool → RecordState → Option (List ℕ)
side_bytes_at i selected state = option_map (coding.side_bytes selected) (slice_get state.files i)
