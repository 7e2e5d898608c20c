-- A version of a file without the changes that are of blanks alone.
use Rattle.std.specs.Prelude.{◌≡◌, ℕ, ◌+◌, ◌==◌, nat_le, ◌&&◌, ◌||◌, Bool, List, [], ◌∷◌, ◌++◌, map, drop, slice_range, if◌then◌else◌}
use Rattle.std.specs.List.{flat_map}
use Rattle.std.specs.Char.{encode_utf8}
use Rattle.std.specs.Str.{bytes_eq, chars}
use Rattle.scm_embed.specs.Lines.{lines_of}
use Rattle.scm_diff.specs.declared.blanks.WithoutBlankChanges.{WithoutBlankChanges}
use Rattle.scm_diff.specs.declared.hunk.Hunk.{Hunk}
use Rattle.scm_diff.specs.Bytes.{bytes_of_text, text_of_bytes}
use Rattle.scm_diff.specs.Hunks.{AreHunks}
use Rattle.scm_diff.specs.Sides.{text_of}

-- whether the character is a blank: a tab (9), a vertical tab (11), a form feed (12), a carriage return (13) or a space (32). A line end is none.
abbrev pub is_blank : ℕ → Bool
is_blank c = c == 9 || c == 32 || (nat_le 11 c && nat_le c 13)

-- the bytes of the character, or none of a blank
abbrev pub solid : ℕ → List ℕ
solid c = if is_blank c then [] else encode_utf8 c

-- the text without its blanks
abbrev pub squeezed : List ℕ → List ℕ
squeezed text = flat_map solid (chars text)

-- The lines of `new` in the hunks, and those of `old` from line `i` on outside of them.
abbrev pub kept_lines : List (List ℕ) → List (List ℕ) → ℕ → List Hunk → List (List ℕ)
kept_lines old new i [] = drop i old
kept_lines old new i (h ∷ hs) = slice_range old i h.old_start ++ slice_range new h.new_start h.new_end ++ kept_lines old new h.old_end hs

-- how many of the lines differ from the line of the same place in the other list
abbrev pub count_other : List (List ℕ) → List (List ℕ) → ℕ
count_other [] ms = 0
count_other (l ∷ ls) [] = 0
count_other (l ∷ ls) (m ∷ ms) = (if bytes_eq l m then 0 else 1) + count_other ls ms

-- The text is that of the lines of `new`, where the lines of `old` stand for those that differ from them by blanks alone. These are the lines
-- outside of the hunks that are found without blanks.
pub record IsTextWithoutBlankChanges (old new text : List ℕ) (left_out : ℕ) : Type 0 where
  pub hunks : List Hunk
  pub are_hunks : AreHunks (map squeezed (lines_of old)) (map squeezed (lines_of new)) hunks
  pub text_is : text ≡ text_of (kept_lines (lines_of old) (lines_of new) 0 hunks)
  -- without blanks the lines are those of `new`, one by one
  pub same : map squeezed (kept_lines (lines_of old) (lines_of new) 0 hunks) ≡ map squeezed (lines_of new)
  -- how many lines of `new` are left out
  pub count : left_out ≡ count_other (kept_lines (lines_of old) (lines_of new) 0 hunks) (lines_of new)

-- The bytes are those of such a text of the texts of `old` and `new`.
pub record AreWithoutBlankChanges (old new : List ℕ) (found : WithoutBlankChanges) : Type 0 where
  pub text : List ℕ
  pub is_text : IsTextWithoutBlankChanges (text_of_bytes old) (text_of_bytes new) text found.left_out
  pub bytes : found.bytes.items ≡ bytes_of_text text
