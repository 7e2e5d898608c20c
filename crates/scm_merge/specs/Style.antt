-- How long markers are, and how their lines end.
use Rattle.std.specs.Prelude.{◌+◌, ◌==◌, ◌||◌, ℕ, Bool, false, if◌then◌else◌, List, [], ◌∷◌, map, max, nat_eq, slice_index}
use Rattle.std.specs.List.{ends_with, flat_map, prefix_len}
use Rattle.scm_types.specs.declared.line.SectionChangedLine.{SectionChangedLine}
use Rattle.scm_types.specs.declared.section.Section.{Section}
use Rattle.scm_types.specs.declared.section.Section.TheVariants.{Unchanged, Changed, FileMode, Binary}
use Rattle.scm_merge.specs.declared.style.Style.{Style}

-- the texts of the lines of a section, whatever is marked
abbrev pub texts_of : Section → List (List ℕ)
texts_of (Unchanged lines) = lines
texts_of (Changed lines) = map (λ (l : SectionChangedLine). l.line) lines
texts_of (FileMode is_checked mode) = []
texts_of (Binary is_checked old new) = []

-- the texts of all lines of the sections
abbrev pub all_texts : List Section → List (List ℕ)
all_texts sections = flat_map texts_of sections

-- whether markers are made of the byte: `<`, `|`, `=` or `>`
abbrev pub is_sign : ℕ → Bool
is_sign b = b == 60 || b == 124 || b == 61 || b == 62

-- how many signs, all the same, a line begins with
abbrev pub marker_run : List ℕ → ℕ
marker_run line = if is_sign (slice_index line 0) then prefix_len (λ b. b == slice_index line 0) line else 0

-- how many signs a marker has: `least`, or one more than any line of the file begins with, whichever is greater
abbrev pub marker_len : ℕ → List (List ℕ) → ℕ
marker_len least [] = least
marker_len least (l ∷ ls) = max (marker_run l + 1) (marker_len least ls)

-- whether the line has a line end
abbrev pub has_end : List ℕ → Bool
has_end line = ends_with nat_eq line (10 ∷ [])

-- whether the line ends with CR LF
abbrev pub ends_crlf : List ℕ → Bool
ends_crlf line = ends_with nat_eq line (13 ∷ 10 ∷ [])

-- whether the first of these lines that has a line end ends with CR LF
abbrev pub is_crlf : List (List ℕ) → Bool
is_crlf [] = false
is_crlf (l ∷ ls) = if has_end l then ends_crlf l else is_crlf ls

-- the style of the markers, of at least `least` signs, in a file with these sections
abbrev pub style_of : ℕ → List Section → Style
style_of least sections = record { len = marker_len least (all_texts sections); is_crlf = is_crlf (all_texts sections) }
