-- The lines of context that a section shows, by its place among the sections of its file.
use Rattle.std.specs.Prelude.{ℕ, ◌+◌, ◌-◌, ◌==◌, min, nat_le, nat_lt, Bool, not, ◌&&◌, if◌then◌else◌}
use Rattle.scm_rows.specs.declared.section_place.SectionPlace.{SectionPlace}

-- the place of section i of `total`
abbrev pub place : ℕ → ℕ → SectionPlace
place total i = record { index = i; total = total }

-- whether the section at p is the first of its file
abbrev pub is_first : SectionPlace → Bool
is_first p = p.index == 0

-- whether the section at p is the last of its file
abbrev pub is_last : SectionPlace → Bool
is_last p = p.index + 1 == p.total

-- whether all of n lines of context are shown: at most 6, between two sections
abbrev pub are_all_shown : SectionPlace → ℕ → Bool
are_all_shown p n = not (is_first p) && (not (is_last p) && nat_le n 6)

-- how many of n lines of context are shown above the dots: at most 3, unless all are shown
abbrev pub lines_above : SectionPlace → ℕ → ℕ
lines_above p n = if are_all_shown p n then n else if is_first p then 0 else min n 3

-- whether n lines of context have a row of dots
abbrev pub has_dots : SectionPlace → ℕ → Bool
has_dots p n = not (are_all_shown p n) && nat_lt 3 n

-- how many rows the dots have: 0 or 1
abbrev pub dots_height : SectionPlace → ℕ → ℕ
dots_height p n = if has_dots p n then 1 else 0

-- the index of the first line shown below the dots, of which at most 3 are; n if there is none
abbrev pub first_below : SectionPlace → ℕ → ℕ
first_below p n = if are_all_shown p n then n else if is_last p then n else n - 3

-- how many rows n lines of context have, if there are any
abbrev pub lines_height : SectionPlace → ℕ → ℕ
lines_height p n = lines_above p n + (dots_height p n + (n - first_below p n))

-- how many rows a section of n lines of context has: one blank row if there are none
abbrev pub context_height : SectionPlace → ℕ → ℕ
context_height p n = if n == 0 then 1 else lines_height p n
