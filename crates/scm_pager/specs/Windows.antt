-- Windows of lines: what becomes of one as lines are offered to it, in order.
use Rattle.std.specs.Prelude.{ℕ, ◌+◌, ◌-◌, min, nat_lt, List, [], ◌∷◌, ◌++◌, Bool, length, if◌then◌else◌}
use Rattle.scm_types.specs.declared.section.Section.{Section}
use Rattle.scm_types.specs.Split.{is_binary}
use Rattle.scm_pager.specs.declared.lines.SideLine.{SideLine}
use Rattle.scm_pager.specs.WindowView.{Shown}
use Rattle.scm_pager.specs.Sides.{lines_of}

-- a number as far as the code counts
abbrev pub capped : ℕ → ℕ
capped n = min n 18446744073709551615

-- how many lines there are, as far as the code counts
abbrev pub capped_length : List SideLine → ℕ
capped_length lines = capped (length lines)

-- the window after a line: shown if those before the first one are through and there is room
abbrev pub after_line : Shown → SideLine → Shown
after_line w line =
    if nat_lt 0 w.before then record w { before = w.before - 1; count = capped (w.count + 1) }
    else if nat_lt (length w.rows) w.height then record w { rows = w.rows ++ (line ∷ []); count = capped (w.count + 1) }
    else record w { count = capped (w.count + 1) }

-- the window after lines
abbrev pub after_all_lines : Shown → List SideLine → Shown
after_all_lines w [] = w
after_all_lines w (line ∷ lines) = after_all_lines (after_line w line) lines

-- the window as it began
abbrev pub cleared : Shown → Shown
cleared w = record w { before = w.top; count = 0; rows = [] }

-- the window after a section: binary contents drop what was before them
abbrev pub after_section : Bool → Shown → Section → Shown
after_section selected w s = if is_binary s then cleared w else after_all_lines w (lines_of selected s)

-- the window after sections
abbrev pub after_sections : Bool → Shown → List Section → Shown
after_sections selected w [] = w
after_sections selected w (s ∷ ss) = after_sections selected (after_section selected w s) ss

-- a window of at most `height` lines from line `top` on, without a line so far
abbrev pub empty_window : ℕ → ℕ → Shown
empty_window top height = record { top = top; before = top; height = height; count = 0; rows = [] }
