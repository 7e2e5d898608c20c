-- How many lines sections have of a side.
use Rattle.std.specs.Prelude.{ℕ, ◌+◌, Bool, List, [], ◌∷◌, length, if◌then◌else◌}
use Rattle.scm_types.specs.declared.section.Section.{Section}
use Rattle.scm_types.specs.Split.{is_binary}
use Rattle.scm_pager.specs.Sides.{lines_of}
use Rattle.scm_pager.specs.Windows.{capped}

-- the number of lines behind a section, if there are `count` before it: binary contents drop what was before them
abbrev pub count_after : Bool → ℕ → Section → ℕ
count_after selected count s = if is_binary s then 0 else capped (count + length (lines_of selected s))

-- the number of lines behind sections
abbrev pub counted : Bool → ℕ → List Section → ℕ
counted selected count [] = count
counted selected count (s ∷ ss) = counted selected (count_after selected count s) ss
