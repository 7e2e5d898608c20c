-- Where the lines of a merge come from.
use Rattle.std.specs.Prelude.{◌≡◌, ℕ, Bool, true, false, List, map, filter}

-- the list that a line comes from: the base, ours or theirs
pub data Source : Type 0 where
  FromBase : Source
  FromOurs : Source
  FromTheirs : Source

-- a line of one of the three lists, and whether the merge has it
pub record Origin : Type 0 where
  pub source : Source
  pub line : List ℕ
  pub is_taken : Bool

-- whether the line comes from the base, from ours, from theirs
abbrev pub is_base : Source → Bool
is_base FromBase = true
is_base FromOurs = false
is_base FromTheirs = false

abbrev pub is_ours : Source → Bool
is_ours FromBase = false
is_ours FromOurs = true
is_ours FromTheirs = false

abbrev pub is_theirs : Source → Bool
is_theirs FromBase = false
is_theirs FromOurs = false
is_theirs FromTheirs = true

-- the lines from the sources that pass the test, in order
abbrev pub lines_from : (Source → Bool) → List Origin → List (List ℕ)
lines_from test origins = map (λ (o : Origin). o.line) (filter (λ (o : Origin). test o.source) origins)

-- the lines that the merge has, in order
abbrev pub taken_lines : List Origin → List (List ℕ)
taken_lines origins = map (λ (o : Origin). o.line) (filter (λ (o : Origin). o.is_taken) origins)

-- All lines of the three lists stand in one order, which is that of each list, and `lines` are those
-- that are taken. So each of them is a line of one of the lists, in that one's order, and none is doubled.
pub record IsWoven (base ours theirs lines : List (List ℕ)) : Type 0 where
  pub origins : List Origin
  pub base_lines : lines_from is_base origins ≡ base
  pub our_lines : lines_from is_ours origins ≡ ours
  pub their_lines : lines_from is_theirs origins ≡ theirs
  pub taken : taken_lines origins ≡ lines
