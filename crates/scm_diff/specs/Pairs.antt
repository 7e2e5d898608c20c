-- How the changed lines of a hunk are listed.
use Rattle.std.specs.Prelude.{◌≡◌, ℕ, List, [], ◌∷◌, length, Bool, true, false}
use Rattle.std.specs.List.{flat_map, list_all}
use Rattle.scm_types.specs.declared.line.ChangeType.{ChangeType}
use Rattle.scm_types.specs.declared.line.ChangeType.TheVariants.{Added, Removed}
use Rattle.scm_types.specs.declared.line.SectionChangedLine.{SectionChangedLine}

-- the unchecked changed line
abbrev pub unchecked_line : ChangeType → List ℕ → SectionChangedLine
unchecked_line kind text = record { is_checked = false; change_type = kind; line = text }

-- a removed line and the added line that replaces it, a removed line alone, or an added line alone
pub data Entry : Type 0 where
  Pair : List ℕ → List ℕ → Entry
  OnlyRemoved : List ℕ → Entry
  OnlyAdded : List ℕ → Entry

-- the changed lines of the entry: of a pair the removed line and then the added one
abbrev pub lines_in : Entry → List SectionChangedLine
lines_in (Pair old new) = unchecked_line Removed old ∷ unchecked_line Added new ∷ []
lines_in (OnlyRemoved old) = unchecked_line Removed old ∷ []
lines_in (OnlyAdded new) = unchecked_line Added new ∷ []

-- the removed lines of the entries, in order
abbrev pub removed_in : List Entry → List (List ℕ)
removed_in [] = []
removed_in (Pair old new ∷ es) = old ∷ removed_in es
removed_in (OnlyRemoved old ∷ es) = old ∷ removed_in es
removed_in (OnlyAdded new ∷ es) = removed_in es

-- the added lines of the entries, in order
abbrev pub added_in : List Entry → List (List ℕ)
added_in [] = []
added_in (Pair old new ∷ es) = new ∷ added_in es
added_in (OnlyRemoved old ∷ es) = added_in es
added_in (OnlyAdded new ∷ es) = new ∷ added_in es

-- whether the entry is a pair
abbrev pub is_pair : Entry → Bool
is_pair (Pair old new) = true
is_pair (OnlyRemoved old) = false
is_pair (OnlyAdded new) = false

-- The changed lines are the removed and the added ones, merged: each side's lines keep their order,
-- and a removed line that has a partner stands right before it. As many removed as added lines are
-- paired one by one.
pub record IsMerge (removed added : List (List ℕ)) (lines : List SectionChangedLine) : Type 0 where
  pub entries : List Entry
  pub lines_are : lines ≡ flat_map lines_in entries
  pub removed_are : removed_in entries ≡ removed
  pub added_are : added_in entries ≡ added
  pub one_by_one : length removed ≡ length added → list_all is_pair entries ≡ true
