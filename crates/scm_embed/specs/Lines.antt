-- The lines of a text.
use Rattle.std.specs.Prelude.{◌≡◌, ℕ, ◌==◌, List, [], ◌∷◌, ◌++◌, if◌then◌else◌}

-- the lines with the byte `b` before the first one
abbrev pub with_first : ℕ → List (List ℕ) → List (List ℕ)
with_first b [] = (b ∷ []) ∷ []
with_first b (l ∷ ls) = (b ∷ l) ∷ ls

-- the lines of a text, each with its line end (the byte 10); the last one may lack it
abbrev pub lines_of : List ℕ → List (List ℕ)
lines_of [] = []
lines_of (b ∷ bs) = if b == 10 then (b ∷ []) ∷ lines_of bs else with_first b (lines_of bs)

-- the lines of a text without a line end: one, or none if it is empty
abbrev pub last_line : List ℕ → List (List ℕ)
last_line [] = []
last_line (b ∷ bs) = (b ∷ bs) ∷ []

-- A list begins with another one.
pub record BeginsWith {A : Type 0} (begin all : List A) : Type 0 where
  -- what follows
  pub rest : List A
  -- the list is both
  pub joined : all ≡ begin ++ rest
