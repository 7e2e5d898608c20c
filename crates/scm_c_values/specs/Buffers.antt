-- Texts in a caller's buffer.
use Rattle.std.specs.Prelude.{ℕ, min, ◌++◌, List, length, take, drop, ◌≡◌, Option, Some, None}

-- The buffer with the text over its beginning, clipped to the buffer's length.
abbrev pub over : List ℕ → List ℕ → List ℕ
over text buffer = let fits = min (length text) (length buffer) in take fits text ++ drop fits buffer

-- The text is written over the buffer, and its length is told. Without a text this is false.
abbrev pub TellsText : Option (List ℕ) → List ℕ → List ℕ → ℕ → Type 0
TellsText None old new told = ⊥
TellsText (Some text) old new told = (told ≡ length text) × (new ≡ over text old)
