-- The store of screens: a slot for each screenshot, and the number of frames drawn.
use Rattle.std.specs.Prelude.{ℕ, zero, suc, ◌+◌, ◌^◌, ◌-◌, List, [], ◌∷◌, ◌++◌, Option, Some, None, slice_get, min, codes}
use Rattle.scm_types.specs.Edits.{modify}

-- for each slot the last text stored in it, if any, and the number of frames drawn
pub record Store : Type 0 where
  pub texts : List (Option (List ℕ))
  pub frames : ℕ

-- the text of an empty slot
abbrev pub never_assigned : List ℕ
never_assigned = codes "<this screenshot was never assigned>"

-- the text of a slot, if there is one
abbrev pub text_or : Option (Option (List ℕ)) → List ℕ
text_or (Some (Some text)) = text
text_or (Some None) = never_assigned
text_or None = never_assigned

-- the text in the slot `place`
abbrev pub text_at : Store → ℕ → List ℕ
text_at store place = text_or (slice_get store.texts place)

-- one more, but at most the greatest usize
abbrev pub count_up : ℕ → ℕ
count_up n = min (n + 1) (2 ^ 64 - 1)

-- the count n after `frames` more frames
abbrev pub counted : ℕ → ℕ → ℕ
counted zero n = n
counted (suc frames) n = count_up (counted frames n)

-- the store with one more slot, which is empty
abbrev pub with_place : Store → Store
with_place s = record s { texts = s.texts ++ None ∷ [] }

-- the store with `text` in the slot `place`, or unchanged if it has no such slot
abbrev pub with_text_at : Store → ℕ → List ℕ → Store
with_text_at s place text = record s { texts = modify (λ _. Some text) s.texts place }

-- the store with one more frame counted
abbrev pub with_frame : Store → Store
with_frame s = record s { frames = count_up s.frames }
