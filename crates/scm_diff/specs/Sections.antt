-- The sections of a file that differs.
use Rattle.std.specs.Prelude.{◌≡◌, ℕ, ◌≤◌, ◌==◌, List, [], ◌∷◌, ◌++◌, drop, length, slice_range, if◌then◌else◌}
use Rattle.scm_types.specs.declared.line.SectionChangedLine.{SectionChangedLine}
use Rattle.scm_types.specs.declared.section.Section.{Section}
use Rattle.scm_types.specs.declared.section.Section.TheVariants.{Unchanged, Changed}
use Rattle.scm_diff.specs.declared.hunk.Hunk.{Hunk}
use Rattle.scm_diff.specs.Pairs.{IsMerge}

-- the section of the context lines, if there are any
abbrev pub context_sections : List (List ℕ) → List Section
context_sections lines = if length lines == 0 then [] else Unchanged lines ∷ []

-- The sections are the context from line `i` of `old` on, if there is any, and the lines of the hunk
-- after it, merged.
pub record AreHunkSections (old new : List (List ℕ)) (i : ℕ) (h : Hunk) (sections : List Section) : Type 0 where
  pub lines : List SectionChangedLine
  pub merged : IsMerge (slice_range old h.old_start h.old_end) (slice_range new h.new_start h.new_end) lines
  pub sections_are : sections ≡ context_sections (slice_range old i h.old_start) ++ Changed lines ∷ []

-- The sections are those of the lines from line `i` of `old` on, which differ by the hunks.
abbrev pub AreSections : List (List ℕ) → List (List ℕ) → ℕ → List Hunk → List Section → Type 0
AreSections old new i [] sections = sections ≡ context_sections (drop i old)
AreSections old new i (h ∷ hs) sections =
    (first : List Section) × (rest : List Section) × (sections ≡ first ++ rest)
    × AreHunkSections old new i h first × AreSections old new h.old_end hs rest

-- `after` is `before` with more sections at its end, of which `P` holds.
pub record HasMore (P : List Section → Type 0) (before after : List Section) : Type 0 where
  pub more : List Section
  pub joined : after ≡ before ++ more
  pub holds : P more

-- The hunk lies within the lines, from line `i` of `old` on.
pub record IsWithin (old new : List (List ℕ)) (i : ℕ) (h : Hunk) : Type 0 where
  pub begins : i ≤ h.old_start
  pub old_order : h.old_start ≤ h.old_end
  pub old_within : h.old_end ≤ length old
  pub new_order : h.new_start ≤ h.new_end
  pub new_within : h.new_end ≤ length new
