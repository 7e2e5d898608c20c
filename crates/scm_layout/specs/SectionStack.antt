-- Sections one below the other, by where each begins, where the last one ends, and what each is.
use Rattle.std.specs.Prelude.{ℕ, ◌+◌, ◌-◌, List, [], ◌∷◌, map}
use Rattle.scm_rows.specs.declared.section_shape.SectionShape.{SectionShape}
use Rattle.scm_layout.specs.declared.section_rows.SectionRows.{SectionRows}

-- the first of the rows, or `last` if there are none
abbrev pub first_or : List ℕ → ℕ → ℕ
first_or [] last = last
first_or (top ∷ tops) last = top

-- the rows of sections that begin on the rows `tops`, the last of which ends at `last`
abbrev pub rows_by : List ℕ → ℕ → List SectionShape → List SectionRows
rows_by [] last shapes = []
rows_by (top ∷ tops) last [] = []
rows_by (top ∷ tops) last (shape ∷ shapes) = record { top = top; end = first_or tops last; shape = shape } ∷ rows_by tops last shapes

-- where sections begin
abbrev pub tops_of : List SectionRows → List ℕ
tops_of rows = map (λ (r : SectionRows). r.top) rows

-- what sections are
abbrev pub shapes_of : List SectionRows → List SectionShape
shapes_of rows = map (λ (r : SectionRows). r.shape) rows

-- a row from row `from` on after row `from` moved to row `to`
abbrev pub moved_row : ℕ → ℕ → ℕ → ℕ
moved_row from to row = to + (row - from)
