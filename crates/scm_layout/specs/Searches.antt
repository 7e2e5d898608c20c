-- Searches for the file or section that has a row, in lists whose rows follow one another.
use Rattle.std.specs.Prelude.{◌≡◌, ℕ, suc, ◌≤◌, nat_le, nat_lt, ◌&&◌, List, [], ◌∷◌, if◌then◌else◌, Option, Some, None}
use Rattle.std.specs.List.{prefix_len}
use Rattle.scm_layout.specs.declared.file_rows.FileRows.{FileRows}
use Rattle.scm_layout.specs.declared.section_rows.SectionRows.{SectionRows}

-- the index of the first element whose row range top..end has row `row`, if there is one; the first element has index i
abbrev pub index_on : {A : Type 0} → (A → ℕ) → (A → ℕ) → ℕ → ℕ → List A → Option ℕ
index_on top end row i [] = None
index_on top end row i (x ∷ xs) =
    if nat_le (top x) row && nat_lt row (end x) then Some i else index_on top end row (suc i) xs

-- how many elements at the front of the list begin on row `row` or above
abbrev pub count_to : {A : Type 0} → (A → ℕ) → ℕ → List A → ℕ
count_to top row xs = prefix_len (λ x. nat_le (top x) row) xs

-- the first element begins on row `row`, and each other where the one before it ends
abbrev pub FollowFrom : {A : Type 0} → (A → ℕ) → (A → ℕ) → ℕ → List A → Type 0
FollowFrom top end row [] = Unit {0}
FollowFrom top end row (x ∷ xs) = (top x ≡ row) × (row ≤ end x) × FollowFrom top end (end x) xs

-- files whose rows follow one another
pub record FilesFollow (files : List FileRows) : Type 0 where
  pub top : ℕ
  pub follow : FollowFrom (λ (r : FileRows). r.top) (λ (r : FileRows). r.end) top files

-- sections whose rows follow one another
pub record SectionsFollow (sections : List SectionRows) : Type 0 where
  pub top : ℕ
  pub follow : FollowFrom (λ (r : SectionRows). r.top) (λ (r : SectionRows). r.end) top sections

-- the index of the file that has row `row` of the document, if there is one
abbrev pub file_on : ℕ → List FileRows → Option ℕ
file_on row files = index_on (λ (r : FileRows). r.top) (λ (r : FileRows). r.end) row 0 files

-- the index of the section that has row `row` of its file's, if there is one
abbrev pub section_on : ℕ → List SectionRows → Option ℕ
section_on row sections = index_on (λ (r : SectionRows). r.top) (λ (r : SectionRows). r.end) row 0 sections
