-- A search from the front finds the pieces that have a row, as the search by bisection does.
use Rattle.std.proofs.Common.{◌≡◌, ℕ, suc, ◌+◌, ◌-◌, ◌<◌, Bool, true, false, ◌&&◌, List, [], ◌∷◌, length, Option, Some, None, refl, ap, sym, ◌∙◌, arith}
use Rattle.std.specs.Prelude.{nat_le, nat_lt, if◌then◌else◌, option_and_then, option_map, slice_get}
use Rattle.std.proofs.lemmas.Option.{slice_get-get_or}
use Rattle.scm_types.specs.declared.keys.FileKey.{FileKey}
use Rattle.scm_types.specs.declared.keys.SelectionKey.{SelectionKey}
use Rattle.scm_types.specs.Keys.{section_key_of}
use Rattle.scm_document.specs.declared.index_pieces.SectionPiece.{SectionPiece}
use Rattle.scm_layout.specs.declared.file_rows.FileRows.{FileRows}
use Rattle.scm_layout.specs.declared.section_rows.SectionRows.{SectionRows}
use Rattle.scm_layout.specs.Rows.{file_key_of}
use Rattle.scm_layout.specs.Searches.{index_on, section_on}
use Rattle.scm_document.specs.declared.index_pieces.RowPieces.{RowPieces}
use Rattle.scm_layout_index.specs.RowPieces.{end_of_files, file_of_rows, piece_at, pieces_on, section_in, section_of_rows}

-- ---- a search from the front

-- what `make` makes of the first element that has row y, and of its index, if there is such an element; the first element has index i
abbrev pub made_from : {A R : Type 0} → (A → ℕ) → (A → ℕ) → ℕ → (ℕ → A → R) → ℕ → List A → Option R
made_from top end y make i [] = None
made_from top end y make i (r ∷ rs) =
    if nat_le (top r) y && nat_lt y (end r) then Some (make i r) else made_from top end y make (suc i) rs

-- the piece of the section that has row y, counted like their own rows from row `first`, if there is one; the first section has index i
abbrev pub section_from : SelectionKey → ℕ → FileKey → ℕ → ℕ → ℕ → List SectionRows → Option SectionPiece
section_from selection total k first y =
    made_from (λ (r : SectionRows). r.top) (λ (r : SectionRows). r.end) y (λ (i : ℕ) (r : SectionRows). section_of_rows selection total (section_key_of k i) first r)

-- the pieces that have row y, if any; the first file has index i
abbrev pub pieces_from : SelectionKey → ℕ → ℕ → ℕ → List FileRows → Option RowPieces
pieces_from selection m y =
    made_from (λ (r : FileRows). r.top) (λ (r : FileRows). r.end) y (λ (i : ℕ) (r : FileRows). record { file = file_of_rows m i r; section = section_in selection i r y })

-- ---- the search by bisection finds the same

module _ {A : Type 0} (top end : A → ℕ) (row : ℕ) where
  shift : (i : ℕ) (xs : List A) → index_on top end row (suc i) xs ≡ option_map suc (index_on top end row i xs)
  shift i [] = refl
  shift i (x ∷ xs) = go (nat_le (top x) row && nat_lt row (end x)) (shift (suc i) xs)
    where
      go : (b : Bool) → index_on top end row (suc (suc i)) xs ≡ option_map suc (index_on top end row (suc i) xs)
          → (if b then Some (suc i) else index_on top end row (suc (suc i)) xs) ≡ option_map suc (if b then Some i else index_on top end row (suc i) xs)
      go true more = refl
      go false more = more

  made-is : {R : Type 0} (make : ℕ → A → R) (i : ℕ) (xs : List A)
      → option_and_then (λ j. option_and_then (λ x. Some (make (i + j) x)) (slice_get xs j)) (index_on top end row 0 xs) ≡ made_from top end row make i xs
  made-is make i [] = refl
  made-is make i (x ∷ xs) = go (nat_le (top x) row && nat_lt row (end x)) (made-is make (suc i) xs)
    where
      here : i + 0 ≡ i
      here = omega arith

      next : (o : Option ℕ) → option_and_then (λ j. option_and_then (λ y. Some (make (i + j) y)) (slice_get (x ∷ xs) j)) (option_map suc o)
          ≡ option_and_then (λ j. option_and_then (λ y. Some (make (suc i + j) y)) (slice_get xs j)) o
      next None = refl
      next (Some j) = let later : i + suc j ≡ suc i + j = omega arith in ap (λ n. option_and_then (λ y. Some (make n y)) (slice_get xs j)) later

      go : (b : Bool) → option_and_then (λ j. option_and_then (λ y. Some (make (suc i + j) y)) (slice_get xs j)) (index_on top end row 0 xs) ≡ made_from top end row make (suc i) xs
          → option_and_then (λ j. option_and_then (λ y. Some (make (i + j) y)) (slice_get (x ∷ xs) j)) (if b then Some 0 else index_on top end row 1 xs)
          ≡ (if b then Some (make i x) else made_from top end row make (suc i) xs)
      go true more = ap (λ n. Some (make n x)) here
      go false more =
          ap (option_and_then (λ j. option_and_then (λ y. Some (make (i + j) y)) (slice_get (x ∷ xs) j))) (shift 0 xs)
          ∙ next (index_on top end row 0 xs) ∙ more

  made-first : {R : Type 0} (make : ℕ → A → R) (xs : List A)
      → option_and_then (λ j. option_and_then (λ x. Some (make j x)) (slice_get xs j)) (index_on top end row 0 xs) ≡ made_from top end row make 0 xs
  made-first make xs = go (index_on top end row 0 xs) ∙ made-is make 0 xs
    where
      go : (o : Option ℕ) → option_and_then (λ j. option_and_then (λ x. Some (make j x)) (slice_get xs j)) o ≡ option_and_then (λ j. option_and_then (λ x. Some (make (0 + j) x)) (slice_get xs j)) o
      go None = refl
      go (Some j) = let same : j ≡ 0 + j = omega arith in ap (λ n. option_and_then (λ x. Some (make n x)) (slice_get xs j)) same

pub section-found : (selection : SelectionKey) (i : ℕ) (r : FileRows) (y : ℕ)
    → option_and_then (piece_at selection i r) (section_on y r.sections) ≡ section_from selection (length r.sections) (file_key_of 0 i) (r.top + 1) y 0 r.sections
section-found selection i r y = made-first (λ (s : SectionRows). s.top) (λ (s : SectionRows). s.end) y (λ (j : ℕ) (s : SectionRows). section_of_rows selection (length r.sections) (section_key_of (file_key_of 0 i) j) (r.top + 1) s) r.sections

pub pieces-found : (selection : SelectionKey) (m y : ℕ) (rs : List FileRows) → pieces_on selection m y rs ≡ pieces_from selection m y 0 rs
pieces-found selection m y rs = made-first (λ (r : FileRows). r.top) (λ (r : FileRows). r.end) y (λ (i : ℕ) (r : FileRows). record { file = file_of_rows m i r; section = section_in selection i r y }) rs

-- ---- the end of the files

-- the last file ends where all do
pub end-none : (top : ℕ) (rs : List FileRows) → slice_get rs (length rs - 1) ≡ None → top ≡ end_of_files top rs
end-none top [] e = refl
end-none top (a ∷ rs) e =
    let within : suc (length rs) - 1 < suc (length rs) = omega arith in
    absurd (cc (sym e ∙ slice_get-get_or (a ∷ rs) (suc (length rs) - 1) a within))

pub end-last : (top : ℕ) (rs : List FileRows) (r : FileRows) → slice_get rs (length rs - 1) ≡ Some r → r.end ≡ end_of_files top rs
end-last top [] r e = absurd cc
end-last top (a ∷ []) r e = let same : a ≡ r = cc in ap (λ (q : FileRows). q.end) (sym same)
end-last top (a ∷ b ∷ rs) r e =
    let next : suc (suc (length rs)) - 1 ≡ suc (suc (length rs) - 1) = omega arith in
    end-last a.end (b ∷ rs) r (ap (λ n. slice_get (a ∷ b ∷ rs) n) (sym next) ∙ e)
