-- The row of a path.
use Rattle.std.specs.Prelude.{◌≡◌, ℕ, ◌<◌, ◌≤◌, List, Bool, true, false, length, slice_index_or}
use Rattle.scm_tree.specs.declared.row.Row.{Row}
use Rattle.scm_tree.specs.Paths.{is_before}
use Rattle.scm_tree.specs.declared.find.Span.{Span}

-- whether row `i` comes before the path
abbrev pub starts_before : List Row → List ℕ → ℕ → Row → Bool
starts_before rows path i d = is_before (slice_index_or rows i d).path.now path

-- Row `i` has the path.
pub record IsRowFor (rows : List Row) (path : List ℕ) (i : ℕ) : Type 0 where
  pub within : i < length rows
  pub path_is : (d : Row) → (slice_index_or rows i d).path.now ≡ path

-- no row has the path
pub record HasNoRow (rows : List Row) (path : List ℕ) : Type 0 where
  pub is_none : (i : ℕ) (d : Row) → i < length rows → (slice_index_or rows i d).path.now ≡ path → ⊥

-- The rows before the span come before the path, and those after it do not.
pub record IsWithin (rows : List Row) (path : List ℕ) (span : Span) : Type 0 where
  pub order : span.low ≤ span.high
  pub long : span.high ≤ length rows
  pub before : (i : ℕ) (d : Row) → i < span.low → starts_before rows path i d ≡ true
  pub after : (i : ℕ) (d : Row) → span.high ≤ i → i < length rows → starts_before rows path i d ≡ false
