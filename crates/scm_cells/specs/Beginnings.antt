-- Beginnings of texts, as far as some columns can show them.
use Rattle.std.specs.Prelude.{◌≡◌, ◌⊎◌, ℕ, ◌<◌, ◌≤◌, List, [], ◌∷◌, ◌++◌, length, take, drop, sum_by}
use Rattle.std.specs.Str.{chars, IsCharBoundary}
use Rattle.scm_cells.specs.Cluster.{Cluster}
use Rattle.scm_cells.specs.Clusters.{clusters, text_width}
use Rattle.scm_cells.specs.Replaced.{line_pieces, pieces_from}

-- ---- texts side by side

-- the texts `ts` begin as the texts `us` do, end after a cluster of one of those, and are wider than `columns` columns
pub record IsCut (columns : ℕ) (ts us : List (List ℕ)) : Type 0 where
  -- the texts that both begin with
  pub front : List (List ℕ)
  -- the last text of `ts`, the text of `us` that it begins, and the texts after that
  pub last : List ℕ
  pub whole : List ℕ
  pub after : List (List ℕ)
  -- the clusters that are cut off
  pub more : List Cluster
  pub cut : ts ≡ front ++ last ∷ []
  pub texts : us ≡ front ++ whole ∷ after
  pub begins : clusters whole ≡ clusters last ++ more
  pub wide : columns < sum_by text_width ts

-- the texts `ts` show in `columns` columns what the texts `us` show: they are the same, or cut where they are wider
abbrev pub Shows : ℕ → List (List ℕ) → List (List ℕ) → Type 0
Shows columns ts us = (ts ≡ us) ⊎ IsCut columns ts us

-- the list `new` is `old` and then texts that show in `columns` columns what `us` show
pub record Adds (columns : ℕ) (old new us : List (List ℕ)) : Type 0 where
  pub texts : List (List ℕ)
  pub added : new ≡ old ++ texts
  pub shown : Shows columns texts us

-- ---- one text

-- the text `first` is wider than `columns` columns, and whatever follows `text`, the whole begins with the clusters of `first`
pub record IsBeginning (columns : ℕ) (first text : List ℕ) : Type 0 where
  pub some : 0 < length text
  pub wide : columns < text_width first
  pub begins : (after : List ℕ) → (more : List Cluster) × (clusters (text ++ after) ≡ clusters first ++ more)

-- the first `n` bytes of the line have no replaced character
pub record IsPlain (line : List ℕ) (n : ℕ) : Type 0 where
  pub within : n ≤ length line
  pub boundary : IsCharBoundary line n
  pub pieces : line_pieces line ≡ pieces_from (take n line) (chars (drop n line))

-- the first piece of the line begins with the clusters of `first`, which is wider than `columns` columns
pub record IsFirst (columns : ℕ) (first line : List ℕ) : Type 0 where
  pub whole : List ℕ
  pub after : List (List ℕ)
  pub more : List Cluster
  pub pieces : line_pieces line ≡ whole ∷ after
  pub begins : clusters whole ≡ clusters first ++ more
  pub wide : columns < text_width first
