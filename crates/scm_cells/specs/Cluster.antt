-- Clusters, and texts of which each byte is a cluster.
use Rattle.std.specs.Prelude.{ℕ, ◌*◌, ◌≤◌, length, List, [], ◌∷◌, Bool, ◌||◌, nat_lt, map}
use Rattle.std.specs.Int.{is_in_range}
use Rattle.std.specs.List.{list_all}
use denote.Ref.{Bor}

-- a cluster: its bytes, and its width in columns
abbrev pub Cluster : Type 0
Cluster = List ℕ × ℕ

-- the cluster of an iterator's item
abbrev pub cluster : Bor (List ℕ) × ℕ → Cluster
cluster item = (item.0.now, item.1)

-- the cluster takes at most two columns per byte
abbrev pub IsNarrow : Cluster → Type 0
IsNarrow c = c.1 ≤ 2 * length c.0

-- whether each byte is a printable character of ASCII, from a space to a tilde
abbrev pub is_printable : List ℕ → Bool
is_printable text = list_all (is_in_range 0x20 0x7E) text

-- whether a byte is no printable character of ASCII
abbrev pub is_unprintable : ℕ → Bool
is_unprintable b = nat_lt b 0x20 || nat_lt 0x7E b

-- each byte as a cluster of one column
unfoldable pub bytes_as_clusters : List ℕ → List Cluster
bytes_as_clusters text = map (λ b. (b ∷ [], 1)) text
