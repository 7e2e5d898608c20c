-- Counts of drawing work.
use Rattle.std.specs.Prelude.{ℕ, zero, suc, ◌+◌, ◌-◌, ◌^◌, nat_lt, if◌then◌else◌}

-- the rows of the document that were begun, and the draw calls
pub record Counts : Type 0 where
  pub rows : ℕ
  pub calls : ℕ

-- no rows and no calls
abbrev pub no_counts : Counts
no_counts = record { rows = 0; calls = 0 }

-- one row and no call
abbrev pub one_row : Counts
one_row = record { rows = 1; calls = 0 }

-- one call and no row
abbrev pub one_call : Counts
one_call = record { rows = 0; calls = 1 }

-- the sum of two counts
abbrev pub plus : Counts → Counts → Counts
plus a b = record { rows = a.rows + b.rows; calls = a.calls + b.calls }

-- a count plus 1, saturating at 2^64 - 1
abbrev pub saturating_suc : ℕ → ℕ
saturating_suc n = if nat_lt n (2 ^ 64 - 1) then n + 1 else n

-- the second number plus the first, saturating at 2^64 - 1
unfoldable pub saturating_plus : ℕ → ℕ → ℕ
saturating_plus zero n = n
saturating_plus (suc k) n = saturating_plus k (saturating_suc n)

-- the counts `c` plus `more`, saturating
unfoldable pub added : Counts → Counts → Counts
added c more = record { rows = saturating_plus more.rows c.rows; calls = saturating_plus more.calls c.calls }
