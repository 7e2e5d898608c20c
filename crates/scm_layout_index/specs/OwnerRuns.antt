-- Runs of columns that have the same owner.
use Rattle.std.specs.Prelude.{◌≡◌, ℕ, ◌<◌, ◌≤◌, ◌&&◌, nat_lt, if◌then◌else◌}

-- the column `stop` if it lies after column c and before column e, and otherwise e
abbrev pub end_before : ℕ → ℕ → ℕ → ℕ
end_before c stop e = if nat_lt c stop && nat_lt stop e then stop else e

-- the columns c..e have the same value of f, and end by column w
pub record IsRun {X : Type 0} (f : ℕ → X) (w c e : ℕ) : Type 0 where
  pub past : c < e
  pub most : e ≤ w
  pub same : (x : ℕ) → c ≤ x → x < e → f x ≡ f c
