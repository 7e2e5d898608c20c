-- Numbers as the code has them.
use Rattle.std.specs.Prelude.{ℕ, ◌-◌, ◌^◌, min}

-- a number as the code has it: at most the greatest `usize`
abbrev pub capped : ℕ → ℕ
capped n = min n (2 ^ 64 - 1)
