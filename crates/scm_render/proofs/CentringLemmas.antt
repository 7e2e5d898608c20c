-- Where a centred rectangle lies: within the one that it is centred in.
use Rattle.std.proofs.Common.{ℕ, ◌+◌, ◌*◌, ◌≤◌, arith}
use Rattle.scm_render.specs.Centring.{hundredths, centred_size, centred_gap}

-- a size is at most the room
share-le : (room percent : ℕ) → percent ≤ 100 → percent * room ≤ 100 * room
share-le room percent h = grind arith

pub hundredths-le : (room least percent : ℕ) → percent ≤ 100 → hundredths room least percent ≤ 100 * room
hundredths-le room least percent h = let s = share-le room percent h in omega (arith, s)

-- and with its own they are at most the room
pub centred-fits : (room least percent : ℕ) → percent ≤ 100 → centred_gap room least percent + centred_size room least percent ≤ room
centred-fits room least percent h = let s = hundredths-le room least percent h in omega (arith, s)
