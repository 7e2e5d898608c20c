-- What undo and redo keep: steps, each with the marks before an action.
use Rattle.std.specs.Prelude.{◌≡◌, ℕ, nat_le, Bool, ◌&&◌, List, [], ◌∷◌, ◌++◌, length, sum_by, if◌then◌else◌}
use Rattle.scm_front_items.specs.declared.runs.Step.{Step}
use Rattle.scm_front_items.specs.declared.history.History.{History}

-- the greatest number of steps, and of bytes of all steps
abbrev pub max_steps : ℕ
max_steps = 100

abbrev pub max_bytes : ℕ
max_bytes = 4000000

-- the bytes of steps
abbrev pub bytes_of : List Step → ℕ
bytes_of steps = sum_by (λ (s : Step). s.bytes) steps

-- whether steps are within both bounds
abbrev pub fits : List Step → Bool
fits steps = nat_le (length steps) max_steps && nat_le (bytes_of steps) max_bytes

-- the steps without the oldest ones, until they fit
abbrev pub bounded : List Step → List Step
bounded [] = []
bounded (s ∷ ss) = if fits (s ∷ ss) then s ∷ ss else bounded ss

-- `new` is kept after `old` and the newest step: as much of both as fits, or nothing if an allocation failed
pub data KeepsStep (old : List Step) (step : Step) (new : List Step) : Type 0 where
  keeps : new ≡ bounded (old ++ step ∷ []) → KeepsStep old step new
  drops : new ≡ [] → KeepsStep old step new

-- nothing is kept
abbrev pub no_history : History
no_history = record { undos = []; redos = [] }
