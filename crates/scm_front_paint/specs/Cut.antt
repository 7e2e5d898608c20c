-- A cut of the symbols of a screen: the grid that has their columns from `x` on.
use Rattle.std.specs.Prelude.{◌≡◌, ◌≢◌, ◌⊎◌, ℕ, ◌+◌, ◌-◌, ◌<◌, ◌≤◌, nat_lt, List, [], ◌∷◌, length, slice_get, codes, Option, Some, None, if◌then◌else◌}
use Rattle.scm_errors.specs.declared.error.RecordError.{RecordError}
use Rattle.scm_errors.specs.declared.error.RecordError.TheVariants.{OutOfMemory}
use Rattle.scm_errors.specs.Fault.{Bug, fault_of}
use Rattle.scm_cells.specs.Screen.{Screen}
use Rattle.scm_cells.specs.Symbols.{symbol_at}
use Rattle.scm_front_paint.specs.Symbols.{Symbols}

-- the first `lead` columns of row `row` from `x` on belong to a symbol that begins further left, or to none
pub record IsLead (s : Symbols) (x row lead : ℕ) : Type 0 where
  -- no symbol begins there
  pub none : (c : ℕ) → c < lead → s.at row (x + c) ≡ None
  -- the next one does, if there is one
  pub next : lead < s.width - x → (symbol : List ℕ) × (s.at row (x + lead) ≡ Some symbol)

-- the symbol at column `c` of the cut, on a row whose first `lead` columns are blank
abbrev pub cut_symbol : Symbols → ℕ → ℕ → ℕ → ℕ → Option (List ℕ)
cut_symbol s x row lead c = if nat_lt c lead then Some (32 ∷ []) else s.at row (x + c)

-- row `row` of `cut` has the columns of that row of `s` from `x` on
pub record IsCutRow (cut : Screen) (s : Symbols) (x row : ℕ) : Type 0 where
  pub lead : ℕ
  pub few : lead ≤ s.width - x
  pub is_lead : IsLead s x row lead
  pub symbols : (c : ℕ) → c < s.width - x → symbol_at cut.rows row c ≡ cut_symbol s x row lead c

-- `cut` has the columns of `s` from `x` on
pub record IsCut (cut : Screen) (s : Symbols) (x : ℕ) : Type 0 where
  pub width : cut.width ≡ s.width - x
  pub height : length cut.rows ≡ s.height
  pub rows : (row : ℕ) → row < s.height → IsCutRow cut s x row

-- only row `row` differs
pub record KeepsOthers (old new : Screen) (row : ℕ) : Type 0 where
  pub width : new.width ≡ old.width
  pub height : length new.rows ≡ length old.rows
  pub others : (k : ℕ) → k ≢ row → slice_get new.rows k ≡ slice_get old.rows k

-- an allocation failed, or a symbol is no cluster by itself; no text has such a symbol
abbrev pub CutFails : RecordError → Type 0
CutFails e = (e ≡ OutOfMemory) ⊎ (fault_of e ≡ Some (Bug (codes "a symbol of the screen is no cluster by itself")))
