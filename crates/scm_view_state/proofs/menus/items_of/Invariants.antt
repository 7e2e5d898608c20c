use Rattle.std.proofs.Common.{◌≡◌, List, take}
use Rattle.std.specs.Prelude.{ℕ, map}
use Rattle.std.specs.Borrow.{Bor}
use Rattle.scm_overlay.specs.Tables.{item}
use Rattle.scm_input.specs.declared.events.Event.{Event}
use Rattle.scm_view_state.proofs.menus.items_of.Given as goal

-- the items of the rows so far
abbrev pub invariant-loop-item_label : goal.invariant-loop-item_label
invariant-loop-item_label l = l.items.items ≡ map (λ (r : Bor (List ℕ) × Event). item r.0.now) (take l.item_label-index l.rows)
