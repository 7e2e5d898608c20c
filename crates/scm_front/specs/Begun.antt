-- The session beneath a layer: one that began with a state, and that calls led to where it is.
use Rattle.std.specs.Prelude.{◌≡◌, false, List, [], ◌∷◌}
use Rattle.scm_types.specs.declared.state.RecordState.{RecordState}
use Rattle.scm_types.specs.declared.keys.SelectionKey.{SelectionKey}
use Rattle.scm_input.specs.declared.events.Event.{Event}
use Rattle.scm_input.specs.declared.inputs.TerminalKind.{TerminalKind}
use Rattle.scm_record.specs.Session.{start}
use Rattle.scm_record.specs.Live.{Live}
use Rattle.scm_record.specs.Jumps.{can_select, after_selecting}
use Rattle.scm_record.specs.LiveCalls.{Call, PressAll, Path, BatchLeads}
use Rattle.scm_record.specs.declared.live.Turn.{Turn}
use Rattle.scm_record.specs.declared.live.Turn.TheVariants.{Waiting}

-- some calls led from the start of a state to the turn
pub record HasBegun (turn : Turn) : Type 0 where
  pub given : RecordState
  pub kind : TerminalKind
  pub calls : List Call
  pub path : Path (Waiting (record { session = start given; kind = kind })) calls turn

-- some calls lead from turn to turn
abbrev pub LeadsOn : Turn → Turn → Type 0
LeadsOn turn last = (calls : List Call) × Path turn calls last

-- A jump to `key` leads from a session to another one by these calls: a batch of moves that selects the key. If the key cannot be selected,
-- there is no call, and the session is as it was.
pub data JumpLeads : Live → SelectionKey → List Call → Live → Type 0 where
  jumps : {l : Live} {key : SelectionKey} (moves : List Event) → BatchLeads l moves (Waiting (after_selecting l key))
      → JumpLeads l key (PressAll moves ∷ []) (after_selecting l key)
  stays : {l : Live} {key : SelectionKey} → can_select l key ≡ false → JumpLeads l key [] l
