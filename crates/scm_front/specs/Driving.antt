-- What a call of the session beneath leads to, as a turn.
use Rattle.scm_record.specs.declared.live.Turn.{Turn}
use Rattle.scm_record.specs.declared.live.Turn.TheVariants as turns
use Rattle.scm_front.specs.declared.begun.BegunTurn.{BegunTurn}
use Rattle.scm_front.specs.declared.begun.BegunTurn.TheVariants.{Waiting, Editing, Accepted}

-- the turn of the session
abbrev pub turn_of : BegunTurn → Turn
turn_of (Waiting l) = turns.Waiting l
turn_of (Editing a) = turns.Editing a
turn_of (Accepted state) = turns.Accepted state
