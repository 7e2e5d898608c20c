-- What the layer makes of a turn to which events of the session led.
use Rattle.std.specs.Prelude.{◌≡◌, false, List, Option}
use Rattle.scm_record.specs.declared.live.Turn.{Turn}
use Rattle.scm_front_items.specs.declared.runs.Run.{Run}
use Rattle.scm_front.specs.declared.asking.Query.{Query}
use Rattle.scm_front.specs.declared.kept.Kept.{Kept}
use Rattle.scm_front.specs.declared.kept.Notice.{Notice}
use Rattle.scm_front.specs.declared.layer.FrontTurn.{FrontTurn}
use Rattle.scm_front.specs.declared.recording.Author.{Author}
use Rattle.scm_front.specs.Asking.{with_word}
use Rattle.scm_front.specs.Fronts.{front_of}
use Rattle.scm_front.specs.Keeping.{KeepsAs}
use Rattle.scm_front.specs.Recording.{RecordsAt}

-- The turn with what the layer keeps: the layer says `word`. If the marks `before` the events changed, those of the user are kept, and
-- after those of a program the history begins anew.
pub record HandsOn (turn : Turn) (query : Query) (kept : Kept) (author : Author) (before : Option (List Run)) (word : Notice) (result : FrontTurn) : Type 0 where
  pub new : Kept
  pub is : result ≡ front_of turn (with_word query false) new
  pub keeps : KeepsAs kept kept.anchor word new
  pub records : RecordsAt author kept.history before turn new.history
