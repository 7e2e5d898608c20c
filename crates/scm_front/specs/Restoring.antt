-- What restoring marks leads to.
use Rattle.std.specs.Prelude.{◌≡◌, Bool, List}
use Rattle.scm_record.specs.Live.{Live}
use Rattle.scm_record.specs.LiveCalls.{Call}
use Rattle.scm_record.specs.declared.live.Turn.{Turn}
use Rattle.scm_front_items.specs.declared.items.Way.{Way}
use Rattle.scm_front_items.specs.declared.runs.Step.{Step}
use Rattle.scm_front_items.specs.declared.targets.Deed.{Deed}
use Rattle.scm_front.specs.declared.asking.Query.{Query}
use Rattle.scm_front.specs.declared.kept.Kept.{Kept}
use Rattle.scm_front.specs.declared.layer.FrontTurn.{FrontTurn}
use Rattle.scm_front.specs.Scrolling.{QuietRound}
use Rattle.scm_front.specs.Keeping.{KeepsAs, done_word, steps_of}
use Rattle.scm_front.specs.Fronts.{HasMarks, front_of, selection_of}
use Rattle.scm_front.specs.Recording.{Returns}

-- deeds and the way back lead from a session to the turn, and if the word says that it is done, the marks are those that were wanted, and
-- `back` is kept to go back
pub record RestoresTo (l : Live) (query : Query) (kept : Kept) (way : Way) (wanted : List (List (List Bool))) (back : Step) (result : FrontTurn) : Type 0 where
  pub deeds : List Deed
  pub calls : List Call
  pub turn : Turn
  pub new : Kept
  pub is : result ≡ front_of turn query new
  pub leads : QuietRound l deeds (selection_of l) calls turn
  pub keeps : KeepsAs kept kept.anchor new.word new
  pub done : new.word ≡ done_word way → HasMarks turn wanted
  pub returns : new.word ≡ done_word way → Returns way (steps_of way kept.history) back kept.history new.history
