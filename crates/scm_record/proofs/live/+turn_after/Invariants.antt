use Rattle.scm_record.proofs.Budget.{turns_of}
use Rattle.scm_record.proofs.live.+turn_after.Given as goal

-- what is pending leaves only events of lower rank pending
abbrev pub decreases-turn_after : goal.decreases-turn_after
decreases-turn_after l = turns_of l.end.flow l.session.value.pending
