use Rattle.std.proofs.Common.{drop}
use Rattle.scm_front.proofs.DeedLemmas.{Doing}
use Rattle.scm_front.proofs.deeds.do_deeds.Given as goal

-- what comes of the rest of the deeds comes of all
abbrev pub invariant-loop-deed : goal.invariant-loop-deed
invariant-loop-deed l = Doing l.initial.session l.deeds l.session (drop l.deed-index l.deeds)
