use Rattle.std.proofs.Common.{drop}
use Rattle.scm_screen_tests.specs.Near.{AreShort}
use Rattle.scm_screen_tests.proofs.render.check_captions.Given as goal

abbrev pub invariant-loop-caption : goal.invariant-loop-caption
invariant-loop-caption g l = AreShort (drop l.caption-index l.captions) → AreShort l.captions
