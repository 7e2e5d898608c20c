use Rattle.std.proofs.Common.{◌≡◌, map, take}
use Rattle.scm_front_paint.specs.Syntax.{run_of}
use Rattle.scm_front_paint.proofs.runs.runs_of.Given as goal

abbrev pub invariant-loop-span : goal.invariant-loop-span
invariant-loop-span l = l.runs ≡ map (run_of l.text) (take l.span-index l.spans)
