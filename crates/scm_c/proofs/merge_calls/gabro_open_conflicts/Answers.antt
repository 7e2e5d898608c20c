use Rattle.std.proofs.Common.{Option, refl, subst}
use Rattle.scm_merge.specs.declared.by_marks.Merged.{Merged}
use Rattle.scm_merge.specs.Marked.{IsMergedByMarks}
use Rattle.scm_c.proofs.merge_calls.gabro_open_conflicts.Goals as goal

pub returns-in-Some-clause-open : goal.returns-in-Some-clause-open
returns-in-Some-clause-open c = λ _. record {
  merged = c.in-Some.merged;
  is_merged = subst (λ (x : Option Merged). IsMergedByMarks c.args.base.now c.args.ours.now c.args.theirs.now c.args.marks.now x) c.in-Some.is c.in-Ok.ensures;
  told_is = refl;
}
