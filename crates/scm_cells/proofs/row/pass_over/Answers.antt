use Rattle.std.proofs.Common.{arith, refl, zero-add, sym}
use Rattle.scm_cells.proofs.WrittenLemmas.{HasPassed-none, HasPassed-more, HasPassed-end, AllKept-visible, columns_of-more, columns_of-none}
use Rattle.scm_cells.proofs.row.pass_over.Goals as goal

pub clusters-init : goal.clusters-init
clusters-init c = record { passed = HasPassed-none _ _ (AllKept-visible _); taken = sym (zero-add _) }

pub overflow_add-passed : goal.overflow_add-passed
overflow_add-passed c = let more = columns_of-more _ _ _ c.in-Some.ensures.steps in omega (arith, more, c.clusters.invariant.taken, c.requires)

pub clusters-preserved : goal.clusters-preserved
clusters-preserved c =
    let more = columns_of-more _ _ _ c.in-Some.ensures.steps in
    record {
      passed = HasPassed-more c.args.columns c.clusters.passed c.in-Some.width _ _ _ _ (AllKept-visible _) c.clusters.invariant.passed (omega arith) c.in-Some.ensures.steps refl;
      taken = omega (arith, more, c.clusters.invariant.taken);
    }

pub returns-in-None-clause-passed : goal.returns-in-None-clause-passed
returns-in-None-clause-passed c = HasPassed-end _ _ _ _ _ c.clusters.invariant.passed (omega arith) c.in-None.ensures.steps.0 c.in-None.ensures.steps.1

pub returns-in-None-clause-taken : goal.returns-in-None-clause-taken
returns-in-None-clause-taken c = let none = columns_of-none _ _ c.in-None.ensures.steps.0 c.in-None.ensures.steps.1 in omega (arith, none, c.clusters.invariant.taken)

pub returns-clause-passed : goal.returns-clause-passed
returns-clause-passed c = c.clusters.invariant.passed.reached (omega arith)
