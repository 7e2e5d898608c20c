use Rattle.scm_front.specs.declared.kept.Notice.TheVariants.{Undone, Redone}
use Rattle.scm_front.proofs.DoLemmas.{returns-down, returns-up, said-keeps}
use Rattle.scm_front.proofs.layer.with_back.Goals as goal

pub returns-in-Up-clause-keeps : goal.returns-in-Up-clause-keeps
returns-in-Up-clause-keeps c = rw c.in-Up.is (said-keeps c.args.kept _ Undone c.saying.result c.saying.ensures)

pub returns-in-Up-clause-returns : goal.returns-in-Up-clause-returns
returns-in-Up-clause-returns c =
    rw c.in-Up.is (returns-up c.args.kept _ Undone c.args.back c.saying.result c.saying.ensures c.keep_redo.ensures.undos c.keep_redo.ensures.redos)

pub returns-in-Down-clause-keeps : goal.returns-in-Down-clause-keeps
returns-in-Down-clause-keeps c = rw c.in-Down.is (said-keeps c.args.kept _ Redone c.saying-in-Down.result c.saying-in-Down.ensures)

pub returns-in-Down-clause-returns : goal.returns-in-Down-clause-returns
returns-in-Down-clause-returns c =
    rw c.in-Down.is
    (returns-down c.args.kept _ Redone c.args.back c.saying-in-Down.result c.saying-in-Down.ensures c.keep_undo.ensures.redos c.keep_undo.ensures.undos)
