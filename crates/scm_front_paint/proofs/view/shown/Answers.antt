use Rattle.scm_front_paint.proofs.ViewLemmas.{shown-waits, shown-edits, shown-accepts}
use Rattle.scm_front_paint.proofs.view.shown.Goals as goal

pub returns-in_ok-view_of-in-Waiting-clause-ok : goal.returns-in_ok-view_of-in-Waiting-clause-ok
returns-in_ok-view_of-in-Waiting-clause-ok c =
    shown-waits c.args.pane c.args.turn c.in-Waiting.front c.in_ok-view_of-in-Waiting.field-0 c.in-Waiting.is
    c.in_ok-view_of-in-Waiting.ensures.front c.in_ok-view_of-in-Waiting.ensures.pane

pub returns-in-Editing-clause-ok : goal.returns-in-Editing-clause-ok
returns-in-Editing-clause-ok c = shown-edits c.args.pane c.args.turn c.in-Editing.beneath c.in-Editing.is

pub returns-in-Accepted-clause-ok : goal.returns-in-Accepted-clause-ok
returns-in-Accepted-clause-ok c = shown-accepts c.args.pane c.args.turn c.in-Accepted.state c.in-Accepted.is
