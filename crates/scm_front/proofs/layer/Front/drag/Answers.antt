use Rattle.std.proofs.Common.{[], ◌∷◌}
use Rattle.std.proofs.lemmas.Result.{IfOk-weaker}
use Rattle.scm_input.specs.declared.events.Event.TheVariants.{Click}
use Rattle.scm_record.specs.LiveCalls.{Press}
use Rattle.scm_front.proofs.DoLemmas.{dragged-nowhere, dragged-on}
use Rattle.scm_front.proofs.layer.Front.drag.Goals as goal

pub returns-then-is_dragged-clause-ok : goal.returns-then-is_dragged-clause-ok
returns-then-is_dragged-clause-ok c =
    IfOk-weaker c.handle.result _ _
    (λ turn does.
    dragged-on c.args.self c.args.row c.args.column c.drag_anchor-anchor.result c.selection_of.result c.with_anchor.result c.is_dragged.result turn
    (Press (Click c.args.row c.args.column) ∷ []) c.drag_anchor-anchor.ensures c.selection_of.ensures c.is_dragged.ensures c.if-is_dragged.true c.with_anchor.ensures does)
    c.handle.ensures.ok

pub returns-else-is_dragged-clause-ok : goal.returns-else-is_dragged-clause-ok
returns-else-is_dragged-clause-ok c =
    dragged-nowhere c.args.self c.args.row c.args.column c.drag_anchor-anchor.result c.selection_of.result c.is_dragged.result
    c.drag_anchor-anchor.ensures c.selection_of.ensures c.is_dragged.ensures c.if-is_dragged.false
