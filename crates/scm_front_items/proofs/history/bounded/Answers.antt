use Rattle.std.proofs.Common.{◌≡◌, length, ap, sym, ◌∙◌}
use Rattle.scm_front_items.specs.Histories.{fits}
use Rattle.scm_front_items.proofs.HistoryLemmas.{bounded-fits, bounded-none}
use Rattle.scm_front_items.proofs.history.bounded.Goals as goal
use Rattle.scm_front_items.proofs.history.bounded.Goals.{then-loop-steps-test+else-not-fits, else-loop-steps-test}

pub returns : goal.returns
returns c =
    let own : length c.loop-steps.steps.items ≡ c.loop-steps.steps.len = cc c.loop-steps.steps.ok.0 in
    elim c.loop-steps-test.branch [
      | then-loop-steps-test+else-not-fits w ↦ c.from.ensures ∙ sym (bounded-fits c.loop-steps.steps.items (sym (w.if-not-fits.ensures ∙ ap fits w.as_slice.ensures.value))) ∙ sym c.loop-steps.invariant
      | else-loop-steps-test w ↦ c.from.ensures ∙ sym (bounded-none c.loop-steps.steps.items c.loop-steps.steps.len own w.loop-steps-test.ensures) ∙ sym c.loop-steps.invariant
    ]
