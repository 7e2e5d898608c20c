use Rattle.std.proofs.Common.{refl, [], ◌∷◌}
use Rattle.scm_types.specs.Joined.{with_lines}
use Rattle.scm_types.proofs.JoinedLemmas.{joined-on, joined-end}
use Rattle.scm_types.proofs.side_text.push_context.Goals as goal

pub loop-line-preserved : goal.loop-line-preserved
loop-line-preserved c =
    let xs = c.args.lines.now in
    let i = c.loop-line.line-index in
    let x = c.line-item.result in
    record {
      selected = joined-on (λ ys. ys) (λ y. y ∷ []) (λ y ys. refl) c.loop-line.selected c.push.new.self (with_lines c.args.selected.now xs) xs i x c.loop-line-test.true c.line-item.is c.in_ok-push.ensures c.loop-line.invariant.selected;
      unselected = joined-on (λ ys. ys) (λ y. y ∷ []) (λ y ys. refl) c.loop-line.unselected c.push-in-loop-line.new.self (with_lines c.args.unselected.now xs) xs i x c.loop-line-test.true c.line-item.is c.in_ok-push-2.ensures c.loop-line.invariant.unselected;
    }

pub returns-clause-selected : goal.returns-clause-selected
returns-clause-selected c =
    joined-end (λ xs. xs) (λ x. x ∷ []) refl c.loop-line.selected (with_lines c.args.selected.now c.args.lines.now) c.args.lines.now c.loop-line.line-index c.loop-line-test.false c.loop-line.invariant.selected

pub returns-clause-unselected : goal.returns-clause-unselected
returns-clause-unselected c =
    joined-end (λ xs. xs) (λ x. x ∷ []) refl c.loop-line.unselected (with_lines c.args.unselected.now c.args.lines.now) c.args.lines.now c.loop-line.line-index c.loop-line-test.false c.loop-line.invariant.unselected
