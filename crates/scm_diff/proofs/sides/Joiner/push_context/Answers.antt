use Rattle.std.proofs.Common.{refl, [], ◌∷◌}
use Rattle.scm_diff.specs.Sides.{with_lines}
use Rattle.scm_diff.proofs.SideLemmas.{added-on, added-end}
use Rattle.scm_diff.proofs.sides.Joiner.push_context.Goals as goal

pub loop-line-preserved : goal.loop-line-preserved
loop-line-preserved c =
    let xs = c.args.lines.now in
    added-on (λ ys. ys) (λ y. y ∷ []) (λ y ys. refl) c.loop-line.self c.push.new.self (with_lines c.args.self.now xs) xs c.loop-line.line-index c.line-item.result c.loop-line-test.true c.line-item.is c.in_ok-push.ensures c.loop-line.invariant

pub returns : goal.returns
returns c = added-end (λ xs. xs) (λ x. x ∷ []) refl c.loop-line.self (with_lines c.args.self.now c.args.lines.now) c.args.lines.now c.loop-line.line-index c.loop-line-test.false c.loop-line.invariant
