use Rattle.std.proofs.Common.{refl, [], ◌∷◌}
use Rattle.scm_types.specs.Split.{changed_lines}
use Rattle.scm_types.proofs.JoinedLemmas.{changed-more}
use Rattle.scm_diff.specs.Sides.{with_lines}
use Rattle.scm_diff.proofs.SideLemmas.{added-on, added-end}
use Rattle.scm_diff.proofs.sides.Joiner.push_changes.Goals as goal

pub loop-line-preserved : goal.loop-line-preserved
loop-line-preserved c =
    let xs = c.args.lines.now in
    let side = c.args.selected in
    added-on (changed_lines side) (λ y. changed_lines side (y ∷ [])) (changed-more side) c.loop-line.self c.push_change.new.self (with_lines c.args.self.now (changed_lines side xs)) xs c.loop-line.line-index c.line-item.result c.loop-line-test.true c.line-item.is c.in_ok-push_change.ensures c.loop-line.invariant

pub returns : goal.returns
returns c = let side = c.args.selected in added-end (changed_lines side) (λ x. changed_lines side (x ∷ [])) refl c.loop-line.self (with_lines c.args.self.now (changed_lines side c.args.lines.now)) c.args.lines.now c.loop-line.line-index c.loop-line-test.false c.loop-line.invariant
