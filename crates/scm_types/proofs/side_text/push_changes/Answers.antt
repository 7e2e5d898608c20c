use Rattle.std.proofs.Common.{◌≡◌, refl, sym, [], ◌∷◌, true, false, rules}
use Rattle.scm_types.specs.Joined.{with_lines}
use Rattle.scm_types.specs.Split.{changed_lines, takes}
use Rattle.scm_types.proofs.JoinedLemmas.{joined-on, joined-end, joined-nothing, changed-more, changed-taken, changed-left, not_true, not_false}
use Rattle.scm_types.proofs.side_text.push_changes.Goals as goal
use Rattle.scm_types.proofs.side_text.push_changes.Goals.{then-is_selected+in_ok-push, else-is_selected+in_ok-push-2}

pub loop-line-preserved : goal.loop-line-preserved
loop-line-preserved c =
    let xs = c.args.lines.now in
    let i = c.loop-line.line-index in
    let x = c.line-item.result in
    let selected = joined-on (changed_lines true) (λ y. changed_lines true (y ∷ [])) (changed-more true) c.loop-line.selected c.if-is_selected.selected (with_lines c.args.selected.now (changed_lines true xs)) xs i x c.loop-line-test.true c.line-item.is in
    let unselected = joined-on (changed_lines false) (λ y. changed_lines false (y ∷ [])) (changed-more false) c.loop-line.unselected c.if-is_selected.unselected (with_lines c.args.unselected.now (changed_lines false xs)) xs i x c.loop-line-test.true c.line-item.is in
    elim c.if-is_selected.branch [
      | then-is_selected+in_ok-push w ↦
          (let yes : takes true x ≡ true = search rules in
          let no : takes false x ≡ false = not_true (takes false x) (search rules) in
          record {
            selected = selected (rw (w.selected-is, changed-taken true x yes) w.in_ok-push.ensures) c.loop-line.invariant.selected;
            unselected = unselected (rw (w.unselected-is, changed-left false x no) (sym (joined-nothing c.loop-line.unselected))) c.loop-line.invariant.unselected;
          })
      | else-is_selected+in_ok-push-2 w ↦
          (let no : takes true x ≡ false = search rules in
          let yes : takes false x ≡ true = not_false (takes false x) (search rules) in
          record {
            selected = selected (rw (w.selected-is, changed-left true x no) (sym (joined-nothing c.loop-line.selected))) c.loop-line.invariant.selected;
            unselected = unselected (rw (w.unselected-is, changed-taken false x yes) w.in_ok-push-2.ensures) c.loop-line.invariant.unselected;
          })
    ]

pub returns-clause-selected : goal.returns-clause-selected
returns-clause-selected c =
    joined-end (changed_lines true) (λ x. changed_lines true (x ∷ [])) refl c.loop-line.selected (with_lines c.args.selected.now (changed_lines true c.args.lines.now)) c.args.lines.now c.loop-line.line-index c.loop-line-test.false c.loop-line.invariant.selected

pub returns-clause-unselected : goal.returns-clause-unselected
returns-clause-unselected c =
    joined-end (changed_lines false) (λ x. changed_lines false (x ∷ [])) refl c.loop-line.unselected (with_lines c.args.unselected.now (changed_lines false c.args.lines.now)) c.args.lines.now c.loop-line.line-index c.loop-line-test.false c.loop-line.invariant.unselected
