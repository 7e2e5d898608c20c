use Rattle.std.proofs.Common.{List, ◌++◌, ◌∙◌, ap, subst, string_bytes, ℕ}
use Rattle.scm_terminal.specs.StyledCell.{StyledCell}
use Rattle.scm_front_paint.specs.Blank.{IsBeginning}
use Rattle.scm_front_paint.proofs.BlankLemmas.{paints-last}
use Rattle.scm_front_paint.proofs.status_painter.StatusPainter.paint.Goals as goal

pub returns-clause-ok : goal.returns-clause-ok
returns-clause-ok c =
    let begins =
    subst (λ (rows : List (List StyledCell)). IsBeginning c.args.width c.args.height rows c.begin.new.row (string_bytes c.in_ok-text.text)) c.self.view_is
    c.in_ok-text.ensures.ok in
    paints-last c.args.width c.args.height c.args.self.now c.begin.new.row c.args.left.now c.args.right.now (string_bytes c.push_str.new.self)
    (string_bytes c.in_ok-text.text) (string_bytes c.in_ok-rest.rest) begins c.in_ok-rest.ensures.ok
    (c.in_ok-push_str.ensures.bytes ∙ ap (λ (t : List ℕ). string_bytes c.in_ok-text.text ++ t) c.as_str.ensures.value)
