use Rattle.std.proofs.Common.{◌∙◌, ap, sym}
use Rattle.scm_record.specs.Session.{Session}
use Rattle.scm_record.proofs.runs.draw_anew.Goals as goal

pub returns-then-is_current-clause-shown : goal.returns-then-is_current-clause-shown
returns-then-is_current-clause-shown c = λ kind s e f size. c.requires.current c.if-is_current.true kind s e f size

pub returns-clause-shown : goal.returns-clause-shown
returns-clause-shown c = λ kind s e f size.
    let same = c.share_rows.ensures.unchanged in
    c.in_ok-draw.ensures.ok kind s
    (e ∙ sym (c.view_state.ensures ∙ ap (λ (t : Session). t.shown) same))
    (f ∙ sym (c.scroll.ensures ∙ ap (λ (t : Session). t.scroll) same))
    (c.release_rows.ensures.size kind size)
