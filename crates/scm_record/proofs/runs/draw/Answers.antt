use Rattle.std.proofs.Common.{◌∙◌, ap}
use Rattle.scm_record.specs.Session.{Session, after_frame}
use Rattle.scm_record.proofs.runs.draw.Goals as goal

pub returns-clause-shown : goal.returns-clause-shown
returns-clause-shown c = λ kind size.
    c.in_ok-draw_anew.ensures.shown kind c.begin_frame.new.self
    (ap (λ (s : Session). s.shown) (c.begin_frame.ensures ∙ ap after_frame c.in_ok-draw_anew.ensures.unchanged))
    (ap (λ (s : Session). s.scroll) (c.begin_frame.ensures ∙ ap after_frame c.in_ok-draw_anew.ensures.unchanged))
    size
