use Rattle.std.proofs.Common.{ℕ, ◌∙◌, ap, sym}
use Rattle.std.proofs.lemmas.Result.{IfOk-weaker}
use Rattle.scm_record.specs.Session.{Session}
use Rattle.scm_record.specs.FrameQueries.{hit}
use Rattle.scm_record.specs.Clicks.{after_click}
use Rattle.scm_record.proofs.session.ActiveSession.click_at.Goals as goal

pub returns-clause-ok : goal.returns-clause-ok
returns-clause-ok c =
    let s = c.args.self.now in
    let scroll = ap (λ (t : Session). t.scroll) c.click.view_is in
    IfOk-weaker c.click-2.result _ _
    (λ flow e scene shown.
    ap (λ menu. after_click menu s (hit scene s.scroll c.args.row c.args.column)) (sym (c.open_menu.ensures scene shown))
    ∙ ap (λ (n : ℕ). after_click c.open_menu.result s (hit scene n c.args.row c.args.column)) (sym scroll)
    ∙ ap (after_click c.open_menu.result s) (sym (c.hit.ensures scene shown))
    ∙ e)
    c.click-2.ensures.ok
