use Rattle.std.proofs.Common.{◌+◌, ◌∙◌, ap}
use Rattle.scm_record.specs.Pages.{after_scroll}
use Rattle.scm_record.proofs.session.ActiveSession.page_down.Goals as goal

pub returns : goal.returns
returns c = λ scene shown.
    let s = c.args.self.now in
    c.scroll_down.ensures scene shown ∙ ap (λ n. after_scroll scene s (s.scroll + n)) (c.height.ensures scene shown)
