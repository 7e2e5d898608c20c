use Rattle.std.proofs.Common.{◌/◌, ◌∙◌, ap}
use Rattle.scm_record.specs.Pages.{is_far}
use Rattle.scm_record.proofs.pages.is_page_away.Goals as goal

pub returns : goal.returns
returns c = λ scene shown.
    let way = c.args.way in
    let row = c.args.row in
    c.is_far.ensures
    ∙ ap (λ n. is_far way (n / 2) row c.top.result) (c.height.ensures scene shown)
    ∙ ap (is_far way (scene.height / 2) row) (c.top.ensures scene shown)
