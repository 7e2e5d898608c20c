use Rattle.std.proofs.Common.{sym}
use Rattle.scm_screen_tests.proofs.ViewLemmas.{sections-more, sections-end}
use Rattle.scm_screen_tests.proofs.views.check_sections.Goals as goal

pub loop-view-preserved : goal.loop-view-preserved
loop-view-preserved g c = λ rest.
    c.loop-view.invariant ((rw (sym c.view-item.is) at (sections-more c.args.views.now c.loop-view.view-index c.view-item.result c.loop-view-test.true)) c.check_section.ensures rest)

pub returns : goal.returns
returns g c = c.loop-view.invariant (sections-end c.args.views.now c.loop-view.view-index c.loop-view-test.false)
