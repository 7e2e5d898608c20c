use Rattle.std.proofs.Common.{ap, ◌∙◌}
use Rattle.scm_layout.specs.Layouts.{files_top}
use Rattle.scm_layout.specs.Rows.{restacked}
use Rattle.scm_layout.proofs.LayoutLemmas.{restack-fits, restacked-layout, top-fits}
use Rattle.scm_layout.proofs.state_layout.Layout.restack.Goals as goal

pub restack-requires : goal.restack-requires
restack-requires c = restack-fits c.args.self.now c.args.state.now c.files_top-below_message.result (rw c.files_top-below_message.ensures (top-fits _)) c.requires.layout c.requires.size

pub returns : goal.returns
returns c = λ before expanded is.
    restacked-layout c.args.self.now c.args.state.now before expanded c.restack.new.self is
    (c.restack.ensures ∙ ap (λ top. restacked top c.args.self.now.rows) (c.files_top-below_message.ensures ∙ ap (λ cs. files_top cs) c.as_slice.ensures))
