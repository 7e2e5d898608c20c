use Rattle.std.proofs.Common.{◌∙◌, List, ap, sym}
use Rattle.scm_types.specs.declared.file.File.{File}
use Rattle.scm_selection.specs.Toggle.{with_all_set}
use Rattle.scm_layout.proofs.BareLemmas.{all_set-hidden}
use Rattle.scm_layout.proofs.MarkLemmas.{lent-layout, lent-size}
use Rattle.scm_layout.proofs.state_layout.Layout.set_all.Goals as goal

pub returns-clause-layout : goal.returns-clause-layout
returns-clause-layout c =
    λ expanded is.
    lent-layout c.args.state.now _ _ (sym (all_set-hidden c.args.state.now.files)) (c.set_all.ensures.files ∙ ap (λ (fs : List File). with_all_set fs) c.as_mut_slice.ensures.value)
    expanded c.args.self.now _ c.set_all.ensures.counts is

pub returns-clause-size : goal.returns-clause-size
returns-clause-size c = lent-size c.args.state.now _ _ (sym (all_set-hidden c.args.state.now.files)) (c.set_all.ensures.files ∙ ap (λ (fs : List File). with_all_set fs) c.as_mut_slice.ensures.value)
