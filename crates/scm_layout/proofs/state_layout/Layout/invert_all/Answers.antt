use Rattle.std.proofs.Common.{◌∙◌, List, ap, sym}
use Rattle.scm_types.specs.declared.file.File.{File}
use Rattle.scm_selection.specs.Toggle.{with_all_inverted}
use Rattle.scm_layout.proofs.BareLemmas.{inverted-hidden}
use Rattle.scm_layout.proofs.MarkLemmas.{lent-layout, lent-size}
use Rattle.scm_layout.proofs.state_layout.Layout.invert_all.Goals as goal

pub returns-clause-layout : goal.returns-clause-layout
returns-clause-layout c =
    λ expanded is.
    lent-layout c.args.state.now _ _ (sym (inverted-hidden c.args.state.now.files)) (c.invert_all.ensures.files ∙ ap (λ (fs : List File). with_all_inverted fs) c.as_mut_slice.ensures.value)
    expanded c.args.self.now _ c.invert_all.ensures.counts is

pub returns-clause-size : goal.returns-clause-size
returns-clause-size c = lent-size c.args.state.now _ _ (sym (inverted-hidden c.args.state.now.files)) (c.invert_all.ensures.files ∙ ap (λ (fs : List File). with_all_inverted fs) c.as_mut_slice.ensures.value)
