use Rattle.std.proofs.Common.{◌∙◌, List, ap, sym}
use Rattle.scm_types.specs.declared.file.File.{File}
use Rattle.scm_selection.specs.Toggle.{with_key_toggled}
use Rattle.scm_layout.proofs.BareLemmas.{toggle-hidden}
use Rattle.scm_layout.proofs.MarkLemmas.{lent-layout, lent-size}
use Rattle.scm_layout.proofs.state_layout.Layout.toggle_key.Goals as goal

pub returns-clause-layout : goal.returns-clause-layout
returns-clause-layout c =
    λ expanded is.
    lent-layout c.args.state.now _ _ (sym (toggle-hidden c.args.key c.args.state.now.files)) (c.toggle_key.ensures.files ∙ ap (λ (fs : List File). with_key_toggled c.args.key fs) c.as_mut_slice.ensures.value)
    expanded c.args.self.now _ c.toggle_key.ensures.counts is

pub returns-clause-size : goal.returns-clause-size
returns-clause-size c = lent-size c.args.state.now _ _ (sym (toggle-hidden c.args.key c.args.state.now.files)) (c.toggle_key.ensures.files ∙ ap (λ (fs : List File). with_key_toggled c.args.key fs) c.as_mut_slice.ensures.value)
