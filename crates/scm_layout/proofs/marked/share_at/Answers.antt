use Rattle.std.proofs.Common.{◌∙◌}
use Rattle.scm_layout.proofs.MarkedLemmas.{part-exact, shares-are}
use Rattle.scm_layout.proofs.marked.share_at.Goals as goal

pub returns : goal.returns
returns c = shares-are _ _ c.args.files.now c.args.index (c.lines_at-lines.ensures ∙ part-exact c.args.files.now c.args.index c.requires.fits) c.changed_at-changed.ensures
