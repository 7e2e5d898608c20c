use Rattle.std.proofs.Common.{◌∙◌}
use Rattle.scm_types.specs.Marks.{is_editable_section}
use Rattle.scm_layout.specs.Rows.{is_expanded}
use Rattle.scm_layout.proofs.RowLemmas.{open-all}
use Rattle.scm_layout.proofs.section_rows.is_open.Goals as goal

pub returns-then-unfolded : goal.returns-then-unfolded
returns-then-unfolded c =
    c.is_editable.ensures ∙ open-all (is_editable_section c.args.section.now) (is_expanded c.args.unfolded.keys.now c.args.key c.args.index) (c.requires c.if-unfolded.true)
