use Rattle.scm_rows.specs.declared.section_shape.SectionShape.TheVariants as shapes
use Rattle.scm_layout.proofs.SectionStackLemmas.{rows-at}
use Rattle.scm_layout.proofs.section_stack.row_at.Goals as goal

pub returns : goal.returns
returns c = rw c.end_at.ensures (rows-at c.args.tops.now c.args.end c.args.shapes.now c.args.index 0 (shapes.Context 0) c.requires.lengths c.requires.inside)
