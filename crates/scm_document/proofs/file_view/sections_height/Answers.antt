use Rattle.std.proofs.Common.{◌∙◌, ap, arith, zero-add}
use Rattle.scm_document.specs.ViewPieces.{sections_height}
use Rattle.scm_document.proofs.file_view.sections_height.Goals as goal

pub sections-init : goal.sections-init
sections-init c = zero-add _ ∙ ap sections_height c.new-walk.ensures

pub height-height-requires : goal.height-height-requires
height-height-requires c = let more = ap sections_height c.in-Some.ensures.steps in omega (arith, more, c.sections.invariant, c.requires)

pub overflow_add-height : goal.overflow_add-height
overflow_add-height c = let more = ap sections_height c.in-Some.ensures.steps in omega (arith, more, c.sections.invariant, c.requires, c.height-height.ensures)

pub sections-preserved : goal.sections-preserved
sections-preserved c = let more = ap sections_height c.in-Some.ensures.steps in omega (arith, more, c.sections.invariant, c.height-height.ensures)

pub returns : goal.returns
returns c = omega (arith, c.sections.invariant, ap sections_height c.in_default.ensures.steps.0)
