use Rattle.std.proofs.Common.{◌∙◌, length, ap, sym}
use Rattle.scm_layout.proofs.SectionStackLemmas.{length-by}
use Rattle.scm_layout.proofs.section_stack.SectionStack.count.Goals as goal

pub returns : goal.returns
returns c =
    let s = c.self.inside in
    c.len.ensures ∙ sym (length-by s.tops s.end s.shapes c.self.invariant) ∙ ap length c.self.view_is
