use Rattle.scm_types.specs.Marks.{section_marks}
use Rattle.scm_types.proofs.SeenLemmas.{seen_tristate-with_marks}
use Rattle.scm_types.proofs.section.Section.tristate.Goals as goal

pub returns : goal.returns
returns c = rw (c.tristate.ensures, c.add_marks_to.ensures, c.none.ensures) (seen_tristate-with_marks (section_marks c.args.self.now))
