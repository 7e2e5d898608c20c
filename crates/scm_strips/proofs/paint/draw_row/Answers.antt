use Rattle.scm_strips.proofs.paint.draw_row.Goals as goal

pub returns-in-Section-clause-ok : goal.returns-in-Section-clause-ok
returns-in-Section-clause-ok c = rw c.in-Section.is c.draw_section.ensures.ok
