use Rattle.std.proofs.Common.{◌∙◌, sym}
use Rattle.scm_layout.proofs.CountLemmas.{items_of_lines}
use Rattle.scm_layout.proofs.section_counts.items_in.Goals as goal

pub returns-in-Changed : goal.returns-in-Changed
returns-in-Changed c = rw c.in-Changed.is (c.len.ensures ∙ sym (items_of_lines _))
