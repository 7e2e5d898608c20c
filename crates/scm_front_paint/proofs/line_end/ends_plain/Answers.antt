use Rattle.scm_front_paint.proofs.LineEndLemmas.{ends-plain}
use Rattle.scm_front_paint.proofs.line_end.ends_plain.Goals as goal

pub returns-in-Some : goal.returns-in-Some
returns-in-Some c = λ plain. ends-plain _ _ _ c.utf8.text c.in-Some.ensures.utf8 c.in-Some.ensures.joined (c.is_plain.ensures plain)
