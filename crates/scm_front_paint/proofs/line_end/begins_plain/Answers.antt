use Rattle.std.proofs.Common.{sym, ◌∙◌}
use Rattle.scm_front_paint.proofs.LineEndLemmas.{begins-plain}
use Rattle.scm_front_paint.proofs.line_end.begins_plain.Goals as goal

pub returns-in-Some : goal.returns-in-Some
returns-in-Some c = λ plain. begins-plain _ _ _ c.utf8.text (sym c.chars.ensures.rest ∙ c.in-Some.ensures.steps.0) (c.is_plain.ensures plain)
