use Rattle.std.proofs.Common.{sym, ◌∙◌}
use Rattle.scm_front_paint.proofs.LineEndLemmas.{begins-shown, begins-replaced}
use Rattle.scm_front_paint.proofs.line_end.is_shown_plain_first.Goals as goal

pub returns-in-None-replace_control_character : goal.returns-in-None-replace_control_character
returns-in-None-replace_control_character c = λ plain.
    begins-shown _ _ _ c.utf8.line (sym c.chars.ensures.rest ∙ c.in-Some.ensures.steps.0) (sym c.in-None-replace_control_character.ensures) (c.is_plain.ensures plain)

pub returns-in-Some-replace_control_character : goal.returns-in-Some-replace_control_character
returns-in-Some-replace_control_character c = λ plain.
    begins-replaced _ _ _ _ c.utf8.line (sym c.chars.ensures.rest ∙ c.in-Some.ensures.steps.0) (sym c.in-Some-replace_control_character.ensures) (c.begins_plain.ensures plain)
