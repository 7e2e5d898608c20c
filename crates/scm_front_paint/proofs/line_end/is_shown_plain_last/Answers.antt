use Rattle.std.proofs.Common.{sym}
use Rattle.scm_front_paint.proofs.LineEndLemmas.{ends-shown, ends-replaced}
use Rattle.scm_front_paint.proofs.line_end.is_shown_plain_last.Goals as goal

pub returns-in-None-replace_control_character : goal.returns-in-None-replace_control_character
returns-in-None-replace_control_character c = λ plain.
    ends-shown _ _ _ c.utf8.line c.in-Some.ensures.utf8 c.in-Some.ensures.joined (sym c.in-None-replace_control_character.ensures) (c.is_plain.ensures plain)

pub returns-in-Some-replace_control_character : goal.returns-in-Some-replace_control_character
returns-in-Some-replace_control_character c = λ plain.
    ends-replaced _ _ _ _ c.utf8.line c.in-Some.ensures.utf8 c.in-Some.ensures.joined (sym c.in-Some-replace_control_character.ensures) (c.ends_plain.ensures plain)
