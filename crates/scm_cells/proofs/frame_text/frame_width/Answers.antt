use Rattle.std.proofs.Common.{arith, sym, ◌∙◌}
use Rattle.scm_cells.proofs.FrameTextLemmas.{IsAt-within, IsFrameTo-none, IsFrameTo-more, frame_width-none, frame_width-all, chars_le}
use Rattle.scm_cells.proofs.frame_text.frame_width.Goals as goal

pub characters-init : goal.characters-init
characters-init c = IsFrameTo-none _ _ c.utf8.text c.chars-rest.ensures.rest

pub returns-then-not-is_frame_char : goal.returns-then-not-is_frame_char
returns-then-not-is_frame_char c = frame_width-none _ _ _ _ _ c.characters.invariant c.in-Some.ensures.steps.0 (sym c.is_frame_char.ensures ∙ c.if-not-is_frame_char.true)

pub overflow_add-width : goal.overflow_add-width
overflow_add-width c = omega (arith, IsAt-within _ _ _ _ _ c.characters.invariant.at c.in-Some.ensures.steps.0, chars_le _ c.utf8.text)

pub characters-preserved : goal.characters-preserved
characters-preserved c = IsFrameTo-more _ _ _ _ _ c.characters.invariant c.in-Some.ensures.steps.0 (sym c.is_frame_char.ensures ∙ c.if-not-is_frame_char.false)

pub returns : goal.returns
returns c = frame_width-all _ _ _ c.characters.invariant c.in_default.ensures.steps.0.0
