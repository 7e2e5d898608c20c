use Rattle.std.proofs.Common.{arith}
use Rattle.scm_widgets.specs.Buttons.{button_width}
use Rattle.scm_widgets.proofs.WidthLemmas.{width-brackets}
use Rattle.scm_widgets.proofs.button.button_width.Goals as goal

pub returns : goal.returns
unfolding button_width
returns g c =
    let whole = rw c.as_str.ensures at (width-brackets c.args.button.now.is_focused c.as_str.result.now c.as_str.utf8) in
    let label = rw c.as_str.ensures at c.text_width.ensures.value in
    omega (arith, whole, label, c.in_ok-joined_width.ensures.ok)
