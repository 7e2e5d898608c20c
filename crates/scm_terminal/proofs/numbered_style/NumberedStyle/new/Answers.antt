use Rattle.std.proofs.Common.{◌∙◌, ap, sym}
use Rattle.scm_terminal.specs.Style.{style_code, style_of_code}
use Rattle.scm_terminal.proofs.StyleLemmas.{style-found}
use Rattle.scm_terminal.proofs.numbered_style.NumberedStyle.new.Goals as goal

pub invariant_of-result : goal.invariant_of-result
invariant_of-result c = c.code_of.ensures ∙ ap style_code (sym (ap style_of_code c.code_of.ensures ∙ style-found c.args.style))

pub returns : goal.returns
returns c = ap style_of_code c.code_of.ensures ∙ style-found c.args.style
