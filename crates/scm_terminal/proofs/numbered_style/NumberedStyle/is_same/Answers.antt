use Rattle.std.proofs.Common.{◌∙◌, sym}
use Rattle.std.proofs.lemmas.Bool.{eqb-true}
use Rattle.scm_terminal.proofs.StyleLemmas.{style-same}
use Rattle.scm_terminal.proofs.numbered_style.NumberedStyle.is_same.Goals as goal

pub returns-clause-same : goal.returns-clause-same
returns-clause-same c = λ same. style-same c.args.self c.args.other (sym c.code.ensures ∙ eqb-true c.code.result c.code-2.result same ∙ c.code-2.ensures)
