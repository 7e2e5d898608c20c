use Rattle.std.proofs.Common.{sym, ◌∙◌}
use Rattle.std.proofs.lemmas.Bool.{and_parts}
use Rattle.scm_terminal.specs.Painting.{is_style_set}
use Rattle.scm_terminal.proofs.LetterRunLemmas.{letter-put}
use Rattle.scm_terminal.proofs.letter_run.letter_here.Goals as goal

pub returns-then-writes : goal.returns-then-writes
returns-then-writes c =
    let both = and_parts c.args.pen.now.is_there (is_style_set c.args.pen.now.style c.style.result) (sym c.writes.ensures ∙ c.if-writes.true) in
    letter-put c.args.pen.now c.args.pass c.args.cell.now c.style.result c.letter.result c.in-Letters.is both.0 both.1 c.style.ensures c.letter.ensures
