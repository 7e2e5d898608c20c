use Rattle.std.proofs.Common.{◌≡◌, ℕ, ◌+◌, sym, ap, ◌∙◌, arith}
use Rattle.scm_record.specs.ShownLines.{line_on}
use Rattle.scm_front_paint.proofs.range.line_on.Goals as goal

pub line-requires : goal.line-requires
line-requires c = c.lines_from.ensures.low 0 c.lines_from.ensures.some

pub returns : goal.returns
returns c =
    c.line.ensures ∙ sym (c.lines_from.ensures.lines 0 c.lines_from.ensures.some)
    ∙ ap (λ (n : ℕ). line_on c.args.session.now n) (let e : c.args.row + 0 ≡ c.args.row = omega arith in e)
