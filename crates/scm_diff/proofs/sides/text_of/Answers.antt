use Rattle.std.proofs.Common.{ap, ◌∙◌}
use Rattle.scm_diff.specs.Sides.{TextSoFar, with_lines}
use Rattle.scm_diff.proofs.SideLemmas.{text-joined}
use Rattle.scm_diff.proofs.sides.text_of.Goals as goal

pub returns : goal.returns
returns c =
    c.from.ensures
    ∙ ap (λ (j : TextSoFar). j.text) (c.joiner.view_is ∙ c.in_ok-push_context.ensures ∙ ap (λ (j : TextSoFar). with_lines j c.args.lines.now) c.new-joiner.ensures)
    ∙ text-joined c.args.lines.now
