use Rattle.std.proofs.Common.{ℕ, sym, ap, ◌∙◌}
use Rattle.std.specs.Prelude.{take}
use Rattle.scm_front_paint.proofs.CutTextLemmas.{last-place, long-text}
use Rattle.scm_front_paint.proofs.headings.first_bytes.Goals as goal

pub returns : goal.returns
returns c =
    let floor = c.floor_char_boundary.ensures in
    c.split_at.ensures.front
    ∙ ap (λ (n : ℕ). take n c.args.line.now) (sym (last-place c.args.line.now 80 c.floor_char_boundary.result c.if-line-le-MAX_HEADING.false floor.bound floor.boundary floor.nearest))
    ∙ long-text c.args.line.now c.if-line-le-MAX_HEADING.false
