use Rattle.std.proofs.Common.{◌≡◌, ap, ◌∙◌}
use Rattle.std.specs.List.{flat_map}
use Rattle.scm_types.specs.Split.{section_lines, side_lines, tail_of}
use Rattle.scm_diff.specs.Sides.{TextSoFar, nothing_yet, with_lines}
use Rattle.scm_diff.proofs.SideLemmas.{text-joined}
use Rattle.scm_diff.proofs.sides.side_text.Goals as goal

pub returns : goal.returns
returns c =
    let side = c.args.selected in
    let lines : flat_map (section_lines side) c.tail_of.result.now ≡ side_lines side c.args.file.now = ap (flat_map (section_lines side)) (c.tail_of.ensures ∙ ap tail_of c.as_slice.ensures) in
    let text : c.from.result ≡ c.in_ok-joiner.joiner.text = c.from.ensures ∙ ap (λ (j : TextSoFar). j.text) c.joiner.view_is in
    text ∙ ap (λ (j : TextSoFar). j.text) (c.in_ok-joiner.ensures ∙ ap (with_lines nothing_yet) lines) ∙ text-joined (side_lines side c.args.file.now)
