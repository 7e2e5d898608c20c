use Rattle.std.proofs.Common.{refl, drop, ◌∙◌, ◌+◌, ◌++◌, encode_utf8, sym, ap}
use Rattle.scm_cells.proofs.ReplacedLemmas.{HasRead-front, HasRead-more, HasRead-boundary, pieces-cut, pieces-end}
use Rattle.scm_cells.proofs.replaced.cut_at_replaced.Goals as goal

pub characters-init : goal.characters-init
characters-init c = HasRead-front _ _ _ c.utf8.line c.count_printable-read.ensures (c.chars-rest.ensures.rest ∙ c.range_from.ensures.value)

pub range_from-requires : goal.range_from-requires
range_from-requires c = λ some. HasRead-boundary _ (drop c.count_printable-read.result c.args.line.now) _ (HasRead-front _ _ _ c.utf8.line c.count_printable-read.ensures refl)

pub range-requires-clause-end_boundary : goal.range-requires-clause-end_boundary
range-requires-clause-end_boundary c = HasRead-boundary _ _ _ c.characters.invariant

pub returns-in-Some-replace_control_character-clause-some : goal.returns-in-Some-replace_control_character-clause-some
returns-in-Some-replace_control_character-clause-some c =
    pieces-cut _ _ _ _ _ _ _ c.characters.invariant (c.in-Some.ensures.steps.0 ∙ ap (λ t. encode_utf8 c.in-Some.character ++ t) (sym c.as_str.ensures)) (sym c.in-Some-replace_control_character.ensures) c.range.ensures.value

pub characters-preserved : goal.characters-preserved
characters-preserved c =
    HasRead-more _ _ _ _ _ c.in-Some.character c.characters.invariant c.in-Some.ensures.steps.0 (ap (λ n. c.characters.read + n) c.len_utf8-read.ensures.len) (sym c.in_default-replace_control_character.ensures)

pub returns-clause-none : goal.returns-clause-none
returns-clause-none c = pieces-end _ _ _ c.characters.invariant c.in_default.ensures.steps.0.0
