use Rattle.std.proofs.Common.{◌+◌, ap, sym, arith}
use Rattle.scm_document.proofs.WidthLemmas.{measured-start, measured-read}
use Rattle.scm_strips.proofs.CountedLemmas.{counted-none, counted-stays, counted-cut, counted-end}
use Rattle.scm_strips.proofs.widths.pieces_width.Goals as goal

pub characters-init : goal.characters-init
characters-init c = counted-none _ _ c.utf8.line c.chars-rest.ensures.rest

pub range-requires-clause-start_boundary : goal.range-requires-clause-start_boundary
range-requires-clause-start_boundary c = λ _. measured-start _ _ _ _ _ c.characters.invariant.measured

pub range-requires-clause-end_boundary : goal.range-requires-clause-end_boundary
range-requires-clause-end_boundary c = measured-read _ _ _ _ _ c.characters.invariant.measured

pub characters-preserved-in-Some-replace_control_character : goal.characters-preserved-in-Some-replace_control_character
characters-preserved-in-Some-replace_control_character c =
    counted-cut _ _ _ _ _ _ _ _ _ c.in-Some.character _ c.characters.invariant c.in-Some.ensures.steps.0 (ap (λ n. c.characters.read + n) c.len_utf8.ensures.len)
    (sym c.in-Some-replace_control_character.ensures) c.range.ensures.value c.with_widths-width.ensures

pub characters-preserved : goal.characters-preserved
characters-preserved c =
    counted-stays _ _ _ _ _ _ _ c.in-Some.character c.characters.invariant c.in-Some.ensures.steps.0 (ap (λ n. c.characters.read + n) c.len_utf8.ensures.len) (sym c.in_default-replace_control_character.ensures)

pub range_from-requires : goal.range_from-requires
range_from-requires c = λ _. measured-start _ _ _ _ _ c.characters.invariant.measured

pub returns : goal.returns
returns c =
    counted-end _ _ _ _ _ _ _ c.characters.invariant c.in_default.ensures.steps.0.0 c.range_from.ensures.value
    (omega (arith, c.text_width.ensures.value, c.saturating_add.ensures))
