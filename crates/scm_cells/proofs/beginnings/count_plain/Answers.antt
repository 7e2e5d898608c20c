use Rattle.std.proofs.Common.{drop, refl, ◌∙◌, ◌+◌, sym, ap}
use Rattle.scm_cells.proofs.ReplacedLemmas.{HasRead-first, HasRead-more, HasRead-boundary}
use Rattle.scm_cells.proofs.BeginningLemmas.{IsPlain-read, not_replaced}
use Rattle.scm_cells.proofs.beginnings.count_plain.Goals as goal

pub characters-init : goal.characters-init
characters-init c =
    HasRead-first _ _ _ c.utf8.line c.count_first_printable-read.ensures.within c.count_first_printable-read.ensures.printable (c.chars-rest.ensures.rest ∙ c.range_from.ensures.value)

pub range_from-requires : goal.range_from-requires
range_from-requires c = λ some.
    HasRead-boundary _ (drop c.count_first_printable-read.result c.args.line.now) _
    (HasRead-first _ _ _ c.utf8.line c.count_first_printable-read.ensures.within c.count_first_printable-read.ensures.printable refl)

pub returns-then-read-most : goal.returns-then-read-most
returns-then-read-most c = IsPlain-read _ _ _ c.characters.invariant

pub characters-preserved : goal.characters-preserved
characters-preserved c =
    HasRead-more _ _ _ _ _ c.in-Some.character c.characters.invariant c.in-Some.ensures.steps.0 (ap (λ n. c.characters.read + n) c.len_utf8-read.ensures.len)
    (not_replaced _ _ _ c.replace_control_character.ensures (sym c.is_some.ensures ∙ c.if-is_some.false))
