use Rattle.std.proofs.Common.{◌∙◌, ◌||◌, List, ℕ, sym, ap}
use Rattle.scm_tree.specs.Folding.{has_part, is_on_ntfs}
use Rattle.scm_tree.proofs.NameLemmas.{part_last, part_later, part_now}
use Rattle.scm_tree.proofs.folding.has_part.Goals as goal

pub parts-preserved : goal.parts-preserved
parts-preserved c =
    c.parts.invariant
    ∙ part_later c.args.word.now c.args.short.now c.parts.rest.now c.in-Some.end (sym c.in-Some.ensures.is)
    (ap (λ (p : List ℕ). is_on_ntfs c.args.word.now p || is_on_ntfs c.args.short.now p) (sym c.before-in-Some.ensures) ∙ sym c.is_part.ensures ∙ c.if-is_part.false)
    ∙ ap (has_part c.args.word.now c.args.short.now) (sym c.after-rest.ensures)

pub returns-then-is_part : goal.returns-then-is_part
returns-then-is_part c =
    sym (c.parts.invariant
    ∙ part_now c.args.word.now c.args.short.now c.parts.rest.now c.in-Some.end (sym c.in-Some.ensures.is)
    (ap (λ (p : List ℕ). is_on_ntfs c.args.word.now p || is_on_ntfs c.args.short.now p) (sym c.before-in-Some.ensures) ∙ sym c.is_part.ensures ∙ c.if-is_part.true))

pub returns : goal.returns
returns c = c.is_part-2.ensures ∙ sym (c.parts.invariant ∙ part_last c.args.word.now c.args.short.now c.parts.rest.now (sym c.in_default.ensures.is))
