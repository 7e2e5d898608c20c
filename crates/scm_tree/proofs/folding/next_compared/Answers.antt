use Rattle.std.proofs.Common.{sym, ◌∙◌, ap}
use Rattle.scm_tree.specs.Folding.{begins_ignorable}
use Rattle.scm_tree.proofs.FoldingLemmas.{next_ignored, next_letter, next_skip, no_next}
use Rattle.scm_tree.proofs.folding.next_compared.Goals as goal

pub returns-then-at-gt0 : goal.returns-then-at-gt0
returns-then-at-gt0 c =
    next_skip c.args.word.now c.args.name.now c.args.i c.args.at c.requires.within c.requires.counted c.if-at-gt0.true

pub returns-then-begins_ignorable : goal.returns-then-begins_ignorable
returns-then-begins_ignorable c =
    next_ignored c.args.word.now c.args.name.now c.args.i c.args.at c.requires.within c.requires.counted c.if-at-gt0.false
    (ap begins_ignorable (sym c.rest_from.ensures) ∙ sym c.begins_ignorable.ensures ∙ c.if-begins_ignorable.true)

pub returns-then-is_letter : goal.returns-then-is_letter
returns-then-is_letter c =
    next_letter c.args.word.now c.args.name.now c.args.i c.args.at c.requires.within c.if-at-gt0.false
    (ap begins_ignorable (sym c.rest_from.ensures) ∙ sym c.begins_ignorable.ensures ∙ c.if-begins_ignorable.false)
    (sym c.is_letter.ensures ∙ c.if-is_letter.true)

pub returns : goal.returns
returns c =
    no_next c.args.word.now c.args.name.now c.args.i c.args.at c.requires.within c.if-at-gt0.false
    (ap begins_ignorable (sym c.rest_from.ensures) ∙ sym c.begins_ignorable.ensures ∙ c.if-begins_ignorable.false)
    (sym c.is_letter.ensures ∙ c.if-is_letter.false)
