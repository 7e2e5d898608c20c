use Rattle.std.proofs.Common.{ap, ◌∙◌}
use Rattle.scm_types.specs.declared.keys.SelectionKey.{SelectionKey}
use Rattle.scm_front.specs.Keeping.{after_range}
use Rattle.scm_front.proofs.DoLemmas.{ranged}
use Rattle.scm_front.proofs.layer.Front.range.Goals as goal

pub returns : goal.returns
returns c =
    ranged c.args.self c.with_word.result c.after_range-kept.result c.with_word.ensures
    (c.after_range-kept.ensures ∙ ap (λ (k : SelectionKey). after_range c.args.self.kept k) c.selection_of-selection.ensures)
