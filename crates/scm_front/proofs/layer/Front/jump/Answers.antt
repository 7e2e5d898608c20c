use Rattle.std.proofs.Common.{ap, ◌∙◌}
use Rattle.scm_types.specs.declared.keys.SelectionKey.{SelectionKey}
use Rattle.scm_front.specs.declared.kept.Notice.{Notice}
use Rattle.scm_front.specs.Fronts.{search_word}
use Rattle.scm_front.specs.Keeping.{saying}
use Rattle.scm_front.proofs.DoLemmas.{jumped}
use Rattle.scm_front.proofs.layer.Front.jump.Goals as goal

pub returns-clause-ok : goal.returns-clause-ok
returns-clause-ok c = λ e.
    let word = c.search_word-word.ensures ∙ ap (λ (selection : SelectionKey). search_word c.args.way selection c.args.key) c.selection_of.ensures in
    jumped c.args.self c.args.way c.args.key c.in_ok-beneath.beneath c.with_word.result c.is_elsewhere-is_missing.result c.saying.result
    c.with_word.ensures c.is_elsewhere-is_missing.ensures (c.saying.ensures ∙ ap (λ (w : Notice). saying c.args.self.kept w) word) e
    c.in_ok-beneath.ensures.leads
