use Rattle.std.proofs.Common.{ap, ◌∙◌}
use Rattle.scm_front.specs.declared.kept.Kept.{Kept}
use Rattle.scm_front.specs.declared.kept.Notice.TheVariants.{Nothing}
use Rattle.scm_front.specs.Driving.{turn_of}
use Rattle.scm_front.specs.Fronts.{selection_of}
use Rattle.scm_front.specs.Keeping.{saying}
use Rattle.scm_front.proofs.DoLemmas.{marked, same-round}
use Rattle.scm_front.proofs.RangeReachLemmas.{range-remembers}
use Rattle.scm_front.proofs.layer.Front.mark.Goals as goal

pub returns-clause-ok : goal.returns-clause-ok
returns-clause-ok c =
    let f = c.args.self in
    let deeds = c.in_ok-deeds.deeds.items in
    let turn = turn_of c.in_ok-turn.turn in
    let round = same-round f.beneath turn deeds c.as_slice.result.now c.selection_of-back.result (selection_of f.beneath) c.as_slice.ensures.value c.selection_of-back.ensures c.in_ok-turn.ensures.ok in
    marked f deeds turn c.with_word.result c.recorded.result c.saying.result c.front_turn.result c.front_turn.ensures.value c.with_word.ensures
    (c.saying.ensures ∙ ap (λ (k : Kept). saying k Nothing) c.anchored-kept.ensures) c.recorded.ensures.keeps c.in_ok-deeds.ensures.ok round
    (range-remembers f.beneath f.kept.anchor turn f.kept.history c.recorded.result.history c.runs_of_range-before.result c.runs_of_range-before.ensures.calm
    c.runs_of_range-before.ensures.taken c.in_ok-deeds.ensures.ok round c.recorded.ensures.history)
