use Rattle.std.proofs.Common.{◌≤◌, ◌∙◌, length, sym, arith}
use Rattle.scm_types.specs.Marks.{section_marks}
use Rattle.scm_front_items.proofs.RunLemmas.{agree-more, agree-past}
use Rattle.scm_front_items.proofs.steps.agree.Goals as goal

pub returns-then-place-end : goal.returns-then-place-end
returns-then-place-end c =
    let marks = section_marks c.args.section.now in
    let past : length marks ≤ c.loop-mark.place = omega (arith, c.if-place-end.true, c.mark_count-end.ensures) in
    sym (agree-past c.loop-mark.place _ marks past) ∙ c.loop-mark.invariant

pub loop-mark-preserved : goal.loop-mark-preserved
loop-mark-preserved c =
    agree-more c.loop-mark.place c.loop-mark.mark-index c.args.marks.now (section_marks c.args.section.now) _ c.loop-mark-test.true
    (sym c.is_mark_as.ensures ∙ c.if-not-is_mark_as.false) ∙ c.loop-mark.invariant
