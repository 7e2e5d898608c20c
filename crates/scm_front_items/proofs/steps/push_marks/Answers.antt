use Rattle.std.proofs.Common.{◌≡◌, ◌++◌, ◌-◌, ◌+◌, ◌<◌, ◌∙◌, Bool, List, length, drop, take, ap, suc, arith}
use Rattle.scm_types.specs.Marks.{section_marks}
use Rattle.scm_front_items.proofs.RunLemmas.{item-more}
use Rattle.scm_front_items.proofs.steps.push_marks.Goals as goal

pub loop-index-preserved : goal.loop-index-preserved
loop-index-preserved c =
    let all = section_marks c.args.section.now in
    let left = c.args.count - (c.loop-index.index + 1 - c.args.first) in
    let within : c.loop-index.index < length all = omega (arith, c.loop-index-test.true, c.mark_count-end.ensures, c.min-index-end.ensures, c.saturating_add.ensures) in
    let one : c.args.count - (c.loop-index.index - c.args.first) ≡ suc left = omega (arith, c.loop-index-test.true, c.loop-index.auto.index, c.min-index-end.ensures, c.saturating_add.ensures) in
    ap (λ (now : List Bool). now ++ take left (drop (c.loop-index.index + 1) all)) c.in_ok-push_mark.ensures.ok
    ∙ item-more c.loop-index.marks all (c.args.count - (c.loop-index.index - c.args.first)) left c.loop-index.index within one
    ∙ c.loop-index.invariant
