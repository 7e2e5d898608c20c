use Rattle.std.proofs.Common.{◌≡◌, ◌∙◌, ◌+◌, ◌-◌, arith, sym, ap, length, length-take-le, take, take_at, drop}
use Rattle.std.proofs.lemmas.Bool.{and_parts}
use Rattle.std.proofs.lemmas.List.{drop-drop}
use Rattle.scm_cells.specs.Row.{whole_before, whole_after}
use Rattle.scm_cells.proofs.RowLemmas.{take-middle, drop-middle, length-between}
use Rattle.scm_cells.proofs.StartLemmas.{whole_before-start, whole_after-start, whole_front, whole_back}
use Rattle.scm_cells.proofs.row.mend_around.Goals as goal

pub mend_before-requires : goal.mend_before-requires
mend_before-requires c = λ start.
    whole_front c.args.columns.now _ c.args.from c.requires.whole c.split_at_mut-front.ensures.front (sym c.is_start-is_from_start.ensures ∙ start)

pub mend_after-requires : goal.mend_after-requires
mend_after-requires c = λ start.
    whole_back c.args.columns.now _ c.args.from c.args.end c.requires.whole c.requires.from
    (c.split_at_mut-back.ensures.back ∙ ap (drop (c.args.end - c.args.from)) c.split_at_mut-front.ensures.back) (sym c.is_start-is_end_start.ensures ∙ start)

pub returns-then-is_from_start-is_end_start-clause-front : goal.returns-then-is_from_start-is_end_start-clause-front
returns-then-is_from_start-is_end_start-clause-front c =
    sym (whole_before-start c.args.columns.now c.args.from c.requires.whole (sym c.is_start-is_from_start.ensures ∙ (and_parts _ _ c.if-is_from_start-is_end_start.true).0))

pub returns-then-is_from_start-is_end_start-clause-back : goal.returns-then-is_from_start-is_end_start-clause-back
returns-then-is_from_start-is_end_start-clause-back c =
    sym (whole_after-start c.args.columns.now c.args.end c.requires.whole (sym c.is_start-is_end_start.ensures ∙ (and_parts _ _ c.if-is_from_start-is_end_start.true).1))

pub returns-clause-front : goal.returns-clause-front
returns-clause-front c =
    let front = c.split_at_mut-front.ensures.front in
    let size : length c.mend_before.new.columns ≡ c.args.from = c.mend_before.auto.columns ∙ ap length front ∙ length-take-le c.args.from c.args.columns.now (omega arith) in
    take_at c.mend_before.new.columns _ c.args.from size ∙ c.mend_before.ensures ∙ ap whole_before front

pub returns-clause-middle : goal.returns-clause-middle
returns-clause-middle c =
    let front = c.split_at_mut-front.ensures in
    let middle = c.split_at_mut-back.ensures in
    let n = c.args.end - c.args.from in
    let size : length c.mend_before.new.columns ≡ c.args.from = c.mend_before.auto.columns ∙ ap length front.front ∙ length-take-le c.args.from c.args.columns.now (omega arith) in
    let same : c.split_at_mut-back.result.0.now ≡ take n (drop c.args.from c.args.columns.now) = middle.front ∙ ap (take n) front.back in
    take-middle c.mend_before.new.columns c.split_at_mut-back.result.0.now c.mend_after.new.columns c.args.from c.args.end size
    (ap length same ∙ length-between c.args.columns.now c.args.from c.args.end c.requires.end) ∙ same

pub returns-clause-back : goal.returns-clause-back
returns-clause-back c =
    let front = c.split_at_mut-front.ensures in
    let middle = c.split_at_mut-back.ensures in
    let n = c.args.end - c.args.from in
    let there : c.args.from + n ≡ c.args.end = omega arith in
    let size : length c.mend_before.new.columns ≡ c.args.from = c.mend_before.auto.columns ∙ ap length front.front ∙ length-take-le c.args.from c.args.columns.now (omega arith) in
    let same : c.split_at_mut-back.result.0.now ≡ take n (drop c.args.from c.args.columns.now) = middle.front ∙ ap (take n) front.back in
    drop-middle c.mend_before.new.columns c.split_at_mut-back.result.0.now c.mend_after.new.columns c.args.from c.args.end c.requires.from size
    (ap length same ∙ length-between c.args.columns.now c.args.from c.args.end c.requires.end)
    ∙ c.mend_after.ensures
    ∙ ap (whole_after 0) (middle.back ∙ ap (drop n) front.back ∙ drop-drop n c.args.from c.args.columns.now ∙ ap (λ k. drop k c.args.columns.now) there)
