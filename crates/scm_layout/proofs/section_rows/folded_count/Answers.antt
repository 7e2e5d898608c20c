use Rattle.std.proofs.Common.{◌≡◌, ◌∙◌, ◌+◌, ap, sym, arith}
use Rattle.scm_layout.specs.Rows.{is_expanded}
use Rattle.scm_layout.proofs.RowLemmas.{folded_count-end, folded_count-more, none-folded}
use Rattle.scm_layout.proofs.section_rows.folded_count.Goals as goal

pub loop-index-preserved : goal.loop-index-preserved
loop-index-preserved c =
    let more = folded_count-more c.args.unfolded.keys.now c.args.key c.loop-index.index c.args.sections.now c.index-sections-index.result c.loop-index-test.true c.index-sections-index.is in
    record {
      count = omega (arith, more, c.fold_count-folded.ensures.count);
      most = omega (arith, c.fold_count-folded.ensures.most);
    }

pub returns : goal.returns
returns c =
    let none = folded_count-end c.args.unfolded.keys.now c.args.key c.loop-index.index c.args.sections.now c.loop-index-test.false in
    omega arith

pub returns-then-unfolded : goal.returns-then-unfolded
returns-then-unfolded c =
    let ks = c.args.unfolded.keys.now in
    let k = c.args.key in
    sym (none-folded ks k 0 c.args.sections.now
    (λ m s at editable. let from_none : 0 + m ≡ m = omega arith in ap (is_expanded ks k) from_none ∙ c.requires c.if-unfolded.true m s at editable))
