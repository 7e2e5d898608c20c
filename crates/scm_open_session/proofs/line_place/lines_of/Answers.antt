use Rattle.std.proofs.Common.{◌≡◌, [], drop, ap, sym, ◌∙◌, arith}
use Rattle.std.proofs.lemmas.List.{drop_all}
use Rattle.scm_open_session.proofs.LineLemmas.{counted, counted_all}
use Rattle.scm_open_session.proofs.line_place.lines_of.Goals as goal

pub returns : goal.returns
returns c =
    let gone : drop c.loop-section.section-index c.args.sections.now ≡ [] =
    drop_all c.loop-section.section-index c.args.sections.now (omega (arith, c.loop-section-test.false, c.loop-section.auto.section-index-end)) in
    sym (ap (counted c.args.is_new c.loop-section.count) gone) ∙ c.loop-section.invariant ∙ counted_all c.args.is_new c.args.sections.now
