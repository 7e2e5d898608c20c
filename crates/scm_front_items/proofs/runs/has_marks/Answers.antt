use Rattle.std.proofs.Common.{◌≡◌, length, false, arith}
use Rattle.std.proofs.lemmas.List.{ext_get_or}
use Rattle.scm_types.specs.Marks.{section_marks}
use Rattle.scm_front_items.proofs.runs.has_marks.Goals as goal

pub returns-clause-same : goal.returns-clause-same
returns-clause-same c = λ is.
    let same : length (section_marks c.args.section.now) ≡ length c.args.marks.now = omega (arith, c.mark_count.ensures) in
    ext_get_or false (section_marks c.args.section.now) c.args.marks.now same (λ k h. c.loop-index.invariant k (omega (arith, c.loop-index-test.false)))
