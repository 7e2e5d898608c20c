use Rattle.std.proofs.Common.{refl}
use Rattle.std.specs.List.{flat_map}
use Rattle.scm_types.specs.Split.{section_lines}
use Rattle.scm_diff.specs.Sides.{nothing_yet, with_lines}
use Rattle.scm_diff.proofs.SideLemmas.{added-on, added-end}
use Rattle.scm_diff.proofs.sides.join.Goals as goal

pub loop-section-preserved : goal.loop-section-preserved
loop-section-preserved c =
    let xs = c.args.sections.now in
    let side = c.args.selected in
    added-on (flat_map (section_lines side)) (section_lines side) (λ y ys. refl) c.loop-section.joiner c.push_section.new.self (with_lines nothing_yet (flat_map (section_lines side) xs)) xs c.loop-section.section-index c.section-item.result c.loop-section-test.true c.section-item.is c.in_ok-push_section.ensures c.loop-section.invariant

pub returns : goal.returns
returns c = let side = c.args.selected in added-end (flat_map (section_lines side)) (section_lines side) refl c.loop-section.joiner (with_lines nothing_yet (flat_map (section_lines side) c.args.sections.now)) c.args.sections.now c.loop-section.section-index c.loop-section-test.false c.loop-section.invariant
