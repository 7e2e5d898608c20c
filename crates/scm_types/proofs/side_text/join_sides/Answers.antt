use Rattle.std.proofs.Common.{refl, true, false}
use Rattle.std.specs.List.{flat_map}
use Rattle.scm_types.specs.Joined.{text_of_lines}
use Rattle.scm_types.specs.Split.{section_lines}
use Rattle.scm_types.proofs.JoinedLemmas.{joined-on, joined-end}
use Rattle.scm_types.proofs.side_text.join_sides.Goals as goal

pub loop-section-preserved : goal.loop-section-preserved
loop-section-preserved c =
    let xs = c.args.sections.now in
    let i = c.loop-section.section-index in
    let x = c.section-item.result in
    record {
      selected = joined-on (flat_map (section_lines true)) (section_lines true) (λ y ys. refl) c.loop-section.selected c.push_section.new.selected (text_of_lines (flat_map (section_lines true) xs)) xs i x c.loop-section-test.true c.section-item.is c.in_ok-push_section.ensures.selected c.loop-section.invariant.selected;
      unselected = joined-on (flat_map (section_lines false)) (section_lines false) (λ y ys. refl) c.loop-section.unselected c.push_section.new.unselected (text_of_lines (flat_map (section_lines false) xs)) xs i x c.loop-section-test.true c.section-item.is c.in_ok-push_section.ensures.unselected c.loop-section.invariant.unselected;
    }

pub returns-clause-selected : goal.returns-clause-selected
returns-clause-selected c =
    joined-end (flat_map (section_lines true)) (section_lines true) refl c.loop-section.selected (text_of_lines (flat_map (section_lines true) c.args.sections.now)) c.args.sections.now c.loop-section.section-index c.loop-section-test.false c.loop-section.invariant.selected

pub returns-clause-unselected : goal.returns-clause-unselected
returns-clause-unselected c =
    joined-end (flat_map (section_lines false)) (section_lines false) refl c.loop-section.unselected (text_of_lines (flat_map (section_lines false) c.args.sections.now)) c.args.sections.now c.loop-section.section-index c.loop-section-test.false c.loop-section.invariant.unselected
