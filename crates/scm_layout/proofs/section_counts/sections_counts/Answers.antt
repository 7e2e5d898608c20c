use Rattle.std.proofs.Common.{◌≡◌, ◌∙◌, ◌+◌, ◌++◌, ◌∷◌, drop, append-nil, ap, sym, arith, append_assoc, []}
use Rattle.scm_types.proofs.LimitLemmas.{items_room}
use Rattle.scm_types.specs.Marks.{is_editable_section}
use Rattle.scm_layout.specs.Counts.{section_counts, sections_counts}
use Rattle.scm_layout.proofs.CountLemmas.{at_most_one_more, old_lines-more, sections_counts-end, sections_counts-more}
use Rattle.scm_layout.proofs.section_counts.sections_counts.Goals as goal

pub with-before-requires-clause-lines : goal.with-before-requires-clause-lines
with-before-requires-clause-lines c =
    let lines = rw (sym c.section-item.is) at (old_lines-more c.loop-section.section-index c.args.sections.now c.section-item.result c.loop-section-test.true) in
    omega (arith, items_room)

pub loop-section-preserved : goal.loop-section-preserved
loop-section-preserved c =
    let sections = c.args.sections.now in
    let i = c.loop-section.section-index in
    let section = c.section-item.result in
    let before = c.loop-section.before in
    let made = c.loop-section.counts.items in
    let left = sections_counts c.with-before.result.editable c.with-before.result.lines (drop (i + 1) sections) in
    let more : sections_counts before.editable before.lines (drop i sections) ≡ section_counts before.editable before.lines section ∷ left =
    rw (c.with-before.ensures.editable, c.with-before.ensures.lines) (rw (sym c.section-item.is) at (sections_counts-more before.editable before.lines i sections section c.loop-section-test.true)) in
    let lines = rw (sym c.section-item.is) at (old_lines-more i sections section c.loop-section-test.true) in
    record {
      counts = rw c.in_ok-push.ensures.items (append_assoc made (c.section_counts.result ∷ []) left ∙ ap (λ v. made ++ (v ∷ left)) c.section_counts.ensures ∙ ap (λ vs. made ++ vs) (sym more) ∙ c.loop-section.invariant.counts);
      editable = rw c.with-before.ensures.editable (at_most_one_more (is_editable_section section) before.editable i c.loop-section.invariant.editable);
      lines = omega arith;
    }

pub returns : goal.returns
returns c =
    let before = c.loop-section.before in
    let made = c.loop-section.counts.items in
    let none = sections_counts-end before.editable before.lines c.loop-section.section-index c.args.sections.now c.loop-section-test.false in
    c.from.ensures ∙ sym (append-nil made) ∙ ap (λ vs. made ++ vs) (sym none) ∙ c.loop-section.invariant.counts
