use Rattle.std.proofs.Common.{◌∙◌, ◌+◌, ◌∷◌, drop, sym, ap}
use Rattle.std.specs.Prelude.{if◌then◌else◌}
use Rattle.scm_rows.specs.Heights.{is_section_visible}
use Rattle.scm_document.specs.Rows.{is_open}
use Rattle.scm_document.specs.SectionWalk.{visible_views}
use Rattle.scm_document.proofs.SectionsLemmas.{visible-more, visible-none}
use Rattle.scm_document.proofs.section_walk.first_visible.Goals as goal

pub returns-then-is_section_visible : goal.returns-then-is_section_visible
returns-then-is_section_visible c =
    let above = c.loop-index.is_above_open in
    let views = c.args.views.now in
    let i = c.loop-index.index in
    let v = c.index-views-index.result in
    let test = ap (is_section_visible above v.section.now) (sym c.is_open_at.ensures) ∙ sym c.is_section_visible.ensures ∙ c.if-is_section_visible.true in
    let more = rw (sym c.index-views-index.is) at (visible-more above views i v c.loop-index-test.true) in
    record {
      cases = record {
        within = c.loop-index-test.true;
        rest = sym c.loop-index.invariant ∙ more
            ∙ ap (λ b. if b then v ∷ visible_views (is_open v) (drop (i + 1) views) else visible_views (is_open v) (drop (i + 1) views)) test;
      };
    }

pub loop-index-preserved : goal.loop-index-preserved
loop-index-preserved c =
    let above = c.loop-index.is_above_open in
    let views = c.args.views.now in
    let i = c.loop-index.index in
    let v = c.index-views-index.result in
    let test = ap (is_section_visible above v.section.now) (sym c.is_open_at.ensures) ∙ sym c.is_section_visible.ensures ∙ c.if-is_section_visible.false in
    let more = rw (sym c.index-views-index.is) at (visible-more above views i v c.loop-index-test.true) in
    rw c.is_open-is_above_open.ensures
    (sym (more ∙ ap (λ b. if b then v ∷ visible_views (is_open v) (drop (i + 1) views) else visible_views (is_open v) (drop (i + 1) views)) test) ∙ c.loop-index.invariant)

pub returns : goal.returns
returns c = record { cases = sym c.loop-index.invariant ∙ visible-none _ c.args.views.now c.loop-index.index c.loop-index-test.false }
