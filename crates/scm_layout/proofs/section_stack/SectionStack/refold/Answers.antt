use Rattle.std.proofs.Common.{◌≡◌, ◌∙◌, ◌+◌, ◌++◌, ℕ, List, false, take, drop, length, ap, sym, arith}
use Rattle.std.proofs.lemmas.List.{length-map}
use Rattle.scm_rows.specs.Heights.{shape_of}
use Rattle.scm_rows.specs.declared.section_shape.SectionShape.{SectionShape}
use Rattle.scm_selection.proofs.ToggleLemmas.{lent_whole}
use Rattle.scm_layout.specs.declared.section_rows.SectionRows.{SectionRows}
use Rattle.scm_layout.specs.Rows.{sections_height, sections_rows}
use Rattle.scm_layout.specs.SectionStack.{rows_by}
use Rattle.scm_layout.proofs.MendLemmas.{rows-by}
use Rattle.scm_layout.proofs.RowLemmas.{length-sections_rows, rows_room, sections-fit}
use Rattle.scm_layout.proofs.SectionStackLemmas.{length-by}
use Rattle.scm_layout.proofs.section_stack.SectionStack.refold.Goals as goal

pub fill_shapes-requires : goal.fill_shapes-requires
fill_shapes-requires c =
    let s = c.self.inside in
    ap (λ (ks : List SectionShape). length ks) c.as_mut_slice.ensures.value ∙ sym c.self.invariant ∙ sym (length-by s.tops s.end s.shapes c.self.invariant)
    ∙ ap (λ (rs : List SectionRows). length rs) c.self.view_is ∙ c.requires.lengths

pub refold_tops-height-requires-clause-lengths : goal.refold_tops-height-requires-clause-lengths
refold_tops-height-requires-clause-lengths c =
    let s = c.self.inside in
    ap (λ (ts : List ℕ). length ts) c.as_mut_slice-2.ensures.value ∙ sym (length-by s.tops s.end s.shapes c.self.invariant)
    ∙ ap (λ (rs : List SectionRows). length rs) c.self.view_is ∙ c.requires.lengths

pub narrow-self-inside-requires : goal.narrow-self-inside-requires
narrow-self-inside-requires c =
    omega (arith, rows_room, c.refold_tops-height.ensures.height, sections-fit c.args.unfolded.keys.now c.args.key (length c.args.sections.now) c.args.sections.now, c.requires.fits)

pub invariant_of-self : goal.invariant_of-self
invariant_of-self c =
    let s = c.self.inside in
    let ss = c.args.sections.now in
    let newT = c.refold_tops-height.new.tops in
    let newS = c.fill_shapes.new.shapes in
    let wholeT : take (length s.tops) (newT ++ drop (length newT) s.tops) ≡ newT = lent_whole s.tops newT (c.refold_tops-height.auto.tops ∙ ap (λ (ts : List ℕ). length ts) c.as_mut_slice-2.ensures.value) in
    let wholeS : take (length s.shapes) (newS ++ drop (length newS) s.shapes) ≡ newS = lent_whole s.shapes newS (c.fill_shapes.auto.shapes ∙ ap (λ (ks : List SectionShape). length ks) c.as_mut_slice.ensures.value) in
    let R = sections_rows c.args.unfolded.keys.now c.args.key (length ss) 0 0 false ss in
    ap (λ (ts : List ℕ). length ts) (wholeT ∙ c.refold_tops-height.ensures.tops) ∙ length-map R (λ (r : SectionRows). r.top) ∙ length-sections_rows c.args.unfolded.keys.now c.args.key (length ss) 0 0 false ss
    ∙ sym (ap (λ (ks : List SectionShape). length ks) (wholeS ∙ c.fill_shapes.ensures) ∙ length-map ss shape_of)

pub returns : goal.returns
returns c =
    let s = c.self.inside in
    let ks = c.args.unfolded.keys.now in
    let k = c.args.key in
    let ss = c.args.sections.now in
    let newT = c.refold_tops-height.new.tops in
    let newS = c.fill_shapes.new.shapes in
    let wholeT : take (length s.tops) (newT ++ drop (length newT) s.tops) ≡ newT = lent_whole s.tops newT (c.refold_tops-height.auto.tops ∙ ap (λ (ts : List ℕ). length ts) c.as_mut_slice-2.ensures.value) in
    let wholeS : take (length s.shapes) (newS ++ drop (length newS) s.shapes) ≡ newS = lent_whole s.shapes newS (c.fill_shapes.auto.shapes ∙ ap (λ (ks : List SectionShape). length ks) c.as_mut_slice.ensures.value) in
    let R = sections_rows ks k (length ss) 0 0 false ss in
    let H = sections_height ks k (length ss) 0 false ss in
    let from_none : H ≡ 0 + H = omega arith in
    let tops = wholeT ∙ c.refold_tops-height.ensures.tops in
    let shapes = wholeS ∙ c.fill_shapes.ensures in
    let end = c.narrow-self-inside.ensures ∙ c.refold_tops-height.ensures.height ∙ from_none in
    record {
      rows = (λ i. rows_by (tops i) (end i) (shapes i)) ∙ sym (rows-by ks k (length ss) 0 0 false ss);
      height = c.refold_tops-height.ensures.height;
    }
