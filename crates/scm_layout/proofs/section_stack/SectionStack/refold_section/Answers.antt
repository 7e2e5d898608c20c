use Rattle.std.proofs.Common.{◌≡◌, ◌∙◌, ◌+◌, ◌<◌, ◌++◌, ℕ, List, false, take, drop, length, map, ap, sym, arith}
use Rattle.scm_rows.specs.Heights.{shape_of}
use Rattle.scm_selection.proofs.ToggleLemmas.{lent_whole}
use Rattle.scm_layout.specs.declared.section_rows.SectionRows.{SectionRows}
use Rattle.scm_layout.specs.Refolds.{last_end}
use Rattle.scm_layout.specs.Rows.{sections_height, sections_rows}
use Rattle.scm_layout.specs.SectionStack.{rows_by, shapes_of, tops_of}
use Rattle.scm_layout.proofs.AgreeLemmas.{last-rows}
use Rattle.scm_layout.proofs.MendLemmas.{rows-by, shapes-are}
use Rattle.scm_layout.proofs.RowLemmas.{length-sections_rows, rows_room, sections-fit}
use Rattle.scm_layout.proofs.SectionStackLemmas.{last-back, length-by, shapes-back, tops-back}
use Rattle.scm_layout.proofs.section_stack.SectionStack.refold_section.Goals as goal

pub mend_tops-end-requires : goal.mend_tops-end-requires
mend_tops-end-requires c =
    let s = c.self.inside in
    let h = c.requires.rows in
    let k = c.args.key in
    let ss = c.args.sections.now in
    let R = sections_rows h.before k (length ss) 0 0 false ss in
    let is : rows_by s.tops s.end s.shapes ≡ R = c.self.view_is ∙ h.is_it in
    let count : length s.tops ≡ length ss = sym (length-by s.tops s.end s.shapes c.self.invariant) ∙ ap (λ (rs : List SectionRows). length rs) is ∙ length-sections_rows h.before k (length ss) 0 0 false ss in
    let some : 0 < length s.tops = omega (arith, count, c.requires.index) in
    let tall : s.end ≡ 0 + sections_height h.before k (length ss) 0 false ss =
    sym (last-back 0 s.tops s.end s.shapes c.self.invariant some) ∙ ap (last_end 0) is ∙ last-rows h.before k (length ss) 0 0 false ss in
    record {
      tops = record {
        before = h.before;
        at = c.as_mut_slice.ensures.value ∙ sym (tops-back s.tops s.end s.shapes c.self.invariant) ∙ ap tops_of is;
        tall = omega (arith, tall);
        agree = h.agree;
      };
      index = c.requires.index;
      fits = c.requires.fits;
    }

pub narrow-self-inside-requires : goal.narrow-self-inside-requires
narrow-self-inside-requires c =
    omega (arith, rows_room, c.mend_tops-end.ensures.last, sections-fit c.args.set.now c.args.key (length c.args.sections.now) c.args.sections.now, c.requires.fits)

pub invariant_of-self : goal.invariant_of-self
invariant_of-self c =
    let s = c.self.inside in
    let new = c.mend_tops-end.new.tops in
    let whole : take (length s.tops) (new ++ drop (length new) s.tops) ≡ new = lent_whole s.tops new (c.mend_tops-end.auto.tops ∙ ap (λ (ts : List ℕ). length ts) c.as_mut_slice.ensures.value) in
    ap (λ (ts : List ℕ). length ts) whole ∙ c.mend_tops-end.auto.tops ∙ ap (λ (ts : List ℕ). length ts) c.as_mut_slice.ensures.value ∙ c.self.invariant

pub returns : goal.returns
returns c =
    let s = c.self.inside in
    let h = c.requires.rows in
    let ks = c.args.set.now in
    let k = c.args.key in
    let ss = c.args.sections.now in
    let new = c.mend_tops-end.new.tops in
    let whole : take (length s.tops) (new ++ drop (length new) s.tops) ≡ new = lent_whole s.tops new (c.mend_tops-end.auto.tops ∙ ap (λ (ts : List ℕ). length ts) c.as_mut_slice.ensures.value) in
    let is : rows_by s.tops s.end s.shapes ≡ sections_rows h.before k (length ss) 0 0 false ss = c.self.view_is ∙ h.is_it in
    let H = sections_height ks k (length ss) 0 false ss in
    let from_none : H ≡ 0 + H = omega arith in
    let tops = whole ∙ c.mend_tops-end.ensures.tops in
    let shapes : s.shapes ≡ map shape_of ss = sym (shapes-back s.tops s.end s.shapes c.self.invariant) ∙ ap shapes_of is ∙ shapes-are h.before k (length ss) 0 0 false ss in
    let end = c.narrow-self-inside.ensures ∙ c.mend_tops-end.ensures.last ∙ from_none in
    (λ i. rows_by (tops i) (end i) (shapes i)) ∙ sym (rows-by ks k (length ss) 0 0 false ss)
