use Rattle.std.proofs.Common.{◌≡◌, ◌∙◌, ◌≤◌, ℕ, zero, suc, List, [], ◌∷◌, length, ap, ap₂, sym, refl, None, arith}
use Rattle.std.specs.Prelude.{slice_get}
use Rattle.scm_rows.specs.declared.section_shape.SectionShape.{SectionShape}
use Rattle.scm_layout.specs.declared.section_rows.SectionRows.{SectionRows}
use Rattle.scm_layout.specs.SectionStack.{rows_by}
use Rattle.scm_layout.proofs.SectionStackLemmas.{length-by}
use Rattle.scm_layout.proofs.section_stack.SectionStack.get.Goals as goal

none-past : {A : Type 0} (xs : List A) (i : ℕ) → length xs ≤ i → None ≡ slice_get xs i
none-past [] i past = refl
none-past (x ∷ xs) zero past = absurd (omega (arith, past))
none-past (x ∷ xs) (suc i) past = none-past xs i (omega (arith, past))

pub returns-then-index-len : goal.returns-then-index-len
returns-then-index-len c =
    let s = c.self.inside in
    sym c.row_at.ensures
    ∙ ap₂ (λ (ts : List ℕ) (ks : List SectionShape). slice_get (rows_by ts s.end ks) c.args.index) c.as_slice-tops.ensures c.as_slice.ensures
    ∙ ap (λ (rs : List SectionRows). slice_get rs c.args.index) c.self.view_is

pub returns-else-index-len : goal.returns-else-index-len
returns-else-index-len c =
    let s = c.self.inside in
    none-past (rows_by s.tops s.end s.shapes) c.args.index (omega (arith, length-by s.tops s.end s.shapes c.self.invariant))
    ∙ ap (λ (rs : List SectionRows). slice_get rs c.args.index) c.self.view_is

pub row_at-requires : goal.row_at-requires
row_at-requires c =
    let s = c.self.inside in
    record {
      inside = omega (arith, c.if-index-len.true, c.len.ensures, ap (λ (ts : List ℕ). length ts) c.as_slice-tops.ensures);
      lengths = ap (λ (ts : List ℕ). length ts) c.as_slice-tops.ensures ∙ c.self.invariant ∙ sym (ap (λ (ks : List SectionShape). length ks) c.as_slice.ensures);
    }
