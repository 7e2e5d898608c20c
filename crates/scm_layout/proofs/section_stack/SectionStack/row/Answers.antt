use Rattle.std.proofs.Common.{◌≡◌, ◌∙◌, ℕ, List, Some, get_or, length, ap, ap₂, sym, arith}
use Rattle.std.specs.Prelude.{slice_get}
use Rattle.scm_rows.specs.declared.section_shape.SectionShape.{SectionShape}
use Rattle.scm_layout.specs.declared.section_rows.SectionRows.{SectionRows}
use Rattle.scm_layout.specs.SectionStack.{rows_by}
use Rattle.scm_layout.proofs.SectionStackLemmas.{length-by, there}
use Rattle.scm_layout.proofs.section_stack.SectionStack.row.Goals as goal

pub row_at-requires : goal.row_at-requires
row_at-requires c =
    let s = c.self.inside in
    record {
      inside = omega (arith, c.requires, length-by s.tops s.end s.shapes c.self.invariant, ap (λ (rs : List SectionRows). length rs) c.self.view_is, ap (λ (ts : List ℕ). length ts) c.as_slice-tops.ensures);
      lengths = ap (λ (ts : List ℕ). length ts) c.as_slice-tops.ensures ∙ c.self.invariant ∙ sym (ap (λ (ks : List SectionShape). length ks) c.as_slice.ensures);
    }

pub returns : goal.returns
returns c = λ d.
    let s = c.self.inside in
    let found : slice_get (rows_by s.tops s.end s.shapes) c.args.index ≡ Some c.row_at.result =
    ap₂ (λ (ts : List ℕ) (ks : List SectionShape). slice_get (rows_by ts s.end ks) c.args.index) (sym c.as_slice-tops.ensures) (sym c.as_slice.ensures) ∙ c.row_at.ensures in
    there (rows_by s.tops s.end s.shapes) c.args.index c.row_at.result d found
    ∙ ap (λ (rs : List SectionRows). get_or rs c.args.index d) c.self.view_is
