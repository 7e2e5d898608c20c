use Rattle.std.proofs.Common.{◌≡◌, ◌∙◌, ◌++◌, ℕ, List, drop, length, take, ap, sym}
use Rattle.scm_rows.specs.declared.section_shape.SectionShape.{SectionShape}
use Rattle.scm_selection.proofs.ToggleLemmas.{lent_whole}
use Rattle.scm_layout.specs.declared.section_rows.SectionRows.{SectionRows}
use Rattle.scm_layout.specs.SectionStack.{rows_by, shapes_of}
use Rattle.scm_layout.proofs.SectionStackLemmas.{shapes-back}
use Rattle.scm_layout.proofs.section_stack.SectionStack.move_as.Goals as goal

-- what is kept of the same sections
same-kept : (tops ends : List ℕ) (last end : ℕ) (xs ys : List SectionShape) (own their : List SectionRows) → length tops ≡ length xs → length ends ≡ length ys → rows_by tops last xs ≡ own → rows_by ends end ys ≡ their
    → shapes_of own ≡ shapes_of their → xs ≡ ys
same-kept tops ends last end xs ys own their e f is be same =
    sym (shapes-back tops last xs e) ∙ ap shapes_of is ∙ same ∙ sym (ap shapes_of be) ∙ shapes-back ends end ys f

pub copy_from_slice-requires : goal.copy_from_slice-requires
copy_from_slice-requires c =
    let a = c.self.inside in
    let b = c.other.inside in
    let same : a.shapes ≡ b.shapes = same-kept a.tops b.tops a.end b.end a.shapes b.shapes c.args.self.now c.args.other.now c.self.invariant c.other.invariant c.self.view_is c.other.view_is c.requires in
    ap (λ (ts : List ℕ). length ts) c.as_mut_slice.ensures.value ∙ c.self.invariant ∙ ap (λ (ks : List SectionShape). length ks) same ∙ sym c.other.invariant
    ∙ sym (ap (λ (ts : List ℕ). length ts) c.as_slice.ensures)

pub returns : goal.returns
returns c =
    let a = c.self.inside in
    let b = c.other.inside in
    let new = c.copy_from_slice.new.self in
    let same : a.shapes ≡ b.shapes = same-kept a.tops b.tops a.end b.end a.shapes b.shapes c.args.self.now c.args.other.now c.self.invariant c.other.invariant c.self.view_is c.other.view_is c.requires in
    let whole : take (length a.tops) (new ++ drop (length new) a.tops) ≡ new = lent_whole a.tops new (c.copy_from_slice.auto.self ∙ ap (λ (ts : List ℕ). length ts) c.as_mut_slice.ensures.value) in
    let tops : take (length a.tops) (new ++ drop (length new) a.tops) ≡ b.tops = whole ∙ c.copy_from_slice.ensures.after ∙ c.as_slice.ensures in
    (λ i. rows_by (tops i) b.end (same i)) ∙ c.other.view_is
