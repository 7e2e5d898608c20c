use Rattle.std.proofs.Common.{◌∙◌, List, ℕ, length, ap, sym, subst, arith}
use Rattle.std.specs.List.Sorted.{IsNonDecreasingBy}
use Rattle.scm_layout.specs.declared.section_rows.SectionRows.{SectionRows}
use Rattle.scm_layout.specs.Searches.{count_to}
use Rattle.scm_layout.proofs.SectionStackLemmas.{count-by, length-by, tops-rise}
use Rattle.scm_layout.proofs.section_stack.SectionStack.begun.Goals as goal

pub tops_to-requires : goal.tops_to-requires
tops_to-requires c =
    let s = c.self.inside in
    subst (IsNonDecreasingBy (λ (t : ℕ). t)) (sym c.as_slice.ensures)
    (tops-rise s.tops s.end s.shapes c.self.invariant (subst (IsNonDecreasingBy (λ (r : SectionRows). r.top)) (sym c.self.view_is) c.requires))

pub returns : goal.returns
returns c =
    let s = c.self.inside in
    record {
      count = c.tops_to.ensures.count ∙ ap (count_to (λ (t : ℕ). t) c.args.row) c.as_slice.ensures ∙ sym (count-by c.args.row s.tops s.end s.shapes c.self.invariant) ∙ ap (count_to (λ (r : SectionRows). r.top) c.args.row) c.self.view_is;
      most = omega (arith, c.tops_to.ensures.most, ap (λ (ts : List ℕ). length ts) c.as_slice.ensures, length-by s.tops s.end s.shapes c.self.invariant, ap length c.self.view_is);
    }
