use Rattle.std.proofs.Common.{◌∙◌, arith, subst, sym, rules, FitsSigned, w64}
use Rattle.std.proofs.lemmas.Int.{to_z-of_z}
use Rattle.std.proofs.lemmas.List.{with_items_is}
use Rattle.scm_cells.specs.Tail.{IsBlankFrom}
use Rattle.scm_cells.proofs.TailLemmas.{IsBlankFrom-later, IsBlankFrom-put}
use Rattle.scm_cells.proofs.grid_row.GridRow.put_text.Goals as goal

pub invariant_of-self : goal.invariant_of-self
invariant_of-self c =
    let final = with_items_is c.self.inside.columns c.put_row.new.columns (c.put_row.auto.columns ∙ c.as_mut_slice-columns.ensures.len) in
    let old = subst (IsBlankFrom c.self.inside.end) (sym c.as_mut_slice-columns.ensures.value) c.self.invariant in
    subst (IsBlankFrom c.self.inside.end) (sym (final ∙ c.in_err-rest.ensures.err)) old

pub invariant_of-self-2 : goal.invariant_of-self-2
invariant_of-self-2 c =
    let fits : FitsSigned w64 c.args.column = search rules in
    let n = c.max-self-inside.result in
    let final = with_items_is c.self.inside.columns c.put_row.new.columns (c.put_row.auto.columns ∙ c.as_mut_slice-columns.ensures.len) in
    let old = subst (IsBlankFrom c.self.inside.end) (sym c.as_mut_slice-columns.ensures.value) c.self.invariant in
    subst (IsBlankFrom n) (sym final)
    (IsBlankFrom-put c.as_mut_slice-columns.result.now c.put_row.new.columns c.args.column c.args.text.now c.args.low c.args.high n (simp to_z-of_z at c.in_ok-rest.ensures.ok) (omega (arith, c.max-self-inside.ensures))
    (IsBlankFrom-later c.self.inside.end n _ (omega (arith, c.max-self-inside.ensures)) old))
