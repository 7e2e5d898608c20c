use Rattle.std.proofs.Common.{◌∙◌, arith, sym, subst}
use Rattle.std.proofs.lemmas.List.{with_items_is}
use Rattle.scm_cells.specs.Tail.{IsBlankFrom}
use Rattle.scm_cells.proofs.TailLemmas.{IsBlankFrom-later}
use Rattle.scm_cells.proofs.grid_row.GridRow.put_frame_text.Goals as goal

pub invariant_of-self : goal.invariant_of-self
invariant_of-self c =
    let n = c.max-self-inside.result in
    let final = with_items_is c.self.inside.columns c.put_frame_text-past.new.columns (c.put_frame_text-past.auto.columns ∙ c.as_mut_slice-columns.ensures.len) in
    let old = subst (IsBlankFrom c.self.inside.end) (sym c.as_mut_slice-columns.ensures.value) c.self.invariant in
    subst (IsBlankFrom n) (sym final) (c.put_frame_text-past.ensures.tail n (omega (arith, c.max-self-inside.ensures)) (IsBlankFrom-later c.self.inside.end n _ (omega (arith, c.max-self-inside.ensures)) old))
