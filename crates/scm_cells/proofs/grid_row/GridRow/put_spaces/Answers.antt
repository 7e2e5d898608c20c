use Rattle.std.proofs.Common.{◌∙◌, sym, subst}
use Rattle.std.proofs.lemmas.List.{with_items_is}
use Rattle.scm_cells.specs.Tail.{IsBlankFrom}
use Rattle.scm_cells.proofs.grid_row.GridRow.put_spaces.Goals as goal

pub invariant_of-self : goal.invariant_of-self
invariant_of-self c =
    let final = with_items_is c.self.inside.columns c.put_spaces.new.columns (c.put_spaces.auto.columns ∙ c.as_mut_slice.ensures.len) in
    subst (IsBlankFrom c.self.inside.end) (sym final) (c.put_spaces.ensures.tail c.self.inside.end (subst (IsBlankFrom c.self.inside.end) (sym c.as_mut_slice.ensures.value) c.self.invariant))
