use Rattle.std.proofs.Common.{◌∙◌, ap, length, subst, sym, replicate}
use Rattle.std.proofs.lemmas.List.{with_items_is}
use Rattle.scm_cells.specs.Cell.{blank}
use Rattle.scm_cells.specs.Tail.{IsBlankFrom}
use Rattle.scm_cells.proofs.TailLemmas.{IsBlankFrom-blanks}
use Rattle.scm_cells.proofs.grid_row.GridRow.clear.Goals as goal

pub clear_front-requires : goal.clear_front-requires
clear_front-requires c = subst (IsBlankFrom c.self.inside.end) (sym c.as_mut_slice.ensures.value) c.self.invariant

pub invariant_of-self : goal.invariant_of-self
invariant_of-self c =
    let final = with_items_is c.self.inside.columns c.clear_front.new.columns (c.clear_front.auto.columns ∙ c.as_mut_slice.ensures.len) in
    subst (IsBlankFrom 0) (sym (final ∙ c.clear_front.ensures)) (IsBlankFrom-blanks 0 _)

pub returns : goal.returns
returns c =
    let final = with_items_is c.self.inside.columns c.clear_front.new.columns (c.clear_front.auto.columns ∙ c.as_mut_slice.ensures.len) in
    final ∙ c.clear_front.ensures ∙ ap (λ n. replicate n blank) (ap length (c.as_mut_slice.ensures.value ∙ c.self.view_is))
