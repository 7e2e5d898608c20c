use Rattle.std.proofs.Common.{◌∙◌, sym}
use Rattle.scm_layout_index.proofs.OwnerRunLemmas.{bare-run}
use Rattle.scm_layout_index.proofs.layout_index.LayoutIndex.run_end.Goals as goal

pub returns-else-owners : goal.returns-else-owners
returns-else-owners c =
    let run = rw (c.from.ensures, c.requires.owners.found) at c.found_end-end.ensures in
    bare-run c.args.self.now c.args.owners.now.row c.args.column _ (sym c.requires.owners.covered ∙ c.if-owners.false) run
