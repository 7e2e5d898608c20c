use Rattle.std.proofs.Common.{◌≡◌, ◌∙◌, false, sym, rules}
use Rattle.scm_layout_index.proofs.RowOwnerLemmas.{not-over}
use Rattle.scm_layout_index.proofs.layout_index.LayoutIndex.overlay_on.Goals as goal

pub returns-else-owners : goal.returns-else-owners
returns-else-owners c =
    let not : c.args.owners.now.is_covered ≡ false = search rules in
    sym (not-over c.args.self.now.rects c.args.owners.now.row c.args.column (sym c.requires.covered ∙ not))
