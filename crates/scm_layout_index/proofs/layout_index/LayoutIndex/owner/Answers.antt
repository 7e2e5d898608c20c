use Rattle.std.proofs.Common.{ℕ, ◌∙◌, ap}
use Rattle.std.specs.Prelude.{nat_lt, if◌then◌else◌, None}
use Rattle.scm_view.specs.Window.{owner as owner_of}
use Rattle.scm_layout_index.proofs.layout_index.LayoutIndex.owner.Goals as goal

pub returns : goal.returns
returns c = λ w h s shown is.
    c.owner_on.ensures w h s shown is
    ∙ ap (λ (y : ℕ). if nat_lt c.args.column w then owner_of w h s shown y c.args.column else None) c.row_owners.ensures.row
