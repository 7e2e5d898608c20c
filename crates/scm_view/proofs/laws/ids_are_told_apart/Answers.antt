use Rattle.std.proofs.Common.{rules}
use Rattle.scm_view.proofs.laws.ids_are_told_apart.Goals as goal

pub returns : goal.returns
returns c = record { same = search rules; self = search rules }
