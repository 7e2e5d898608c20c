use Rattle.scm_view.proofs.ScreenLemmas.{cleared-sight, screen-in_range}
use Rattle.scm_view.proofs.laws.cleared_grids_are_screens.Goals as goal

pub returns : goal.returns
returns c = record { cleared = cleared-sight; in_range = screen-in_range }
