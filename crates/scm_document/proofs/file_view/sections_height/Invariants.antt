use Rattle.std.proofs.Common.{◌≡◌, ◌+◌, false, length}
use Rattle.scm_document.specs.SectionWalk.{sections_left, visible_views}
use Rattle.scm_document.specs.ViewPieces.{sections_height}
use Rattle.scm_document.proofs.file_view.sections_height.Given as goal

abbrev pub invariant-sections : goal.invariant-sections
invariant-sections l = l.height + sections_height (sections_left l.walk) ≡ sections_height (visible_views false l.views)

abbrev pub decreases-sections : goal.decreases-sections
decreases-sections l = length (sections_left l.walk)
