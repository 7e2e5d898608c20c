use Rattle.std.proofs.Common.{sym}
use Rattle.scm_document.proofs.FilesLemmas.{room-in}
use Rattle.scm_document.proofs.no_files.no_files_place.Goals as goal

pub centered_rect-requires-clause-rect : goal.centered_rect-requires-clause-rect
centered_rect-requires-clause-rect c = rw (c.min.ensures, c.min-2.ensures) (room-in c.mask_rect-reach.result.width c.mask_rect-reach.result.height)

pub returns : goal.returns
returns c = rw (sym c.mask_rect-reach.ensures.value, sym c.min.ensures, sym c.min-2.ensures) c.centered_rect.ensures.value
