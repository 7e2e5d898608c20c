-- The window of one commit is its painted document, with the overlays over it.
use Rattle.std.proofs.Common.{ap, ◌∙◌}
use Rattle.scm_overlay.specs.Overlays.{overlays}
use Rattle.scm_strips.specs.Shows.{whole}
use Rattle.scm_view.specs.Window.{inline_document, rows_from}
use Rattle.scm_screen.specs.Beside.{window_beside}
use Rattle.scm_screen.specs.Laws.{WindowsArePainted}
use Rattle.scm_screen.proofs.EachLemmas.{window-painted}
use Rattle.scm_screen.proofs.InlineLemmas.{layers-are}

pub windows-painted : WindowsArePainted
unfolding window_beside
windows-painted w h s shown inline =
    ap (λ ls. rows_from w ls s h) (layers-are w h s shown inline)
    ∙ window-painted (whole w) w h s (inline_document shown) (overlays w h s shown.open_menu shown.quit_dialog shown.is_help_open)
