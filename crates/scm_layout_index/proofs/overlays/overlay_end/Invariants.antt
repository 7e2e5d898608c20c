use Rattle.std.proofs.Common.{◌<◌, ◌≤◌, take}
use Rattle.std.specs.List.{All}
use Rattle.scm_widgets.specs.declared.overlay_rects.OverlayRect.{OverlayRect}
use Rattle.scm_widgets.specs.OverlayRects.{is_at}
use Rattle.scm_layout_index.proofs.OwnerRunLemmas.{IsSteady}
use Rattle.scm_layout_index.proofs.overlays.overlay_end.Given as goal

abbrev pub invariant-loop-placed : goal.invariant-loop-placed
invariant-loop-placed l = record {
  past : l.column < l.left;
  most : l.left ≤ l.end;
  same : All (IsSteady (λ (r : OverlayRect). is_at r l.row) l.column l.left) (take l.placed-index l.rects);
}
