use Rattle.std.proofs.Common.{◌<◌, ◌≤◌, take}
use Rattle.std.specs.List.{All}
use Rattle.scm_widgets.specs.declared.overlay_rects.OverlayRect.{OverlayRect}
use Rattle.scm_widgets.specs.Layers.{is_within}
use Rattle.scm_layout_index.proofs.OwnerRunLemmas.{IsSteady}
use Rattle.scm_layout_index.proofs.overlays.overlaid_end.Given as goal

abbrev pub invariant-loop-placed : goal.invariant-loop-placed
invariant-loop-placed l = record {
  past : l.row < l.left;
  most : l.left ≤ l.end;
  same : All (IsSteady (λ (r : OverlayRect). is_within r.rect.y r.rect.height) l.row l.left) (take l.placed-index l.rects);
}
