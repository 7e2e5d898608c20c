use Rattle.std.proofs.Common.{◌≡◌, drop}
use Rattle.scm_render.specs.Hits.{first_of_two}
use Rattle.scm_widgets.specs.OverlayRects.{overlay_owner}
use Rattle.scm_widgets.proofs.overlay_rects.overlay_owner.Given as goal

-- the rectangles that are left lie over what was found
abbrev pub invariant-loop-rect : goal.invariant-loop-rect
invariant-loop-rect l = first_of_two (overlay_owner (drop l.rect-index l.rects) l.row l.column) l.owner ≡ overlay_owner l.rects l.row l.column
