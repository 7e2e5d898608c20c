use Rattle.std.proofs.Common.{◌≡◌}
use Rattle.scm_render.specs.Bounds.{SightWithin}
use Rattle.scm_bench.proofs.ScreenLemmas.{screen}
use Rattle.scm_bench.proofs.draw.Given as goal

abbrev pub invariant-loop-row : goal.invariant-loop-row
invariant-loop-row l = record {
  near : SightWithin screen l.viewport.canvas.sight;
  width : l.viewport.canvas.sight.rect.width ≡ l.fn.grid.width;
}
