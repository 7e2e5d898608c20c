use Rattle.std.proofs.Common.{◌≡◌, subst, take, take_all, arith}
use Rattle.std.specs.List.{All}
use Rattle.scm_widgets.specs.declared.overlay_rects.OverlayRect.{OverlayRect}
use Rattle.scm_widgets.specs.OverlayRects.{is_at}
use Rattle.scm_layout_index.proofs.OwnerRunLemmas.{IsSteady, next-steady, one-owner}
use Rattle.scm_layout_index.proofs.overlays.overlay_end.Goals as goal

pub loop-placed-preserved : goal.loop-placed-preserved
loop-placed-preserved c =
    let run = c.placed_end-left.ensures in
    let before = c.loop-placed.invariant in
    record {
      past = run.past;
      most = let fewer = run.most in omega arith;
      same = next-steady (λ (r : OverlayRect). is_at r c.args.row) c.args.rects.now c.loop-placed.placed-index _ c.args.column c.loop-placed.left c.placed_end-left.result (omega arith) run.most before.same run.same;
    }

pub returns : goal.returns
returns c =
    let rects = c.args.rects.now in
    let held = c.loop-placed.invariant in
    let all : take c.loop-placed.placed-index rects ≡ rects = take_all c.loop-placed.placed-index rects (omega arith) in
    let every = subst (All (IsSteady (λ (r : OverlayRect). is_at r c.args.row) c.args.column c.loop-placed.left)) all held.same in
    record {
      past = held.past;
      most = held.most;
      same = λ x low high. one-owner rects c.args.row c.args.column c.loop-placed.left x every low high;
    }
