use Rattle.std.proofs.Common.{◌≡◌, subst, take, take_all, arith}
use Rattle.std.specs.List.{All}
use Rattle.scm_widgets.specs.declared.overlay_rects.OverlayRect.{OverlayRect}
use Rattle.scm_widgets.specs.Layers.{is_within}
use Rattle.scm_layout_index.proofs.LineRowLemmas.{one-cover}
use Rattle.scm_layout_index.proofs.OwnerRunLemmas.{IsSteady, next-steady}
use Rattle.scm_layout_index.proofs.overlays.overlaid_end.Goals as goal

pub loop-placed-preserved : goal.loop-placed-preserved
loop-placed-preserved c =
    let run = c.placed_rows_end-left.ensures in
    let before = c.loop-placed.invariant in
    record {
      past = run.past;
      most = let fewer = run.most in omega arith;
      same = next-steady (λ (r : OverlayRect). is_within r.rect.y r.rect.height) c.args.rects.now c.loop-placed.placed-index _ c.args.row c.loop-placed.left c.placed_rows_end-left.result (omega arith) run.most before.same run.same;
    }

pub returns : goal.returns
returns c =
    let rects = c.args.rects.now in
    let held = c.loop-placed.invariant in
    let all : take c.loop-placed.placed-index rects ≡ rects = take_all c.loop-placed.placed-index rects (omega arith) in
    let every = subst (All (IsSteady (λ (r : OverlayRect). is_within r.rect.y r.rect.height) c.args.row c.loop-placed.left)) all held.same in
    record {
      past = held.past;
      most = held.most;
      same = λ y low high. one-cover rects c.args.row c.loop-placed.left y every low high;
    }
