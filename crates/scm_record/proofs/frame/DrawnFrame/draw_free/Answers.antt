use Rattle.std.proofs.Common.{◌∙◌, ap, length, subst}
use Rattle.scm_view.specs.Frame.{Frame}
use Rattle.scm_record.specs.Frames.{IsMapOf}
use Rattle.scm_record.proofs.FrameLemmas.{view-is}
use Rattle.scm_record.proofs.frame.DrawnFrame.draw_free.Goals as goal

pub returns-clause-rows : goal.returns-clause-rows
returns-clause-rows c =
    let w = c.args.self.now.grid.width in
    let h = length c.args.self.now.grid.rows in
    let same = view-is c.apps_are_drawn_alike.ensures w h c.args.scroll c.in_ok-view.view c.args.view_state.now c.in_ok-view.ensures.ok in
    c.in_ok-boxes.ensures.rows ∙ ap (λ (f : Frame). f.rows) same

pub returns-clause-places : goal.returns-clause-places
returns-clause-places c =
    let w = c.args.self.now.grid.width in
    let h = length c.args.self.now.grid.rows in
    let same = view-is c.apps_are_drawn_alike.ensures w h c.args.scroll c.in_ok-view.view c.args.view_state.now c.in_ok-view.ensures.ok in
    record {
      map = rw c.in_ok-places.ensures.boxes (subst (λ (f : Frame). IsMapOf w f c.in_ok-boxes.boxes) same c.in_ok-boxes.ensures.ok);
      shown = c.in_ok-places.ensures.shown;
    }
