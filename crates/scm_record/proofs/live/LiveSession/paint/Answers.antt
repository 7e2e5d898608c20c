use Rattle.std.proofs.Common.{◌≡◌, ℕ, ◌≤◌, List, length, sym, ap, ◌∙◌, subst}
use Rattle.std.specs.Prelude.{IfOk, OnOk, string_bytes}
use Rattle.scm_terminal.specs.StyledCell.{StyledCell}
use Rattle.scm_terminal.specs.Promise.{Paints}
use Rattle.scm_types.specs.Limits.{max_scroll}
use Rattle.scm_record.specs.Frames.{IsSceneOf, columns_of, rows_of, scene_of}
use Rattle.scm_record.specs.Live.{Live}
use Rattle.scm_record.specs.Painted.{picture_of, screen_of, style_at}
use Rattle.scm_record.proofs.PaintedLemmas.{inline-picture, picture-of-grid}
use Rattle.scm_record.proofs.live.LiveSession.paint.Goals as goal

pub returns-clause-ok : goal.returns-clause-ok
returns-clause-ok c =
    let l = c.args.self.now in
    let seen = scene_of c.self.inside.kind c.self.inside.session.value in
    let shown = subst (IsSceneOf seen) (sym c.deref.ensures) c.self.invariant.shown in
    let width : c.grid.result.now.width ≡ columns_of l.kind = rw (sym c.self.view_is) (c.grid.ensures.width seen shown) in
    let rows : c.grid.result.now.rows ≡ (screen_of l).rows = rw (sym c.self.view_is) (c.grid.ensures.rows seen shown) in
    let is = picture-of-grid (style_at l) c.grid.result.now (columns_of l.kind) (screen_of l).rows width rows in
    subst (λ (w : ℕ). IfOk c.paint.result (λ text. Paints w c.args.painter.now (picture_of l) (string_bytes text))) width
    (subst (λ (p : List (List StyledCell)). IfOk c.paint.result (λ text. Paints c.grid.result.now.width c.args.painter.now p (string_bytes text))) is c.paint.ensures.ok)

pub returns-clause-painted : goal.returns-clause-painted
returns-clause-painted c =
    let l = c.args.self.now in
    let seen = scene_of c.self.inside.kind c.self.inside.session.value in
    let shown = subst (IsSceneOf seen) (sym c.deref.ensures) c.self.invariant.shown in
    let width : c.grid.result.now.width ≡ columns_of l.kind = rw (sym c.self.view_is) (c.grid.ensures.width seen shown) in
    let rows : c.grid.result.now.rows ≡ (screen_of l).rows = rw (sym c.self.view_is) (c.grid.ensures.rows seen shown) in
    let is = picture-of-grid (style_at l) c.grid.result.now (columns_of l.kind) (screen_of l).rows width rows in
    subst (λ (p : List (List StyledCell)). OnOk c.paint.result (c.paint.new.self ≡ p)) is c.paint.ensures.painted

pub returns-clause-window : goal.returns-clause-window
returns-clause-window c = λ inline.
    let l = c.args.self.now in
    let shown = c.self.invariant.shown in
    let high : length (screen_of l).rows ≡ rows_of l.kind = rw (sym c.self.view_is) (sym (ap length shown.rows) ∙ shown.height) in
    let low : l.session.scroll ≤ max_scroll = subst (λ (x : Live). x.session.scroll ≤ max_scroll) c.self.view_is c.self.invariant.calm.drawable.scroll in
    inline-picture l high low inline
