use Rattle.std.proofs.Common.{◌≡◌, ℕ, ◌∙◌, length, sym, ap, subst}
use Rattle.scm_view.specs.ViewState.{ViewState}
use Rattle.scm_terminal.specs.StyledCell.{row_of_styles}
use Rattle.scm_record.specs.Session.{Session}
use Rattle.scm_record.specs.Frames.{IsSceneOf, scene_of}
use Rattle.scm_record.specs.Live.{Live}
use Rattle.scm_record.specs.Painted.{style_in}
use Rattle.scm_record.proofs.live.painted.LiveSessionStyles.row_styles.Goals as goal

pub returns : goal.returns
returns c =
    let seen = scene_of c.self.inside.kind c.self.inside.session.value in
    let wide = length c.args.styles.now in
    let value : c.view_state.result.now ≡ c.self.inside.session.value.shown = c.view_state.ensures.value ∙ ap (λ (l : Live). l.session.shown) (sym c.self.view_is) in
    rw (sym c.self.view_is) (
    c.set_row_styles.ensures seen (subst (IsSceneOf seen) (sym c.deref-2.ensures) c.self.invariant.shown)
    ∙ ap (λ (n : ℕ). row_of_styles (style_in seen c.view_state.result.now n) c.args.row wide) (c.scroll-scroll.ensures ∙ ap (λ (s : Session). s.scroll) c.deref.ensures)
    ∙ ap (λ (v : ViewState). row_of_styles (style_in seen v c.self.inside.session.value.scroll) c.args.row wide) value)
