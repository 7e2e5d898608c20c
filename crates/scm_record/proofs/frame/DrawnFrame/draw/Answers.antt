use Rattle.std.proofs.Common.{◌≡◌, ◌∙◌, ap, sym, subst, true, false, length}
use Rattle.scm_view.specs.ViewState.{ViewState}
use Rattle.scm_view.specs.Frame.{is_plain}
use Rattle.scm_record.proofs.FrameLemmas.{plain-shows, free-shows}
use Rattle.scm_record.proofs.frame.DrawnFrame.draw.Goals as goal
use Rattle.scm_record.proofs.frame.DrawnFrame.draw.Goals.{then-is_plain+in_ok-draw_plain, else-is_plain+in_ok-draw_free}

pub returns-clause-ok : goal.returns-clause-ok
returns-clause-ok c = λ kind s same scroll size.
    let w = c.args.self.now.grid.width in
    let h = length c.args.self.now.grid.rows in
    let menu = ap (λ (shown : ViewState). shown.open_menu) (c.view_state.view_is ∙ sym same) in
    elim c.if-is_plain.branch [
      | then-is_plain+in_ok-draw_plain b ↦
          let tested = rw (c.width-width.ensures.value, c.height-height.ensures.value) at (sym c.is_plain.ensures ∙ b.if-is_plain.true) in
          let plain = subst (λ (shown : ViewState). is_plain w h shown.view_mode ≡ true) c.view_state.view_is tested in
          let drawn = plain-shows kind s c.args.view_state.now c.args.scroll w h b.draw_plain.new.self.grid.rows b.draw_plain.new.self.places
          size.width size.height same scroll plain b.in_ok-draw_plain.ensures.rows b.in_ok-draw_plain.ensures.places in
          rw b.self-is (record {
            width = b.in_ok-draw_plain.ensures.width ∙ size.width;
            height = b.in_ok-draw_plain.ensures.height ∙ size.height;
            rows = drawn.0;
            places = drawn.1;
            open_menu = menu;
          })
      | else-is_plain+in_ok-draw_free b ↦
          let tested = rw (c.width-width.ensures.value, c.height-height.ensures.value) at (sym c.is_plain.ensures ∙ b.if-is_plain.false) in
          let free = subst (λ (shown : ViewState). is_plain w h shown.view_mode ≡ false) c.view_state.view_is tested in
          let drawn = free-shows kind s c.args.view_state.now c.args.scroll w h b.draw_free.new.self.grid.rows b.draw_free.new.self.places
          size.width size.height same scroll free b.in_ok-draw_free.ensures.rows b.in_ok-draw_free.ensures.places in
          rw b.self-is (record {
            width = b.in_ok-draw_free.ensures.width ∙ size.width;
            height = b.in_ok-draw_free.ensures.height ∙ size.height;
            rows = drawn.0;
            places = drawn.1;
            open_menu = menu;
          })
    ]

pub returns-clause-indexed : goal.returns-clause-indexed
returns-clause-indexed c =
    let w = c.args.self.now.grid.width in
    let h = length c.args.self.now.grid.rows in
    elim c.if-is_plain.branch [
      | then-is_plain+in_ok-draw_plain b ↦
          let tested = rw (c.width-width.ensures.value, c.height-height.ensures.value) at (sym c.is_plain.ensures ∙ b.if-is_plain.true) in
          let plain = subst (λ (shown : ViewState). is_plain w h shown.view_mode ≡ true) c.view_state.view_is tested in
          rw b.self-is (b.in_ok-draw_plain.ensures.indexed ∙ sym plain)
      | else-is_plain+in_ok-draw_free b ↦
          let tested = rw (c.width-width.ensures.value, c.height-height.ensures.value) at (sym c.is_plain.ensures ∙ b.if-is_plain.false) in
          let free = subst (λ (shown : ViewState). is_plain w h shown.view_mode ≡ false) c.view_state.view_is tested in
          rw b.self-is (b.in_ok-draw_free.ensures.indexed ∙ sym free)
    ]
