use Rattle.std.proofs.Common.{◌≡◌, ◌∙◌, ℕ, ◌+◌, ◌-◌, ap, sym, arith}
use Rattle.std.specs.Prelude.{min}
use Rattle.scm_types.proofs.LimitLemmas.{scroll_room}
use Rattle.scm_types.specs.Limits.{max_scroll}
use Rattle.scm_record.specs.Session.{Session, with_scroll}
use Rattle.scm_record.specs.FrameQueries.{limited_scroll}
use Rattle.scm_record.proofs.session.ActiveSession.scroll_down.Goals as goal

-- a row past the greatest number is held where any row past the greatest scroll is
capped : (n e : ℕ) → min n (min max_scroll e) ≡ min (min n 18446744073709551615) (min max_scroll e)
capped n e = omega (arith, scroll_room)

pub returns : goal.returns
returns c scene shown =
    let s = c.args.self.now in
    let at : c.scroll_to.inside.scroll ≡ s.scroll = ap (λ (t : Session). t.scroll) c.scroll_to.view_is in
    let row : c.saturating_add.result ≡ min (s.scroll + c.args.rows) 18446744073709551615 =
    c.saturating_add.ensures ∙ ap (λ n. min (n + c.args.rows) 18446744073709551615) at in
    let same : limited_scroll scene (s.scroll + c.args.rows) ≡ limited_scroll scene c.saturating_add.result =
    capped (s.scroll + c.args.rows) (scene.frame.extent - 1) ∙ sym (ap (limited_scroll scene) row) in
    c.scroll_to-2.ensures scene shown ∙ ap (with_scroll s) (sym same)
