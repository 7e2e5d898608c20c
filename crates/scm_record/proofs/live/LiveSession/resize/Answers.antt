use Rattle.std.proofs.Common.{◌≡◌, ◌∙◌, sym, ap, subst}
use Rattle.scm_record.specs.Session.{Session, IsDrawable, after_frame}
use Rattle.scm_record.specs.LiveView.{IsWaiting}
use Rattle.scm_record.proofs.live.LiveSession.resize.Goals as goal

pub invariant_of-self : goal.invariant_of-self
invariant_of-self c =
    subst (λ (s : Session). IsWaiting c.self.inside.kind s c.self.inside.frame.value) (sym (c.draw_anew.ensures.unchanged ∙ c.deref_mut.ensures.value)) c.self.invariant

pub invariant_of-self-2 : goal.invariant_of-self-2
invariant_of-self-2 c =
    let t = c.self.inside.session.value in
    let u = c.begin_frame.new.self in
    let same : u ≡ after_frame c.deref_mut.result.now = c.begin_frame.ensures ∙ ap after_frame (c.deref_mut-2.ensures.value ∙ c.in_ok-draw_anew.ensures.unchanged) in
    let e : u ≡ after_frame t = same ∙ ap after_frame c.deref_mut.ensures.value in
    let calm = c.self.invariant.calm in
    let drawable : IsDrawable (after_frame t) = record { accepted = calm.drawable.accepted; scroll = calm.drawable.scroll } in
    record {
      calm = record { drawable = subst IsDrawable (sym e) drawable; calm = ap (λ (s : Session). s.pending) e ∙ calm.calm };
      shown =
          c.in_ok-draw_anew.ensures.shown c.args.kind u (ap (λ (s : Session). s.shown) same) (ap (λ (s : Session). s.scroll) same)
          c.in_ok-frame.ensures.ok;
    }
