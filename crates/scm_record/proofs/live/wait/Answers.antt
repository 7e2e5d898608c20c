use Rattle.std.proofs.Common.{◌≡◌, ◌∙◌, ap, subst, sym}
use Rattle.scm_record.specs.declared.frame.DrawnFrame.{DrawnFrame}
use Rattle.scm_record.specs.Session.{Session, IsDrawable, after_frame}
use Rattle.scm_record.specs.Frames.{HasSize}
use Rattle.scm_record.specs.RunContracts.{IsCurrent}
use Rattle.scm_record.proofs.live.wait.Goals as goal

pub draw_anew-requires-clause-current : goal.draw_anew-requires-clause-current
draw_anew-requires-clause-current c = λ is_current.
    subst (λ (s : Session). IsCurrent s c.deref_mut-2.result.now) (sym c.deref_mut.ensures.value)
    (subst (λ (f : DrawnFrame). IsCurrent c.args.session.value f) (sym c.deref_mut-2.ensures.value) (c.requires.current is_current))

pub invariant_of-result : goal.invariant_of-result
invariant_of-result c =
    let t = c.args.session.value in
    let u = c.begin_frame.new.self in
    let same : u ≡ after_frame c.deref_mut.result.now = c.begin_frame.ensures ∙ ap after_frame (c.deref_mut-3.ensures.value ∙ c.draw_anew.ensures.unchanged) in
    let e : u ≡ after_frame t = same ∙ ap after_frame c.deref_mut.ensures.value in
    let drawable : IsDrawable (after_frame t) = record { accepted = c.requires.drawable.accepted; scroll = c.requires.drawable.scroll } in
    record {
      calm = record { drawable = subst IsDrawable (sym e) drawable; calm = ap (λ (s : Session). s.pending) e ∙ c.requires.calm };
      shown =
          c.in_ok-draw_anew.ensures.shown c.args.kind u (ap (λ (s : Session). s.shown) same) (ap (λ (s : Session). s.scroll) same)
          (subst (HasSize c.args.kind) (sym c.deref_mut-2.ensures.value) c.requires.sized);
    }
