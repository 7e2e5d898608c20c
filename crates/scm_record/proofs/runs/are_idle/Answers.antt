use Rattle.std.proofs.Common.{◌≡◌, true, refl}
use Rattle.scm_input.specs.declared.events.Event.TheVariants.{None}
use Rattle.scm_record.specs.declared.runs.Next.TheVariants.{GoOn}
use Rattle.scm_record.specs.declared.session.Flow.TheVariants as flows
use Rattle.scm_record.specs.Frames.{scene_of}
use Rattle.scm_record.specs.Run.{here, world_in}
use Rattle.scm_record.proofs.RunLemmas.{reaches-next, reaches-end, step-of}
use Rattle.scm_record.proofs.runs.are_idle.Goals as goal

pub loop-event-init : goal.loop-event-init
loop-event-init c = λ a drawn frames h. here

pub loop-event-preserved : goal.loop-event-preserved
loop-event-preserved c = λ a drawn frames h.
    let s = c.args.session.now in
    let kept : c.is_kept_by.result ≡ true = cc in
    reaches-next _ drawn _ (world_in a s frames) c.args.events.now c.loop-event.event-index None GoOn GoOn c.loop-event-test.true (c.loop-event.invariant a drawn frames h)
    (step-of (scene_of a.kind drawn) a s s frames _ flows.GoOn flows.GoOn (c.is_kept_by.ensures kept (scene_of a.kind drawn) h) refl) refl

pub returns : goal.returns
returns c = λ _ a drawn frames h.
    reaches-end _ drawn _ c.args.events.now c.loop-event.event-index c.loop-event-test.false (c.loop-event.invariant a drawn frames h)
