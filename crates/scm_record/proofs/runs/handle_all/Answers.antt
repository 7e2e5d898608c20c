use Rattle.std.proofs.Common.{sym, ◌∙◌, refl}
use Rattle.std.proofs.lemmas.Result.{err_from_is_err_and}
use Rattle.scm_input.specs.declared.events.Event.TheVariants.{None}
use Rattle.scm_record.specs.declared.runs.Next.TheVariants.{GoOn, Accept}
use Rattle.scm_record.specs.Frames.{IsSceneOf, Scene, scene_of}
use Rattle.scm_record.specs.Run.{here}
use Rattle.scm_record.proofs.RunLemmas.{reaches-next, reaches-end, refused-stops, shown-as}
use Rattle.scm_record.proofs.runs.handle_all.Goals as goal

pub loop-event-init : goal.loop-event-init
loop-event-init g c = (λ drawn frames h. here, refl, refl)

pub loop-event-preserved : goal.loop-event-preserved
loop-event-preserved g c =
    let kind = c.loop-event.invariant.2 in (
      λ drawn frames h.
          reaches-next _ drawn _ _ c.args.events.now c.loop-event.event-index None c.in_ok-handle.field-0 GoOn c.loop-event-test.true (c.loop-event.invariant.0 drawn frames h)
          (c.in_ok-handle.ensures.ok (scene_of _ drawn) frames (shown-as (λ (scene : Scene). IsSceneOf scene c.args.frame.now) _ _ drawn (sym kind) h)) c.in-GoOn.is,
      c.in_ok-handle.ensures.counted ∙ c.loop-event.invariant.1,
      c.in_ok-handle.ensures.kind ∙ kind,
    )

pub returns-in-Accept-clause-ok : goal.returns-in-Accept-clause-ok
returns-in-Accept-clause-ok g c = λ drawn frames h.
    reaches-next _ drawn _ _ c.args.events.now c.loop-event.event-index None c.in_ok-handle.field-0 Accept c.loop-event-test.true (c.loop-event.invariant.0 drawn frames h)
    (c.in_ok-handle.ensures.ok (scene_of _ drawn) frames (shown-as (λ (scene : Scene). IsSceneOf scene c.args.frame.now) _ _ drawn (sym c.loop-event.invariant.2) h)) c.in-Accept.is

pub returns-in_err-handle-clause-err : goal.returns-in_err-handle-clause-err
returns-in_err-handle-clause-err g c =
    let p = err_from_is_err_and c.from_residual.result c.from_residual.ensures.1 in
    rw (p.1, p.2)
    (λ drawn frames h.
    refused-stops c.in_err-handle.field-0.0 _ drawn _ _ c.args.events.now c.loop-event.event-index None c.loop-event-test.true (c.loop-event.invariant.0 drawn frames h)
    (c.in_err-handle.ensures.err (scene_of _ drawn) frames (shown-as (λ (scene : Scene). IsSceneOf scene c.args.frame.now) _ _ drawn (sym c.loop-event.invariant.2) h)))

pub returns-clause-ok : goal.returns-clause-ok
returns-clause-ok g c = λ drawn frames h.
    reaches-end _ drawn _ c.args.events.now c.loop-event.event-index c.loop-event-test.false (c.loop-event.invariant.0 drawn frames h)
