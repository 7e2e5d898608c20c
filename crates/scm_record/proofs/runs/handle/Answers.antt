use Rattle.std.proofs.Common.{◌∙◌, refl}
use Rattle.std.proofs.lemmas.Result.{err_from_is_err_and}
use Rattle.scm_errors.specs.Fault.{Cancelled}
use Rattle.scm_record.specs.declared.session.Flow.TheVariants as flows
use Rattle.scm_record.specs.FrameQueries.{shot_of}
use Rattle.scm_record.specs.Run.{setting, world_in, after_edit, after_screenshot, step_in}
use Rattle.scm_record.specs.RunContracts.{faulty}
use Rattle.scm_record.proofs.RunLemmas.{refuses-as, step-of}
use Rattle.scm_record.proofs.runs.handle.Goals as goal

pub returns-in-GoOn-clause-ok : goal.returns-in-GoOn-clause-ok
returns-in-GoOn-clause-ok g c =
    let it = (goal.RecordInput-dyn g c.args.input.now) in
    let a = setting (it.kind c.args.input.now.1) (it.reads c.args.input.now.1) (it.edits c.args.input.now.1) c.args.screens.now in
    let s = c.args.session.now in
    let t = c.change.new.self in
    λ scene frames h. step-of scene a s t frames c.args.event c.in_ok-change.field-0 flows.GoOn (c.in_ok-change.ensures.ok scene h) c.in-GoOn.is

pub returns-in-Accept-clause-ok : goal.returns-in-Accept-clause-ok
returns-in-Accept-clause-ok g c =
    let it = (goal.RecordInput-dyn g c.args.input.now) in
    let a = setting (it.kind c.args.input.now.1) (it.reads c.args.input.now.1) (it.edits c.args.input.now.1) c.args.screens.now in
    let s = c.args.session.now in
    let t = c.change.new.self in
    λ scene frames h. step-of scene a s t frames c.args.event c.in_ok-change.field-0 flows.Accept (c.in_ok-change.ensures.ok scene h) c.in-Accept.is

pub returns-in_ok-edit-in-Edit-clause-ok : goal.returns-in_ok-edit-in-Edit-clause-ok
returns-in_ok-edit-in-Edit-clause-ok g c =
    let it = (goal.RecordInput-dyn g c.args.input.now) in
    let a = setting (it.kind c.args.input.now.1) (it.reads c.args.input.now.1) (it.edits c.args.input.now.1) c.args.screens.now in
    let s = c.args.session.now in
    let t = c.change.new.self in
    λ scene frames h.
    step-of scene a s t frames c.args.event c.in_ok-change.field-0 (flows.Edit c.in-Edit.commit) (c.in_ok-change.ensures.ok scene h) c.in-Edit.is
    ∙ c.in_ok-edit-in-Edit.ensures.ok c.args.screens.now frames

pub returns-in_ok-shoot-in-Shoot-clause-ok : goal.returns-in_ok-shoot-in-Shoot-clause-ok
returns-in_ok-shoot-in-Shoot-clause-ok g c =
    let it = (goal.RecordInput-dyn g c.args.input.now) in
    let a = setting (it.kind c.args.input.now.1) (it.reads c.args.input.now.1) (it.edits c.args.input.now.1) c.args.screens.now in
    let s = c.args.session.now in
    let t = c.change.new.self in
    λ scene frames h.
    step-of scene a s t frames c.args.event c.in_ok-change.field-0 (flows.Shoot c.in-Shoot.place) (c.in_ok-change.ensures.ok scene h) c.in-Shoot.is
    ∙ c.in_ok-shoot-in-Shoot.ensures.ok scene (world_in a t frames) h refl

pub returns-in-Cancel-clause-err : goal.returns-in-Cancel-clause-err
returns-in-Cancel-clause-err g c =
    let it = (goal.RecordInput-dyn g c.args.input.now) in
    let a = setting (it.kind c.args.input.now.1) (it.reads c.args.input.now.1) (it.edits c.args.input.now.1) c.args.screens.now in
    let s = c.args.session.now in
    let t = c.change.new.self in
    λ scene frames h. faulty Cancelled (step-of scene a s t frames c.args.event c.in_ok-change.field-0 flows.Cancel (c.in_ok-change.ensures.ok scene h) c.in-Cancel.is) refl

pub returns-in_err-edit-in-Edit-clause-err : goal.returns-in_err-edit-in-Edit-clause-err
returns-in_err-edit-in-Edit-clause-err g c =
    let p = err_from_is_err_and c.from_residual-in_err-edit-in-Edit.result c.from_residual-in_err-edit-in-Edit.ensures.1 in
    let it = (goal.RecordInput-dyn g c.args.input.now) in
    let a = setting (it.kind c.args.input.now.1) (it.reads c.args.input.now.1) (it.edits c.args.input.now.1) c.args.screens.now in
    let s = c.args.session.now in
    let t = c.change.new.self in
    rw (p.1, p.2)
    (λ scene frames h.
    refuses-as c.in_err-edit-in-Edit.field-0.0 (world_in a t frames) (world_in a s frames) _ (after_edit (world_in a t frames) c.in-Edit.commit a.edits) (step_in scene (world_in a s frames) c.args.event) (record { reads = refl; edits = refl; texts = refl; frames = refl })
    (step-of scene a s t frames c.args.event c.in_ok-change.field-0 (flows.Edit c.in-Edit.commit) (c.in_ok-change.ensures.ok scene h) c.in-Edit.is)
    (c.in_err-edit-in-Edit.ensures.err c.args.screens.now frames))

pub returns-in_err-shoot-in-Shoot-clause-err : goal.returns-in_err-shoot-in-Shoot-clause-err
returns-in_err-shoot-in-Shoot-clause-err g c =
    let p = err_from_is_err_and c.from_residual-in_err-shoot-in-Shoot.result c.from_residual-in_err-shoot-in-Shoot.ensures.1 in
    let it = (goal.RecordInput-dyn g c.args.input.now) in
    let a = setting (it.kind c.args.input.now.1) (it.reads c.args.input.now.1) (it.edits c.args.input.now.1) c.args.screens.now in
    let s = c.args.session.now in
    let t = c.change.new.self in
    rw (p.1, p.2, c.in_err-shoot-in-Shoot.ensures.unchanged)
    (λ scene frames h.
    refuses-as c.in_err-shoot-in-Shoot.field-0.0 (world_in a t frames) (world_in a s frames) (world_in a t frames) (after_screenshot (world_in a t frames) c.in-Shoot.place (shot_of scene t.cleared)) (step_in scene (world_in a s frames) c.args.event) (record { reads = refl; edits = refl; texts = refl; frames = refl })
    (step-of scene a s t frames c.args.event c.in_ok-change.field-0 (flows.Shoot c.in-Shoot.place) (c.in_ok-change.ensures.ok scene h) c.in-Shoot.is)
    (c.in_err-shoot-in-Shoot.ensures.err scene (world_in a t frames) refl))
