use Rattle.std.proofs.Common.{◌+◌, ap, ◌∙◌, refl}
use Rattle.std.proofs.lemmas.Result.{err_from_is_err_and}
use Rattle.scm_record.specs.Frames.{Scene, IsSceneOf}
use Rattle.scm_input.specs.Store.{Store}
use Rattle.scm_record.specs.Run.{setting}
use Rattle.scm_record.proofs.RunLemmas.{undrawn-turn, drawn-turn, no_batch-stops, turn-goes, turn-ceases}
use Rattle.scm_record.proofs.QuietLemmas.{quiet-counted}
use Rattle.scm_record.proofs.CurrentLemmas.{shown-current, current-still}
use Rattle.scm_record.specs.declared.runs.Next.TheVariants.{GoOn}
use Rattle.scm_record.proofs.runs.turn.Goals as goal

pub returns-then-is_quiet-clause-ok : goal.returns-then-is_quiet-clause-ok
returns-then-is_quiet-clause-ok g c =
    let before = (goal.RecordInput-dyn g c.args.input.now) in
    let a = setting (before.kind c.args.input.now.1) (before.reads c.args.input.now.1) (before.edits c.args.input.now.1) c.args.screens.now in
    λ frames.
    quiet-counted a c.args.session.now c.turn_unseen.new.session c.turn_unseen.new.store frames (c.is_quiet.ensures.0 c.if-is_quiet.true).pending (c.turn_unseen.ensures.shown a.kind c.requires.sized) c.turn_unseen.ensures.counted

pub returns-in_err-draw-clause-err : goal.returns-in_err-draw-clause-err
returns-in_err-draw-clause-err g c =
    let p = err_from_is_err_and c.from_residual.result c.from_residual.ensures.1 in
    let before = (goal.RecordInput-dyn g c.args.input.now) in
    let a = setting (before.kind c.args.input.now.1) (before.reads c.args.input.now.1) (before.edits c.args.input.now.1) c.args.screens.now in
    rw (p.1, p.2)
    (undrawn-turn c.in_err-draw.field-0.0 a c.args.session.now c.draw.new.session c.draw.new.screens c.in_err-draw.ensures.err c.in_err-draw.ensures.unchanged)

pub returns-in_err-batch-clause-err : goal.returns-in_err-batch-clause-err
returns-in_err-batch-clause-err g c =
    let p = err_from_is_err_and c.from_residual-in_err-batch.result c.from_residual-in_err-batch.ensures.1 in
    let before = (goal.RecordInput-dyn g c.args.input.now) in
    let a = setting (before.kind c.args.input.now.1) (before.reads c.args.input.now.1) (before.edits c.args.input.now.1) c.args.screens.now in
    let read = (goal.RecordInput-dyn g (c.args.input.now.0, c.next_batch.new.input)) in
    let kind = read.kind c.next_batch.new.input in
    let reads = read.reads c.next_batch.new.input in
    let edits = read.edits c.next_batch.new.input in
    let store = c.draw.new.screens in
    let s = c.args.session.now in
    rw (p.1, p.2)
    (drawn-turn c.in_err-batch.field-0.0 s c.next_batch.new.session a (setting kind reads edits store) store c.in_ok-draw.ensures.counted refl
    (λ frames. no_batch-stops a s c.draw.new.session frames store c.in_ok-draw.ensures.drawn c.in_ok-draw.ensures.counted c.in_err-batch.field-0.0 kind reads edits c.next_batch.new.session c.in_err-batch.ensures.kind (c.in_err-batch.ensures.err c.args.screens.now (frames + 1))))

pub returns-then-are_idle-clause-ok : goal.returns-then-are_idle-clause-ok
returns-then-are_idle-clause-ok g c =
    let before = (goal.RecordInput-dyn g c.args.input.now) in
    let a = setting (before.kind c.args.input.now.1) (before.reads c.args.input.now.1) (before.edits c.args.input.now.1) c.args.screens.now in
    let read = (goal.RecordInput-dyn g (c.args.input.now.0, c.next_batch.new.input)) in
    let kind = read.kind c.next_batch.new.input in
    let reads = read.reads c.next_batch.new.input in
    let edits = read.edits c.next_batch.new.input in
    let store = c.draw.new.screens in
    let s = c.args.session.now in
    λ frames.
    turn-goes a s c.draw.new.session c.next_batch.new.session frames kind reads edits store c.in_ok-batch.batch.items c.in_ok-draw.ensures.drawn c.in_ok-draw.ensures.counted c.in_ok-batch.ensures.kind (c.in_ok-batch.ensures.ok c.args.screens.now (frames + 1))
    (λ (scene : Scene). IsSceneOf scene c.draw.new.frame) c.deref.result.now GoOn c.next_batch.new.session (setting kind reads edits store) c.deref.ensures.value (c.in_ok-draw.ensures.shown _ c.requires.sized) (c.are_idle.ensures c.if-are_idle.true (setting kind reads edits store))

pub returns-then-are_idle-clause-current : goal.returns-then-are_idle-clause-current
returns-then-are_idle-clause-current g c = λ _.
    let before = (goal.RecordInput-dyn g c.args.input.now) in
    let kind = before.kind c.args.input.now.1 in
    current-still c.draw.new.frame c.draw.new.session c.next_batch.new.session c.in_ok-batch.ensures.kept c.in_ok-batch.ensures.scroll
    (shown-current c.draw.new.frame kind c.draw.new.session (c.in_ok-draw.ensures.size kind c.requires.sized) (c.in_ok-draw.ensures.shown kind c.requires.sized))

pub returns-clause-ok : goal.returns-clause-ok
returns-clause-ok g c =
    let before = (goal.RecordInput-dyn g c.args.input.now) in
    let a = setting (before.kind c.args.input.now.1) (before.reads c.args.input.now.1) (before.edits c.args.input.now.1) c.args.screens.now in
    let read = (goal.RecordInput-dyn g (c.args.input.now.0, c.next_batch.new.input)) in
    let kind = read.kind c.next_batch.new.input in
    let reads = read.reads c.next_batch.new.input in
    let edits = read.edits c.next_batch.new.input in
    let store = c.draw.new.screens in
    let s = c.args.session.now in
    let after = (goal.RecordInput-dyn g (c.args.input.now.0, c.handle_all.new.input)) in
    let b = setting (after.kind c.handle_all.new.input) (after.reads c.handle_all.new.input) (after.edits c.handle_all.new.input) c.handle_all.new.screens in
    λ frames.
    turn-goes a s c.draw.new.session c.next_batch.new.session frames kind reads edits store c.in_ok-batch.batch.items c.in_ok-draw.ensures.drawn c.in_ok-draw.ensures.counted c.in_ok-batch.ensures.kind (c.in_ok-batch.ensures.ok c.args.screens.now (frames + 1))
    (λ (scene : Scene). IsSceneOf scene c.draw.new.frame) c.deref-2.result.now c.in_ok-next.next c.handle_all.new.session b c.deref-2.ensures.value (c.in_ok-draw.ensures.shown _ c.requires.sized) c.in_ok-next.ensures.ok

pub returns-clause-counted : goal.returns-clause-counted
returns-clause-counted g c = c.in_ok-next.ensures.counted ∙ ap (λ (y : Store). y.frames) c.in_ok-draw.ensures.counted

pub returns-in_err-next-clause-err : goal.returns-in_err-next-clause-err
returns-in_err-next-clause-err g c =
    let p = err_from_is_err_and c.from_residual-in_err-next.result c.from_residual-in_err-next.ensures.1 in
    let before = (goal.RecordInput-dyn g c.args.input.now) in
    let a = setting (before.kind c.args.input.now.1) (before.reads c.args.input.now.1) (before.edits c.args.input.now.1) c.args.screens.now in
    let read = (goal.RecordInput-dyn g (c.args.input.now.0, c.next_batch.new.input)) in
    let kind = read.kind c.next_batch.new.input in
    let reads = read.reads c.next_batch.new.input in
    let edits = read.edits c.next_batch.new.input in
    let store = c.draw.new.screens in
    let s = c.args.session.now in
    let after = (goal.RecordInput-dyn g (c.args.input.now.0, c.handle_all.new.input)) in
    let b = setting (after.kind c.handle_all.new.input) (after.reads c.handle_all.new.input) (after.edits c.handle_all.new.input) c.handle_all.new.screens in
    rw (p.1, p.2)
    (drawn-turn c.in_err-next.field-0.0 s c.handle_all.new.session a b store c.in_ok-draw.ensures.counted c.in_err-next.ensures.counted
    (λ frames.
    turn-ceases a s c.draw.new.session c.next_batch.new.session frames kind reads edits store c.in_ok-batch.batch.items c.in_ok-draw.ensures.drawn c.in_ok-draw.ensures.counted c.in_ok-batch.ensures.kind (c.in_ok-batch.ensures.ok c.args.screens.now (frames + 1))
    (λ (scene : Scene). IsSceneOf scene c.draw.new.frame) c.deref-2.result.now c.in_err-next.field-0.0 c.handle_all.new.session b c.deref-2.ensures.value (c.in_ok-draw.ensures.shown _ c.requires.sized) c.in_err-next.ensures.err))
