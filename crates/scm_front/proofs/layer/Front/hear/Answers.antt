use Rattle.std.proofs.Common.{List, [], sym, ap, ◌∙◌}
use Rattle.std.proofs.lemmas.Result.{IfErr-weaker}
use Rattle.scm_front.specs.declared.actions.Action.TheVariants.{Ignore}
use Rattle.scm_front.specs.declared.actions.Mode.{Mode}
use Rattle.scm_front.specs.declared.actions.OwnKey.{OwnKey}
use Rattle.scm_front.specs.declared.layer.FrontTurn.TheVariants.{Waiting}
use Rattle.scm_front.specs.Actions.{action_of}
use Rattle.scm_front.specs.Fronts.{ignores, key_click_failed, key_drag_failed, key_failed, key_refused, mode_of}
use Rattle.scm_front.proofs.DoLemmas.{as-heard}
use Rattle.scm_front.proofs.layer.Front.hear.Goals as goal

pub returns-in-Pass-clause-err : goal.returns-in-Pass-clause-err
returns-in-Pass-clause-err c =
    let by_mode = ap (λ (m : Mode). action_of m c.as_slice.result.now c.args.event) c.mode.ensures in
    let by_keys = ap (λ (keys : List OwnKey). action_of (mode_of c.args.self) keys c.args.event) c.as_slice.ensures in
    let is = sym (c.in-Pass.ensures ∙ by_mode ∙ by_keys) in
    IfErr-weaker c.handle.result _ _ (λ error fails. key_failed c.in-Pass.event is fails) c.handle.ensures.err

pub returns-in-Edit-clause-err : goal.returns-in-Edit-clause-err
returns-in-Edit-clause-err c = IfErr-weaker c.edit.result _ _ (λ error e. key_refused e) c.edit.ensures.err

pub returns-in-Seek-clause-err : goal.returns-in-Seek-clause-err
returns-in-Seek-clause-err c = IfErr-weaker c.seek.result _ _ (λ error e. key_refused e) c.seek.ensures.err

pub returns-in-Again-clause-err : goal.returns-in-Again-clause-err
returns-in-Again-clause-err c = IfErr-weaker c.search.result _ _ (λ error e. key_refused e) c.search.ensures.err

pub returns-in-Go-clause-err : goal.returns-in-Go-clause-err
returns-in-Go-clause-err c = IfErr-weaker c.go.result _ _ (λ error e. key_refused e) c.go.ensures.err

pub returns-in-Click-clause-err : goal.returns-in-Click-clause-err
returns-in-Click-clause-err c =
    let by_mode = ap (λ (m : Mode). action_of m c.as_slice.result.now c.args.event) c.mode.ensures in
    let by_keys = ap (λ (keys : List OwnKey). action_of (mode_of c.args.self) keys c.args.event) c.as_slice.ensures in
    let is = sym (c.in-Click.ensures ∙ by_mode ∙ by_keys) in
    IfErr-weaker c.click.result _ _ (λ error fails. key_click_failed c.in-Click.row c.in-Click.column is fails) c.click.ensures.err

pub returns-in-Drag-clause-err : goal.returns-in-Drag-clause-err
returns-in-Drag-clause-err c =
    let by_mode = ap (λ (m : Mode). action_of m c.as_slice.result.now c.args.event) c.mode.ensures in
    let by_keys = ap (λ (keys : List OwnKey). action_of (mode_of c.args.self) keys c.args.event) c.as_slice.ensures in
    let is = sym (c.in-Drag.ensures ∙ by_mode ∙ by_keys) in
    IfErr-weaker c.drag.result _ _ (λ error fails. key_drag_failed c.in-Drag.row c.in-Drag.column is fails) c.drag.ensures.err

pub returns-in-Mark-clause-err : goal.returns-in-Mark-clause-err
returns-in-Mark-clause-err c = IfErr-weaker c.mark.result _ _ (λ error e. key_refused e) c.mark.ensures.err

pub returns-in-Undo-clause-err : goal.returns-in-Undo-clause-err
returns-in-Undo-clause-err c = IfErr-weaker c.restore.result _ _ (λ error e. key_refused e) c.restore.ensures.err

pub returns-in-Redo-clause-err : goal.returns-in-Redo-clause-err
returns-in-Redo-clause-err c = IfErr-weaker c.restore-in-Redo.result _ _ (λ error e. key_refused e) c.restore-in-Redo.ensures.err

pub returns-in-Ignore-clause-ok : goal.returns-in-Ignore-clause-ok
returns-in-Ignore-clause-ok c =
    let by_mode = ap (λ (m : Mode). action_of m c.as_slice.result.now c.args.event) c.mode.ensures in
    let by_keys = ap (λ (keys : List OwnKey). action_of (mode_of c.args.self) keys c.args.event) c.as_slice.ensures in
    ([], as-heard c.args.self c.args.event Ignore [] (Waiting c.args.self) (c.in-Ignore.ensures ∙ by_mode ∙ by_keys) ignores)
