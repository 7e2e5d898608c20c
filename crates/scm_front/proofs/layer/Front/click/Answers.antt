use Rattle.std.proofs.Common.{◌≡◌, true, [], ◌∷◌, refl, sym, subst, ◌∙◌}
use Rattle.std.proofs.lemmas.Result.{IfErr-weaker, IfOk-weaker}
use Rattle.scm_input.specs.declared.events.Event.TheVariants as events
use Rattle.scm_record.specs.LiveCalls.{EventLeads, Press}
use Rattle.scm_front.specs.declared.actions.Action.TheVariants.{Pass}
use Rattle.scm_front.specs.declared.layer.FrontTurn.{FrontTurn}
use Rattle.scm_front.specs.declared.layer.FrontTurn.TheVariants.{Accepted, Editing, Waiting}
use Rattle.scm_front.specs.Clicking.{is_half}
use Rattle.scm_front.specs.Fronts.{Does, beneath_of, second_failed}
use Rattle.scm_front.proofs.DoLemmas.{clicked-once, clicked-twice, half-is}
use Rattle.scm_front.proofs.RememberLemmas.{selecting-keeps}
use Rattle.scm_front.proofs.layer.Front.click.Goals as goal

pub returns-then-is_half-clause-ok : goal.returns-then-is_half-clause-ok
returns-then-is_half-clause-ok c =
    let f = c.args.self in
    let row = c.args.row in
    let column = c.args.column in
    let next = c.in-Waiting.next in
    let event = events.Click row column in
    let does = subst (λ (t : FrontTurn). Does f (Pass event) (Press event ∷ []) t) c.in-Waiting.is c.in_ok-next.ensures.ok in
    let leads = subst (λ (t : FrontTurn). EventLeads f.beneath event (beneath_of t)) c.in-Waiting.is c.in_ok-next.ensures.leads in
    let named = half-is f.beneath next.beneath row column c.box_at-first.result c.selection_of.result c.merely_selects-is_selecting.result c.is_half.result
    c.box_at-first.ensures.value c.selection_of.ensures c.merely_selects-is_selecting.ensures c.is_half.ensures in
    let half : is_half f.beneath next.beneath row column ≡ true = sym named ∙ c.if-is_half.true in
    let same = selecting-keeps f.beneath next.beneath row column c.box_at-first.ensures.calm half leads in
    IfOk-weaker c.handle-then-is_half.result _ _ (λ turn second. clicked-twice f row column next turn (Press event ∷ []) (Press event ∷ []) does half same second)
    c.handle-then-is_half.ensures.ok

pub returns-then-is_half-clause-err : goal.returns-then-is_half-clause-err
returns-then-is_half-clause-err c =
    let f = c.args.self in
    let row = c.args.row in
    let column = c.args.column in
    let next = c.in-Waiting.next in
    let event = events.Click row column in
    let does = subst (λ (t : FrontTurn). Does f (Pass event) (Press event ∷ []) t) c.in-Waiting.is c.in_ok-next.ensures.ok in
    let named = half-is f.beneath next.beneath row column c.box_at-first.result c.selection_of.result c.merely_selects-is_selecting.result c.is_half.result
    c.box_at-first.ensures.value c.selection_of.ensures c.merely_selects-is_selecting.ensures c.is_half.ensures in
    IfErr-weaker c.handle-then-is_half.result _ _ (λ error fails. second_failed (Press event ∷ []) next does (sym named ∙ c.if-is_half.true) fails)
    c.handle-then-is_half.ensures.err

pub returns-else-is_half-clause-ok : goal.returns-else-is_half-clause-ok
returns-else-is_half-clause-ok c =
    let f = c.args.self in
    let row = c.args.row in
    let column = c.args.column in
    let next = c.in-Waiting.next in
    let event = events.Click row column in
    let does = subst (λ (t : FrontTurn). Does f (Pass event) (Press event ∷ []) t) c.in-Waiting.is c.in_ok-next.ensures.ok in
    let named = half-is f.beneath next.beneath row column c.box_at-first.result c.selection_of.result c.merely_selects-is_selecting.result c.is_half.result
    c.box_at-first.ensures.value c.selection_of.ensures c.merely_selects-is_selecting.ensures c.is_half.ensures in
    clicked-once f row column (Waiting next) (Press event ∷ []) does (sym named ∙ c.if-is_half.false)

pub returns-in-Editing-clause-ok : goal.returns-in-Editing-clause-ok
returns-in-Editing-clause-ok c =
    let event = events.Click c.args.row c.args.column in
    let does = subst (λ (t : FrontTurn). Does c.args.self (Pass event) (Press event ∷ []) t) c.in-Editing.is c.in_ok-next.ensures.ok in
    clicked-once c.args.self c.args.row c.args.column (Editing c.in-Editing.editing) (Press event ∷ []) does refl

pub returns-in-Accepted-clause-ok : goal.returns-in-Accepted-clause-ok
returns-in-Accepted-clause-ok c =
    let event = events.Click c.args.row c.args.column in
    let does = subst (λ (t : FrontTurn). Does c.args.self (Pass event) (Press event ∷ []) t) c.in-Accepted.is c.in_ok-next.ensures.ok in
    clicked-once c.args.self c.args.row c.args.column (Accepted c.in-Accepted.state) (Press event ∷ []) does refl
