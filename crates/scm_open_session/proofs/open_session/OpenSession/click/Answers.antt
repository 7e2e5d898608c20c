use Rattle.std.proofs.Common.{subst}
use Rattle.scm_input.specs.declared.events.Event.{Event}
use Rattle.scm_open_session.specs.Stages.{Presses}
use Rattle.scm_open_session.proofs.open_session.OpenSession.click.Goals as goal

pub returns-clause-clicked : goal.returns-clause-clicked
returns-clause-clicked c = λ done.
    subst (λ (e : Event). Presses e c.args.self.now.stage c.press.new.self.stage) c.click_at-event.ensures (c.press.ensures.pressed done)
