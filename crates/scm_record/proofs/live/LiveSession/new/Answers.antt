use Rattle.std.proofs.Common.{◌∙◌, ap, sym, subst}
use Rattle.scm_record.specs.Session.{Session, IsDrawable}
use Rattle.scm_record.specs.Frames.{HasSize}
use Rattle.scm_record.proofs.AcceptedLemmas.{start-drawable}
use Rattle.scm_record.proofs.live.LiveSession.new.Goals as goal

pub wait-requires-clause-drawable : goal.wait-requires-clause-drawable
wait-requires-clause-drawable c = subst IsDrawable (sym (c.in_ok-session.ensures.ok ∙ c.in_ok-new.ensures.ok)) (start-drawable c.args.state c.requires)

pub wait-requires-clause-calm : goal.wait-requires-clause-calm
wait-requires-clause-calm c = ap (λ (s : Session). s.pending) (c.in_ok-session.ensures.ok ∙ c.in_ok-new.ensures.ok)

pub wait-requires-clause-sized : goal.wait-requires-clause-sized
wait-requires-clause-sized c = subst (HasSize c.args.kind) (sym c.in_ok-frame.ensures.ok) c.in_ok-new-2.ensures.ok
