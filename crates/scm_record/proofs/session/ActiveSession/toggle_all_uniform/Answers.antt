use Rattle.std.proofs.Common.{◌∙◌, ap, refl, subst, sym}
use Rattle.scm_types.specs.declared.state.RecordState.{RecordState}
use Rattle.scm_selection.specs.Toggle.{with_all_set}
use Rattle.scm_view_state.specs.LineKeys.{with_lines}
use Rattle.scm_record.specs.Session.{Session}
use Rattle.scm_record.specs.SessionView.{HasLayout, session_of}
use Rattle.scm_record.proofs.KeptLineLemmas.{marked-layout, marked-session, set-lines}
use Rattle.scm_record.proofs.session.ActiveSession.toggle_all_uniform.Goals as goal

pub invariant_of-self : goal.invariant_of-self
invariant_of-self c =
    let v = c.self-inside.inside.0.0 in
    marked-layout _ _ (subst HasLayout (sym c.self-inside.view_is) c.self.invariant)
    (ap (λ (state : RecordState). with_lines v.has_all_lines state.files v.expanded) c.set_all.ensures.state ∙ set-lines v.has_all_lines v.expanded v.state.files)
    c.set_all.ensures.layout c.set_all.ensures.rows c.set_all.ensures.size refl

pub returns-then-not-self : goal.returns-then-not-self
returns-then-not-self c =
    let v = c.self-inside.inside.0.0 in
    let state = c.set_all.new.state in
    marked-session (ap session_of c.self-inside.view_is ∙ c.self.view_is) (λ (s : Session). with_all_set) state (with_lines v.has_all_lines state.files v.expanded)
    c.if-not-self.true c.set_all.ensures.state
    (ap (λ (x : RecordState). with_lines v.has_all_lines x.files v.expanded) c.set_all.ensures.state ∙ set-lines v.has_all_lines v.expanded v.state.files)
