use Rattle.std.proofs.Common.{◌∙◌, ◌≤◌, ap, subst, sym}
use Rattle.std.proofs.lemmas.Result.{IfOk-weaker}
use Rattle.scm_types.specs.Limits.{max_items, state_size}
use Rattle.scm_layout.specs.Layouts.{layout_of}
use Rattle.scm_view.specs.ViewState.{ViewState}
use Rattle.scm_view_state.specs.LineKeys.{with_lines}
use Rattle.scm_view_state.proofs.LineSetLemmas.{layout-with}
use Rattle.scm_record.specs.Session.{Session, with_keys_above}
use Rattle.scm_record.proofs.KeptLineLemmas.{above-with, expanded-session}
use Rattle.scm_record.proofs.session.ActiveSession.expand_containers.Goals as goal

pub expand_above-requires-clause-layout : goal.expand_above-requires-clause-layout
expand_above-requires-clause-layout c =
    let v = c.shown.inside in
    c.self.invariant.layout ∙ ap (λ (s : ViewState). layout_of s.state s.expanded) (sym c.shown.view_is) ∙ layout-with v.state.files v.expanded v.has_all_lines v.state

pub invariant_of-self : goal.invariant_of-self
invariant_of-self c =
    let v = c.shown.inside in
    record {
      layout = c.expand_above.ensures.layout ∙ sym (layout-with v.state.files c.expand_above.new.expanded v.has_all_lines v.state);
      shared = c.expand_above.ensures.copy;
      size = subst (λ (s : ViewState). state_size s.state ≤ max_items) (sym c.shown.view_is) c.self.invariant.size;
    }

pub returns-clause-ok : goal.returns-clause-ok
returns-clause-ok c =
    let v = c.shown.inside in
    let fs = v.state.files in
    let key = c.args.key in
    IfOk-weaker c.expand_above.result _ _
    (λ done e.
    expanded-session c.self.inside c.args.self.now _ _ _ c.self.view_is c.shown.view_is
    (ap (with_lines v.has_all_lines fs) e ∙ sym (above-with v.has_all_lines fs v.expanded key)
    ∙ ap (λ (s : ViewState). with_keys_above s.expanded key) c.shown.view_is ∙ ap (λ (s : Session). with_keys_above s.shown.expanded key) c.self.view_is))
    c.expand_above.ensures.ok
