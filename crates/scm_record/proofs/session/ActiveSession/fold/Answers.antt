use Rattle.std.proofs.Common.{◌∙◌, ◌≤◌, List, ap, subst, sym}
use Rattle.std.proofs.lemmas.Result.{IfOk-weaker}
use Rattle.scm_types.specs.Limits.{max_items, state_size}
use Rattle.scm_layout.specs.Layouts.{layout_of}
use Rattle.scm_layout.proofs.FoldLemmas.{other-removed}
use Rattle.scm_layout_index.proofs.FrameRowLemmas.{noted-fits}
use Rattle.scm_types.specs.declared.keys.SelectionKey.{SelectionKey}
use Rattle.scm_selection.specs.KeySet.{has_key, without_key}
use Rattle.scm_view.specs.ViewState.{ViewState}
use Rattle.scm_view_state.specs.LineKeys.{with_lines}
use Rattle.scm_view_state.proofs.LineSetLemmas.{layout-with, without-with}
use Rattle.scm_record.specs.Session.{Session, with_ensure}
use Rattle.scm_record.proofs.KeptLineLemmas.{expanded-session}
use Rattle.scm_record.proofs.session.ActiveSession.fold.Goals as goal

pub fold-requires-clause-layout : goal.fold-requires-clause-layout
fold-requires-clause-layout c =
    let v = c.shown.inside in
    c.self.invariant.layout ∙ ap (λ (s : ViewState). layout_of s.state s.expanded) (sym c.shown.view_is) ∙ layout-with v.state.files v.expanded v.has_all_lines v.state

pub invariant_of-self : goal.invariant_of-self
invariant_of-self c =
    let v = c.shown.inside in
    let before = c.self.invariant.layout ∙ ap (λ (s : ViewState). layout_of s.state s.expanded) (sym c.shown.view_is) ∙ layout-with v.state.files v.expanded v.has_all_lines v.state in
    record {
      layout = c.fold.ensures.layout ∙ sym (layout-with v.state.files c.fold.new.expanded v.has_all_lines v.state);
      shared = rw c.note.ensures (noted-fits c.fold.new.expanded v.expanded c.args.key (λ x other. ap (λ (ks : List SelectionKey). has_key ks x) c.fold.ensures.set ∙ other-removed v.expanded c.args.key x other)
          c.self.inside.frame_rows v.state c.self.inside.layout c.fold.new.self before c.fold.ensures.layout c.self.invariant.shared);
      size = subst (λ (s : ViewState). state_size s.state ≤ max_items) (sym c.shown.view_is) c.self.invariant.size;
    }

pub returns : goal.returns
returns c =
    let v = c.shown.inside in
    let fs = v.state.files in
    let key = c.args.key in
    IfOk-weaker c.ensure_selection_in_viewport.result _ _
    (λ done e.
    e
    ∙ ap with_ensure
    (expanded-session c.self.inside c.args.self.now _ _ _ c.self.view_is c.shown.view_is
    (ap (with_lines v.has_all_lines fs) c.fold.ensures.set ∙ sym (without-with fs v.expanded v.has_all_lines key c.requires)
    ∙ ap (λ (s : ViewState). without_key s.expanded key) c.shown.view_is ∙ ap (λ (s : Session). without_key s.shown.expanded key) c.self.view_is)))
    c.ensure_selection_in_viewport.ensures
