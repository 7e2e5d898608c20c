use Rattle.std.proofs.Common.{◌≡◌, ◌∙◌, ◌≤◌, false, List, ap, subst, sym}
use Rattle.std.specs.Prelude.{OnErr, OnOk}
use Rattle.std.specs.declared.result.Result.{Result}
use Rattle.std.specs.declared.result.Result.TheVariants.{Ok, Err}
use Rattle.std.proofs.lemmas.Result.{IfOk-weaker}
use Rattle.scm_types.specs.Limits.{max_items, state_size}
use Rattle.scm_layout.specs.Layouts.{layout_of}
use Rattle.scm_layout.proofs.FoldLemmas.{other-flipped}
use Rattle.scm_layout_index.proofs.FrameRowLemmas.{noted-fits}
use Rattle.scm_types.specs.declared.keys.SelectionKey.{SelectionKey}
use Rattle.scm_selection.specs.KeySet.{has_key, is_key, with_key_flipped}
use Rattle.scm_view.specs.ViewState.{ViewState}
use Rattle.scm_view_state.specs.LineKeys.{with_lines}
use Rattle.scm_view_state.proofs.LineSetLemmas.{flipped-with, layout-with}
use Rattle.scm_record.specs.Session.{Session}
use Rattle.scm_record.proofs.KeptLineLemmas.{expanded-session}
use Rattle.scm_record.proofs.session.ActiveSession.flip.Goals as goal

-- the other keys of a set after a flip, or after one that failed
flipped-others : {T E : Type 0} (r : Result T E) (old new : List SelectionKey) (key : SelectionKey) → OnOk r (new ≡ with_key_flipped old key) → OnErr r (new ≡ old)
    → (x : SelectionKey) → is_key x key ≡ false → has_key new x ≡ has_key old x
flipped-others (Ok t) old new key ok err x other = ap (λ (ks : List SelectionKey). has_key ks x) ok ∙ other-flipped old key x other
flipped-others (Err e) old new key ok err x other = ap (λ (ks : List SelectionKey). has_key ks x) err

pub flip-requires-clause-layout : goal.flip-requires-clause-layout
flip-requires-clause-layout c =
    let v = c.shown.inside in
    c.self.invariant.layout ∙ ap (λ (s : ViewState). layout_of s.state s.expanded) (sym c.shown.view_is) ∙ layout-with v.state.files v.expanded v.has_all_lines v.state

pub invariant_of-self : goal.invariant_of-self
invariant_of-self c =
    let v = c.shown.inside in
    let before = c.self.invariant.layout ∙ ap (λ (s : ViewState). layout_of s.state s.expanded) (sym c.shown.view_is) ∙ layout-with v.state.files v.expanded v.has_all_lines v.state in
    record {
      layout = c.flip.ensures.layout ∙ sym (layout-with v.state.files c.flip.new.expanded v.has_all_lines v.state);
      shared = rw c.note.ensures (noted-fits c.flip.new.expanded v.expanded c.args.key
          (λ x other. flipped-others c.flip.result v.expanded c.flip.new.expanded c.args.key c.flip.ensures.set c.flip.ensures.unchanged x other)
          c.self.inside.frame_rows v.state c.self.inside.layout c.flip.new.self before c.flip.ensures.layout c.self.invariant.shared);
      size = subst (λ (s : ViewState). state_size s.state ≤ max_items) (sym c.shown.view_is) c.self.invariant.size;
    }

pub returns-clause-ok : goal.returns-clause-ok
returns-clause-ok c =
    let v = c.shown.inside in
    let fs = v.state.files in
    let key = c.args.key in
    IfOk-weaker c.flip.result _ _
    (λ done e.
    expanded-session c.self.inside c.args.self.now _ _ _ c.self.view_is c.shown.view_is
    (ap (with_lines v.has_all_lines fs) e ∙ sym (flipped-with fs v.expanded v.has_all_lines key c.requires)
    ∙ ap (λ (s : ViewState). with_key_flipped s.expanded key) c.shown.view_is ∙ ap (λ (s : Session). with_key_flipped s.shown.expanded key) c.self.view_is))
    c.flip.ensures.set
