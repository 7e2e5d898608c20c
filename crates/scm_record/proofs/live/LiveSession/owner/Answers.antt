use Rattle.std.proofs.Common.{ℕ, ◌≤◌, Option, sym, ap, ◌∙◌, subst}
use Rattle.scm_widgets.specs.declared.ids.ComponentId.{ComponentId}
use Rattle.scm_record.specs.Clicks.{after_click}
use Rattle.scm_types.specs.Limits.{max_scroll}
use Rattle.scm_record.specs.Session.{Session}
use Rattle.scm_record.specs.Live.{Live}
use Rattle.scm_record.specs.Frames.{IsSceneOf, scene_of}
use Rattle.scm_record.specs.FrameQueries.{hit}
use Rattle.scm_record.proofs.LiveLemmas.{inline-owner}
use Rattle.scm_record.proofs.live.LiveSession.owner.Goals as goal

pub returns-clause-hit : goal.returns-clause-hit
returns-clause-hit c =
    let seen = scene_of c.self.inside.kind c.self.inside.session.value in
    rw (sym c.self.view_is) (
    c.hit.ensures seen (subst (IsSceneOf seen) (sym c.deref.ensures) c.self.invariant.shown)
    ∙ ap (λ (n : ℕ). hit seen n c.args.row c.args.column) (c.scroll.ensures ∙ ap (λ (s : Session). s.scroll) c.deref-2.ensures))

pub returns-clause-acts : goal.returns-clause-acts
returns-clause-acts c =
    let l = c.args.self.now in
    ap (λ (o : Option ComponentId). after_click l.session.shown.open_menu l.session o) (sym (returns-clause-hit c))

pub returns-clause-owner : goal.returns-clause-owner
returns-clause-owner c = λ inline is_row is_column.
    returns-clause-hit c
    ∙ inline-owner c.args.self.now.kind c.args.self.now.session c.args.row c.args.column inline
    (subst (λ (l : Live). l.session.scroll ≤ max_scroll) c.self.view_is c.self.invariant.calm.drawable.scroll) is_row is_column
