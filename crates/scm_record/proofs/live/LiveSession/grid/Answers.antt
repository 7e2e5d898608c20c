use Rattle.std.proofs.Common.{sym, subst, ◌∙◌}
use Rattle.scm_record.specs.Frames.{IsSceneOf, scene_of}
use Rattle.scm_record.proofs.LiveLemmas.{inline-window}
use Rattle.scm_record.proofs.live.LiveSession.grid.Goals as goal

pub returns-clause-width : goal.returns-clause-width
returns-clause-width c =
    let seen = scene_of c.self.inside.kind c.self.inside.session.value in
    rw (sym c.self.view_is) (c.grid.ensures.width seen (subst (IsSceneOf seen) (sym c.deref.ensures) c.self.invariant.shown))

pub returns-clause-rows : goal.returns-clause-rows
returns-clause-rows c =
    let seen = scene_of c.self.inside.kind c.self.inside.session.value in
    rw (sym c.self.view_is) (c.grid.ensures.rows seen (subst (IsSceneOf seen) (sym c.deref.ensures) c.self.invariant.shown))

pub returns-clause-window : goal.returns-clause-window
returns-clause-window c = λ inline. returns-clause-rows c ∙ inline-window _ _ inline
