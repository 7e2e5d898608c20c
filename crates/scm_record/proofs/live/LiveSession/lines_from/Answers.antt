use Rattle.std.proofs.Common.{ℕ, ◌+◌, ◌∙◌, ap, sym, subst}
use Rattle.scm_record.specs.Session.{Session}
use Rattle.scm_record.specs.Frames.{IsSceneOf, scene_of}
use Rattle.scm_record.specs.FrameQueries.{hit}
use Rattle.scm_record.specs.ShownLines.{line_of}
use Rattle.scm_record.proofs.live.LiveSession.lines_from.Goals as goal

pub returns-clause-lines : goal.returns-clause-lines
returns-clause-lines c =
    let seen = scene_of c.self.inside.kind c.self.inside.session.value in
    rw (sym c.self.view_is) (λ n within.
    ap (λ (s : ℕ). line_of (hit seen s (c.args.row + n) 8)) (sym (c.scroll.ensures ∙ ap (λ (s : Session). s.scroll) c.deref-2.ensures))
    ∙ c.lines_of_rows.ensures.lines seen (subst (IsSceneOf seen) (sym c.deref.ensures) c.self.invariant.shown) n within)
