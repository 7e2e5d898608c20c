use Rattle.std.proofs.Common.{◌≡◌, IsTrue}
use Rattle.scm_record.specs.Frames.{IsSceneOf, Scene}
use Rattle.scm_record.proofs.CountLemmas.{CountsTo}
use Rattle.scm_record.proofs.HandleLemmas.{LeadsTo}
use Rattle.scm_record.proofs.live.batches.handle_each.Given as goal

-- the events so far are handled, and lead here
abbrev pub invariant-loop-index : goal.invariant-loop-index
invariant-loop-index l =
    (IsTrue l.is_kept → l.session ≡ l.fn.session)
    × (LeadsTo (λ (scene : Scene). IsSceneOf scene l.frame) l.events l.fn.session l.session l.index
    × CountsTo (λ (scene : Scene). IsSceneOf scene l.frame) l.events l.fn.session l.session l.index)
