use Rattle.std.proofs.Common.{◌≡◌, fold}
use Rattle.std.specs.Prelude.{None}
use Rattle.scm_render.specs.Target.{look}
use Rattle.scm_render.proofs.target.latest_box.Given as goal

abbrev pub invariant-loop-id : goal.invariant-loop-id
invariant-loop-id g l = fold (look g.K.Clickable.clicks l.y l.x) l.found l.id-iterator ≡ fold (look g.K.Clickable.clicks l.y l.x) None l.boxes.entries
