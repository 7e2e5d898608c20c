use Rattle.std.proofs.Common.{FitsSigned, w64}
use Rattle.std.proofs.lemmas.Int.{to_z-of_z}
use Rattle.scm_render.proofs.TargetLemmas.{target-found, target-is}
use Rattle.scm_render.proofs.target.find_target.Goals as goal

pub returns-clause-target : goal.returns-clause-target
returns-clause-target g c =
    let fx : FitsSigned w64 c.args.x = c.ranges.x in
    let fy : FitsSigned w64 c.args.y = c.ranges.y in
    let found = simp to_z-of_z at c.latest_box.ensures.found in
    rw (c.id_of.ensures, found) (target-found g.K.PartialEq.eq g.K.Clickable.clicks c.args.boxes.now c.args.y c.args.x c.requires g.met.K.Eq.laws c.latest_box.ensures.unique)

pub returns-clause-last : goal.returns-clause-last
returns-clause-last g c = target-is g.K.PartialEq.eq c.requires g.K.Clickable.clicks c.args.boxes.now c.args.y c.args.x c.id_of.result (returns-clause-target g c)
