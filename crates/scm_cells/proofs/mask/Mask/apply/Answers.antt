use Rattle.std.proofs.Common.{rules, FitsSigned, w64}
use Rattle.std.proofs.lemmas.Int.{to_z-of_z}
use Rattle.scm_cells.proofs.MaskLemmas.{RectInRange-sides, points-apply}
use Rattle.scm_cells.proofs.mask.Mask.apply.Goals as goal

pub intersect-requires-clause-left : goal.intersect-requires-clause-left
intersect-requires-clause-left c =
    let fx : FitsSigned w64 c.args.self.x = search rules in
    let fy : FitsSigned w64 c.args.self.y = search rules in
    let fex : FitsSigned w64 c.end_x.result = search rules in
    let fey : FitsSigned w64 c.end_y.result = search rules in
    let ex = simp to_z-of_z at c.side.ensures in
    let ex = simp c.end_x.ensures at ex in
    let ey = simp to_z-of_z at c.side-2.ensures in
    let ey = simp c.end_y.ensures at ey in
    simp to_z-of_z (rw (ex, ey) (RectInRange-sides c.args.self c.args.rect c.requires.mask c.requires.rect))

pub returns-clause-fields : goal.returns-clause-fields
returns-clause-fields c =
    let fx : FitsSigned w64 c.args.self.x = search rules in
    let fy : FitsSigned w64 c.args.self.y = search rules in
    let fex : FitsSigned w64 c.end_x.result = search rules in
    let fey : FitsSigned w64 c.end_y.result = search rules in
    let ex = simp to_z-of_z at c.side.ensures in
    let ex = simp c.end_x.ensures at ex in
    let ey = simp to_z-of_z at c.side-2.ensures in
    let ey = simp c.end_y.ensures at ey in
    let f = simp to_z-of_z at c.intersect.ensures.fields in
    let f = simp (ex, ey) at f in
    f

pub returns-clause-points : goal.returns-clause-points
returns-clause-points c = rw (returns-clause-fields c) (points-apply c.args.self c.args.rect c.requires.mask c.requires.rect)
