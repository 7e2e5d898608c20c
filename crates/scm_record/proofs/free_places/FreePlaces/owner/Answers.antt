use Rattle.std.proofs.Common.{FitsSigned, ◌∙◌, sym, w64}
use Rattle.std.proofs.lemmas.Int.{to_z-of_z}
use Rattle.scm_record.proofs.FreePlacesLemmas.{mapped-owner, shown-owner}
use Rattle.scm_record.proofs.free_places.FreePlaces.owner.Goals as goal

pub returns-then-has_row : goal.returns-then-has_row
returns-then-has_row c = λ w y x frame kept within row column.
    let fy : FitsSigned w64 c.args.row = c.ranges.row in
    let fx : FitsSigned w64 c.args.column = c.ranges.column in
    let found = simp to_z-of_z at c.target_in.ensures in
    let seen = simp to_z-of_z at (sym c.has_row.ensures ∙ c.if-has_row.true) in
    rw (found, c.deref.ensures.value) (shown-owner c.args.self.now c.ids_are_told_apart.ensures w frame kept c.args.row c.args.column y x row column within seen)

pub returns-else-has_row : goal.returns-else-has_row
returns-else-has_row c = λ w y x frame kept within row column.
    let fy : FitsSigned w64 c.args.row = c.ranges.row in
    let fx : FitsSigned w64 c.args.column = c.ranges.column in
    let target = simp to_z-of_z at c.find_target.ensures.target in
    mapped-owner c.args.self.now w frame kept c.args.row c.args.column y x row column within c.find_target.result target
