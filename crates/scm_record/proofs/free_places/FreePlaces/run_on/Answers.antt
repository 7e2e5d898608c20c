use Rattle.std.proofs.Common.{FitsSigned, ◌≡◌, ◌∙◌, ◌<◌, ap, arith, pos, refl, sym, to_z, true, w64}
use Rattle.std.proofs.lemmas.Bool.Decides.{nat_tests}
use Rattle.std.proofs.lemmas.Int.{to_z-of_z, to_z_pos}
use Rattle.std.specs.Prelude.{nat_lt}
use Rattle.scm_record.proofs.FreePlacesLemmas.{mapped-owner, shown-owner}
use Rattle.scm_record.proofs.free_places.FreePlaces.run_on.Goals as goal

pub returns-then-has_row-clause-owner : goal.returns-then-has_row-clause-owner
returns-then-has_row-clause-owner c = λ y frame kept row x low high.
    let fy : FitsSigned w64 c.args.row = c.ranges.row in
    let most = c.shown_run.ensures.most in
    let within : x < c.args.width = omega arith in
    let inside : nat_lt x c.args.width ≡ true = grind (arith, nat_tests) in
    let owned = simp to_z-of_z at (c.shown_run.ensures.owner x low high) in
    let seen = simp to_z-of_z at (sym c.has_row.ensures ∙ c.if-has_row.true) in
    rw (inside, owned, c.deref.ensures.value) (shown-owner c.args.self.now c.ids_are_told_apart.ensures c.args.width frame kept c.args.row (pos x) y x row refl within seen)

pub returns-clause-owner : goal.returns-clause-owner
returns-clause-owner c = λ y frame kept row x low high.
    let fy : FitsSigned w64 c.args.row = c.ranges.row in
    let wide = c.requires.width in
    let beyond = c.if-width-column.false in
    let same : x ≡ c.args.column = omega arith in
    let within : x < c.args.width = omega arith in
    let inside : nat_lt x c.args.width ≡ true = grind (arith, nat_tests) in
    let place : to_z w64 c.args.column ≡ pos c.args.column = to_z_pos w64 c.args.column (omega arith) in
    let target = simp to_z-of_z at c.find_target.ensures.target in
    rw inside (mapped-owner c.args.self.now c.args.width frame kept c.args.row (to_z w64 c.args.column) y x row (place ∙ ap pos (sym same)) within c.find_target.result target)
