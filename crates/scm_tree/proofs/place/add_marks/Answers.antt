use Rattle.std.proofs.Common.{◌+◌, ◌<◌, List, length, take, arith, sym, subst}
use Rattle.scm_tree.specs.declared.place.Place.{Place}
use Rattle.scm_tree.specs.Places.{AreListed}
use Rattle.scm_tree.proofs.PlaceLemmas.{listed_mark, marks_listed}
use Rattle.scm_tree.proofs.place.add_marks.Goals as goal

pub loop-i-init : goal.loop-i-init
loop-i-init c = λ old new s. s

pub loop-i-preserved : goal.loop-i-preserved
loop-i-preserved c = λ old new s.
    let h : c.loop-i.i < length c.args.marks.now = omega arith in
    subst (λ (xs : List Place). AreListed old new (take (c.loop-i.i + 1) c.args.marks.now) xs) (sym {A = List Place} c.in_ok-add.ensures)
    (listed_mark old new c.args.marks.now c.loop-i.places.items c.loop-i.i c.marked_place.result (c.loop-i.invariant old new s) h c.marked_place.ensures)

pub returns : goal.returns
returns c = λ old new s. marks_listed old new c.args.marks.now _ c.loop-i.i (c.loop-i.invariant old new s) (omega arith)
