use Rattle.std.proofs.Common.{◌+◌, ◌<◌, List, [], length, take, arith, sym, subst}
use Rattle.scm_tree.specs.declared.place.Place.{Place}
use Rattle.scm_tree.specs.Places.{AreListed}
use Rattle.scm_tree.proofs.PlaceLemmas.{listed_new, new_listed}
use Rattle.scm_tree.proofs.place.add_new.Goals as goal

pub loop-i-init : goal.loop-i-init
loop-i-init c = λ old s. s

pub loop-i-preserved : goal.loop-i-preserved
loop-i-preserved c = λ old s.
    let h : c.loop-i.i < length c.args.new.now = omega arith in
    subst (λ (xs : List Place). AreListed old (take (c.loop-i.i + 1) c.args.new.now) [] xs) (sym {A = List Place} c.in_ok-add.ensures)
    (listed_new old c.args.new.now [] c.loop-i.places.items c.loop-i.i c.new_place.result (c.loop-i.invariant old s) h c.new_place.ensures)

pub returns : goal.returns
returns c = λ old s. new_listed old c.args.new.now [] _ c.loop-i.i (c.loop-i.invariant old s) (omega arith)
