use Rattle.std.proofs.Common.{◌+◌, ◌<◌, List, [], length, take, arith, sym, subst}
use Rattle.scm_tree.specs.declared.place.Place.{Place}
use Rattle.scm_tree.specs.Places.{AreListed}
use Rattle.scm_tree.proofs.PlaceLemmas.{listed_none, listed_old, old_listed}
use Rattle.scm_tree.proofs.place.places_of.Goals as goal

pub loop-i-init : goal.loop-i-init
loop-i-init c = subst (λ (xs : List Place). AreListed [] [] [] xs) (sym c.new-places.ensures.items) listed_none

pub loop-i-preserved : goal.loop-i-preserved
loop-i-preserved c =
    let h : c.loop-i.i < length c.args.old.now = omega arith in
    subst (λ (xs : List Place). AreListed (take (c.loop-i.i + 1) c.args.old.now) [] [] xs) (sym {A = List Place} c.in_ok-add.ensures)
    (listed_old c.args.old.now [] [] c.loop-i.places.items c.loop-i.i c.old_place.result c.loop-i.invariant h c.old_place.ensures)

pub returns : goal.returns
returns c =
    c.in_ok-add_marks.ensures c.args.old.now c.args.new.now
    (c.in_ok-add_new.ensures c.args.old.now (old_listed c.args.old.now [] [] c.loop-i.places.items c.loop-i.i c.loop-i.invariant (omega arith)))
