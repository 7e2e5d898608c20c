use Rattle.std.proofs.Common.{List, subst}
use Rattle.std.proofs.lemmas.Result.{MatchResult-weaker}
use Rattle.scm_tree.specs.declared.place.Place.{Place}
use Rattle.scm_tree.specs.Places.{HaveSameFiles}
use Rattle.scm_tree.specs.GatherFaults.{IsPlaceFault}
use Rattle.scm_tree.proofs.PlaceLemmas.{listed_gathered, listed_moved}
use Rattle.scm_tree.proofs.MergeLemmas.{places_fault}
use Rattle.scm_tree.proofs.rows.places_in_order.Goals as goal

pub returns-clause-listed : goal.returns-clause-listed
returns-clause-listed c =
    MatchResult-weaker c.gathered.result c.gathered.ensures
    (λ done gathered. listed_gathered c.args.old.now c.args.new.now c.args.marks.now c.sort_places.new.places.items done.items
    (listed_moved c.args.old.now c.args.new.now c.args.marks.now c.in_ok-places.places.items c.sort_places.new.places.items c.in_ok-places.ensures c.sort_places.ensures.moved)
    (subst (λ (ps : List Place). HaveSameFiles ps done.items) c.as_slice.ensures.value gathered.same))
    (λ error fault. tt)

pub returns-clause-fault : goal.returns-clause-fault
returns-clause-fault c =
    MatchResult-weaker c.gathered.result c.gathered.ensures
    (λ done gathered. tt)
    (λ error fault. places_fault c.args.old.now c.args.new.now c.args.marks.now c.sort_places.new.places.items error
    (listed_moved c.args.old.now c.args.new.now c.args.marks.now c.in_ok-places.places.items c.sort_places.new.places.items c.in_ok-places.ensures c.sort_places.ensures.moved)
    (subst (λ (ps : List Place). IsPlaceFault ps error) c.as_slice.ensures.value fault))
