use Rattle.std.proofs.Common.{List, length, subst}
use Rattle.std.proofs.lemmas.Result.{MatchResult-weaker}
use Rattle.scm_tree.specs.declared.place.Place.{Place}
use Rattle.scm_tree.specs.Merge.{AreRowsBelow}
use Rattle.scm_tree.specs.GatherFaults.{IsRowsFault}
use Rattle.scm_tree.proofs.MergeLemmas.{rows_fault, rows_merged}
use Rattle.scm_tree.proofs.rows.rows_of.Goals as goal

pub returns : goal.returns
returns c =
    MatchResult-weaker c.rows_of_places.result c.rows_of_places.ensures
    (λ rs below. rows_merged c.args.count c.args.old.now c.args.new.now c.args.marks.now c.in_ok-places.places.items rs.items
    c.in_ok-places.ensures.in_order c.in_ok-places.ensures.listed
    (subst (λ (ps : List Place). AreRowsBelow c.args.count ps (length ps) rs.items) c.as_slice.ensures.value below))
    (λ error fault. rows_fault c.args.old.now c.args.new.now c.args.marks.now c.in_ok-places.places.items error c.in_ok-places.ensures.in_order c.in_ok-places.ensures.listed
    (subst (λ (ps : List Place). IsRowsFault ps error) c.as_slice.ensures.value fault))
