use Rattle.std.proofs.Common.{false, true, ap}
use Rattle.std.proofs.lemmas.List.{get_or_default}
use Rattle.scm_tree.specs.declared.place.Place.{Place}
use Rattle.scm_tree.proofs.MergeLemmas.{row_added, unknown_at, unknown_fault}
use Rattle.scm_tree.proofs.rows.add_row.Goals as goal

pub returns-then-is_none : goal.returns-then-is_none
returns-then-is_none c =
    unknown_fault c.args.places.now c.args.i _ c.requires.within
    (unknown_at c.args.places.now c.args.i _ c.is_none.result c.is_none-2.result true c.requires.within c.is_none.ensures c.is_none-2.ensures c.if-is_none.true)
    (λ d. ap (λ (x : Place). x.path.now) (get_or_default c.args.places.now c.args.i d _ c.requires.within))

pub row_at-requires-clause-known : goal.row_at-requires-clause-known
row_at-requires-clause-known c = unknown_at c.args.places.now c.args.i _ c.is_none.result c.is_none-2.result false c.requires.within c.is_none.ensures c.is_none-2.ensures c.if-is_none.false

pub returns : goal.returns
returns c =
    row_added c.args.count c.args.places.now c.args.i c.args.rows.now.items c.add.new.items.items c.row_at.result c.requires.below c.row_at.ensures c.in_ok-add.ensures
