-- The final value of a list of the state after a borrow of its elements ends.
use Rattle.std.specs.Prelude.{ℕ, List, Option, take, drop, length, ◌++◌, slice_set}
use Rattle.std.specs.Borrow.{Lends, LendsIf, MutBor, Fml, Array, RattleType, follows}
use Rattle.std.specs.Slice.Iter.{iter_mut_name}
use Rattle.std.specs.declared.slice.IterMut.{IterMut}
use Rattle.scm_types.specs.contracts.items.Items.{the_row}

module _ (T : RattleType) (v : MutBor (List T.Denot)) where
  -- the borrow of all elements as a slice: the list ends as the final elements of r
  abbrev pub lends_slice : MutBor (List T.Denot) → Fml
  lends_slice r = Lends (the_row T) (Array T 0) v r (λ w. take (length v.now) (w ++ drop (length w) v.now))

  -- the borrow by an iterator: the list ends as the final values of the elements that it lent
  abbrev pub lends_iter : IterMut T.Denot → Fml
  lends_iter it = follows (the_row T) (Array T 0) v.ghost_name (iter_mut_name it) (λ w. take (length v.now) (w ++ drop (length w) v.now))

  -- the borrow of the element at the index: it ends as the final value of r
  abbrev pub lends_item : ℕ → MutBor T.Denot → Fml
  lends_item i r = Lends (the_row T) T v r (slice_set v.now i)

  -- the same if there is an element at the index; else the list is unchanged
  abbrev pub lends_item_if : ℕ → Option (MutBor T.Denot) → Fml
  lends_item_if i r = LendsIf (the_row T) T v r (slice_set v.now i) v.now
