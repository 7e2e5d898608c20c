-- The files of two trees and what marks ask for, path by path.
use Rattle.std.specs.Prelude.{◌≡◌, ℕ, ◌+◌, ◌<◌, List, [], ◌∷◌, ◌++◌, Bool, true, false, ◌||◌, ◌&&◌, Option, Some, None, is_some, length, slice_index_or, take}
use Rattle.std.specs.Option.{option_or}
use Rattle.std.specs.List.{All, AllPairs}
use Rattle.scm_tree.specs.declared.row.Version.{Version}
use Rattle.scm_tree.specs.Paths.{is_before}
use Rattle.scm_tree.specs.declared.place.Entry.{Entry}
use Rattle.scm_tree.specs.declared.place.Mark.{Mark}
use Rattle.scm_tree.specs.declared.place.Wish.{Wish}
use Rattle.scm_tree.specs.declared.place.Place.{Place}
use Rattle.scm_tree.specs.Holds.{HaveSame}

abbrev pub entry_path : Entry → List ℕ
entry_path e = e.path.now

abbrev pub entry_version : Entry → Option Version
entry_version e = Some e.version

abbrev pub mark_path : Mark → List ℕ
mark_path m = m.path.now

abbrev pub mark_wish : Mark → Option Wish
mark_wish m = Some m.wish

abbrev pub place_path : Place → List ℕ
place_path x = x.path.now

abbrev pub place_current : Place → Option Version
place_current x = x.current

abbrev pub place_goal : Place → Option Version
place_goal x = x.goal

abbrev pub place_wish : Place → Option Wish
place_wish x = x.wish

-- The place is that of old entry `i`.
pub record IsOfOld (old : List Entry) (i : ℕ) (x : Place) : Type 0 where
  pub path : (d : Entry) → x.path.now ≡ (slice_index_or old i d).path.now
  pub current : (d : Entry) → x.current ≡ Some (slice_index_or old i d).version
  pub goal : x.goal ≡ None
  pub wish : x.wish ≡ None

-- The place is that of new entry `i`.
pub record IsOfNew (new : List Entry) (i : ℕ) (x : Place) : Type 0 where
  pub path : (d : Entry) → x.path.now ≡ (slice_index_or new i d).path.now
  pub current : x.current ≡ None
  pub goal : (d : Entry) → x.goal ≡ Some (slice_index_or new i d).version
  pub wish : x.wish ≡ None

-- The place is that of mark `i`.
pub record IsOfMark (marks : List Mark) (i : ℕ) (x : Place) : Type 0 where
  pub path : (d : Mark) → x.path.now ≡ (slice_index_or marks i d).path.now
  pub current : x.current ≡ None
  pub goal : x.goal ≡ None
  pub wish : (d : Mark) → x.wish ≡ Some (slice_index_or marks i d).wish

-- a tree or a mark has the place's path
abbrev pub IsFilled : Place → Type 0
IsFilled x = (is_some x.current || is_some x.goal || is_some x.wish) ≡ true

-- The places have what the trees and the marks have.
pub record AreListed (old new : List Entry) (marks : List Mark) (xs : List Place) : Type 0 where
  pub current : HaveSame entry_path entry_version old place_path place_current xs
  pub goal : HaveSame entry_path entry_version new place_path place_goal xs
  pub wish : HaveSame mark_path mark_wish marks place_path place_wish xs
  pub filled : All IsFilled xs

-- The second places have what the first ones have, and none of them is empty if none of the first ones is.
pub record HaveSameFiles (xs ys : List Place) : Type 0 where
  pub current : HaveSame place_path place_current xs place_path place_current ys
  pub goal : HaveSame place_path place_goal xs place_path place_goal ys
  pub wish : HaveSame place_path place_wish xs place_path place_wish ys
  pub filled : All IsFilled xs → All IsFilled ys

-- no path comes before the one in front of it
pub record AreSorted (xs : List Place) : Type 0 where
  pub next : (k : ℕ) (d : Place) → k + 1 < length xs → is_before (slice_index_or xs (k + 1) d).path.now (slice_index_or xs k d).path.now ≡ false

-- each path comes before all paths after it
abbrev pub ArePlacesInOrder : List Place → Type 0
ArePlacesInOrder xs = AllPairs (λ (x y : Place). is_before x.path.now y.path.now ≡ true) xs

-- whether both places have a file of one tree, or a mark
abbrev pub is_twice : Place → Place → Bool
is_twice x y = (is_some x.current && is_some y.current) || (is_some x.goal && is_some y.goal) || (is_some x.wish && is_some y.wish)

-- Place `z` has what `x` and `y` have, which have one path.
pub record IsJoined (x y z : Place) : Type 0 where
  pub path : z.path.now ≡ x.path.now
  pub current : z.current ≡ option_or x.current y.current
  pub goal : z.goal ≡ option_or x.goal y.goal
  pub wish : z.wish ≡ option_or x.wish y.wish

-- Place `y` was added to the places `before`, of which `last` is the last one. The places `after` have all but the new last one, `next`.
pub record IsAdded (before : List Place) (last y : Place) (after : List Place) (next : Place) : Type 0 where
  pub in_order : ArePlacesInOrder (after ++ next ∷ [])
  pub path : next.path.now ≡ y.path.now
  pub same : HaveSameFiles ((before ++ last ∷ []) ++ y ∷ []) (after ++ next ∷ [])

-- The second places have what the first ones have, each path once, in the order of paths.
pub record IsGathered (xs ys : List Place) : Type 0 where
  pub in_order : ArePlacesInOrder ys
  pub same : HaveSameFiles xs ys

-- The first `i` places were gathered: `done` and `last` have what they have, each path once, and `last` has the path of the
-- place before place `i`.
pub record AreGathered (xs : List Place) (i : ℕ) (done : List Place) (last : Place) : Type 0 where
  pub in_order : ArePlacesInOrder (done ++ last ∷ [])
  pub last_is : (k : ℕ) (d : Place) → k + 1 ≡ i → last.path.now ≡ (slice_index_or xs k d).path.now
  pub same : HaveSameFiles (take i xs) (done ++ last ∷ [])
