-- A set of keys, as the list of its keys in ascending order: files, then sections, then lines, each by their indexes.
use Rattle.std.specs.Prelude.{Bool, List, [], ◌∷◌, fold, if◌then◌else◌}
use Rattle.std.specs.declared.cmp.Ordering.{Ordering}
use Rattle.std.specs.Ordering.{nat_cmp, match_ordering}
use Rattle.std.specs.Cmp.Lexicographic.{pointwise, slice_cmp}
use Rattle.scm_types.specs.declared.keys.SelectionKey.{SelectionKey}
pub use Rattle.scm_types.specs.Keys.{numbers_of, same_numbers, is_key, has_key}

-- the order of two keys: by their kinds, then by their indexes
abbrev pub key_cmp : SelectionKey → SelectionKey → Ordering
key_cmp a b = slice_cmp nat_cmp (numbers_of a) (numbers_of b)

-- the set with the key added
abbrev pub with_key : List SelectionKey → SelectionKey → List SelectionKey
with_key [] key = key ∷ []
with_key (k ∷ ks) key = match_ordering (key_cmp key k) (key ∷ k ∷ ks) (k ∷ ks) (k ∷ with_key ks key)

-- the set without the key
abbrev pub without_key : List SelectionKey → SelectionKey → List SelectionKey
without_key [] key = []
without_key (k ∷ ks) key = if is_key key k then ks else k ∷ without_key ks key

-- the set with the key added, or removed if it is in the set
abbrev pub with_key_flipped : List SelectionKey → SelectionKey → List SelectionKey
with_key_flipped set key = if has_key set key then without_key set key else with_key set key

-- the set of the keys of a list
abbrev pub key_set : List SelectionKey → List SelectionKey
key_set ks = fold with_key [] ks

-- whether two sets have the same keys
abbrev pub is_same_set : List SelectionKey → List SelectionKey → Bool
is_same_set a b = pointwise is_key a b
