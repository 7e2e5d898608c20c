-- The keys' own order and equality are those of their numbers, so a sorted set of keys is one by those numbers.
use Rattle.std.proofs.Common.{◌≡◌, ℕ, ◌&&◌, Bool, false, cond, List, [], ◌∷◌, refl, ap, ap₂, sym, ◌∙◌, arith, nat_eq}
use Rattle.std.proofs.lemmas.Bool.Decides.{nat_tests}
use Rattle.std.specs.declared.cmp.Ordering.{Ordering}
use Rattle.std.specs.Ordering.{nat_cmp, is_eq, ordering_then}
use Rattle.std.specs.Cmp.Lexicographic.{slice_cmp}
use Rattle.std.specs.BTreeMap.{is_at}
use Rattle.std.specs.BTreeSet.{insert_key}
use Rattle.std.specs.Set.{remove_key}
use Rattle.std.specs.List.{list_any}
use Rattle.scm_types.specs.declared.keys.SelectionKey.{SelectionKey}
use Rattle.scm_selection.specs.KeySet.{key_cmp, same_numbers, numbers_of, is_key, has_key, with_key, without_key}

first_numbers : (m n : ℕ) (o : Ordering) → is_eq (ordering_then (nat_cmp m n) o) ≡ (nat_eq m n && is_eq o)
first_numbers m n o = grind (arith, nat_tests)

same_numbers-is : (ms ns : List ℕ) → is_eq (slice_cmp nat_cmp ms ns) ≡ same_numbers ms ns
same_numbers-is [] [] = refl
same_numbers-is [] (n ∷ ns) = refl
same_numbers-is (m ∷ ms) [] = refl
same_numbers-is (m ∷ ms) (n ∷ ns) = first_numbers m n (slice_cmp nat_cmp ms ns) ∙ ap (λ b. nat_eq m n && b) (same_numbers-is ms ns)

-- a set in the keys' own order is one by their numbers
pub with_key-is : (cmp : SelectionKey → SelectionKey → Ordering) → ((a b : SelectionKey) → cmp a b ≡ key_cmp a b) → (set : List SelectionKey) (key : SelectionKey) → insert_key cmp set key ≡ with_key set key
with_key-is cmp by_numbers [] key = refl
with_key-is cmp by_numbers (k ∷ ks) key = rw (by_numbers key k, with_key-is cmp by_numbers ks key) refl

-- a comparison with one key, by its numbers
module _ (key : SelectionKey) (compare : SelectionKey → Ordering) (by_numbers : (k : SelectionKey) → compare k ≡ key_cmp key k) where
  is_at-is : (k : SelectionKey) → is_at compare k ≡ is_key key k
  is_at-is k = ap is_eq (by_numbers k) ∙ same_numbers-is (numbers_of key) (numbers_of k)

  pub has_key-is : (set : List SelectionKey) → list_any (is_at compare) set ≡ has_key set key
  has_key-is [] = refl
  has_key-is (k ∷ ks) = rw (is_at-is k, has_key-is ks) refl

  pub without_key-is : (set : List SelectionKey) → remove_key (is_at compare) set ≡ without_key set key
  without_key-is [] = refl
  without_key-is (k ∷ ks) = rw (is_at-is k, without_key-is ks) refl

-- what a set has after a key was removed
pub removed-has : (cmp : SelectionKey → SelectionKey → Ordering) (compare : SelectionKey → Ordering) (key : SelectionKey) (old new : List SelectionKey)
    → ((k : SelectionKey) → list_any (is_at (cmp k)) new ≡ cond (is_at compare k) false (list_any (is_at (cmp k)) old))
    → ((a b : SelectionKey) → cmp a b ≡ key_cmp a b) → ((k : SelectionKey) → compare k ≡ key_cmp key k) → (k : SelectionKey) → has_key new k ≡ cond (is_key key k) false (has_key old k)
removed-has cmp compare key old new updates order query k =
    sym (has_key-is k (cmp k) (order k) new)
    ∙ updates k
    ∙ ap₂ (λ (a b : Bool). cond a false b) (is_at-is key compare query k) (has_key-is k (cmp k) (order k) old)
