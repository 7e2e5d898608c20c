-- The item that a search finds, item by item.
use Rattle.std.proofs.Common.{◌≡◌, ℕ, ◌≤◌, Bool, true, false, List, [], ◌∷◌, length, drop, fold, refl, sym, ap, ◌∙◌, Option, Some, None}
use Rattle.std.specs.Prelude.{if◌then◌else◌}
use Rattle.std.specs.Option.{option_or}
use Rattle.std.proofs.lemmas.List.{drop_all}
use Rattle.scm_types.specs.declared.file.File.{File}
use Rattle.scm_types.specs.declared.keys.SelectionKey.{SelectionKey}
use Rattle.scm_front_items.specs.declared.items.Way.{Way}
use Rattle.scm_front_items.specs.declared.items.Way.TheVariants.{Up, Down}
use Rattle.scm_front_items.specs.Search.{Item, files_items, first_passing, last_passing, nearest, kept, found_after}

-- ---- what is found after all items is the nearest

module _ (test : Item → Bool) where
  first-after : (k : SelectionKey) (items : List Item) → fold (found_after Down test) (Some k) items ≡ Some k
  first-after k [] = refl
  first-after k (i ∷ is) = first-after k is

  first-is : (items : List Item) → fold (found_after Down test) None items ≡ first_passing test items
  first-is [] = refl
  first-is (i ∷ is) = by_test (test i) (first-is is)
    where
      by_test : (b : Bool) → fold (found_after Down test) None is ≡ first_passing test is
          → fold (found_after Down test) (if b then Some i.key else None) is ≡ (if b then Some i.key else first_passing test is)
      by_test true rest = first-after i.key is
      by_test false rest = rest

  later-or : (later : Option SelectionKey) (found : Option SelectionKey) (key : SelectionKey) (b : Bool)
      → option_or later (if b then Some key else found) ≡ option_or (option_or later (if b then Some key else None)) found
  later-or (Some k) found key b = refl
  later-or None found key true = refl
  later-or None found key false = refl

  last-after : (found : Option SelectionKey) (items : List Item) → fold (found_after Up test) found items ≡ option_or (last_passing test items) found
  last-after found [] = refl
  last-after found (i ∷ is) = last-after (kept Up found i.key (test i)) is ∙ later-or (last_passing test is) found i.key (test i)

  or-none : (found : Option SelectionKey) → option_or found None ≡ found
  or-none None = refl
  or-none (Some k) = refl

  pub nearest-is : (way : Way) (items : List Item) → fold (found_after way test) None items ≡ nearest way test items
  nearest-is Down items = first-is items
  nearest-is Up items = last-after None items ∙ or-none (last_passing test items)

-- ---- the items that are left

module _ (way : Way) (test : Item → Bool) where
  -- all files are passed
  pub files-end : (i : ℕ) (fs : List File) (found : Option SelectionKey) → length fs ≤ i
      → fold (found_after way test) found (files_items i (drop i fs)) ≡ fold (found_after way test) None (files_items 0 fs)
      → found ≡ nearest way test (files_items 0 fs)
  files-end i fs found h e =
      sym (ap (λ (rest : List File). fold (found_after way test) found (files_items i rest)) (drop_all i fs h)) ∙ e ∙ nearest-is test way (files_items 0 fs)
