-- The boxes of keys are on the rows of the keys' places: pictures put together, one below the other and one within the other.
use Rattle.std.proofs.Common.{◌≡◌, ◌<◌, ◌==◌, Bool, true, false, List, [], ◌∷◌, ◌++◌, refl, arith}
use Rattle.std.specs.Prelude.{if◌then◌else◌, Some}
use Rattle.scm_render.specs.Hits.{first_of_two}
use Rattle.scm_types.specs.declared.keys.SelectionKey.{SelectionKey}
use Rattle.scm_types.specs.Keys.{is_key}
use Rattle.scm_document.specs.Places.{Place}
use Rattle.scm_document.specs.DocumentRows.{rows_of_place, rows_of_key}

-- each place has rows
abbrev pub AllHaveRows : List Place → Type 0
AllHaveRows [] = Unit {0}
AllHaveRows (p ∷ ps) = (0 < p.rows) × AllHaveRows ps

pub some-rows : (p : Place) → 0 < p.rows → rows_of_place p ≡ Some (p.top, p.rows)
some-rows p h = let some : (p.rows == 0) ≡ false = grind (arith, h) in rw some refl

pub rows-append : (k : SelectionKey) (ps qs : List Place) → AllHaveRows ps → rows_of_key k (ps ++ qs) ≡ first_of_two (rows_of_key k ps) (rows_of_key k qs)
unfolding rows_of_key
rows-append k [] qs h = refl
rows-append k (p ∷ ps) qs h = go (is_key k p.key) (rows-append k ps qs h.1)
  where
    go : (b : Bool) → rows_of_key k (ps ++ qs) ≡ first_of_two (rows_of_key k ps) (rows_of_key k qs)
        → (if b then rows_of_place p else rows_of_key k (ps ++ qs)) ≡ first_of_two (if b then rows_of_place p else rows_of_key k ps) (rows_of_key k qs)
    go true e = rw (some-rows p h.0) refl
    go false e = e
