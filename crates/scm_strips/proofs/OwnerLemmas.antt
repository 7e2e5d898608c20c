-- The first column of a header.
use Rattle.std.proofs.Common.{◌≡◌, ◌∙◌, ℕ, ◌<◌, ◌≤◌, max, Bool, true, false, Option, Some, None, refl, ap, ap₂, arith, ◌^◌, FitsSigned, w64, ⊎_elim}
use Rattle.std.specs.Prelude.{ℤ, pos, ◌+ℤ◌, ◌-ℤ◌, if◌then◌else◌}
use Rattle.std.proofs.lemmas.Bool.{cases_lt}
use Rattle.std.proofs.lemmas.Int.{ints, clamps}
use Rattle.scm_types.specs.declared.keys.FileKey.{FileKey}
use Rattle.scm_render.specs.Hits.{first_of_two}
use Rattle.scm_widgets.specs.declared.ids.ComponentId.{ComponentId}
use Rattle.scm_widgets.specs.declared.ids.ComponentId.TheVariants as ids
use Rattle.scm_strips.specs.Parts.{end_of_texts, header_parts, heading_from, heading_parts, is_between, is_in_header, owner_in}

pub from_wide : (v title : ℕ) → 4 ≤ v → heading_from v 0 title ≡ pos 0
from_wide v title h = grind (arith, ints, clamps, h)

pub from_three : (v title : ℕ) → v ≡ 3 → heading_from v 0 title ≡ pos 0 -ℤ pos 1
from_three v title h = grind (arith, ints, clamps, h)

pub from_narrow : (v title : ℕ) → v < 3 → heading_from v 0 title ≡ pos v -ℤ pos 3
from_narrow v title h = grind (arith, ints, clamps, h)

-- a header has the columns between its ends
pub header-has : (v width : ℕ) (from to x : ℤ) (r : Bool) → r ≡ is_between from to x → from ≡ heading_from v 0 width → to ≡ pos (max 3 (max v (end_of_texts 4 width)))
    → r ≡ is_in_header v width x
header-has v width from to x r p q e = p ∙ ap₂ (λ a b. is_between a b x) q e

-- the end of a header
pub header-end : (v least e : ℕ) → least ≡ max v 3 → max least e ≡ max 3 (max v e)
header-end v least e p = omega (arith, p)

abbrev header_if : FileKey → Bool → Option ComponentId
header_if k b = if b then Some (ids.FileViewHeader k) else None

-- the boxes of a header, and what it owns besides
pub header-split : (v : ℕ) (k : FileKey) (i j : ComponentId) (width : ℕ) (x : ℤ) (o r all : Option ComponentId) (b : Bool)
    → o ≡ owner_in (heading_parts v 0 i j) x → b ≡ is_in_header v width x → r ≡ (if b then Some (ids.FileViewHeader k) else None) → all ≡ first_of_two o r
    → all ≡ owner_in (header_parts v k i j width) x
unfolding owner_in
header-split v k i j width x o r all b p q e f =
    f ∙ ap₂ (λ (a c : Option ComponentId). first_of_two a c) p (e ∙ ap (header_if k) q)
    ∙ go (is_between (pos 0) (pos 0 +ℤ pos 3) x) (is_between (pos v -ℤ pos 3) ((pos v -ℤ pos 3) +ℤ pos 3) x) (is_in_header v width x)
  where
    go : (t u b : Bool) → ◌≡◌ {A = Option ComponentId}
        (first_of_two (if t then Some i else if u then Some j else None) (if b then Some (ids.FileViewHeader k) else None))
        (if t then Some i else if u then Some j else if b then Some (ids.FileViewHeader k) else None)
    go true u b = refl
    go false true b = refl
    go false false true = refl
    go false false false = refl

-- the first column of a header fits the machine
pub from-fits : (v title : ℕ) (from : ℤ) → v < 2 ^ 16 → from ≡ heading_from v 0 title → FitsSigned w64 from
from-fits v title from h e =
    ⊎_elim
    (λ (narrow : v < 3). omega (arith, ints, h, e ∙ from_narrow v title narrow))
    (λ (wide : 3 ≤ v).
    ⊎_elim (λ (three : v < 4). omega (arith, ints, e ∙ from_three v title (omega (arith, wide, three)))) (λ (far : 4 ≤ v). omega (arith, ints, e ∙ from_wide v title far)) (cases_lt v 4))
    (cases_lt v 3)
