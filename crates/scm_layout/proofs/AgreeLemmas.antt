-- Sets of unfolded keys that agree on sections of a file give them the same rows.
use Rattle.std.proofs.Common.{◌≡◌, ◌≢◌, ℕ, zero, suc, ◌+◌, ◌-◌, ◌<◌, ◌≤◌, ◌&&◌, ◌||◌, Bool, true, false, not, List, [], ◌∷◌, length, drop, get_or, refl, ap, sym, ◌∙◌, arith}
use Rattle.std.specs.Prelude.{nat_eq, if◌then◌else◌}
use Rattle.scm_types.specs.declared.keys.FileKey.{FileKey}
use Rattle.scm_types.specs.declared.keys.SelectionKey.{SelectionKey}
use Rattle.scm_types.specs.declared.section.Section.{Section}
use Rattle.scm_types.specs.Marks.{is_editable_section}
use Rattle.scm_rows.specs.Lines.{is_changed}
use Rattle.scm_rows.specs.Context.{place}
use Rattle.scm_rows.specs.Heights.{height_of, shape_of}
use Rattle.scm_rows.proofs.HeightLemmas.{one-le}
use Rattle.scm_layout.specs.Rows.{fold_count, folded_count, is_expanded, is_first_open, is_open, rows_at, sections_height, sections_rows, visible_height}
use Rattle.scm_layout.specs.Refolds.{folded_after, is_open_above, last_end}

-- the last row of sections ends where they do
pub last-rows : (ks : List SelectionKey) (k : FileKey) (total i top : ℕ) (before : Bool) (ss : List Section) → last_end top (sections_rows ks k total i top before ss) ≡ top + sections_height ks k total i before ss
unfolding sections_rows sections_height
last-rows ks k total i top before [] = omega arith
last-rows ks k total i top before (s ∷ ss) =
    let height = visible_height ks k total i before s (is_first_open ks k (suc i) ss) in
    omega (arith, last-rows ks k total (suc i) (top + height) (is_open ks k i s) ss)

-- as many rows, if the rows are the same
pub same-rows : (ks ls : List SelectionKey) (k : FileKey) (total i top : ℕ) (before before' : Bool) (ss ts : List Section)
    → sections_rows ks k total i top before ss ≡ sections_rows ls k total i top before' ts → sections_height ks k total i before ss ≡ sections_height ls k total i before' ts
same-rows ks ls k total i top before before' ss ts e =
    let ends = ap (λ rs. last_end top rs) e in
    omega (arith, ends, last-rows ks k total i top before ss, last-rows ls k total i top before' ts)

module _ (ks ls : List SelectionKey) (k : FileKey) where
  open-agree : (i : ℕ) (s : Section) → is_expanded ks k i ≡ is_expanded ls k i → is_open ks k i s ≡ is_open ls k i s
  open-agree i s h = ap (λ b. is_editable_section s && b) h

  first-agree : (i : ℕ) (ss : List Section) → (0 < length ss → is_expanded ks k i ≡ is_expanded ls k i) → is_first_open ks k i ss ≡ is_first_open ls k i ss
  first-agree i [] h = refl
  first-agree i (s ∷ ss) h = open-agree i s (h (omega arith))

  -- the sections above section n
  pub above-agree : (n : ℕ) (ss : List Section) → (0 < n → is_expanded ks k (n - 1) ≡ is_expanded ls k (n - 1)) → is_open_above ks k n ss ≡ is_open_above ls k n ss
  above-agree zero ss h = refl
  above-agree (suc n) ss h = ap (λ b. if nat_eq (suc n) 0 then false else b) (first-agree (suc n - 1) (drop (suc n - 1) ss) (λ some. h (omega arith)))

  visible-agree : (total i : ℕ) (before : Bool) (s : Section) (after after' : Bool) → is_expanded ks k i ≡ is_expanded ls k i → after ≡ after' → visible_height ks k total i before s after ≡ visible_height ls k total i before s after'
  visible-agree total i before s after after' h e =
      ap (λ b. if is_editable_section s || (before || b) then height_of (place total i) (is_expanded ks k i) s else 0) e
      ∙ ap (λ b. if is_editable_section s || (before || after') then height_of (place total i) b s else 0) h

  -- sections, the first of which has the same rows
  module _ (total i : ℕ) (before : Bool) (s : Section) (ss : List Section) (here : is_expanded ks k i ≡ is_expanded ls k i) (next : 0 < length ss → is_expanded ks k (suc i) ≡ is_expanded ls k (suc i)) where
    first-height : visible_height ks k total i before s (is_first_open ks k (suc i) ss) ≡ visible_height ls k total i before s (is_first_open ls k (suc i) ss)
    first-height = visible-agree total i before s (is_first_open ks k (suc i) ss) (is_first_open ls k (suc i) ss) here (first-agree (suc i) ss next)

    pub first-rows : (top : ℕ) → sections_rows ks k total i top before (s ∷ ss)
        ≡ rows_at top (visible_height ls k total i before s (is_first_open ls k (suc i) ss)) (shape_of s)
        ∷ sections_rows ks k total (suc i) (top + visible_height ls k total i before s (is_first_open ls k (suc i) ss)) (is_open ls k i s) ss
    unfolding sections_rows
    first-rows top =
        let height = visible_height ls k total i before s (is_first_open ls k (suc i) ss) in
        ap (λ n. rows_at top n (shape_of s) ∷ sections_rows ks k total (suc i) (top + n) (is_open ks k i s) ss) first-height
        ∙ ap (λ b. rows_at top height (shape_of s) ∷ sections_rows ks k total (suc i) (top + height) b ss) (open-agree i s here)

    pub first-heights : sections_height ks k total i before (s ∷ ss)
        ≡ visible_height ls k total i before s (is_first_open ls k (suc i) ss) + sections_height ks k total (suc i) (is_open ls k i s) ss
    first-heights =
        let height = visible_height ls k total i before s (is_first_open ls k (suc i) ss) in
        let ends = ap (λ rs. last_end 0 rs) (first-rows 0) in
        omega (arith, ends, last-rows ks k total i 0 before (s ∷ ss), last-rows ks k total (suc i) (0 + height) (is_open ls k i s) ss)

  pub rows-agree : (total i top : ℕ) (before : Bool) (ss : List Section) → ((m : ℕ) → i ≤ m → m < i + length ss → is_expanded ks k m ≡ is_expanded ls k m)
      → sections_rows ks k total i top before ss ≡ sections_rows ls k total i top before ss
  unfolding sections_rows
  rows-agree total i top before [] h = refl
  rows-agree total i top before (s ∷ ss) h =
      let height = visible_height ls k total i before s (is_first_open ls k (suc i) ss) in
      first-rows total i before s ss (h i (omega arith) (omega arith)) (λ some. h (suc i) (omega arith) (omega arith)) top
      ∙ ap (λ rs. rows_at top height (shape_of s) ∷ rs) (rows-agree total (suc i) (top + height) (is_open ls k i s) ss (λ m low high. h m (omega arith) (omega arith)))

  count-agree : (i : ℕ) (s : Section) → is_expanded ks k i ≡ is_expanded ls k i → fold_count ks k i s ≡ fold_count ls k i s
  count-agree i s h = ap (λ b. if is_changed s && not b then 1 else 0) h

  pub folds-agree : (i : ℕ) (ss : List Section) → ((m : ℕ) → i ≤ m → m < i + length ss → is_expanded ks k m ≡ is_expanded ls k m) → folded_count ks k i ss ≡ folded_count ls k i ss
  unfolding folded_count
  folds-agree i [] h = refl
  folds-agree i (s ∷ ss) h =
      omega (arith, count-agree i s (h i (omega arith) (omega arith)), folds-agree (suc i) ss (λ m low high. h m (omega arith) (omega arith)))

  -- sets that agree on all sections but section j
  module _ (j : ℕ) (h : (m : ℕ) → m ≢ j → is_expanded ks k m ≡ is_expanded ls k m) where
    folds-but : (n i : ℕ) (ss : List Section) (s : Section) → i + n ≡ j → n < length ss → s ≡ get_or ss n s
        → folded_count ks k i ss + fold_count ls k j s ≡ folded_count ls k i ss + fold_count ks k j s
    unfolding folded_count
    folds-but n i [] s e within at = absurd (omega arith)
    folds-but zero i (x ∷ xs) s e within at =
        let here : i ≡ j = omega arith in
        let left : fold_count ks k i x ≡ fold_count ks k j s = ap (λ m. fold_count ks k m x) here ∙ ap (λ y. fold_count ks k j y) (sym at) in
        let right : fold_count ls k i x ≡ fold_count ls k j s = ap (λ m. fold_count ls k m x) here ∙ ap (λ y. fold_count ls k j y) (sym at) in
        omega (arith, left, right, folds-agree (suc i) xs (λ m low high. h m (omega arith)))
    folds-but (suc n) i (x ∷ xs) s e within at =
        omega (arith, count-agree i x (h i (omega arith)), folds-but n (suc i) xs s (omega arith) (omega arith) at)

    after-cases : (changed old new : Bool) (before after : ℕ) → new ≡ not old
        → after + (if changed && not old then 1 else 0) ≡ before + (if changed && not new then 1 else 0)
        → after ≡ (if changed then (if new then before - 1 else before + 1) else before)
    after-cases true true true before after flip e = absurd cc
    after-cases true false false before after flip e = absurd cc
    after-cases _ _ _ before after flip e = omega arith

    -- the number of folded sections steps by one
    pub folds-after : (ss : List Section) (s : Section) → j < length ss → s ≡ get_or ss j s → is_expanded ks k j ≡ not (is_expanded ls k j)
        → folded_count ks k 0 ss ≡ folded_after (folded_count ls k 0 ss) s (is_expanded ks k j)
    folds-after ss s within at flip =
        after-cases (is_changed s) (is_expanded ls k j) (is_expanded ks k j) (folded_count ls k 0 ss) (folded_count ks k 0 ss) flip (folds-but j 0 ss s (omega arith) within at)

pub folds-le : (ks : List SelectionKey) (k : FileKey) (i : ℕ) (ss : List Section) → folded_count ks k i ss ≤ length ss
unfolding folded_count
folds-le ks k i [] = omega arith
folds-le ks k i (s ∷ ss) = omega (arith, one-le (is_changed s && not (is_expanded ks k i)), folds-le ks k (suc i) ss)
