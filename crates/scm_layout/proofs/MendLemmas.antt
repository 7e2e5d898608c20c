-- The fold of one section: the rows above it stay, those of the section and of its neighbours change, and those below move.
use Rattle.std.proofs.Common.{◌≡◌, ◌≢◌, ℕ, zero, suc, ◌+◌, ◌-◌, ◌<◌, ◌≤◌, Bool, false, List, [], ◌∷◌, ◌++◌, length, map, take, drop, get_or, refl, ap, sym, subst, ◌∙◌, arith}
use Rattle.std.specs.Prelude.{nat_eq, if◌then◌else◌}
use Rattle.std.proofs.lemmas.List.{length-drop}
use Rattle.std.proofs.lemmas.Bool.Decides.{nat_tests}
use Rattle.scm_types.specs.declared.keys.FileKey.{FileKey}
use Rattle.scm_types.specs.declared.keys.SelectionKey.{SelectionKey}
use Rattle.scm_types.specs.declared.section.Section.{Section}
use Rattle.scm_layout.specs.declared.section_rows.SectionRows.{SectionRows}
use Rattle.scm_rows.specs.declared.section_shape.SectionShape.{SectionShape}
use Rattle.scm_rows.specs.Heights.{shape_of}
use Rattle.scm_layout.specs.Rows.{is_expanded, is_first_open, is_open, rows_at, sections_height, sections_rows, visible_height}
use Rattle.scm_layout.specs.Refolds.{AreBetween, height_from, is_open_above, moved_rows, rows_from}
use Rattle.scm_layout.specs.SectionStack.{first_or, moved_row, rows_by, shapes_of, tops_of}
use Rattle.scm_layout.proofs.ZipLemmas.{cut-at}
use Rattle.scm_layout.proofs.AgreeLemmas.{above-agree, first-heights, first-rows, rows-agree, same-rows}

no-more : (i : ℕ) → i ≡ i + 0
no-more i = omega arith

one-more : (i n : ℕ) → suc i + n ≡ i + suc n
one-more i n = omega arith

from-none : (n : ℕ) → 0 + n ≡ n
from-none n = omega arith

-- a row by its numbers
row_with : ℕ → ℕ → SectionShape → SectionRows
row_with top end shape = record { top = top; end = end; shape = shape }

-- ---- where sections begin, in parts of a list

pub tops-append : (rs qs : List SectionRows) → tops_of (rs ++ qs) ≡ tops_of rs ++ tops_of qs
tops-append [] qs = refl
tops-append (r ∷ rs) qs = ap (λ ts. r.top ∷ ts) (tops-append rs qs)

pub tops-take : (n : ℕ) (rs : List SectionRows) → take n (tops_of rs) ≡ tops_of (take n rs)
tops-take zero rs = refl
tops-take (suc n) [] = refl
tops-take (suc n) (r ∷ rs) = ap (λ ts. r.top ∷ ts) (tops-take n rs)

pub tops-drop : (n : ℕ) (rs : List SectionRows) → drop n (tops_of rs) ≡ tops_of (drop n rs)
tops-drop zero rs = refl
tops-drop (suc n) [] = refl
tops-drop (suc n) (r ∷ rs) = tops-drop n rs

tops-moved : (from to : ℕ) (rs : List SectionRows) → map (moved_row from to) (tops_of rs) ≡ tops_of (map (moved_rows from to) rs)
tops-moved from to [] = refl
tops-moved from to (r ∷ rs) = ap (λ ts. (to + (r.top - from)) ∷ ts) (tops-moved from to rs)

-- ---- the sections from section n on

module _ (ks : List SelectionKey) (k : FileKey) (total : ℕ) where
  -- the row on which section n begins, counted from section i on, or on which they end
  abbrev pub row_at : ℕ → ℕ → ℕ → Bool → List Section → ℕ
  row_at zero i top before ss = top
  row_at (suc n) i top before [] = top
  row_at (suc n) i top before (s ∷ ss) = row_at n (suc i) (top + visible_height ks k total i before s (is_first_open ks k (suc i) ss)) (is_open ks k i s) ss

  -- whether the section above it is open
  abbrev pub open_at : ℕ → ℕ → Bool → List Section → Bool
  open_at zero i before ss = before
  open_at (suc n) i before [] = before
  open_at (suc n) i before (s ∷ ss) = open_at n (suc i) (is_open ks k i s) ss

  pub drop-rows : (n i top : ℕ) (before : Bool) (ss : List Section)
      → drop n (sections_rows ks k total i top before ss) ≡ sections_rows ks k total (i + n) (row_at n i top before ss) (open_at n i before ss) (drop n ss)
  unfolding sections_rows
  drop-rows zero i top before ss = ap (λ j. sections_rows ks k total j top before ss) (no-more i)
  drop-rows (suc n) i top before [] = refl
  drop-rows (suc n) i top before (s ∷ ss) =
      let height = visible_height ks k total i before s (is_first_open ks k (suc i) ss) in
      drop-rows n (suc i) (top + height) (is_open ks k i s) ss
      ∙ ap (λ j. sections_rows ks k total j (row_at n (suc i) (top + height) (is_open ks k i s) ss) (open_at n (suc i) (is_open ks k i s) ss) (drop n ss)) (one-more i n)

  pub tops-at : (n i top : ℕ) (before : Bool) (ss : List Section) (d : ℕ) → n < length ss
      → get_or (tops_of (sections_rows ks k total i top before ss)) n d ≡ row_at n i top before ss
  unfolding sections_rows
  tops-at n i top before [] d h = absurd (omega arith)
  tops-at zero i top before (s ∷ ss) d h = refl
  tops-at (suc n) i top before (s ∷ ss) d h = tops-at n (suc i) (top + visible_height ks k total i before s (is_first_open ks k (suc i) ss)) (is_open ks k i s) ss d (omega arith)

  -- the first section from section n on begins there, or they end there
  pub first-from : (n i top : ℕ) (before : Bool) (ss : List Section)
      → first_or (drop n (tops_of (sections_rows ks k total i top before ss))) (top + sections_height ks k total i before ss) ≡ row_at n i top before ss
  unfolding sections_rows sections_height
  first-from zero i top before [] = omega arith
  first-from zero i top before (s ∷ ss) = refl
  first-from (suc n) i top before [] = omega arith
  first-from (suc n) i top before (s ∷ ss) =
      let height = visible_height ks k total i before s (is_first_open ks k (suc i) ss) in
      let tops = tops_of (sections_rows ks k total (suc i) (top + height) (is_open ks k i s) ss) in
      let whole : top + (height + sections_height ks k total (suc i) (is_open ks k i s) ss) ≡ top + height + sections_height ks k total (suc i) (is_open ks k i s) ss = omega arith in
      ap (first_or (drop n tops)) whole ∙ first-from n (suc i) (top + height) (is_open ks k i s) ss

  pub shapes-are : (i top : ℕ) (before : Bool) (ss : List Section) → shapes_of (sections_rows ks k total i top before ss) ≡ map shape_of ss
  unfolding sections_rows
  shapes-are i top before [] = refl
  shapes-are i top before (s ∷ ss) =
      ap (λ xs. shape_of s ∷ xs) (shapes-are (suc i) (top + visible_height ks k total i before s (is_first_open ks k (suc i) ss)) (is_open ks k i s) ss)

  -- rows by where they begin, where the last ones end, and what they are of
  pub rows-by : (i top : ℕ) (before : Bool) (ss : List Section)
      → sections_rows ks k total i top before ss ≡ rows_by (tops_of (sections_rows ks k total i top before ss)) (top + sections_height ks k total i before ss) (map shape_of ss)
  unfolding sections_rows sections_height row_with
  rows-by i top before [] = refl
  rows-by i top before (s ∷ ss) =
      let height = visible_height ks k total i before s (is_first_open ks k (suc i) ss) in
      let rest = sections_rows ks k total (suc i) (top + height) (is_open ks k i s) ss in
      let below = sections_height ks k total (suc i) (is_open ks k i s) ss in
      let whole : top + height + below ≡ top + (height + below) = omega arith in
      let ends : top + height ≡ first_or (tops_of rest) (top + (height + below)) =
      sym (first-from zero (suc i) (top + height) (is_open ks k i s) ss) ∙ ap (first_or (tops_of rest)) whole in
      ap (λ rs. rows_at top height (shape_of s) ∷ rs) (rows-by (suc i) (top + height) (is_open ks k i s) ss ∙ ap (λ n. rows_by (tops_of rest) n (map shape_of ss)) whole)
      ∙ ap (λ n. row_with top n (shape_of s) ∷ rows_by (tops_of rest) (top + (height + below)) (map shape_of ss)) ends

  open-next : (n i : ℕ) (before : Bool) (ss : List Section) → n < length ss → open_at (suc n) i before ss ≡ is_first_open ks k (i + n) (drop n ss)
  open-next n i before [] h = absurd (omega arith)
  open-next zero i before (s ∷ ss) h = ap (λ j. is_open ks k j s) (no-more i)
  open-next (suc n) i before (s ∷ ss) h = open-next n (suc i) (is_open ks k i s) ss (omega arith) ∙ ap (λ j. is_first_open ks k j (drop n ss)) (one-more i n)

  pub above-is : (n : ℕ) (ss : List Section) → n ≤ length ss → open_at n 0 false ss ≡ is_open_above ks k n ss
  above-is zero ss h = refl
  above-is (suc n) ss h =
      let same : 0 + n ≡ suc n - 1 = omega arith in
      let back : n ≡ suc n - 1 = omega arith in
      let some : nat_eq (suc n) 0 ≡ false = grind (arith, nat_tests) in
      open-next n 0 false ss (omega arith)
      ∙ ap (λ j. is_first_open ks k j (drop n ss)) same
      ∙ ap (λ j. is_first_open ks k (suc n - 1) (drop j ss)) back
      ∙ sym (ap (λ b. if b then false else is_first_open ks k (suc n - 1) (drop (suc n - 1) ss)) some)

  -- the section above the next one
  pub above-next : (i : ℕ) (ss : List Section) (s : Section) → i < length ss → s ≡ get_or ss i s → is_open ks k i s ≡ is_open_above ks k (i + 1) ss
  above-next i ss s h at =
      let some : nat_eq (i + 1) 0 ≡ false = grind (arith, nat_tests) in
      let same : i ≡ i + 1 - 1 = omega arith in
      ap (λ xs. is_first_open ks k i xs) (sym (cut-at ss i s h at))
      ∙ ap (λ j. is_first_open ks k j (drop j ss)) same
      ∙ sym (ap (λ b. if b then false else is_first_open ks k (i + 1 - 1) (drop (i + 1 - 1) ss)) some)

  -- rows that move
  rows_with : ℕ → ℕ → SectionShape → SectionRows
  rows_with top end shape = record { top = top; end = end; shape = shape }

  moved-at : (from to n top new h : ℕ) (shape : SectionShape) → top ≡ from + n → new ≡ to + n → moved_rows from to (rows_at top h shape) ≡ rows_at new h shape
  unfolding rows_with
  moved-at from to n top new h shape e f =
      let tops : to + (top - from) ≡ new = omega arith in
      let ends : to + (top + h - from) ≡ new + h = omega arith in
      ap (λ m. rows_with m (to + (top + h - from)) shape) tops ∙ ap (λ m. rows_with new m shape) ends

  pub moved : (from to n i top new : ℕ) (before : Bool) (ss : List Section) → top ≡ from + n → new ≡ to + n
      → map (moved_rows from to) (sections_rows ks k total i top before ss) ≡ sections_rows ks k total i new before ss
  unfolding sections_rows
  moved from to n i top new before [] e f = refl
  moved from to n i top new before (s ∷ ss) e f =
      let height = visible_height ks k total i before s (is_first_open ks k (suc i) ss) in
      ap (λ r. r ∷ map (moved_rows from to) (sections_rows ks k total (suc i) (top + height) (is_open ks k i s) ss)) (moved-at from to n top new height (shape_of s) e f)
      ∙ ap (λ rs. rows_at new height (shape_of s) ∷ rs) (moved from to (n + height) (suc i) (top + height) (new + height) (is_open ks k i s) ss (omega arith) (omega arith))

  pub between-tops : (from until i top : ℕ) (before : Bool) (ss : List Section) → from ≤ top → top + sections_height ks k total i before ss ≤ until
      → AreBetween from until (tops_of (sections_rows ks k total i top before ss))
  unfolding sections_rows sections_height
  between-tops from until i top before [] low high = tt
  between-tops from until i top before (s ∷ ss) low high =
      let height = visible_height ks k total i before s (is_first_open ks k (suc i) ss) in
      (low, omega arith, between-tops from until (suc i) (top + height) (is_open ks k i s) ss (omega arith) (omega arith))

-- ---- sets that agree on all sections but section j

module _ (ks ls : List SelectionKey) (k : FileKey) (total j : ℕ) (h : (m : ℕ) → m ≢ j → is_expanded ks k m ≡ is_expanded ls k m) where
  -- the rows of the sections before the section above section j are the same
  rows-but : (n i top : ℕ) (before : Bool) (ss : List Section) → i + n ≤ j - 1
      → take n (sections_rows ls k total i top before ss) ++ sections_rows ks k total (i + n) (row_at ls k total n i top before ss) (open_at ls k total n i before ss) (drop n ss)
      ≡ sections_rows ks k total i top before ss
  unfolding sections_rows
  rows-but zero i top before ss low = ap (λ m. sections_rows ks k total m top before ss) (sym (no-more i))
  rows-but (suc n) i top before [] low = refl
  rows-but (suc n) i top before (s ∷ ss) low =
      let height = visible_height ls k total i before s (is_first_open ls k (suc i) ss) in
      let is_above = is_open ls k i s in
      ap (λ m. rows_at top height (shape_of s) ∷ (take n (sections_rows ls k total (suc i) (top + height) is_above ss) ++ sections_rows ks k total m (row_at ls k total n (suc i) (top + height) is_above ss) (open_at ls k total n (suc i) is_above ss) (drop n ss))) (sym (one-more i n))
      ∙ ap (λ rs. rows_at top height (shape_of s) ∷ rs) (rows-but n (suc i) (top + height) is_above ss (omega arith))
      ∙ sym (first-rows ks ls k total i before s ss (h i (omega arith)) (λ some. h (suc i) (omega arith)) top)

  height-but : (n i top : ℕ) (before : Bool) (ss : List Section) → i + n ≤ j - 1
      → row_at ls k total n i top before ss + sections_height ks k total (i + n) (open_at ls k total n i before ss) (drop n ss) ≡ top + sections_height ks k total i before ss
  unfolding sections_height
  height-but zero i top before ss low = ap (λ m. top + sections_height ks k total m before ss) (sym (no-more i))
  height-but (suc n) i top before [] low = refl
  height-but (suc n) i top before (s ∷ ss) low =
      let height = visible_height ls k total i before s (is_first_open ls k (suc i) ss) in
      let is_above = is_open ls k i s in
      let first = first-heights ks ls k total i before s ss (h i (omega arith)) (λ some. h (suc i) (omega arith)) in
      ap (λ m. row_at ls k total n (suc i) (top + height) is_above ss + sections_height ks k total m (open_at ls k total n (suc i) is_above ss) (drop n ss)) (sym (one-more i n))
      ∙ omega (arith, height-but n (suc i) (top + height) is_above ss (omega arith), first)

-- where the sections from section n on begin, and how many rows they have
pub height-at : (ks : List SelectionKey) (k : FileKey) (total n i top : ℕ) (before : Bool) (ss : List Section)
    → row_at ks k total n i top before ss + sections_height ks k total (i + n) (open_at ks k total n i before ss) (drop n ss) ≡ top + sections_height ks k total i before ss
height-at ks k total n i top before ss = height-but ks ks k total (i + n + 1) (λ m other. refl) n i top before ss (omega arith)

tail-agree : (ks ls : List SelectionKey) (k : FileKey) (total end top j : ℕ) (above below : Bool) (xs : List Section) → ((m : ℕ) → m ≢ j → is_expanded ks k m ≡ is_expanded ls k m)
    → (0 < length xs → (j < end) × (below ≡ above)) → sections_rows ls k total end top below xs ≡ sections_rows ks k total end top above xs
unfolding sections_rows
tail-agree ks ls k total end top j above below [] h some = refl
tail-agree ks ls k total end top j above below (x ∷ xs) h some =
    let facts : (j < end) × (below ≡ above) = some (omega arith) in
    let past : j < end = facts.0 in
    ap (λ b. sections_rows ls k total end top b (x ∷ xs)) facts.1
    ∙ sym (rows-agree ks ls k total end top above (x ∷ xs) (λ m low high. h m (omega arith)))

-- ---- the rows after the fold of section j

module _ (ks ls : List SelectionKey) (k : FileKey) (ss : List Section) (j : ℕ) (h : (m : ℕ) → m ≢ j → is_expanded ks k m ≡ is_expanded ls k m) where
  -- what stays, and what follows it
  module _ (first top : ℕ) (low : first ≤ j - 1) (within : first ≤ length ss) (at : top ≡ row_at ls k (length ss) first 0 0 false ss) where
    above : open_at ls k (length ss) first 0 false ss ≡ is_open_above ks k first ss
    above = above-is ls k (length ss) first ss within ∙ sym (above-agree ks ls k first ss (λ some. h (first - 1) (omega arith)))

    pub front-rows : take first (sections_rows ls k (length ss) 0 0 false ss) ++ rows_from ks k first top ss ≡ sections_rows ks k (length ss) 0 0 false ss
    front-rows =
        let kept = take first (sections_rows ls k (length ss) 0 0 false ss) in
        ap (λ m. kept ++ sections_rows ks k (length ss) first m (is_open_above ks k first ss) (drop first ss)) at
        ∙ ap (λ b. kept ++ sections_rows ks k (length ss) first (row_at ls k (length ss) first 0 0 false ss) b (drop first ss)) (sym above)
        ∙ ap (λ m. kept ++ sections_rows ks k (length ss) m (row_at ls k (length ss) first 0 0 false ss) (open_at ls k (length ss) first 0 false ss) (drop first ss)) (sym (from-none first))
        ∙ rows-but ks ls k (length ss) j h first 0 0 false ss (omega arith)

    pub front-height : top + height_from ks k first ss ≡ sections_height ks k (length ss) 0 false ss
    front-height =
        ap (λ b. top + sections_height ks k (length ss) first b (drop first ss)) (sym above)
        ∙ ap (λ m. top + sections_height ks k (length ss) m (open_at ls k (length ss) first 0 false ss) (drop first ss)) (sym (from-none first))
        ∙ omega (arith, at, height-but ks ls k (length ss) j h first 0 0 false ss (omega arith))

  -- what moves
  module _ (end from : ℕ) (within : end ≤ length ss) (at : from ≡ row_at ls k (length ss) end 0 0 false ss) where
    rest : drop end (sections_rows ls k (length ss) 0 0 false ss) ≡ sections_rows ls k (length ss) end from (is_open_above ls k end ss) (drop end ss)
    rest =
        drop-rows ls k (length ss) end 0 0 false ss
        ∙ ap (λ m. sections_rows ls k (length ss) m (row_at ls k (length ss) end 0 0 false ss) (open_at ls k (length ss) end 0 false ss) (drop end ss)) (from-none end)
        ∙ ap (λ m. sections_rows ls k (length ss) end m (open_at ls k (length ss) end 0 false ss) (drop end ss)) (sym at)
        ∙ ap (λ b. sections_rows ls k (length ss) end from b (drop end ss)) (above-is ls k (length ss) end ss within)

    rest-height : from + sections_height ls k (length ss) end (is_open_above ls k end ss) (drop end ss) ≡ sections_height ls k (length ss) 0 false ss
    rest-height =
        ap (λ b. from + sections_height ls k (length ss) end b (drop end ss)) (sym (above-is ls k (length ss) end ss within))
        ∙ ap (λ m. from + sections_height ls k (length ss) m (open_at ls k (length ss) end 0 false ss) (drop end ss)) (sym (from-none end))
        ∙ omega (arith, at, height-at ls k (length ss) end 0 0 false ss)

    pub rest-between : (until : ℕ) → sections_height ls k (length ss) 0 false ss ≤ until → AreBetween from until (tops_of (drop end (sections_rows ls k (length ss) 0 0 false ss)))
    rest-between until high =
        subst (λ rs. AreBetween from until (tops_of rs)) (sym rest)
        (between-tops ls k (length ss) from until end from (is_open_above ls k end ss) (drop end ss) (omega arith) (omega (arith, rest-height)))

    tail-same : (to : ℕ) → (end < length ss → j + 2 ≤ end)
        → sections_rows ls k (length ss) end to (is_open_above ls k end ss) (drop end ss) ≡ sections_rows ks k (length ss) end to (is_open_above ks k end ss) (drop end ss)
    tail-same to past =
        tail-agree ks ls k (length ss) end to j (is_open_above ks k end ss) (is_open_above ls k end ss) (drop end ss) h
        (λ some. let more : end < length ss = omega (arith, length-drop end ss) in
        let beyond : j + 2 ≤ end = past more in
        (omega arith, sym (above-agree ks ls k end ss (λ _. h (end - 1) (omega arith)))))

    -- they have as many rows as before
    pub rest-tall : (end < length ss → j + 2 ≤ end) → from + height_from ks k end ss ≡ sections_height ls k (length ss) 0 false ss
    rest-tall past =
        ap (λ n. from + n)
        (same-rows ks ls k (length ss) end 0 (is_open_above ks k end ss) (is_open_above ls k end ss) (drop end ss) (drop end ss) (sym (tail-same 0 past)))
        ∙ rest-height

    pub rest-moved : (to : ℕ) → (end < length ss → j + 2 ≤ end) → map (moved_rows from to) (drop end (sections_rows ls k (length ss) 0 0 false ss)) ≡ rows_from ks k end to ss
    rest-moved to past =
        ap (λ rs. map (moved_rows from to) rs) rest
        ∙ moved ls k (length ss) from to 0 end from to (is_open_above ls k end ss) (drop end ss) (omega arith) (omega arith)
        ∙ tail-same to past

  -- where sections begin after those around section j were found anew, and those below them moved
  pub mended : (tops mid new : List ℕ) (first end top from to : ℕ) → tops ≡ tops_of (sections_rows ls k (length ss) 0 0 false ss)
      → first ≤ j - 1 → first ≤ length ss → end ≤ length ss → (end < length ss → j + 2 ≤ end)
      → top ≡ row_at ls k (length ss) first 0 0 false ss → from ≡ row_at ls k (length ss) end 0 0 false ss
      → take end mid ++ tops_of (rows_from ks k end to ss) ≡ take first tops ++ tops_of (rows_from ks k first top ss) → drop end mid ≡ drop end tops
      → new ≡ take end mid ++ map (moved_row from to) (drop end mid)
      → new ≡ tops_of (sections_rows ks k (length ss) 0 0 false ss)
  mended tops mid new first end top from to is low within inside past at ends anew others moves =
      let rows = sections_rows ls k (length ss) 0 0 false ss in
      let last : drop end mid ≡ tops_of (drop end rows) = others ∙ ap (λ ts. drop end ts) is ∙ tops-drop end rows in
      moves
      ∙ ap (λ ts. take end mid ++ map (moved_row from to) ts) last
      ∙ ap (λ ts. take end mid ++ ts) (tops-moved from to (drop end rows) ∙ ap (λ rs. tops_of rs) (rest-moved end from inside ends to past))
      ∙ anew
      ∙ ap (λ ts. take first ts ++ tops_of (rows_from ks k first top ss)) is
      ∙ ap (λ ts. ts ++ tops_of (rows_from ks k first top ss)) (tops-take first rows)
      ∙ sym (tops-append (take first rows) (rows_from ks k first top ss))
      ∙ ap (λ rs. tops_of rs) (front-rows first top low within at)
