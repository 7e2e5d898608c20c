use Rattle.std.proofs.Common.{◌≡◌, ℕ, suc, ◌+◌, ◌-◌, ◌<◌, ◌≤◌, List, [], ◌∷◌, ◌++◌, length, take, drop, set, slice_range, map, replicate, append-nil, append_assoc, get_or, take_all, length-drop, length-take-le, take_at, drop_at, refl, sym, ap, ap₂, ◌∙◌, arith, nat_le, cond, true, false, add-one}
use Rattle.std.proofs.lemmas.Bool.Decides.{nat_tests}
use Rattle.std.proofs.lemmas.List.{map_more, drop_all, drop-drop}
use borrow.Rule.Slice.PartMut.{put_mid}
use Rattle.std.specs.List.{concat}
use Rattle.scm_cells.specs.Cell.{Cell, blank}
use Rattle.scm_cells.specs.Row.{later_cells, cells_of, whole_before, whole_after, overlay, row_text}
use Rattle.scm_cells.proofs.MapFrom.{map_from}

-- ---- what the loops over columns write

abbrev pub cleared : ℕ → Cell → Cell
cleared i c = blank

abbrev pub continued : ℕ → ℕ → Cell → Cell
continued width i c = record { symbol = []; width = width; offset = i + 1 }

abbrev pub kept_before : ℕ → ℕ → Cell → Cell
kept_before n i c = cond (nat_le (c.width - c.offset) (n - i)) c blank

abbrev pub kept_after : ℕ → Cell → Cell
kept_after i c = cond (nat_le c.offset i) c blank

pub all-cleared : (i : ℕ) (xs : List Cell) → map_from cleared i xs ≡ replicate (length xs) blank
all-cleared i [] = refl
all-cleared i (x ∷ xs) = ap (λ t. blank ∷ t) (all-cleared (suc i) xs)

continued-from : (width i k : ℕ) (xs : List Cell) → k ≡ i + 1 → map_from (continued width) i xs ≡ later_cells width k (length xs)
unfolding later_cells
continued-from width i k [] e = refl
continued-from width i k (x ∷ xs) e =
    rw (sym e) (ap (λ t. record { symbol = []; width = width; offset = k } ∷ t) (continued-from width (suc i) (k + 1) xs (omega arith)))

pub all-continued : (width : ℕ) (xs : List Cell) → map_from (continued width) 0 xs ≡ later_cells width 1 (length xs)
all-continued width xs = continued-from width 0 1 xs refl

kept_before-from : (n i : ℕ) (xs : List Cell) → n ≡ i + length xs → map_from (kept_before n) i xs ≡ whole_before xs
unfolding whole_before
kept_before-from n i [] e = refl
kept_before-from n i (x ∷ xs) e =
    let left : n - i ≡ length xs + 1 = omega arith in
    rw left (ap (λ t. cond (nat_le (x.width - x.offset) (length xs + 1)) x blank ∷ t) (kept_before-from n (suc i) xs (omega arith)))

pub all-kept_before : (n : ℕ) (xs : List Cell) → n ≡ length xs → map_from (kept_before n) 0 xs ≡ whole_before xs
all-kept_before n xs e = kept_before-from n 0 xs (omega arith)

pub all-kept_after : (i : ℕ) (xs : List Cell) → map_from kept_after i xs ≡ whole_after i xs
unfolding whole_after
all-kept_after i [] = refl
all-kept_after i (x ∷ xs) = rw add-one (ap (λ t. cond (nat_le x.offset i) x blank ∷ t) (all-kept_after (suc i) xs))

-- ---- the two outcomes of a test in a loop

pub before-cut : (n i : ℕ) (c : Cell) → n - i < c.width - c.offset → blank ≡ kept_before n i c
before-cut n i c h = let e : nat_le (c.width - c.offset) (n - i) ≡ false = grind (arith, nat_tests) in rw e refl

pub before-whole : (n i : ℕ) (c : Cell) → c.width - c.offset ≤ n - i → c ≡ kept_before n i c
before-whole n i c h = let e : nat_le (c.width - c.offset) (n - i) ≡ true = grind (arith, nat_tests) in rw e refl

pub after-cut : (i : ℕ) (c : Cell) → i < c.offset → blank ≡ kept_after i c
after-cut i c h = let e : nat_le c.offset i ≡ false = grind (arith, nat_tests) in rw e refl

pub after-whole : (i : ℕ) (c : Cell) → c.offset ≤ i → c ≡ kept_after i c
after-whole i c h = let e : nat_le c.offset i ≡ true = grind (arith, nat_tests) in rw e refl

pub continued-at : (width i k : ℕ) (c : Cell) → k ≡ i + 1 → record { symbol = []; width = width; offset = k } ≡ continued width i c
continued-at width i k c e = rw e refl

-- ---- a symbol on its columns

-- a symbol of one column
pub one_cell : (xs : List Cell) (y : Cell) (s : List ℕ) → length xs ≡ 1 → y ≡ record { symbol = s; width = length xs; offset = 0 } → set xs 0 y ≡ cells_of (s, length xs)
unfolding cells_of later_cells
one_cell [] y s e f = absurd (omega (arith, e))
one_cell (x ∷ []) y s e f = ap (λ c. c ∷ []) f
one_cell (x ∷ (z ∷ xs)) y s e f = absurd (omega (arith, e))

-- a symbol's first column, and then the later ones over the rest
pub first-then_rest : (xs ys : List Cell) (y : Cell) (s : List ℕ) (k m : ℕ) → 0 < length xs → k ≡ length (set xs 0 y) - 1 → y ≡ record { symbol = s; width = length xs; offset = 0 }
    → ys ≡ later_cells (length xs) 1 m → m ≡ length xs - 1 → put_mid 1 k (set xs 0 y) ys ≡ cells_of (s, length xs)
unfolding cells_of
first-then_rest [] ys y s k m h e f l n = absurd (omega arith)
first-then_rest (x ∷ xs) ys y s k m h e f l n =
    let none : drop k xs ≡ [] = drop_all k xs (omega arith) in
    rw (none, append-nil ys, f, l, n) refl

-- ---- cells over a row

pub overlay-none : (row : List Cell) (from : ℕ) (cells : List Cell) → length cells ≡ 0 → overlay row from cells ≡ row
unfolding overlay
overlay-none row from [] e = refl
overlay-none row from (c ∷ cs) e = cc

overlay-some : (row : List Cell) (from : ℕ) (cells : List Cell) → 0 < length cells
    → overlay row from cells ≡ whole_before (take from row) ++ (cells ++ whole_after 0 (drop (from + length cells) row))
unfolding overlay
overlay-some row from [] h = absurd (omega arith)
overlay-some row from (c ∷ cs) h = refl

-- a list that was cut in three parts
pub take-middle : (a m d : List Cell) (from end : ℕ) → length a ≡ from → length m ≡ end - from → slice_range (a ++ (m ++ d)) from end ≡ m
take-middle a m d from end p q = ap (take (end - from)) (drop_at a (m ++ d) from p) ∙ take_at m d (end - from) q

pub drop-middle : (a m d : List Cell) (from end : ℕ) → from ≤ end → length a ≡ from → length m ≡ end - from → drop end (a ++ (m ++ d)) ≡ d
drop-middle a m d from end h p q =
    let there : from + (end - from) ≡ end = omega arith in
    sym (drop-drop (end - from) from (a ++ (m ++ d)) ∙ ap (λ n. drop n (a ++ (m ++ d))) there)
    ∙ ap (drop (end - from)) (drop_at a (m ++ d) from p) ∙ drop_at m d (end - from) q

-- cells over some columns, where the others were mended
pub over-mended : (row mended cells : List Cell) (from end : ℕ) → from < end → length cells ≡ end - from
    → take from mended ≡ whole_before (take from row) → drop end mended ≡ whole_after 0 (drop end row) → put_mid from (end - from) mended cells ≡ overlay row from cells
over-mended row mended cells from end h size p q =
    let there : from + (end - from) ≡ end = omega arith in
    let place : from + length cells ≡ end = omega arith in
    let last : drop (end - from) (drop from mended) ≡ whole_after 0 (drop (from + length cells) row) =
    drop-drop (end - from) from mended ∙ ap (λ n. drop n mended) there ∙ q ∙ ap (λ n. whole_after 0 (drop n row)) (sym place) in
    ap₂ (λ a b. a ++ (cells ++ b)) p last ∙ sym (overlay-some row from cells (omega arith))

pub length-between : (xs : List Cell) (from end : ℕ) → end ≤ length xs → length (slice_range xs from end) ≡ end - from
length-between xs from end h = length-take-le (end - from) (drop from xs) (omega (arith, length-drop from xs))

-- ---- a row as text

abbrev pub symbols : List Cell → List (List ℕ)
symbols xs = map (λ c. c.symbol) xs

-- ---- its parts

concat-append : (xs ys : List (List ℕ)) → concat (xs ++ ys) ≡ concat xs ++ concat ys
concat-append [] ys = refl
concat-append (x ∷ xs) ys = ap (λ t. x ++ t) (concat-append xs ys) ∙ sym (append_assoc x (concat xs) (concat ys))

pub row_text-none : (xs : List Cell) → length xs ≡ 0 → row_text xs ≡ []
unfolding row_text
row_text-none [] e = refl
row_text-none (x ∷ xs) e = cc

row_text-some : (xs : List Cell) → 0 < length xs → row_text xs ≡ 34 ∷ (concat (symbols xs) ++ 34 ∷ (10 ∷ []))
unfolding row_text
row_text-some [] h = absurd (omega arith)
row_text-some (x ∷ xs) h = refl

-- one more symbol
pub symbols-more : (text from : List ℕ) (xs : List Cell) (i : ℕ) (d : Cell) (new symbol : List ℕ) → i < length xs → text ≡ from ++ 34 ∷ concat (symbols (take i xs))
    → symbol ≡ (get_or xs i d).symbol → new ≡ text ++ symbol → new ≡ from ++ 34 ∷ concat (symbols (take (i + 1) xs))
symbols-more text from xs i d new symbol h e s n =
    let more : concat (symbols (take (i + 1) xs)) ≡ concat (symbols (take i xs)) ++ symbol =
    ap concat (map_more (λ (c : Cell). c.symbol) xs i d h) ∙ concat-append (symbols (take i xs)) _ ∙ ap (λ t. concat (symbols (take i xs)) ++ t) (append-nil _ ∙ sym s) in
    rw (n, e, more, append_assoc) refl

pub row_text-made : (text from new : List ℕ) (xs : List Cell) (i : ℕ) → 0 < length xs → length xs ≤ i → text ≡ from ++ 34 ∷ concat (symbols (take i xs)) → new ≡ text ++ 34 ∷ (10 ∷ [])
    → new ≡ from ++ row_text xs
row_text-made text from new xs i h le e n = rw (n, e, take_all i xs le, row_text-some xs h, append_assoc) refl
