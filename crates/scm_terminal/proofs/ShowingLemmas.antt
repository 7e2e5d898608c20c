-- Cells that show a row of a grid, column by column, and rows of a size.
use Rattle.std.proofs.Common.{◌≡◌, ℕ, ◌+◌, ◌<◌, Bool, true, false, ◌&&◌, ◌==◌, List, length, ◌≤◌, get_or, map, refl, sym, ap, subst, ◌∙◌, ⊎_elim, Option, arith, IsTrue}
use Rattle.std.specs.Prelude.{◌↔◌}
use Rattle.std.specs.List.{All, range_with_len}
use Rattle.std.proofs.lemmas.Bool.{and_parts, cases_lt}
use Rattle.std.proofs.lemmas.Bool.Decides.{nat_tests}
use Rattle.std.proofs.lemmas.List.{get_or_default, get_or-map, length-map}
use Rattle.std.proofs.lemmas.List.Elements.{All-map}
use Rattle.std.proofs.lemmas.List.FromFn.{get_or-map-range_with_len, length-map-range_with_len, fill_by_all}
use Rattle.scm_cells.specs.Screen.{Screen}
use Rattle.scm_cells.specs.Symbols.{symbol_at}
use Rattle.scm_cells.specs.declared.style.Style.{Style}
use Rattle.scm_terminal.specs.Style.{plain_style}
use Rattle.scm_terminal.specs.StyledCell.{StyledCell, Later, HasSize, cell_at, cell_in, cell_of, row_in, row_of_styles, styled_row}

-- a cell that shows something else is one of a row that does
pub differs : (f : ℕ → StyledCell) (cells : List StyledCell) (n column : ℕ) (p q : StyledCell) (b : Bool) → column < length cells → length cells ≡ n → p ≡ get_or cells column p → q ≡ f column
    → (IsTrue b ↔ (p ≡ q)) → b ≡ false → (IsTrue false ↔ (cells ≡ map f (range_with_len 0 n)))
differs f cells n column p q b h size read e says not = (
  λ t. absurd (cc),
  λ same. let zero : 0 + column ≡ column = omega arith in
      let is : p ≡ q = read ∙ ap (λ ps. get_or ps column p) same ∙ get_or-map-range_with_len f 0 n column column p (omega arith) zero ∙ sym e in
      let yes : b ≡ true = says.1 is in
      absurd (cc),
)

-- a place before another, or behind it
pub by-place : {P : Type 0} (k i : ℕ) → (k < i → P) → (i ≤ k → P) → P
by-place k i before behind = ⊎_elim before behind (cases_lt k i)

-- what a place shows, read from the lists
pub one-place : (symbol : ℕ → Option (List ℕ)) (cells : List StyledCell) (styles : List Style) (k i : ℕ) (cell : StyledCell) (style : Style) → i ≤ k → i < length cells → i < length styles → k < i + 1
    → cell ≡ get_or cells i cell → style ≡ get_or styles i style → cell ≡ cell_of (symbol i) style → get_or cells k Later ≡ cell_of (symbol k) (get_or styles k plain_style)
one-place symbol cells styles k i cell style low within wide high read look shows =
    let same : k ≡ i = omega arith in
    let here : get_or cells i Later ≡ cell_of (symbol i) (get_or styles i plain_style) =
    get_or_default cells i Later cell within ∙ sym read ∙ shows ∙ ap (cell_of (symbol i)) (look ∙ get_or_default styles i style plain_style wide) in
    subst (λ (n : ℕ). get_or cells n Later ≡ cell_of (symbol n) (get_or styles n plain_style)) (sym same) here

pub all_shown : (f : ℕ → StyledCell) (cells : List StyledCell) (n : ℕ) → length cells ≡ n → ((k : ℕ) → k < n → get_or cells k Later ≡ f k) → cells ≡ map f (range_with_len 0 n)
all_shown f cells n size shown = fill_by_all f cells n Later size shown

-- the styles of a row, asked for at once, are those of its places
pub row-styled : (style : ℕ → ℕ → Style) (grid : Screen) (row : ℕ) (styles : List Style) → styles ≡ row_of_styles style row grid.width → row_in styles grid row ≡ styled_row style grid row
row-styled style grid row styles e =
    fill_by_all (cell_at style grid row) (row_in styles grid row) grid.width Later
    (length-map-range_with_len (cell_in styles grid row) 0 grid.width)
    (λ k within. get_or-map-range_with_len (cell_in styles grid row) 0 grid.width k k Later within (omega arith)
    ∙ ap (cell_of (symbol_at grid.rows row k)) (ap (λ (ss : List Style). get_or ss k plain_style) e ∙ get_or-map-range_with_len (style row) 0 grid.width k k plain_style within (omega arith)))

-- ---- rows of a size

All-unmap : {X Y : Type 0} (P : Y → Type 0) (f : X → Y) (xs : List X) → All P (map f xs) → All (λ x. P (f x)) xs
All-unmap P f xs all k d h = subst P (get_or-map f xs k d (f d) h) (all k (f d) (let size = length-map xs f in omega arith))

abbrev pub IsWide : ℕ → List StyledCell → Type 0
IsWide width row = length row ≡ width

pub sized : {X : Type 0} (f : X → List StyledCell) (xs : List X) (width height : ℕ) (a : Bool) → (IsTrue a ↔ All (λ x. length (f x) ≡ width) xs)
    → (IsTrue (a && (length xs == height)) ↔ HasSize width height (map f xs))
sized f xs width height a says = (
  λ t. let parts = and_parts a (length xs == height) t in
      let high : length xs ≡ height = let e = parts.1 in grind (arith, nat_tests) in
      record { high = length-map xs f ∙ high; all_wide = All-map (IsWide width) f xs (says.0 parts.0) },
  λ size. both a (length xs == height) (says.1 (All-unmap (IsWide width) f xs size.all_wide)) (let e : length xs ≡ height = sym (length-map xs f) ∙ size.high in grind (arith, nat_tests)),
)
  where
    both : (a b : Bool) → a ≡ true → b ≡ true → (a && b) ≡ true
    both a b h g = rw (h, g) refl
