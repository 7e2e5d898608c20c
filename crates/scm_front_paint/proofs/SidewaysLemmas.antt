-- Views sideways.
use Rattle.std.proofs.Common.{◌≡◌, ℕ, zero, suc, ◌+◌, ◌-◌, ◌<◌, ◌≤◌, nat_lt, Bool, true, false, List, [], ◌∷◌, length, drop, map, get_or, refl, sym, ap, ◌∙◌, subst, arith, Option, Some, inl, inr}
use Rattle.std.specs.Prelude.{slice_get, if◌then◌else◌}
use Rattle.std.specs.List.{flat_map, range_with_len}
use Rattle.std.specs.Option.{option_and_then}
use Rattle.std.proofs.lemmas.Bool.{cases_lt}
use Rattle.std.proofs.lemmas.Bool.Decides.{nat_tests}
use Rattle.std.proofs.lemmas.List.{get_or-map, get_or-drop, length-map, length-drop, ext_get_or}
use Rattle.std.proofs.lemmas.List.Elements.{All-get_or, All-from_get_or}
use Rattle.std.proofs.lemmas.List.FromFn.{length-range_with_len, get_or-range_with_len}
use Rattle.std.proofs.lemmas.Option.{slice_get-get_or}
use Rattle.scm_cells.specs.Cell.{Cell}
use Rattle.scm_cells.specs.Cluster.{Cluster}
use Rattle.scm_cells.specs.Row.{IsWhole, cells_of}
use Rattle.scm_cells.specs.Screen.{Screen, IsScreen}
use Rattle.scm_cells.specs.Symbols.{symbol_at, symbol_in}
use Rattle.scm_cells.specs.declared.style.Style.{Style}
use Rattle.scm_terminal.specs.StyledCell.{StyledCell, First, Later, cell_of, cell_at, styled_row, picture, laters, HasSize}
use Rattle.scm_front_paint.specs.Symbols.{Symbols, symbols_of}
use Rattle.scm_front_paint.specs.Sideways.{with_blank_front, styled_symbols, sideways_row, sideways_row_of, sideways_picture}
use Rattle.scm_front_paint.specs.Cut.{IsLead, IsCutRow, IsCut, cut_symbol}

-- the numbers from 0 on
pub in-range : (n k : ℕ) → k < n → get_or (range_with_len 0 n) k 0 ≡ k
in-range n k h = get_or-range_with_len 0 n k 0 h ∙ (let e : 0 + k ≡ k = omega arith in e)

abbrev pub blank_in : Style → StyledCell
blank_in style = First (32 ∷ []) style

pub length-front : (style : ℕ → Style) (x : ℕ) (cells : List StyledCell) → length (with_blank_front style x cells) ≡ length cells
length-front style x [] = refl
length-front style x (Later ∷ cells) = ap suc (length-front style (x + 1) cells)
length-front style x (First symbol own ∷ cells) = refl

-- a column of a symbol that begins further left, and any other column
pub front-below : (style : ℕ → Style) (x : ℕ) (cells : List StyledCell) (c : ℕ) → c < laters cells → get_or (with_blank_front style x cells) c Later ≡ blank_in (style (x + c))
front-below style x [] c h = absurd (omega arith)
front-below style x (First symbol own ∷ cells) c h = absurd (omega arith)
front-below style x (Later ∷ cells) zero h = ap (λ (n : ℕ). blank_in (style n)) (let e : x ≡ x + 0 = omega arith in e)
front-below style x (Later ∷ cells) (suc c) h =
    front-below style (x + 1) cells c (omega arith) ∙ ap (λ (n : ℕ). blank_in (style n)) (let e : x + 1 + c ≡ x + suc c = omega arith in e)

pub front-past : (style : ℕ → Style) (x : ℕ) (cells : List StyledCell) (c : ℕ) → laters cells ≤ c → get_or (with_blank_front style x cells) c Later ≡ get_or cells c Later
front-past style x [] c h = refl
front-past style x (First symbol own ∷ cells) c h = refl
front-past style x (Later ∷ cells) zero h = absurd (omega arith)
front-past style x (Later ∷ cells) (suc c) h = front-past style (x + 1) cells c (omega arith)

-- the number of later columns before the next symbol
pub laters-are : (cells : List StyledCell) (lead : ℕ) → lead ≤ length cells → ((c : ℕ) → c < lead → get_or cells c Later ≡ Later)
    → (lead < length cells → (symbol : List ℕ) × ((style : Style) × (get_or cells lead Later ≡ First symbol style))) → laters cells ≡ lead
laters-are [] lead h none next = omega arith
laters-are (Later ∷ cells) zero h none next = let n = next (omega arith) in absurd (cc n.1.1)
laters-are (Later ∷ cells) (suc lead) h none next =
    ap suc (laters-are cells lead (omega arith) (λ c below. none (suc c) (omega arith)) (λ below. next (omega arith)))
laters-are (First symbol own ∷ cells) zero h none next = refl
laters-are (First symbol own ∷ cells) (suc lead) h none next = let n = none 0 (omega arith) in absurd (cc n)

module _ (style : ℕ → ℕ → Style) (s : Symbols) (x row : ℕ) where
  abbrev cell_of_column : ℕ → StyledCell
  cell_of_column column = cell_of (s.at row column) (style row column)

  abbrev columns : List StyledCell
  columns = drop x (styled_symbols style s row)

  length-columns : length columns ≡ s.width - x
  length-columns =
      length-drop x (styled_symbols style s row)
      ∙ ap (λ (n : ℕ). n - x) (length-map (range_with_len 0 s.width) cell_of_column ∙ length-range_with_len 0 s.width)

  column-is : (c : ℕ) → c < s.width - x → get_or columns c Later ≡ cell_of_column (x + c)
  column-is c h =
      let inside : x + c < length (range_with_len 0 s.width) = subst (λ (n : ℕ). x + c < n) (sym (length-range_with_len 0 s.width)) (omega arith) in
      get_or-drop x (styled_symbols style s row) c Later
      ∙ get_or-map cell_of_column (range_with_len 0 s.width) (x + c) 0 Later inside
      ∙ ap cell_of_column (in-range s.width (x + c) (omega arith))

  module _ (lead : ℕ) (is : IsLead s x row lead) (few : lead ≤ s.width - x) where
    laters-lead : laters columns ≡ lead
    laters-lead =
        laters-are columns lead (subst (λ (n : ℕ). lead ≤ n) (sym length-columns) few)
        (λ c h. column-is c (omega arith) ∙ ap (λ (o : Option (List ℕ)). cell_of o (style row (x + c))) (is.none c h))
        (λ h. let below : lead < s.width - x = subst (λ (n : ℕ). lead < n) length-columns h in
        let n = is.next below in
        (n.0, (style row (x + lead), column-is lead below ∙ ap (λ (o : Option (List ℕ)). cell_of o (style row (x + lead))) n.1)))

    -- column `c` of the terminal
    cut-column : (c : ℕ) → c < s.width - x → cell_of (cut_symbol s x row lead c) (style row (x + c)) ≡ get_or (sideways_row_of x style s row) c Later
    cut-column c h = elim (cases_lt c lead) [
      | inl below ↦
          let test : nat_lt c lead ≡ true = grind (arith, nat_tests) in
          ap (λ (b : Bool). cell_of (if b then Some (32 ∷ []) else s.at row (x + c)) (style row (x + c))) test
          ∙ sym (front-below (style row) x columns c (subst (λ (n : ℕ). c < n) (sym laters-lead) below))
      | inr past ↦
          let test : nat_lt c lead ≡ false = grind (arith, nat_tests) in
          ap (λ (b : Bool). cell_of (if b then Some (32 ∷ []) else s.at row (x + c)) (style row (x + c))) test
          ∙ sym (front-past (style row) x columns c (subst (λ (n : ℕ). n ≤ c) (sym laters-lead) past) ∙ column-is c h)
    ]

  pub length-sideways : length (sideways_row_of x style s row) ≡ s.width - x
  length-sideways = length-front (style row) x columns ∙ length-columns

  -- a row of the cut, in styles that are moved
  pub cut-row : (moved : ℕ → ℕ → Style) → ((c : ℕ) → c < s.width - x → moved row c ≡ style row (x + c)) → (cut : Screen) → cut.width ≡ s.width - x
      → IsCutRow cut s x row → styled_row moved cut row ≡ sideways_row_of x style s row
  cut-row moved same cut wide is =
      let long : length (styled_row moved cut row) ≡ cut.width =
      length-map (range_with_len 0 cut.width) (cell_at moved cut row) ∙ length-range_with_len 0 cut.width in
      ext_get_or Later (styled_row moved cut row) (sideways_row_of x style s row) (long ∙ wide ∙ sym length-sideways) (λ c h.
      let below : c < s.width - x = subst (λ (n : ℕ). c < n) (long ∙ wide) h in
      let inside : c < length (range_with_len 0 cut.width) = subst (λ (n : ℕ). c < n) (length-map (range_with_len 0 cut.width) (cell_at moved cut row)) h in
      get_or-map (cell_at moved cut row) (range_with_len 0 cut.width) c 0 Later inside
      ∙ ap (cell_at moved cut row) (in-range cut.width c (subst (λ (n : ℕ). c < n) (length-range_with_len 0 cut.width) inside))
      ∙ ap (λ (t : Style). cell_of (symbol_at cut.rows row c) t) (same c below)
      ∙ ap (λ (o : Option (List ℕ)). cell_of o (style row (x + c))) (is.symbols c below)
      ∙ cut-column is.lead is.is_lead is.few c below)

map-range : {X : Type 0} (d : X) (f g : ℕ → X) (n : ℕ) → ((k : ℕ) → k < n → f k ≡ g k) → map f (range_with_len 0 n) ≡ map g (range_with_len 0 n)
map-range d f g n same =
    let range = range_with_len 0 n in
    ext_get_or d (map f range) (map g range) (length-map range f ∙ sym (length-map range g)) (λ k h.
    let inside : k < length range = subst (λ (m : ℕ). k < m) (length-map range f) h in
    let below : k < n = subst (λ (m : ℕ). k < m) (length-range_with_len 0 n) inside in
    let at : get_or range k 0 ≡ k = in-range n k below in
    get_or-map f range k 0 d inside ∙ ap f at ∙ same k below ∙ sym (get_or-map g range k 0 d inside ∙ ap g at))

-- the picture of the cut
pub cut-picture : (style moved : ℕ → ℕ → Style) (cut : Screen) (s : Symbols) (x : ℕ) → ((r c : ℕ) → c < s.width - x → moved r c ≡ style r (x + c)) → IsCut cut s x
    → picture moved cut ≡ sideways_picture x style s
cut-picture style moved cut s x same is =
    ap (λ (n : ℕ). map (styled_row moved cut) (range_with_len 0 n)) is.height
    ∙ map-range [] (styled_row moved cut) (sideways_row_of x style s) s.height (λ row h. cut-row style s x row moved (same row) cut is.width (is.rows row h))

-- its size
pub sideways-size : (x : ℕ) (style : ℕ → ℕ → Style) (s : Symbols) → HasSize (s.width - x) s.height (sideways_picture x style s)
sideways-size x style s =
    let range = range_with_len 0 s.height in
    record {
      high = length-map range (sideways_row_of x style s) ∙ length-range_with_len 0 s.height;
      all_wide = All-from_get_or (λ (row : List StyledCell). length row ≡ s.width - x) (sideways_picture x style s) [] (λ k h.
          let inside : k < length range = subst (λ (n : ℕ). k < n) (length-map range (sideways_row_of x style s)) h in
          ap length (get_or-map (sideways_row_of x style s) range k 0 [] inside) ∙ length-sideways style s x (get_or range k 0));
    }

-- ---- at 0

whole-front : (style : ℕ → Style) (x : ℕ) (cells : List StyledCell) → laters cells ≡ 0 → with_blank_front style x cells ≡ cells
whole-front style x [] e = refl
whole-front style x (First symbol own ∷ cells) e = refl
whole-front style x (Later ∷ cells) e = cc

first-of : (symbols : List Cluster) (row : List Cell) → row ≡ flat_map cells_of symbols → 0 < length row → (symbol : List ℕ) × (symbol_in row 0 ≡ Some symbol)
unfolding cells_of
first-of [] row e h = absurd (let n = ap length e in omega arith)
first-of (c ∷ cs) row e h = (c.0, ap (λ (cells : List Cell). symbol_in cells 0) e)

pub at-zero : (style : ℕ → ℕ → Style) (s : Screen) → IsScreen s → sideways_picture 0 style (symbols_of s) ≡ picture style s
at-zero style s is = map-range [] (sideways_row_of 0 style (symbols_of s)) (styled_row style s) (length s.rows) (λ row h. whole-front (style row) 0 (styled_row style s row) (begins row h))
  where
    at-row : (row : ℕ) → row < length s.rows → slice_get s.rows row ≡ Some (get_or s.rows row [])
    at-row row h = slice_get-get_or s.rows row [] h

    begins : (row : ℕ) → row < length s.rows → laters (styled_row style s row) ≡ 0
    begins row h =
        laters-are (styled_row style s row) 0 (omega arith) (λ c none. absurd (omega arith)) (λ below.
        let wide : 0 < s.width = subst (λ (n : ℕ). 0 < n) (length-columns style (symbols_of s) 0 row ∙ (let e : s.width - 0 ≡ s.width = omega arith in e)) below in
        let whole = All-get_or IsWhole s.rows row [] h is.symbols in
        let long = All-get_or (λ (r : List Cell). length r ≡ s.width) s.rows row [] h is.columns in
        let first = first-of whole.symbols (get_or s.rows row []) whole.cells (subst (λ (n : ℕ). 0 < n) (sym long) wide) in (
          first.0,
          (
            style row 0,
            column-is style (symbols_of s) 0 row 0 (omega arith)
                ∙ ap (λ (o : Option (List ℕ)). cell_of o (style row 0)) (ap (λ (o : Option (List Cell)). option_and_then (λ (cells : List Cell). symbol_in cells 0) o) (at-row row h) ∙ first.1),
          ),
        ))

-- ---- symbols that are the same at each place

pub same-symbols : (x : ℕ) (style : ℕ → ℕ → Style) (s t : Symbols) → s.width ≡ t.width → s.height ≡ t.height
    → ((row c : ℕ) → row < s.height → c < s.width → s.at row c ≡ t.at row c) → sideways_picture x style s ≡ sideways_picture x style t
same-symbols x style s t wide high same =
    map-range [] (sideways_row_of x style s) (sideways_row_of x style t) s.height (λ row h. ap (λ (cells : List StyledCell). sideways_row (style row) x cells) (same-row row h))
    ∙ ap (λ (n : ℕ). map (sideways_row_of x style t) (range_with_len 0 n)) high
  where
    same-row : (row : ℕ) → row < s.height → styled_symbols style s row ≡ styled_symbols style t row
    same-row row h =
        map-range Later (λ (c : ℕ). cell_of (s.at row c) (style row c)) (λ (c : ℕ). cell_of (t.at row c) (style row c)) s.width
        (λ c below. ap (λ (o : Option (List ℕ)). cell_of o (style row c)) (same row c h below))
        ∙ ap (λ (n : ℕ). map (λ (c : ℕ). cell_of (t.at row c) (style row c)) (range_with_len 0 n)) wide
