-- Pictures and grids of blanks with a row below, and the commands that make this row blank.
use Rattle.std.proofs.Common.{◌≡◌, ◌≢◌, ℕ, zero, suc, ◌+◌, ◌-◌, ◌<◌, ◌≤◌, ◌^◌, ◌==◌, Bool, true, false, List, [], ◌∷◌, ◌++◌, length, drop, get_or, set, map, nat_lt, take, replicate, append-nil, append_assoc, length-append, refl, sym, ap, ap₂, ◌∙◌, subst, arith, Option, Some, None, inl, inr}
use Rattle.std.specs.Prelude.{slice_get, pos, if◌then◌else◌}
use Rattle.std.specs.List.{All, flat_map, range_with_len}
use Rattle.std.specs.Option.{option_and_then}
use Rattle.std.proofs.lemmas.Bool.{cases_eq}
use Rattle.std.proofs.lemmas.Bool.Decides.{nat_tests}
use Rattle.std.proofs.lemmas.Option.{slice_get-get_or}
use Rattle.std.proofs.lemmas.List.{get_or-map, length-map, length-take, length-set, length-replicate, get_or-take, get_or_append_left, get_or-set_same, get_or-set_other, get_or-replicate, get_or_at, drop_more, ext_get_or, replicate_more, set_at, take_all, take_more}
use Rattle.std.proofs.lemmas.List.Concat.{flat_map-append}
use Rattle.std.proofs.lemmas.List.Elements.{All-nil, All-cons, All-append, All-replicate, All-from_get_or, All-get_or}
use Rattle.std.proofs.lemmas.List.FromFn.{length-range_with_len, get_or-range_with_len}
use Rattle.scm_cells.specs.Cell.{Cell, blank}
use Rattle.scm_cells.specs.Clusters.{IsMeasured}
use Rattle.scm_cells.specs.Counts.{Counts}
use Rattle.scm_cells.specs.Row.{put}
use Rattle.scm_cells.specs.Screen.{Screen, blank_screen, put_on}
use Rattle.scm_cells.specs.Symbols.{symbol_in, symbol_of}
use Rattle.scm_cells.specs.declared.style.Style.{Style}
use Rattle.scm_cells.proofs.PrintableLemmas.{printable-kept}
use Rattle.scm_cells.proofs.SpaceLemmas.{put-spaces_whole}
use Rattle.scm_cells.proofs.WrittenLemmas.{measured, utf8-ascii}
use Rattle.scm_terminal.specs.Promise.{MovesTo, Paints, known_spots}
use Rattle.scm_terminal.specs.Sent.{sent_from, sent_row, stays_on_row}
use Rattle.scm_terminal.specs.Style.{plain_style}
use Rattle.scm_terminal.specs.StyledCell.{AreSameBefore, StyledCell, First, Later, HasSize, cell_of, cell_at, styled_row, picture}
use Rattle.scm_terminal.specs.Terminal.{AreApart, AreReadable, Byte, IsNear, IsOfSize, IsSafe, MoveTo, SetStyle, SetWrap, Spot, Symbol, Terminal, after_all, bytes_of, go_on, goes_on, left_of, over, rest_of, spots_of}
use Rattle.scm_terminal.proofs.RowLemmas.{Ends, Ends-append}
use Rattle.scm_terminal.proofs.RunLemmas.{Runs, Runs-append, Runs-none, move-runs, put-runs, set-runs, terminal, wrap-runs}
use Rattle.scm_front_paint.specs.Blank.{Begins, HasPlaces, IsBeginning, IsBlankAbove, IsBlankGrid, PaintsLast, begin_row, blank_cells, blank_picture, blanking, from_blanks, from_known, plain_at, put_blank}
use Rattle.scm_front_paint.specs.declared.status.LeftText.{LeftText}
use Rattle.scm_front_paint.specs.Status.{status_picture, status_screen, status_style}

-- ---- rows of pictures

pub picture-size : (style : ℕ → ℕ → Style) (grid : Screen) → HasSize grid.width (length grid.rows) (picture style grid)
picture-size style grid = record {
  high = length-map (range_with_len 0 (length grid.rows)) (styled_row style grid) ∙ length-range_with_len 0 (length grid.rows);
  all_wide = All-from_get_or (λ (row : List StyledCell). length row ≡ grid.width) (picture style grid) [] (λ k h.
      let inside : k < length (range_with_len 0 (length grid.rows)) = subst (λ (n : ℕ). k < n) (length-map (range_with_len 0 (length grid.rows)) (styled_row style grid)) h in
      ap length (get_or-map (styled_row style grid) (range_with_len 0 (length grid.rows)) k 0 [] inside)
      ∙ length-map (range_with_len 0 grid.width) (cell_at style grid (get_or (range_with_len 0 (length grid.rows)) k 0)) ∙ length-range_with_len 0 grid.width);
}

abbrev pub blank_cell : StyledCell
blank_cell = First (32 ∷ []) plain_style

abbrev space : ℕ → StyledCell
space column = blank_cell

-- a row of blanks in plain style
blank-row : (style : ℕ → ℕ → Style) (grid : Screen) (k : ℕ) → slice_get grid.rows k ≡ Some (replicate grid.width blank) → ((c : ℕ) → style k c ≡ plain_style)
    → styled_row style grid k ≡ blank_cells grid.width
blank-row style grid k is plain =
    ext_get_or Later (styled_row style grid k) (blank_cells grid.width) (long (cell_at style grid k) ∙ sym (long space)) (λ c h.
    let inside : c < length (range_with_len 0 grid.width) = subst (λ (n : ℕ). c < n) (length-map (range_with_len 0 grid.width) (cell_at style grid k)) h in
    let below : c < grid.width = subst (λ (n : ℕ). c < n) (length-range_with_len 0 grid.width) inside in
    get_or-map (cell_at style grid k) (range_with_len 0 grid.width) c 0 Later inside
    ∙ cell-at (get_or (range_with_len 0 grid.width) c 0) (subst (λ (n : ℕ). n < grid.width) (sym (place-is c below)) below)
    ∙ sym (get_or-map space (range_with_len 0 grid.width) c 0 Later inside))
  where
    long : (f : ℕ → StyledCell) → length (map f (range_with_len 0 grid.width)) ≡ grid.width
    long f = length-map (range_with_len 0 grid.width) f ∙ length-range_with_len 0 grid.width

    place-is : (c : ℕ) → c < grid.width → get_or (range_with_len 0 grid.width) c 0 ≡ c
    place-is c h = get_or-range_with_len 0 grid.width c 0 h ∙ omega arith

    cell-at : (c : ℕ) → c < grid.width → cell_at style grid k c ≡ space c
    cell-at c h =
        let cell : slice_get (replicate grid.width blank) c ≡ Some blank =
        slice_get-get_or (replicate grid.width blank) c blank (subst (λ (n : ℕ). c < n) (sym (length-replicate grid.width blank)) h)
        ∙ ap Some (get_or-replicate grid.width c blank blank h) in
        ap (λ (o : Option (List Cell)). cell_of (option_and_then (λ cells. symbol_in cells c) o) (style k c)) is
        ∙ ap (λ (o : Option Cell). cell_of (option_and_then symbol_of o) (style k c)) cell
        ∙ ap (λ (s : Style). First (32 ∷ []) s) (plain c)

-- ---- a grid of blanks but for its last row, plain above it

module _ (style : ℕ → ℕ → Style) (grid : Screen) (h : ℕ) (high : length grid.rows ≡ h + 1) (blanks : IsBlankGrid grid) (plain : (k : ℕ) → k < h → (c : ℕ) → style k c ≡ plain_style) where
  pub grid-size : HasSize grid.width (h + 1) (picture style grid)
  grid-size = subst (λ (n : ℕ). HasSize grid.width n (picture style grid)) high (picture-size style grid)

  pub grid-above : (k : ℕ) → k < h → get_or (picture style grid) k [] ≡ blank_cells grid.width
  grid-above k below =
      let rows = grid.rows in
      let within : k < length rows = subst (λ (n : ℕ). k < n) (sym high) (omega arith) in
      let inside : k < length (range_with_len 0 (length rows)) = subst (λ (n : ℕ). k < n) (sym (length-range_with_len 0 (length rows))) within in
      let at : get_or (range_with_len 0 (length rows)) k 0 ≡ k = get_or-range_with_len 0 (length rows) k 0 within ∙ omega arith in
      let row : slice_get rows k ≡ Some (replicate grid.width blank) = slice_get-get_or rows k [] within ∙ ap Some (blanks.above k (subst (λ (n : ℕ). k + 1 < n) (sym high) (omega arith))) in
      get_or-map (styled_row style grid) (range_with_len 0 (length rows)) k 0 [] inside
      ∙ ap (styled_row style grid) at
      ∙ blank-row style grid k row (plain k below)

  -- only its last row is not blank
  pub blank-above : IsBlankAbove (picture style grid)
  blank-above width height size k below =
      let same : height ≡ h = (let a = size.high in let b = grid-size.high in omega arith) in
      let first : 0 < length (picture style grid) = (let b = grid-size.high in omega arith) in
      let wide : grid.width ≡ width = sym (grid-size.all_wide 0 [] first) ∙ size.all_wide 0 [] first in
      grid-above k (omega arith) ∙ ap blank_cells wide

  -- so a picture of that size has the same rows before it
  pub same-above : (last : List (List StyledCell)) → IsBlankAbove last → AreSameBefore h grid.width last (picture style grid)
  same-above last blank size k below within =
      blank grid.width h (subst (λ (n : ℕ). HasSize grid.width n last) grid-size.high size) k below ∙ sym (grid-above k below)

-- ---- grids

-- the screen of the status row
module _ (w h : ℕ) (left : LeftText) (right : List ℕ) where
  pub status-long : length (status_screen w h left right).rows ≡ h + 1
  status-long = length-set _ h _ ∙ length-set _ h _ ∙ length-replicate (h + 1) (replicate w blank)

  status-row : (k : ℕ) (x y : List Cell) → k < h → get_or (set (set (replicate (h + 1) (replicate w blank)) h x) h y) k [] ≡ replicate w blank
  status-row k x y below =
      let rows = replicate (h + 1) (replicate w blank) in
      let away : k ≢ h = (λ e. absurd (omega arith)) in
      get_or-set_other (set rows h x) h k y [] away ∙ get_or-set_other rows h k x [] away ∙ get_or-replicate (h + 1) k (replicate w blank) [] (omega arith)

  pub status-grid : IsBlankGrid (status_screen w h left right)
  status-grid = record {
    counts = refl;
    above = λ k below. status-row k _ _ (let high = status-long in omega arith);
  }

  pub plain-above : (k : ℕ) → k < h → (c : ℕ) → status_style h k c ≡ plain_style
  plain-above k below c =
      let away : (k == h) ≡ false = grind (arith, nat_tests) in
      ap (λ (b : Bool). if b then record plain_style { reversed = true } else plain_style) away

  pub status-size : HasSize w (h + 1) (status_picture w h left right)
  status-size = grid-size (status_style h) (status_screen w h left right) h status-long status-grid plain-above

  pub status-above : (k : ℕ) → k < h → get_or (status_picture w h left right) k [] ≡ blank_cells w
  status-above = grid-above (status_style h) (status_screen w h left right) h status-long status-grid plain-above

  pub status-blank : IsBlankAbove (status_picture w h left right)
  status-blank = blank-above (status_style h) (status_screen w h left right) h status-long status-grid plain-above

  pub status-same : (last : List (List StyledCell)) → IsBlankAbove last → AreSameBefore h w last (status_picture w h left right)
  status-same = same-above (status_style h) (status_screen w h left right) h status-long status-grid plain-above

-- blanks alone
module _ (w h : ℕ) where
  blanks-long : length (blank_screen w (h + 1)).rows ≡ h + 1
  blanks-long = length-replicate (h + 1) (replicate w blank)

  pub blanks-grid : IsBlankGrid (blank_screen w (h + 1))
  blanks-grid = record {
    counts = refl;
    above = λ k below. get_or-replicate (h + 1) k (replicate w blank) [] (let high = blanks-long in omega arith);
  }

  pub blanks-size : HasSize w (h + 1) (blank_picture w h)
  blanks-size = grid-size plain_at (blank_screen w (h + 1)) h blanks-long blanks-grid (λ k below c. refl)

  pub blanks-above : (k : ℕ) → k < h → get_or (blank_picture w h) k [] ≡ blank_cells w
  blanks-above = grid-above plain_at (blank_screen w (h + 1)) h blanks-long blanks-grid (λ k below c. refl)

  pub blanks-blank : IsBlankAbove (blank_picture w h)
  blanks-blank = blank-above plain_at (blank_screen w (h + 1)) h blanks-long blanks-grid (λ k below c. refl)

  pub blanks-same : (last : List (List StyledCell)) → IsBlankAbove last → AreSameBefore h w last (blank_picture w h)
  blanks-same = same-above plain_at (blank_screen w (h + 1)) h blanks-long blanks-grid (λ k below c. refl)

  -- the last row, too
  pub blanks-last : get_or (blank_picture w h) h [] ≡ blank_cells w
  blanks-last =
      let rows = (blank_screen w (h + 1)).rows in
      let within : h < length rows = subst (λ (n : ℕ). h < n) (sym blanks-long) (omega arith) in
      let inside : h < length (range_with_len 0 (length rows)) = subst (λ (n : ℕ). h < n) (sym (length-range_with_len 0 (length rows))) within in
      let at : get_or (range_with_len 0 (length rows)) h 0 ≡ h = get_or-range_with_len 0 (length rows) h 0 within ∙ omega arith in
      let row : slice_get rows h ≡ Some (replicate w blank) = slice_get-get_or rows h [] within ∙ ap Some (get_or-replicate (h + 1) h (replicate w blank) [] (omega arith)) in
      get_or-map (styled_row plain_at (blank_screen w (h + 1))) (range_with_len 0 (length rows)) h 0 [] inside
      ∙ ap (styled_row plain_at (blank_screen w (h + 1))) at
      ∙ blank-row plain_at (blank_screen w (h + 1)) h row (λ c. refl)

abbrev screen_with : ℕ → Counts → List (List Cell) → Screen
screen_with width counts rows = record { width = width; rows = rows; counts = counts }

-- a grid that is blank but for its last row is blank once blanks are put there
pub blank-again : (grid : Screen) (w h : ℕ) → HasPlaces w (h + 1) grid → IsBlankGrid grid → put_on grid h (pos 0) (replicate w 32) 0 w ≡ blank_screen w (h + 1)
blank-again grid w h places blanks =
    ap (screen_with grid.width grid.counts) rows
    ∙ ap (λ (n : ℕ). screen_with n grid.counts (replicate (h + 1) (replicate w blank))) places.wide
    ∙ ap (λ (c : Counts). screen_with w c (replicate (h + 1) (replicate w blank))) blanks.counts
  where
    last : List Cell
    last = put (get_or grid.rows h []) (pos 0) (replicate w 32) 0 w

    last-is : last ≡ replicate w blank
    last-is =
        let within : h < length grid.rows = subst (λ (n : ℕ). h < n) (sym places.high) (omega arith) in
        put-spaces_whole (get_or grid.rows h []) w (places.screen.columns h [] within ∙ places.wide)

    at : (k : ℕ) → k < h + 1 → get_or (set grid.rows h last) k [] ≡ replicate w blank
    at k below = elim (cases_eq k h) [
      | inl e ↦
          let within : h < length grid.rows = subst (λ (n : ℕ). h < n) (sym places.high) (omega arith) in
          ap (λ (j : ℕ). get_or (set grid.rows h last) j []) e ∙ get_or-set_same grid.rows h last [] within ∙ last-is
      | inr away ↦
          get_or-set_other grid.rows h k last [] away
          ∙ blanks.above k (subst (λ (n : ℕ). k + 1 < n) (sym places.high) (omega arith)) ∙ ap (λ (n : ℕ). replicate n blank) places.wide
    ]

    rows : set grid.rows h last ≡ replicate (h + 1) (replicate w blank)
    rows =
        let long : length (set grid.rows h last) ≡ h + 1 = length-set grid.rows h last ∙ places.high in
        ext_get_or [] (set grid.rows h last) (replicate (h + 1) (replicate w blank)) (long ∙ sym (length-replicate (h + 1) (replicate w blank))) (λ k below.
        let inside : k < h + 1 = subst (λ (n : ℕ). k < n) long below in
        at k inside ∙ sym (get_or-replicate (h + 1) k (replicate w blank) [] inside))

-- ---- blanks as they are sent

pub cells-are : (n : ℕ) → blank_cells n ≡ replicate n blank_cell
cells-are n = each (range_with_len 0 n) ∙ ap (λ (k : ℕ). replicate k blank_cell) (length-range_with_len 0 n)
  where
    each : (xs : List ℕ) → map space xs ≡ replicate (length xs) blank_cell
    each [] = refl
    each (x ∷ xs) = ap (λ (t : List StyledCell). blank_cell ∷ t) (each xs)

sent-blanks : (w column n : ℕ) → sent_from w column None (replicate n blank_cell) ≡ replicate n blank_cell
unfolding sent_from stays_on_row
sent-blanks w column zero = refl
sent-blanks w column (suc n) = ap (λ (t : List StyledCell). blank_cell ∷ t) (sent-blanks w (column + 1) n)

pub sent-row : (n : ℕ) → sent_row (blank_cells n) ≡ blank_cells n
sent-row n =
    ap sent_row (cells-are n) ∙ sent-blanks (length (replicate n blank_cell)) 0 n ∙ sym (cells-are n)

-- ---- the effect of a blank

abbrev blank_spot : Spot
blank_spot = Some blank_cell

spots-are : (n : ℕ) → known_spots (blank_cells n) ≡ replicate n blank_spot
spots-are n = ap known_spots (cells-are n) ∙ each n
  where
    each : (k : ℕ) → known_spots (replicate k blank_cell) ≡ replicate k blank_spot
    each zero = refl
    each (suc k) = ap (λ (t : List Spot). blank_spot ∷ t) (each k)

rest-starts : (spots : List Spot) → goes_on (rest_of spots) ≡ false
rest-starts [] = refl
rest-starts (None ∷ spots) = refl
rest-starts (Some Later ∷ spots) = refl
rest-starts (Some (First symbol style) ∷ spots) = refl

length-rest : (spots : List Spot) → length (rest_of spots) ≡ length spots
length-rest [] = refl
length-rest (None ∷ spots) = refl
length-rest (Some Later ∷ spots) = ap suc (length-rest spots)
length-rest (Some (First symbol style) ∷ spots) = refl

past-blanks : (k : ℕ) (rest : List Spot) → goes_on rest ≡ false → go_on k (replicate k blank_spot ++ rest) ≡ false
past-blanks zero rest h = h
past-blanks (suc k) rest h = refl

left-blanks : (k : ℕ) (rest : List Spot) → goes_on rest ≡ false → left_of k (replicate k blank_spot ++ rest) ≡ replicate k blank_spot
left-blanks zero rest h = refl
left-blanks (suc k) rest h =
    ap₂ (λ (b : Bool) (t : List Spot). (if b then None else blank_spot) ∷ t) (past-blanks k rest h) (left-blanks k rest h)

drop-blanks : (k : ℕ) (rest : List Spot) → drop (suc k) (replicate k blank_spot ++ rest) ≡ drop 1 rest
drop-blanks zero rest = refl
drop-blanks (suc k) rest = drop-blanks k rest

shift-blank : (k : ℕ) (rest : List Spot) → replicate k blank_spot ++ (blank_spot ∷ rest) ≡ replicate (suc k) blank_spot ++ rest
shift-blank zero rest = refl
shift-blank (suc k) rest = ap (λ (t : List Spot). blank_spot ∷ t) (shift-blank k rest)

-- a blank behind blanks
over-blanks : (k : ℕ) (rest : List Spot) → goes_on rest ≡ false
    → over (replicate k blank_spot ++ rest) k (spots_of (32 ∷ []) 1 plain_style) ≡ replicate (k + 1) blank_spot ++ rest_of (drop 1 rest)
unfolding over
over-blanks k rest h =
    let next : k + 1 ≡ suc k = omega arith in
    ap₂ (λ (front back : List Spot). front ++ (blank_spot ∷ rest_of back)) (left-blanks k rest h)
    (ap (λ (n : ℕ). drop n (replicate k blank_spot ++ rest)) next ∙ drop-blanks k rest)
    ∙ shift-blank k (rest_of (drop 1 rest))
    ∙ ap (λ (n : ℕ). replicate n blank_spot ++ rest_of (drop 1 rest)) (sym next)

first-blank : (old : List Spot) → over old 0 (spots_of (32 ∷ []) 1 plain_style) ≡ replicate 1 blank_spot ++ rest_of (drop 1 old)
unfolding over
first-blank old = refl

-- ---- the effect of a row of blanks

abbrev rows_of : List (List Spot) → List Spot → List (List Spot)
rows_of before row = before ++ row ∷ []

abbrev cursor_at : ℕ → ℕ → ℕ → Option (ℕ × ℕ)
cursor_at row column w = if nat_lt column w then Some (row, column) else None

put-over : (h k w : ℕ) (before : List (List Spot)) (row next : List Spot) → length before ≡ h → k + 1 ≤ w
    → over row k (spots_of (32 ∷ []) 1 plain_style) ≡ next
    → Runs (put_blank ∷ []) (terminal w (rows_of before row) (Some (h, k)) (Some plain_style)) (terminal w (rows_of before next) (cursor_at h (k + 1) w) (Some plain_style))
put-over h k w before row next high room is =
    let rows : set (rows_of before row) h (over (get_or (rows_of before row) h []) k (spots_of (32 ∷ []) 1 plain_style)) ≡ rows_of before next =
    ap (λ (r : List Spot). set (rows_of before row) h (over r k (spots_of (32 ∷ []) 1 plain_style))) (get_or_at before row [] [] h high)
    ∙ ap (λ (r : List Spot). set (rows_of before row) h r) is ∙ set_at before row [] next h high in
    subst (λ (rs : List (List Spot)). Runs (put_blank ∷ []) (terminal w (rows_of before row) (Some (h, k)) (Some plain_style)) (terminal w rs (cursor_at h (k + 1) w) (Some plain_style))) rows
    (put-runs (32 ∷ []) 1 h k w (rows_of before row) plain_style room)

length-drop-one : (n : ℕ) (rest : List Spot) → length rest ≡ suc n → length (rest_of (drop 1 rest)) ≡ n
length-drop-one n [] e = absurd (omega arith)
length-drop-one n (x ∷ rest) e = length-rest rest ∙ omega arith

none-left : (rest : List Spot) → length rest ≡ 0 → rest ≡ []
none-left [] e = refl
none-left (x ∷ rest) e = absurd (omega arith)

more-blanks : (n k h w : ℕ) (before : List (List Spot)) (rest : List Spot) → length before ≡ h → goes_on rest ≡ false → length rest ≡ n → k + n ≡ w
    → Ends w (replicate n put_blank) (terminal w (rows_of before (replicate k blank_spot ++ rest)) (cursor_at h k w) (Some plain_style)) (rows_of before (replicate w blank_spot))
more-blanks zero k h w before rest high starts few is =
    let here : k ≡ w = omega arith in
    let row : replicate k blank_spot ++ rest ≡ replicate w blank_spot =
    ap (λ (t : List Spot). replicate k blank_spot ++ t) (none-left rest few) ∙ append-nil (replicate k blank_spot) ∙ ap (λ (m : ℕ). replicate m blank_spot) here in
    record {
      cursor = cursor_at h k w;
      style = Some plain_style;
      runs = Runs-none (terminal w (rows_of before (replicate k blank_spot ++ rest)) (cursor_at h k w) (Some plain_style))
          ∙ ap (λ (r : List Spot). Some (terminal w (rows_of before r) (cursor_at h k w) (Some plain_style))) row;
    }
more-blanks (suc n) k h w before rest high starts few is =
    let inside : nat_lt k w ≡ true = grind (arith, nat_tests) in
    let row = replicate k blank_spot ++ rest in
    let next = replicate (k + 1) blank_spot ++ rest_of (drop 1 rest) in
    let one = put-over h k w before row next high (omega arith) (over-blanks k rest starts) in
    let rest' = more-blanks n (k + 1) h w before (rest_of (drop 1 rest)) high (rest-starts (drop 1 rest)) (length-drop-one n rest few) (omega arith) in
    subst (λ (b : Bool). Ends w (replicate (suc n) put_blank) (terminal w (rows_of before row) (if b then Some (h, k) else None) (Some plain_style)) (rows_of before (replicate w blank_spot))) (sym inside)
    (Ends-append w (put_blank ∷ []) (replicate n put_blank) (terminal w (rows_of before row) (Some (h, k)) (Some plain_style)) (rows_of before next) (rows_of before (replicate w blank_spot))
    (cursor_at h (k + 1) w) (Some plain_style) one rest')

-- whatever stood on the row
all-blanks : (w h : ℕ) (before : List (List Spot)) (old : List Spot) (cursor : Option (ℕ × ℕ)) (was : Option Style) → length before ≡ h → length old ≡ w
    → Ends w (begin_row w h ++ replicate w put_blank) (terminal w (rows_of before old) cursor was) (rows_of before (replicate w blank_spot))
all-blanks zero h before old cursor was high wide = record {
  cursor = cursor;
  style = was;
  runs = Runs-none (terminal 0 (rows_of before old) cursor was) ∙ ap (λ (r : List Spot). Some (terminal 0 (rows_of before r) cursor was)) (none-left old wide);
}
all-blanks (suc w) h before old cursor was high wide =
    let rows = rows_of before old in
    let end = rows_of before (replicate (suc w) blank_spot) in
    let below : h < length rows = (let e = length-append before (old ∷ []) in omega arith) in
    let next = replicate 1 blank_spot ++ rest_of (drop 1 old) in
    let start = terminal (suc w) rows cursor was in
    let moved = terminal (suc w) rows (Some (h, 0)) was in
    let styled = terminal (suc w) rows (Some (h, 0)) (Some plain_style) in
    let move : Runs (MoveTo h 0 ∷ []) start moved = move-runs false h 0 (suc w) rows cursor was below (omega arith) (λ e. absurd (cc e)) in
    let set_style : Runs (SetStyle plain_style ∷ []) moved styled = set-runs None plain_style (suc w) rows (Some (h, 0)) was (λ s e. absurd (cc e)) in
    let one = put-over h 0 (suc w) before old next high (omega arith) (first-blank old) in
    let rest = more-blanks w 1 h (suc w) before (rest_of (drop 1 old)) high (rest-starts (drop 1 old)) (length-drop-one w old wide) (omega arith) in
    let puts = Ends-append (suc w) (put_blank ∷ []) (replicate w put_blank) styled (rows_of before next) end (cursor_at h (0 + 1) (suc w)) (Some plain_style) one rest in
    let behind = Ends-append (suc w) (SetStyle plain_style ∷ []) (replicate (suc w) put_blank) moved rows end (Some (h, 0)) (Some plain_style) set_style puts in
    Ends-append (suc w) (MoveTo h 0 ∷ []) (SetStyle plain_style ∷ replicate (suc w) put_blank) start rows end (Some (h, 0)) was move behind

-- a terminal whose row `h` is blank afterwards, and whose other rows stay
pub record IsBlanked (w h : ℕ) (t : Terminal) : Type 0 where
  pub middle : Terminal
  pub runs : after_all (blanking w h) t ≡ Some middle
  pub size : IsOfSize middle w (h + 1)
  pub row : get_or middle.rows h [] ≡ known_spots (blank_cells w)
  pub others : (k : ℕ) → k < h → get_or middle.rows k [] ≡ get_or t.rows k []

module _ (w h : ℕ) (t : Terminal) (size : IsOfSize t w (h + 1)) where
  abbrev rows_before : List (List Spot)
  rows_before = take h t.rows

  abbrev old : List Spot
  old = get_or t.rows h []

  before-long : length rows_before ≡ h
  before-long = length-take h t.rows ∙ (let high = size.high in omega arith)

  within : h < length t.rows
  within = let high = size.high in omega arith

  rows-are : t.rows ≡ rows_of rows_before old
  rows-are = sym (take_all (h + 1) t.rows (let high = size.high in omega arith)) ∙ take_more t.rows h [] within

  old-wide : length old ≡ w
  old-wide = All-get_or (λ (row : List Spot). length row ≡ w) t.rows h [] within size.all_wide

  start-is : terminal w (rows_of rows_before old) t.cursor t.style ≡ t
  start-is = ap₂ (λ (n : ℕ) (rows : List (List Spot)). terminal n rows t.cursor t.style) (sym size.wide) (sym rows-are)

  abbrev shown : List Spot
  shown = replicate w blank_spot

  shown-wide : length shown ≡ w
  shown-wide = length-replicate w blank_spot

  ends : Ends w (begin_row w h ++ replicate w put_blank) (terminal w (rows_of rows_before old) t.cursor t.style) (rows_of rows_before shown)
  ends = all-blanks w h rows_before old t.cursor t.style before-long old-wide

  abbrev after_blanks : Terminal
  after_blanks = terminal w (rows_of rows_before shown) ends.cursor ends.style

  long : length (rows_of rows_before shown) ≡ h + 1
  long = length-append rows_before (shown ∷ []) ∙ (let e = before-long in omega arith)

  row-at : get_or (rows_of rows_before shown) h [] ≡ shown
  row-at = get_or_at rows_before shown [] [] h before-long

  other-at : (k : ℕ) → k < h → get_or (rows_of rows_before shown) k [] ≡ get_or t.rows k []
  other-at k below =
      get_or_append_left rows_before (shown ∷ []) [] k (subst (λ (n : ℕ). k < n) (sym before-long) below) ∙ get_or-take h t.rows k [] below

  wide-at : (k : ℕ) → k < length (rows_of rows_before shown) → length (get_or (rows_of rows_before shown) k []) ≡ w
  wide-at k inside = elim (cases_eq k h) [
    | inl e ↦ ap length (ap (λ (j : ℕ). get_or (rows_of rows_before shown) j []) e ∙ row-at) ∙ shown-wide
    | inr away ↦
        let below : k < h = (let e = long in omega arith) in
        ap length (other-at k below) ∙ All-get_or (λ (row : List Spot). length row ≡ w) t.rows k [] (let high = size.high in omega arith) size.all_wide
  ]

  runs-are : Runs (blanking w h) (terminal w (rows_of rows_before old) t.cursor t.style) after_blanks
  unfolding blanking
  runs-are =
      let start = terminal w (rows_of rows_before old) t.cursor t.style in
      Runs-append (SetWrap false ∷ []) ((begin_row w h ++ replicate w put_blank) ++ (SetWrap true ∷ [])) start start after_blanks (wrap-runs false start)
      (Runs-append (begin_row w h ++ replicate w put_blank) (SetWrap true ∷ []) start after_blanks after_blanks ends.runs (wrap-runs true after_blanks))

  pub blanked : IsBlanked w h t
  blanked = record {
    middle = after_blanks;
    runs = subst (λ (u : Terminal). Runs (blanking w h) u after_blanks) start-is runs-are;
    size = record { wide = refl; high = long; all_wide = All-from_get_or (λ (row : List Spot). length row ≡ w) (rows_of rows_before shown) [] wide-at };
    row = row-at ∙ sym (spots-are w);
    others = other-at;
  }

-- ---- a terminal reads them

space-measured : IsMeasured (32 ∷ [], 1)
space-measured = measured (32 ∷ [], 1) (printable-kept 32 refl) (utf8-ascii 32 (omega arith)) (λ h. refl)

begin-safe : (w row : ℕ) → All IsSafe (begin_row w row)
begin-safe zero row = All-nil IsSafe
begin-safe (suc w) row = All-cons IsSafe (MoveTo row 0) (SetStyle plain_style ∷ []) tt (All-cons IsSafe (SetStyle plain_style) [] tt (All-nil IsSafe))

begin-near : (w row : ℕ) → row < 2 ^ 16 → All IsNear (begin_row w row)
begin-near zero row few = All-nil IsNear
begin-near (suc w) row few =
    All-cons IsNear (MoveTo row 0) (SetStyle plain_style ∷ []) (few, omega arith) (All-cons IsNear (SetStyle plain_style) [] tt (All-nil IsNear))

puts-apart : (n : ℕ) → AreApart Byte (replicate n put_blank ++ (SetWrap true ∷ []))
puts-apart zero = tt
puts-apart (suc n) = (refl, puts-apart n)

row-apart : (w row : ℕ) → AreApart Symbol ((begin_row w row ++ replicate w put_blank) ++ (SetWrap true ∷ []))
row-apart zero row = tt
row-apart (suc w) row = (tt, puts-apart w)

pub blanking-read : (w row : ℕ) → row < 2 ^ 16 → AreReadable (blanking w row)
unfolding blanking
blanking-read w row few = record {
  safe =
      All-cons IsSafe (SetWrap false) ((begin_row w row ++ replicate w put_blank) ++ (SetWrap true ∷ [])) tt
      (All-append IsSafe (begin_row w row ++ replicate w put_blank) (SetWrap true ∷ [])
      (All-append IsSafe (begin_row w row) (replicate w put_blank) (begin-safe w row) (All-replicate IsSafe w put_blank space-measured))
      (All-cons IsSafe (SetWrap true) [] tt (All-nil IsSafe)));
  near =
      All-cons IsNear (SetWrap false) ((begin_row w row ++ replicate w put_blank) ++ (SetWrap true ∷ [])) tt
      (All-append IsNear (begin_row w row ++ replicate w put_blank) (SetWrap true ∷ [])
      (All-append IsNear (begin_row w row) (replicate w put_blank) (begin-near w row few) (All-replicate IsNear w put_blank tt))
      (All-cons IsNear (SetWrap true) [] tt (All-nil IsNear)));
  apart = row-apart w row;
}

-- ---- they stay on the row

begin-moves : (P : ℕ → Type 0) (w row : ℕ) → P row → All (MovesTo P) (begin_row w row)
begin-moves P zero row h = All-nil (MovesTo P)
begin-moves P (suc w) row h =
    All-cons (MovesTo P) (MoveTo row 0) (SetStyle plain_style ∷ []) h (All-cons (MovesTo P) (SetStyle plain_style) [] tt (All-nil (MovesTo P)))

pub blanking-moves : (P : ℕ → Type 0) (w row : ℕ) → P row → All (MovesTo P) (blanking w row)
unfolding blanking
blanking-moves P w row h =
    All-cons (MovesTo P) (SetWrap false) ((begin_row w row ++ replicate w put_blank) ++ (SetWrap true ∷ [])) tt
    (All-append (MovesTo P) (begin_row w row ++ replicate w put_blank) (SetWrap true ∷ [])
    (All-append (MovesTo P) (begin_row w row) (replicate w put_blank) (begin-moves P w row h) (All-replicate (MovesTo P) w put_blank tt))
    (All-cons (MovesTo P) (SetWrap true) [] tt (All-nil (MovesTo P))))

-- ---- their bytes

puts-bytes : (n : ℕ) → flat_map bytes_of (replicate n put_blank) ≡ replicate n 32
unfolding bytes_of
puts-bytes zero = refl
puts-bytes (suc n) = ap (λ (t : List ℕ). 32 ∷ t) (puts-bytes n)

pub blanking-bytes : (w row : ℕ) → flat_map bytes_of (blanking w row) ≡ bytes_of (SetWrap false) ++ ((flat_map bytes_of (begin_row w row) ++ replicate w 32) ++ bytes_of (SetWrap true))
unfolding blanking
blanking-bytes w row =
    ap (λ (t : List ℕ). bytes_of (SetWrap false) ++ t)
    (flat_map-append bytes_of (begin_row w row ++ replicate w put_blank) (SetWrap true ∷ [])
    ∙ ap₂ (λ (a b : List ℕ). a ++ b)
    (flat_map-append bytes_of (begin_row w row) (replicate w put_blank) ∙ ap (λ (t : List ℕ). flat_map bytes_of (begin_row w row) ++ t) (puts-bytes w))
    (append-nil (bytes_of (SetWrap true))))

-- what the code writes
pub blanking-written : (w row : ℕ) (t0 t1 t2 t3 t4 : List ℕ) → t0 ≡ [] → t1 ≡ t0 ++ (27 ∷ (91 ∷ (63 ∷ (55 ∷ (108 ∷ []))))) → t2 ≡ t1 ++ flat_map bytes_of (begin_row w row)
    → t3 ≡ t2 ++ replicate w 32 → t4 ≡ t3 ++ (27 ∷ (91 ∷ (63 ∷ (55 ∷ (104 ∷ []))))) → t4 ≡ flat_map bytes_of (blanking w row)
unfolding bytes_of
blanking-written w row t0 t1 t2 t3 t4 e0 e1 e2 e3 e4 =
    let begun = flat_map bytes_of (begin_row w row) in
    let spaces = replicate w 32 in
    let off = bytes_of (SetWrap false) in
    let on = bytes_of (SetWrap true) in
    let one : t1 ≡ off = e1 ∙ ap (λ (t : List ℕ). t ++ off) e0 in
    e4 ∙ ap (λ (t : List ℕ). t ++ on) (e3 ∙ ap (λ (t : List ℕ). t ++ spaces) (e2 ∙ ap (λ (t : List ℕ). t ++ begun) one))
    ∙ ap (λ (t : List ℕ). t ++ on) (append_assoc off begun spaces) ∙ append_assoc off (begun ++ spaces) on ∙ sym (blanking-bytes w row)

-- ---- a paint of the row below

none-read : AreReadable []
none-read = record { safe = All-nil IsSafe; near = All-nil IsNear; apart = tt }

pub begins-known : (w h : ℕ) (rows : List (List StyledCell)) (b : Bool) (bytes : List ℕ) → b ≡ true → bytes ≡ [] → IsBeginning w h (if b then rows else []) rows bytes
begins-known w h rows b bytes e none =
    let known : (if b then rows else []) ≡ rows = ap (λ (x : Bool). if x then rows else []) e in
    record {
      commands = [];
      begins = subst (λ (k : List (List StyledCell)). Begins w h k rows []) (sym known) from_known;
      readable = none-read;
      written = none;
    }

pub begins-blank : (w h : ℕ) (rows from : List (List StyledCell)) (b : Bool) (bytes : List ℕ) → b ≡ false → h < 2 ^ 16 → from ≡ blank_picture w h
    → bytes ≡ flat_map bytes_of (blanking w h) → IsBeginning w h (if b then rows else []) from bytes
begins-blank w h rows from b bytes e few is written =
    let unknown : (if b then rows else []) ≡ [] = ap (λ (x : Bool). if x then rows else []) e in
    record {
      commands = blanking w h;
      begins =
          subst (λ (k : List (List StyledCell)). Begins w h k from (blanking w h)) (sym unknown)
          (subst (λ (k : List (List StyledCell)). Begins w h [] k (blanking w h)) (sym is) from_blanks);
      readable = blanking-read w h few;
      written = written;
    }

pub paints-last : (w h : ℕ) (known from : List (List StyledCell)) (left : LeftText) (right bytes first second : List ℕ) → IsBeginning w h known from first
    → Paints w from (status_picture w h left right) second → bytes ≡ first ++ second → PaintsLast w known (status_picture w h left right) bytes
paints-last w h known from left right bytes first second begins paints written =
    let last : length (status_picture w h left right) - 1 ≡ h = (let size = status-size w h left right in let high = size.high in omega arith) in
    record {
      from = from;
      first = first;
      second = second;
      beginning = subst (λ (row : ℕ). IsBeginning w row known from first) (sym last) begins;
      paints = paints;
      written = written;
      commands = _;
      are = refl;
    }

-- ---- styles of a row that are all the same

-- a place more is filled
pub fill-more : (now all new : List Style) (i : ℕ) (s : Style) → i < length all → now ≡ replicate i s ++ drop i all → new ≡ set now i s → new ≡ replicate (i + 1) s ++ drop (i + 1) all
fill-more now all new i s h filled is =
    is ∙ ap (λ (xs : List Style). set xs i s) (filled ∙ ap (λ (xs : List Style). replicate i s ++ xs) (drop_more all i plain_style h))
    ∙ set_at (replicate i s) (get_or all i plain_style) (drop (i + 1) all) s i (length-replicate i s)
    ∙ sym (append_assoc (replicate i s) (s ∷ []) (drop (i + 1) all)) ∙ ap (λ (xs : List Style). xs ++ drop (i + 1) all) (replicate_more i s)

pub one-style : (n : ℕ) (s : Style) → map (λ (column : ℕ). s) (range_with_len 0 n) ≡ replicate n s
one-style n s = each (range_with_len 0 n) ∙ ap (λ (k : ℕ). replicate k s) (length-range_with_len 0 n)
  where
    each : (xs : List ℕ) → map (λ (column : ℕ). s) xs ≡ replicate (length xs) s
    each [] = refl
    each (x ∷ xs) = ap (λ (t : List Style). s ∷ t) (each xs)
