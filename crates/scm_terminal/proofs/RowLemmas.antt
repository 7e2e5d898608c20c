-- The commands of a row make it show its cells: what each pass puts, and that each symbol of the row stands at its column afterwards.
use Rattle.std.proofs.Common.{◌≡◌, ℕ, zero, suc, ◌+◌, ◌-◌, ◌<◌, ◌≤◌, ◌==◌, nat_lt, Bool, true, false, List, [], ◌∷◌, ◌++◌, length, drop, get_or, set, replicate, refl, sym, ap, ap₂, subst, ◌∙◌, arith, Option, Some, None, append_assoc, length-append, length-drop}
use Rattle.std.specs.Prelude.{if◌then◌else◌}
use Rattle.std.specs.List.{All, flat_map}
use Rattle.std.proofs.lemmas.Bool.Decides.{nat_tests}
use Rattle.std.proofs.lemmas.List.{drop_at, drop_all, get_or_at, set_at, length-replicate}
use Rattle.std.proofs.lemmas.List.Elements.{All-head, All-tail}
use Rattle.scm_cells.specs.Cluster.{Cluster}
use Rattle.scm_cells.specs.Clusters.{IsMeasured}
use Rattle.scm_cells.specs.Row.{cells_of}
use Rattle.scm_cells.proofs.PutLemmas.{length-cells}
use Rattle.scm_cells.proofs.WholeLemmas.{HasColumn}
use Rattle.scm_cells.specs.declared.style.Style.{Style}
use Rattle.scm_terminal.specs.declared.pen.Pen.{Pen}
use Rattle.scm_terminal.specs.declared.pen.Pass.{Pass}
use Rattle.scm_terminal.specs.declared.pen.Pass.TheVariants.{Blanks, Symbols, Letters}
use Rattle.scm_terminal.specs.StyledCell.{StyledCell, First, Later, laters}
use Rattle.scm_terminal.specs.Terminal.{Terminal, Spot, Command, spots_of, goes_on, go_on, left_of, rest_of, over}
use Rattle.scm_terminal.specs.Painting.{cell_commands, pen_after, new_pen, passed, columns_in, pass_commands, row_commands}
use Rattle.scm_terminal.specs.Promise.{known_spots}
use Rattle.scm_terminal.proofs.RunLemmas.{Runs, Runs-none, Runs-append, terminal, cursor_behind, cell-runs}
use Rattle.scm_terminal.proofs.ReadingLemmas.{one_byte, byte-columns}
use Rattle.scm_terminal.proofs.PictureLemmas.{styled_from, styled-cells, length-styled, laters-styled, laters-more}

-- ---- a symbol over a row

goes_on-rest : (spots : List Spot) → goes_on (rest_of spots) ≡ false
goes_on-rest [] = refl
goes_on-rest (None ∷ spots) = refl
goes_on-rest (Some Later ∷ spots) = refl
goes_on-rest (Some (First symbol style) ∷ spots) = refl

length-rest : (spots : List Spot) → length (rest_of spots) ≡ length spots
length-rest [] = refl
length-rest (None ∷ spots) = refl
length-rest (Some Later ∷ spots) = ap suc (length-rest spots)
length-rest (Some (First symbol style) ∷ spots) = refl

length-left : (column : ℕ) (row : List Spot) → column ≤ length row → length (left_of column row) ≡ column
length-left zero row h = refl
length-left (suc n) [] h = absurd (omega arith)
length-left (suc n) (spot ∷ row) h = ap suc (length-left n row (omega arith))

go_on-none : (c : ℕ) (post : List Spot) → goes_on post ≡ false → go_on c post ≡ false
go_on-none zero post h = h
go_on-none (suc c) [] h = refl
go_on-none (suc c) (None ∷ post) h = refl
go_on-none (suc c) (Some Later ∷ post) h = absurd (cc)
go_on-none (suc c) (Some (First symbol style) ∷ post) h = refl

go_on-past : (xs post : List Spot) (c n : ℕ) → c ≡ length xs + n → goes_on post ≡ false → go_on c (xs ++ post) ≡ false
go_on-past [] post c n e h = go_on-none c post h
go_on-past (x ∷ xs) post zero n e h = absurd (omega arith)
go_on-past (None ∷ xs) post (suc c) n e h = refl
go_on-past (Some Later ∷ xs) post (suc c) n e h = go_on-past xs post c n (omega arith) h
go_on-past (Some (First symbol style) ∷ xs) post (suc c) n e h = refl

-- what stands before a column that goes on nothing stays, whatever is put behind it
left-past : (xs post : List Spot) (column n : ℕ) → column ≡ length xs + n → goes_on post ≡ false → left_of column (xs ++ post) ≡ xs ++ left_of n post
left-past [] post column n e h = let same : column ≡ n = omega arith in ap (λ (m : ℕ). left_of m post) same
left-past (x ∷ xs) post zero n e h = absurd (omega arith)
left-past (x ∷ xs) post (suc c) n e h =
    let e' : c ≡ length xs + n = omega arith in
    ap₂ (λ (b : Bool) (t : List Spot). (if b then None else x) ∷ t) (go_on-past xs post c n e' h) (left-past xs post c n e' h)

length-spots : (symbol : List ℕ) (columns : ℕ) (style : Style) → 0 < columns → length (spots_of symbol columns style) ≡ columns
length-spots symbol columns style h = let e = length-replicate {A = Spot} (columns - 1) (Some Later) in omega (arith, e)

known-laters : (k : ℕ) (ps : List StyledCell) → known_spots (replicate k Later ++ ps) ≡ replicate k (Some Later) ++ known_spots ps
known-laters zero ps = refl
known-laters (suc k) ps = ap (λ t. Some Later ∷ t) (known-laters k ps)

length-over : (row : List Spot) (column : ℕ) (spots : List Spot) → column + length spots ≤ length row → length (over row column spots) ≡ length row
unfolding over
length-over row column spots h =
    let both = length-append (left_of column row) (spots ++ rest_of (drop (column + length spots) row)) in
    let two = length-append spots (rest_of (drop (column + length spots) row)) in
    let left = length-left column row (omega arith) in
    let rest = length-rest (drop (column + length spots) row) in
    let dropped = length-drop (column + length spots) row in
    omega (arith, both, two, left, rest, dropped)

-- ---- a symbol that stands

-- the spots of a symbol stand at a column, and no later column follows them
pub record StandsAt (row : List Spot) (column : ℕ) (spots : List Spot) : Type 0 where
  pub front : List Spot
  pub behind : List Spot
  pub is : row ≡ front ++ (spots ++ behind)
  pub at : length front ≡ column
  pub ends : goes_on behind ≡ false

put-stands : (row : List Spot) (column : ℕ) (spots : List Spot) → column ≤ length row → StandsAt (over row column spots) column spots
unfolding over
put-stands row column spots h = record {
  front = left_of column row;
  behind = rest_of (drop (column + length spots) row);
  is = refl;
  at = length-left column row h;
  ends = goes_on-rest (drop (column + length spots) row);
}

left-starts : (n : ℕ) (behind rest : List Spot) → goes_on behind ≡ false → goes_on rest ≡ false → goes_on (left_of n behind ++ rest) ≡ false
left-starts zero behind rest h g = g
left-starts (suc n) [] rest h g = g
left-starts (suc n) (None ∷ behind) rest h g = at (go_on n behind)
  where
    at : (b : Bool) → goes_on ((if b then None else None) ∷ (left_of n behind ++ rest)) ≡ false
    at true = refl
    at false = refl
left-starts (suc n) (Some Later ∷ behind) rest h g = absurd (cc)
left-starts (suc n) (Some (First symbol style) ∷ behind) rest h g = at (go_on n behind)
  where
    at : (b : Bool) → goes_on ((if b then None else Some (First symbol style)) ∷ (left_of n behind ++ rest)) ≡ false
    at true = refl
    at false = refl

-- a symbol that is put behind one that stands leaves it
stays-before : (row : List Spot) (c : ℕ) (s : List ℕ) (k : ℕ) (st : Style) (column : ℕ) (spots : List Spot) → StandsAt row column spots → column + length spots ≤ c
    → StandsAt (over row c (spots_of s k st)) column spots
unfolding over
stays-before row c s k st column spots d h =
    let new = spots_of s k st in
    let rest = rest_of (drop (c + length new) row) in
    let n = c - (column + length spots) in
    let long = length-append d.front spots in
    let at = d.at in
    let e : c ≡ length (d.front ++ spots) + n = omega (arith, long, at) in
    let whole : row ≡ (d.front ++ spots) ++ d.behind = d.is ∙ sym (append_assoc d.front spots d.behind) in
    let left : left_of c row ≡ (d.front ++ spots) ++ left_of n d.behind = ap (left_of c) whole ∙ left-past (d.front ++ spots) d.behind c n e d.ends in
    record {
      front = d.front;
      behind = left_of n d.behind ++ (new ++ rest);
      is = ap (λ (t : List Spot). t ++ (new ++ rest)) left ∙ append_assoc (d.front ++ spots) (left_of n d.behind) (new ++ rest) ∙ append_assoc d.front spots (left_of n d.behind ++ (new ++ rest));
      at = d.at;
      ends = left-starts n d.behind (new ++ rest) d.ends refl;
    }

rest-before : (xs : List Spot) (symbol : List ℕ) (style : Style) (ys : List Spot) → rest_of (xs ++ Some (First symbol style) ∷ ys) ≡ rest_of xs ++ Some (First symbol style) ∷ ys
rest-before [] symbol style ys = refl
rest-before (None ∷ xs) symbol style ys = refl
rest-before (Some Later ∷ xs) symbol style ys = ap (λ t. None ∷ t) (rest-before xs symbol style ys)
rest-before (Some (First s st) ∷ xs) symbol style ys = refl

drop-within : (n : ℕ) (xs ys : List Spot) → n ≤ length xs → drop n (xs ++ ys) ≡ drop n xs ++ ys
drop-within zero xs ys h = refl
drop-within (suc n) [] ys h = absurd (omega arith)
drop-within (suc n) (x ∷ xs) ys h = drop-within n xs ys (omega arith)

-- and one that is put before it, too
stays-behind : (row : List Spot) (c : ℕ) (s : List ℕ) (k : ℕ) (st : Style) (column : ℕ) (symbol : List ℕ) (columns : ℕ) (style : Style) → StandsAt row column (spots_of symbol columns style)
    → 0 < k → c + k ≤ column → StandsAt (over row c (spots_of s k st)) column (spots_of symbol columns style)
unfolding over
stays-behind row c s k st column symbol columns style d some h =
    let new = spots_of s k st in
    let spots = spots_of symbol columns style in
    let size = length-spots s k st some in
    let at = d.at in
    let dropped : drop (c + length new) row ≡ drop (c + length new) d.front ++ (spots ++ d.behind) = ap (drop (c + length new)) d.is ∙ drop-within (c + length new) d.front (spots ++ d.behind) (omega (arith, size, at)) in
    let rest : rest_of (drop (c + length new) row) ≡ rest_of (drop (c + length new) d.front) ++ (spots ++ d.behind) =
    ap rest_of dropped ∙ rest-before (drop (c + length new) d.front) symbol style (replicate (columns - 1) (Some Later) ++ d.behind) in
    let long : length row ≡ length d.front + length (spots ++ d.behind) = ap length d.is ∙ length-append d.front (spots ++ d.behind) in
    let front = left_of c row ++ (new ++ rest_of (drop (c + length new) d.front)) in
    let one = length-append (left_of c row) (new ++ rest_of (drop (c + length new) d.front)) in
    let two = length-append new (rest_of (drop (c + length new) d.front)) in
    let left = length-left c row (omega (arith, long, at)) in
    let rests = length-rest (drop (c + length new) d.front) in
    let drops = length-drop (c + length new) d.front in
    record {
      front = front;
      behind = d.behind;
      is = ap (λ (t : List Spot). left_of c row ++ (new ++ t)) rest
          ∙ ap (λ (t : List Spot). left_of c row ++ t) (sym (append_assoc new (rest_of (drop (c + length new) d.front)) (spots ++ d.behind)))
          ∙ sym (append_assoc (left_of c row) (new ++ rest_of (drop (c + length new) d.front)) (spots ++ d.behind));
      at = omega (arith, one, two, left, rests, drops, size, at);
      ends = d.ends;
    }

-- ---- symbols one after another

-- a symbol in its style, put at a column
pub record Place : Type 0 where
  pub column : ℕ
  pub symbol : List ℕ
  pub columns : ℕ
  pub style : Style

abbrev pub put_place : List Spot → Place → List Spot
put_place row p = over row p.column (spots_of p.symbol p.columns p.style)

pub over_all : List Spot → List Place → List Spot
over_all row [] = row
over_all row (p ∷ ps) = over_all (put_place row p) ps

-- the places lie within columns
abbrev pub Within : ℕ → ℕ → List Place → Type 0
Within low high [] = Unit {0}
Within low high (p ∷ ps) = ((low ≤ p.column) × ((0 < p.columns) × (p.column + p.columns ≤ high))) × Within low high ps

Within-append : (low high : ℕ) (xs ys : List Place) → Within low high xs → Within low high ys → Within low high (xs ++ ys)
Within-append low high [] ys h g = g
Within-append low high (x ∷ xs) ys h g = (h.0, Within-append low high xs ys h.1 g)

Within-wide : (low high l h : ℕ) (ps : List Place) → l ≤ low → high ≤ h → Within low high ps → Within l h ps
Within-wide low high l h [] e f w = tt
Within-wide low high l h (p ∷ ps) e f w =
    let first = w.0 in
    let from = first.0 in
    let some = first.1.0 in
    let to = first.1.1 in
    ((omega (arith, from), (some, omega (arith, to))), Within-wide low high l h ps e f w.1)

over_all-append : (row : List Spot) (xs ys : List Place) → over_all row (xs ++ ys) ≡ over_all (over_all row xs) ys
unfolding over_all
over_all-append row [] ys = refl
over_all-append row (x ∷ xs) ys = over_all-append (put_place row x) xs ys

length-all : (w : ℕ) (row : List Spot) (ps : List Place) → length row ≡ w → Within 0 w ps → length (over_all row ps) ≡ w
unfolding over_all
length-all w row [] e h = e
length-all w row (p ∷ ps) e h =
    let size = length-spots p.symbol p.columns p.style h.0.1.0 in
    let to = h.0.1.1 in
    length-all w (put_place row p) ps (length-over row p.column (spots_of p.symbol p.columns p.style) (omega (arith, size, to, e)) ∙ e) h.1

all-behind : (high : ℕ) (row : List Spot) (ps : List Place) (column : ℕ) (spots : List Spot) → StandsAt row column spots → Within (column + length spots) high ps → StandsAt (over_all row ps) column spots
unfolding over_all
all-behind high row [] column spots d h = d
all-behind high row (p ∷ ps) column spots d h = all-behind high (put_place row p) ps column spots (stays-before row p.column p.symbol p.columns p.style column spots d h.0.0) h.1

all-before : (low : ℕ) (row : List Spot) (ps : List Place) (column : ℕ) (symbol : List ℕ) (columns : ℕ) (style : Style) → StandsAt row column (spots_of symbol columns style) → Within low column ps
    → StandsAt (over_all row ps) column (spots_of symbol columns style)
unfolding over_all
all-before low row [] column symbol columns style d h = d
all-before low row (p ∷ ps) column symbol columns style d h =
    all-before low (put_place row p) ps column symbol columns style (stays-behind row p.column p.symbol p.columns p.style column symbol columns style d h.0.1.0 h.0.1.1) h.1

-- ---- what a pass puts

abbrev pub place_of : ℕ → StyledCell → ℕ → List Place
place_of column Later columns = []
place_of column (First symbol style) columns = record { column = column; symbol = symbol; columns = columns; style = style } ∷ []

pub places : Pass → Pen → ℕ → List StyledCell → List Place
places pass pen column [] = []
places pass pen column (p ∷ ps) = place_of column (passed pass pen.is_there p) (columns_in pass (laters ps)) ++ places pass (pen_after pen (passed pass pen.is_there p)) (column + 1) ps

-- and wherever the cursor is
pub alone : Pass → ℕ → List StyledCell → List Place
alone pass column [] = []
alone pass column (p ∷ ps) = place_of column (passed pass false p) (columns_in pass (laters ps)) ++ alone pass (column + 1) ps

alone-is : (pass : Pass) → ((there : Bool) (p : StyledCell) → passed pass there p ≡ passed pass false p) → (pen : Pen) (column : ℕ) (cells : List StyledCell) → places pass pen column cells ≡ alone pass column cells
unfolding places alone
alone-is pass same pen column [] = refl
alone-is pass same pen column (p ∷ ps) =
    ap₂ (λ (q : StyledCell) (t : List Place). place_of column q (columns_in pass (laters ps)) ++ t) (same pen.is_there p) (alone-is pass same (pen_after pen (passed pass pen.is_there p)) (column + 1) ps)

symbols-same : (there : Bool) (p : StyledCell) → passed Symbols there p ≡ passed Symbols false p
symbols-same there Later = refl
symbols-same there (First symbol style) = refl

letters-same : (there : Bool) (p : StyledCell) → passed Letters there p ≡ passed Letters false p
letters-same there Later = refl
letters-same there (First symbol style) = refl

laters-few : (ps : List StyledCell) → laters ps ≤ length ps
laters-few [] = omega arith
laters-few (Later ∷ ps) = let more = laters-few ps in omega (arith, more)
laters-few (First symbol style ∷ ps) = omega arith

columns-some : (pass : Pass) (more : ℕ) → 0 < columns_in pass more
columns-some Blanks more = omega arith
columns-some Symbols more = omega arith
columns-some Letters more = omega arith

columns-few : (pass : Pass) (more : ℕ) → columns_in pass more ≤ 1 + more
columns-few Blanks more = omega arith
columns-few Symbols more = omega arith
columns-few Letters more = omega arith

place-within : (low high column : ℕ) (p : StyledCell) (columns : ℕ) → low ≤ column → 0 < columns → column + columns ≤ high → Within low high (place_of column p columns)
place-within low high column Later columns h g f = tt
place-within low high column (First symbol style) columns h g f = ((h, (g, f)), tt)

places-within : (pass : Pass) (pen : Pen) (low high column : ℕ) (cells : List StyledCell) → low ≤ column → column + length cells ≤ high → Within low high (places pass pen column cells)
unfolding places
places-within pass pen low high column [] h g = tt
places-within pass pen low high column (p ∷ ps) h g =
    let few = columns-few pass (laters ps) in
    let fewer = laters-few ps in
    Within-append low high (place_of column (passed pass pen.is_there p) (columns_in pass (laters ps))) (places pass (pen_after pen (passed pass pen.is_there p)) (column + 1) ps)
    (place-within low high column (passed pass pen.is_there p) (columns_in pass (laters ps)) h (columns-some pass (laters ps)) (omega (arith, few, fewer, g)))
    (places-within pass (pen_after pen (passed pass pen.is_there p)) low high (column + 1) ps (omega arith) (omega arith))

alone-within : (pass : Pass) (low high column : ℕ) (cells : List StyledCell) → low ≤ column → column + length cells ≤ high → Within low high (alone pass column cells)
unfolding alone
alone-within pass low high column [] h g = tt
alone-within pass low high column (p ∷ ps) h g =
    let few = columns-few pass (laters ps) in
    let fewer = laters-few ps in
    Within-append low high (place_of column (passed pass false p) (columns_in pass (laters ps))) (alone pass (column + 1) ps)
    (place-within low high column (passed pass false p) (columns_in pass (laters ps)) h (columns-some pass (laters ps)) (omega (arith, few, fewer, g)))
    (alone-within pass low high (column + 1) ps (omega arith) (omega arith))

-- a symbol of one byte has one column in each pass
one-column : (pass : Pass) (there : Bool) (p : StyledCell) (symbol : List ℕ) (style : Style) (more : ℕ) → passed pass there p ≡ First symbol style → (length symbol == 1) ≡ true → columns_in pass more ≡ 1
one-column Blanks there p symbol style more e one = refl
one-column Letters there p symbol style more e one = refl
one-column Symbols there Later symbol style more e one = absurd (cc)
one-column Symbols there (First s st) symbol style more e one = at (length s == 1) refl e
  where
    at : (b : Bool) → (length s == 1) ≡ b → (if b then Later else First s st) ≡ First symbol style → 1 + more ≡ 1
    at true h f = absurd (cc)
    at false h f = let same : s ≡ symbol = cc in let no : (length symbol == 1) ≡ false = ap (λ (t : List ℕ). length t == 1) (sym same) ∙ h in absurd (cc)

behind-there : (symbol : List ℕ) (row column columns w : ℕ) → (length symbol == 1) ≡ true → columns ≡ 1 → column + 1 < w → cursor_behind symbol columns row column w ≡ Some (row, column + 1)
behind-there symbol row column columns w one e room =
    let next : column + columns ≡ column + 1 = omega arith in
    let before : nat_lt (column + columns) w ≡ true = grind (arith, nat_tests) in
    rw (one, before) (ap (λ (n : ℕ). Some (row, n)) next)

-- the commands lead from a terminal to one with these rows
pub record Ends (w : ℕ) (commands : List Command) (t : Terminal) (rows : List (List Spot)) : Type 0 where
  pub cursor : Option (ℕ × ℕ)
  pub style : Option Style
  pub runs : Runs commands t (terminal w rows cursor style)

pub Ends-append : (w : ℕ) (xs ys : List Command) (t : Terminal) (middle rows : List (List Spot)) (cursor : Option (ℕ × ℕ)) (style : Option Style)
    → Runs xs t (terminal w middle cursor style) → Ends w ys (terminal w middle cursor style) rows → Ends w (xs ++ ys) t rows
Ends-append w xs ys t middle rows cursor style runs e = record {
  cursor = e.cursor;
  style = e.style;
  runs = Runs-append xs ys t (terminal w middle cursor style) (terminal w rows e.cursor e.style) runs e.runs;
}

module _ (r w : ℕ) (before after : List (List Spot)) (above : length before ≡ r) where
  abbrev pub rows_with : List Spot → List (List Spot)
  rows_with row = before ++ row ∷ after

  rows-put : (row symbol : List Spot) (column : ℕ) → set (rows_with row) r (over (get_or (rows_with row) r []) column symbol) ≡ rows_with (over row column symbol)
  rows-put row symbol column =
      ap (λ (old : List Spot). set (before ++ row ∷ after) r (over old column symbol)) (get_or_at before row after [] r above)
      ∙ set_at before row after (over row column symbol) r above

  rows-in : (row : List Spot) → r < length (rows_with row)
  rows-in row = let e = length-append before (row ∷ after) in omega (arith, e)

  pass-none : (pass : Pass) (column : ℕ) (pen : Pen) (cursor : Option (ℕ × ℕ)) (was : Option Style) (row : List Spot)
      → Ends w (pass_commands pass r column pen []) (terminal w (rows_with row) cursor was) (rows_with (over_all row (places pass pen column [])))
  unfolding pass_commands places over_all
  pass-none pass column pen cursor was row = record { cursor = cursor; style = was; runs = Runs-none (terminal w (rows_with row) cursor was) }

  pub pass-runs : (pass : Pass) (cells : List StyledCell) (column : ℕ) (pen : Pen) (cursor : Option (ℕ × ℕ)) (was : Option Style) (row : List Spot)
      → column + length cells ≤ w → (pen.is_there ≡ true → 0 < length cells → cursor ≡ Some (r, column)) → ((s : Style) → pen.style ≡ Some s → was ≡ Some s)
      → Ends w (pass_commands pass r column pen cells) (terminal w (rows_with row) cursor was) (rows_with (over_all row (places pass pen column cells)))
  unfolding pass_commands places over_all
  pass-runs pass [] column pen cursor was row long there same = pass-none pass column pen cursor was row
  pass-runs pass (p ∷ ps) column pen cursor was row long there same =
      at (passed pass pen.is_there p) refl (λ pen' cursor' was' row' there' same'. pass-runs pass ps (column + 1) pen' cursor' was' row' (omega arith) there' same')
    where
      at : (q : StyledCell) → passed pass pen.is_there p ≡ q
          → ((pen' : Pen) (cursor' : Option (ℕ × ℕ)) (was' : Option Style) (row' : List Spot) → (pen'.is_there ≡ true → 0 < length ps → cursor' ≡ Some (r, column + 1)) → ((s : Style) → pen'.style ≡ Some s → was' ≡ Some s)
          → Ends w (pass_commands pass r (column + 1) pen' ps) (terminal w (rows_with row') cursor' was') (rows_with (over_all row' (places pass pen' (column + 1) ps))))
          → Ends w (cell_commands r column pen q (columns_in pass (laters ps)) ++ pass_commands pass r (column + 1) (pen_after pen q) ps) (terminal w (rows_with row) cursor was)
          (rows_with (over_all row (place_of column q (columns_in pass (laters ps)) ++ places pass (pen_after pen q) (column + 1) ps)))
      at Later e more = more (pen_after pen Later) cursor was row (λ t some. absurd (cc)) same
      at (First symbol style) e more =
          let columns = columns_in pass (laters ps) in
          let few = columns-few pass (laters ps) in
          let fewer = laters-few ps in
          let spots = spots_of symbol columns style in
          let cursor' = cursor_behind symbol columns r column w in
          let head : Runs (cell_commands r column pen (First symbol style) columns) (terminal w (rows_with row) cursor was) (terminal w (rows_with (over row column spots)) cursor' (Some style)) =
          cell-runs symbol columns r column w (rows_with row) cursor style was pen (rows-in row) (columns-some pass (laters ps)) (omega (arith, few, fewer, long)) (λ t. there t (omega arith)) same
          ∙ ap (λ (rows : List (List Spot)). Some (terminal w rows cursor' (Some style))) (rows-put row spots column) in
          Ends-append w (cell_commands r column pen (First symbol style) columns) (pass_commands pass r (column + 1) (pen_after pen (First symbol style)) ps) (terminal w (rows_with row) cursor was) (rows_with (over row column spots))
          (rows_with (over_all (over row column spots) (places pass (pen_after pen (First symbol style)) (column + 1) ps))) cursor' (Some style) head
          (more (pen_after pen (First symbol style)) cursor' (Some style) (over row column spots)
          (λ t some. behind-there symbol r column columns w t (one-column pass pen.is_there p symbol style (laters ps) e t) (omega arith)) (λ s f. f))

  -- the three passes of a row
  pub row-runs : (cells : List StyledCell) (cursor : Option (ℕ × ℕ)) (was : Option Style) (row : List Spot) → length cells ≤ w
      → Ends w (row_commands r cells) (terminal w (rows_with row) cursor was) (rows_with (over_all row (places Blanks new_pen 0 cells ++ (places Symbols new_pen 0 cells ++ places Letters new_pen 0 cells))))
  unfolding row_commands
  row-runs cells cursor was row long =
      let blanks = pass-runs Blanks cells 0 new_pen cursor was row (omega arith) (λ t. absurd (cc)) (λ s t. absurd (cc)) in
      let row1 = over_all row (places Blanks new_pen 0 cells) in
      let symbols = pass-runs Symbols cells 0 new_pen blanks.cursor blanks.style row1 (omega arith) (λ t. absurd (cc)) (λ s t. absurd (cc)) in
      let row2 = over_all row1 (places Symbols new_pen 0 cells) in
      let letters = pass-runs Letters cells 0 new_pen symbols.cursor symbols.style row2 (omega arith) (λ t. absurd (cc)) (λ s t. absurd (cc)) in
      let all = Ends-append w (pass_commands Blanks r 0 new_pen cells) (pass_commands Symbols r 0 new_pen cells ++ pass_commands Letters r 0 new_pen cells) (terminal w (rows_with row) cursor was)
      (rows_with row1) (rows_with (over_all row2 (places Letters new_pen 0 cells))) blanks.cursor blanks.style blanks.runs
      (Ends-append w (pass_commands Symbols r 0 new_pen cells) (pass_commands Letters r 0 new_pen cells) (terminal w (rows_with row1) blanks.cursor blanks.style) (rows_with row2) (rows_with (over_all row2 (places Letters new_pen 0 cells))) symbols.cursor symbols.style symbols.runs letters) in
      let same : over_all row (places Blanks new_pen 0 cells ++ (places Symbols new_pen 0 cells ++ places Letters new_pen 0 cells)) ≡ over_all row2 (places Letters new_pen 0 cells) =
      over_all-append row (places Blanks new_pen 0 cells) (places Symbols new_pen 0 cells ++ places Letters new_pen 0 cells) ∙ over_all-append row1 (places Symbols new_pen 0 cells) (places Letters new_pen 0 cells) in
      subst (λ (new : List Spot). Ends w (pass_commands Blanks r 0 new_pen cells ++ (pass_commands Symbols r 0 new_pen cells ++ pass_commands Letters r 0 new_pen cells)) (terminal w (rows_with row) cursor was) (rows_with new)) (sym same) all

-- ---- each symbol of a row stands

places-laters : (pass : Pass) → passed pass false Later ≡ Later → (k column : ℕ) (ps : List StyledCell) → alone pass column (replicate k Later ++ ps) ≡ alone pass (column + k) ps
unfolding alone
places-laters pass e zero column ps = let same : column + 0 ≡ column = omega arith in ap (λ (n : ℕ). alone pass n ps) (sym same)
places-laters pass e (suc k) column ps =
    let same : column + 1 + k ≡ column + suc k = omega arith in
    ap (λ (q : StyledCell). place_of column q (columns_in pass (laters (replicate k Later ++ ps))) ++ alone pass (column + 1) (replicate k Later ++ ps)) e
    ∙ places-laters pass e k (column + 1) ps
    ∙ ap (λ (n : ℕ). alone pass n ps) same

places-first : (pass : Pass) → passed pass false Later ≡ Later → (column k : ℕ) (symbol : List ℕ) (style : Style) (more : List StyledCell) → laters more ≡ 0
    → alone pass column (First symbol style ∷ (replicate k Later ++ more)) ≡ place_of column (passed pass false (First symbol style)) (columns_in pass k) ++ alone pass (column + 1 + k) more
unfolding alone
places-first pass e column k symbol style more none =
    ap₂ (λ (n : ℕ) (t : List Place). place_of column (passed pass false (First symbol style)) (columns_in pass n) ++ t) (laters-more k more none) (places-laters pass e k (column + 1) more)

abbrev pub cells_from : (ℕ → Style) → ℕ → List Cluster → List StyledCell
cells_from style column cs = styled_from style column (flat_map cells_of cs)

places-cluster : (pass : Pass) → passed pass false Later ≡ Later → (style : ℕ → Style) (column : ℕ) (c : Cluster) (cs : List Cluster)
    → alone pass column (cells_from style column (c ∷ cs))
    ≡ place_of column (passed pass false (First c.0 (style column))) (columns_in pass (c.1 - 1)) ++ alone pass (column + 1 + (c.1 - 1)) (cells_from style (column + 1 + (c.1 - 1)) cs)
places-cluster pass e style column c cs =
    ap (alone pass column) (styled-cells style column c (flat_map cells_of cs))
    ∙ places-first pass e column (c.1 - 1) c.0 (style column) (cells_from style (column + 1 + (c.1 - 1)) cs) (laters-styled style (column + 1 + (c.1 - 1)) cs)

-- the symbols stand one after another
pub StandFrom : (ℕ → Style) → List Spot → ℕ → List Cluster → Type 0
StandFrom style row column [] = Unit {0}
StandFrom style row column (c ∷ cs) = StandsAt row column (spots_of c.0 c.1 (style column)) × StandFrom style row (column + 1 + (c.1 - 1)) cs

stand-all : (w : ℕ) (style : ℕ → Style) (cs : List Cluster) (column : ℕ) (row : List Spot) (xs ys : List Place) → All HasColumn cs → All IsMeasured cs
    → length row ≡ w → column + length (flat_map cells_of cs) ≤ w → Within 0 w xs → Within 0 column ys
    → StandFrom style (over_all row ((xs ++ alone Symbols column (cells_from style column cs)) ++ (ys ++ alone Letters column (cells_from style column cs)))) column cs
unfolding StandFrom over_all
stand-all w style [] column row xs ys wide kept size long in_xs in_ys = tt
stand-all w style (c ∷ cs) column row xs ys wide kept size long in_xs in_ys =
    let whole = places-cluster Symbols refl style column c cs in
    let single = places-cluster Letters refl style column c cs in
    subst (λ (ps : List Place). StandFrom style (over_all row ((xs ++ ps) ++ (ys ++ alone Letters column (cells_from style column (c ∷ cs))))) column (c ∷ cs)) (sym whole)
    (subst (λ (ps : List Place). StandFrom style (over_all row ((xs ++ (place_of column (passed Symbols false (First c.0 (style column))) (1 + (c.1 - 1)) ++ alone Symbols (column + 1 + (c.1 - 1)) (cells_from style (column + 1 + (c.1 - 1)) cs))) ++ (ys ++ ps))) column (c ∷ cs)) (sym single)
    (at (length c.0 == 1) refl (λ (xs' ys' : List Place) (h : Within 0 w xs') (g : Within 0 (column + 1 + (c.1 - 1)) ys'). stand-all w style cs (column + 1 + (c.1 - 1)) row xs' ys' (All-tail HasColumn c cs wide) (All-tail IsMeasured c cs kept) size fits h g)))
  where
    some : 0 < c.1
    some = All-head HasColumn c cs wide

    count : length (flat_map cells_of (c ∷ cs)) ≡ c.1 + length (flat_map cells_of cs)
    count = length-append (cells_of c) (flat_map cells_of cs) ∙ ap (λ (n : ℕ). n + length (flat_map cells_of cs)) (length-cells c some)

    fits : column + 1 + (c.1 - 1) + length (flat_map cells_of cs) ≤ w
    fits = omega (arith, count, some, long)

    more_count : length (cells_from style (column + 1 + (c.1 - 1)) cs) ≡ length (flat_map cells_of cs)
    more_count = length-styled style (column + 1 + (c.1 - 1)) (flat_map cells_of cs)

    at : (b : Bool) → (length c.0 == 1) ≡ b
        → ((xs' ys' : List Place) → Within 0 w xs' → Within 0 (column + 1 + (c.1 - 1)) ys'
        → StandFrom style (over_all row ((xs' ++ alone Symbols (column + 1 + (c.1 - 1)) (cells_from style (column + 1 + (c.1 - 1)) cs)) ++ (ys' ++ alone Letters (column + 1 + (c.1 - 1)) (cells_from style (column + 1 + (c.1 - 1)) cs)))) (column + 1 + (c.1 - 1)) cs)
        → StandFrom style (over_all row ((xs ++ (place_of column (if b then Later else First c.0 (style column)) (1 + (c.1 - 1)) ++ alone Symbols (column + 1 + (c.1 - 1)) (cells_from style (column + 1 + (c.1 - 1)) cs)))
        ++ (ys ++ (place_of column (if b then First c.0 (style column) else Later) 1 ++ alone Letters (column + 1 + (c.1 - 1)) (cells_from style (column + 1 + (c.1 - 1)) cs))))) column (c ∷ cs)
    at false e rest =
        let column' = column + 1 + (c.1 - 1) in
        let st = style column in
        let more = cells_from style column' cs in
        let p : Place = record { column = column; symbol = c.0; columns = 1 + (c.1 - 1); style = st } in
        let ss = alone Symbols column' more in
        let ls = alone Letters column' more in
        let spots = spots_of c.0 (1 + (c.1 - 1)) st in
        let n : 1 + (c.1 - 1) ≡ c.1 = omega (arith, some) in
        let count' = length-spots c.0 (1 + (c.1 - 1)) st (omega arith) in
        let r1 = over_all row xs in
        let r2 = put_place r1 p in
        let r3 = over_all r2 ss in
        let r4 = over_all r3 ys in
        let r5 = over_all r4 ls in
        let size1 = length-all w row xs size in_xs in
        let same : over_all row ((xs ++ (p ∷ ss)) ++ (ys ++ ls)) ≡ r5 =
        over_all-append row (xs ++ (p ∷ ss)) (ys ++ ls) ∙ ap (λ (t : List Spot). over_all t (ys ++ ls)) (over_all-append row xs (p ∷ ss)) ∙ over_all-append r3 ys ls in
        let d1 : StandsAt r2 column spots = put-stands r1 column spots (omega (arith, size1, long)) in
        let d2 : StandsAt r3 column spots = all-behind w r2 ss column spots d1 (alone-within Symbols (column + length spots) w column' more (omega (arith, count')) (omega (arith, more_count, fits))) in
        let d3 : StandsAt r4 column spots = all-before 0 r3 ys column c.0 (1 + (c.1 - 1)) st d2 in_ys in
        let d4 : StandsAt r5 column spots = all-behind w r4 ls column spots d3 (alone-within Letters (column + length spots) w column' more (omega (arith, count')) (omega (arith, more_count, fits))) in
        let assoc : (xs ++ (p ∷ [])) ++ ss ≡ xs ++ (p ∷ ss) = append_assoc xs (p ∷ []) ss in (
          subst (λ (t : List Spot). StandsAt t column (spots_of c.0 c.1 st)) (sym same) (subst (λ (m : ℕ). StandsAt r5 column (spots_of c.0 m st)) n d4),
          subst (λ (t : List Place). StandFrom style (over_all row (t ++ (ys ++ ls))) column' cs) assoc
              (rest (xs ++ (p ∷ [])) ys (Within-append 0 w xs (p ∷ []) in_xs ((omega arith, (omega arith, omega (arith, long, count, some))), tt)) (Within-wide 0 column 0 column' ys (omega arith) (omega arith) in_ys)),
        )
    at true e rest =
        let column' = column + 1 + (c.1 - 1) in
        let st = style column in
        let more = cells_from style column' cs in
        let p : Place = record { column = column; symbol = c.0; columns = 1; style = st } in
        let ss = alone Symbols column' more in
        let ls = alone Letters column' more in
        let spots = spots_of c.0 1 st in
        let byte = one_byte c.0 e in
        let n : c.1 ≡ 1 = byte-columns byte.0 c.1 (subst (λ (s : List ℕ). IsMeasured (s, c.1)) byte.1 (All-head IsMeasured c cs kept)) in
        let r1 = over_all (over_all row (xs ++ ss)) ys in
        let r2 = put_place r1 p in
        let r3 = over_all r2 ls in
        let in_ss : Within 0 w ss = alone-within Symbols 0 w column' more (omega arith) (omega (arith, more_count, fits)) in
        let size1 = length-all w (over_all row (xs ++ ss)) ys (length-all w row (xs ++ ss) size (Within-append 0 w xs ss in_xs in_ss)) (Within-wide 0 column 0 w ys (omega arith) (omega (arith, long)) in_ys) in
        let same : over_all row ((xs ++ ss) ++ (ys ++ (p ∷ ls))) ≡ r3 = over_all-append row (xs ++ ss) (ys ++ (p ∷ ls)) ∙ over_all-append (over_all row (xs ++ ss)) ys (p ∷ ls) in
        let d1 : StandsAt r2 column spots = put-stands r1 column spots (omega (arith, size1, long)) in
        let d2 : StandsAt r3 column spots = all-behind w r2 ls column spots d1 (alone-within Letters (column + length spots) w column' more (omega arith) (omega (arith, more_count, fits))) in
        let assoc : (ys ++ (p ∷ [])) ++ ls ≡ ys ++ (p ∷ ls) = append_assoc ys (p ∷ []) ls in (
          subst (λ (t : List Spot). StandsAt t column (spots_of c.0 c.1 st)) (sym same) (subst (λ (m : ℕ). StandsAt r3 column (spots_of c.0 m st)) (sym n) d2),
          subst (λ (t : List Place). StandFrom style (over_all row ((xs ++ ss) ++ t)) column' cs) assoc
              (rest xs (ys ++ (p ∷ [])) in_xs (Within-append 0 column' ys (p ∷ []) (Within-wide 0 column 0 column' ys (omega arith) (omega arith) in_ys) ((omega arith, (omega arith, omega arith)), tt))),
        )

-- a row on which each symbol stands is known
row-shown : (style : ℕ → Style) (cs : List Cluster) (column : ℕ) (row : List Spot) → All HasColumn cs → length row ≡ column + length (flat_map cells_of cs) → StandFrom style row column cs
    → drop column row ≡ known_spots (cells_from style column cs)
unfolding StandFrom
row-shown style [] column row wide size stand = drop_all column row (omega (arith, size))
row-shown style (c ∷ cs) column row wide size stand =
    let d = stand.0 in
    let st = style column in
    let k = c.1 - 1 in
    let column' = column + 1 + k in
    let some = All-head HasColumn c cs wide in
    let spots = spots_of c.0 c.1 st in
    let more = cells_from style column' cs in
    let cell_count = length-cells c some in
    let both_count = length-append (cells_of c) (flat_map cells_of cs) in
    let count = length-spots c.0 c.1 st some in
    let long = length-append d.front spots in
    let front = d.at in
    let rest : d.behind ≡ drop column' row = sym (ap (drop column') (d.is ∙ sym (append_assoc d.front spots d.behind)) ∙ drop_at (d.front ++ spots) d.behind column' (omega (arith, long, count, front, some))) in
    ap (drop column) d.is ∙ drop_at d.front (spots ++ d.behind) column d.at
    ∙ ap (λ (t : List Spot). spots ++ t) (rest ∙ row-shown style cs column' row (All-tail HasColumn c cs wide) (omega (arith, size, cell_count, both_count, some)) stand.1)
    ∙ ap (λ (t : List Spot). Some (First c.0 st) ∷ t) (sym (known-laters k more)) ∙ ap known_spots (sym (styled-cells style column c (flat_map cells_of cs)))

-- the three passes show the cells, whatever stood on the row
pub passes-show : (w : ℕ) (style : ℕ → Style) (cs : List Cluster) (row : List Spot) → All HasColumn cs → All IsMeasured cs → length row ≡ w → length (flat_map cells_of cs) ≡ w
    → over_all row (places Blanks new_pen 0 (cells_from style 0 cs) ++ (places Symbols new_pen 0 (cells_from style 0 cs) ++ places Letters new_pen 0 (cells_from style 0 cs))) ≡ known_spots (cells_from style 0 cs)
passes-show w style cs row wide kept size long =
    let cells = cells_from style 0 cs in
    let count = length-styled style 0 (flat_map cells_of cs) in
    let bs = places Blanks new_pen 0 cells in
    let ss = alone Symbols 0 cells in
    let ls = alone Letters 0 cells in
    let row1 = over_all row bs in
    let within = λ (pass : Pass). alone-within pass 0 w 0 cells (omega arith) (omega (arith, count, long)) in
    let size1 : length row1 ≡ w = length-all w row bs size (places-within Blanks new_pen 0 w 0 cells (omega arith) (omega (arith, count, long))) in
    let size2 : length (over_all row1 (ss ++ ls)) ≡ w = length-all w row1 (ss ++ ls) size1 (Within-append 0 w ss ls (within Symbols) (within Letters)) in
    ap₂ (λ (x y : List Place). over_all row (bs ++ (x ++ y))) (alone-is Symbols symbols-same new_pen 0 cells) (alone-is Letters letters-same new_pen 0 cells)
    ∙ over_all-append row bs (ss ++ ls)
    ∙ row-shown style cs 0 (over_all row1 (ss ++ ls)) wide (omega (arith, size2, long)) (stand-all w style cs 0 row1 [] [] wide kept size1 (omega (arith, long)) tt tt)
