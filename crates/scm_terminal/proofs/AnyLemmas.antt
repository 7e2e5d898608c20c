-- On a terminal of any widths a paint changes only the rows that it writes, and each symbol of one byte stands at its place.
use Rattle.std.proofs.Common.{◌≡◌, ◌≢◌, ℕ, ◌&&◌, zero, suc, ◌+◌, ◌<◌, ◌≤◌, ◌==◌, Bool, true, false, List, [], ◌∷◌, ◌++◌, length, get_or, map, refl, sym, ap, ap₂, subst, ◌∙◌, arith, Option, Some, None, ⊎_elim}
use Rattle.std.specs.Prelude.{if◌then◌else◌}
use Rattle.std.specs.List.{All, list_any}
use Rattle.std.proofs.lemmas.Bool.{and_parts, cases_lt}
use Rattle.std.proofs.lemmas.Bool.Decides.{nat_tests}
use Rattle.std.proofs.lemmas.List.{length-map, get_or-map}
use Rattle.std.proofs.lemmas.List.Elements.{All-nil, All-cons, All-head, All-tail}
use Rattle.scm_cells.specs.declared.style.Style.{Style}
use Rattle.scm_terminal.specs.declared.pen.Pen.{Pen}
use Rattle.scm_terminal.specs.declared.pen.Pass.{Pass}
use Rattle.scm_terminal.specs.declared.pen.Pass.TheVariants.{Blanks, Symbols, Letters}
use Rattle.scm_terminal.specs.StyledCell.{StyledCell, First, Later, laters, HasSize}
use Rattle.scm_terminal.specs.Style.{style_code}
use Rattle.scm_terminal.specs.Terminal.{Command, MoveTo, SetStyle, Put, SetWrap}
use Rattle.scm_terminal.specs.AnyTerminal.{Display, ShowsByte, ChangesRow, PutsByte, Puts, May, Might, ShowsRow, IsAsLarge, KeepsPlaces}
use Rattle.scm_terminal.specs.Sent.{stays_on_row}
use Rattle.scm_terminal.specs.Painting.{Line, AreUpdates, sent_line, move_commands, style_commands, cell_commands, pen_after, new_pen, passed, columns_in, pass_commands, row_commands, line_commands, painting, paint_commands}
use Rattle.scm_terminal.proofs.StyleLemmas.{style-same}
use Rattle.scm_terminal.proofs.ReadingLemmas.{one_byte}
use Rattle.scm_terminal.proofs.SentLemmas.{StayFrom, rest-stays, pass-stays, length-row, row-stays, row-byte}

-- ---- commands one after another

pub Might-none : (t u : Display) → Might [] t u → u ≡ t
unfolding Might
Might-none t u h = h

pub Might-first : (c : Command) (cs : List Command) (t u : Display) → Might (c ∷ cs) t u → (middle : Display) × (May c t middle × Might cs middle u)
unfolding Might
Might-first c cs t u h = h

pub Might-split : (xs ys : List Command) (t u : Display) → Might (xs ++ ys) t u → (middle : Display) × (Might xs t middle × Might ys middle u)
unfolding Might
Might-split [] ys t u h = (t, (refl, h))
Might-split (x ∷ xs) ys t u h =
    let more = Might-split xs ys h.0 u h.1.1 in
    (more.0, ((h.0, (h.1.0, more.1.0)), more.1.1))

-- ---- the commands of a cell

abbrev at_place : ℕ → ℕ → Display → Display
at_place r c t = record t { row = Some r; column = Some c }

abbrev in_style : Style → Display → Display
in_style style t = record t { style = Some style }

is-there : (r c : ℕ) (t : Display) → t.row ≡ Some r → t.column ≡ Some c → t ≡ at_place r c t
is-there r c t e f = ap₂ (λ (a b : Option ℕ). record t { row = a; column = b }) e f

is-styled : (style : Style) (t : Display) → t.style ≡ Some style → t ≡ in_style style t
is-styled style t e = ap (λ (s : Option Style). record t { style = s }) e

move-may : (is_there : Bool) (r c : ℕ) (t u : Display) → r < length t.rows → c < t.width → (is_there ≡ true → (t.row ≡ Some r) × (t.column ≡ Some c))
    → Might (move_commands is_there r c) t u → u ≡ at_place r c t
move-may true r c t u h g there might = let is = there refl in Might-none t u might ∙ is-there r c t is.0 is.1
move-may false r c t u h g there might =
    let first = Might-first (MoveTo r c) [] t u might in
    Might-none first.0 u first.1.1 ∙ first.1.0 h g

set-may : (pen : Option Style) (style : Style) (t u : Display) → ((s : Style) → pen ≡ Some s → t.style ≡ Some s) → Might (style_commands pen style) t u → u ≡ in_style style t
set-may None style t u same might =
    let first = Might-first (SetStyle style) [] t u might in
    Might-none first.0 u first.1.1 ∙ first.1.0
set-may (Some p) style t u same might = at (style_code p == style_code style) refl might
  where
    at : (b : Bool) → (style_code p == style_code style) ≡ b → Might (if b then [] else SetStyle style ∷ []) t u → u ≡ in_style style t
    at true e h =
        let codes : style_code p ≡ style_code style = grind (arith, nat_tests) in
        Might-none t u h ∙ is-styled style t (same p refl ∙ ap (λ (s : Style). Some s) (style-same p style codes))
    at false e h =
        let first = Might-first (SetStyle style) [] t u h in
        Might-none first.0 u first.1.1 ∙ first.1.0

cell-may : (r c : ℕ) (pen : Pen) (symbol : List ℕ) (style : Style) (columns : ℕ) (t u : Display) → r < length t.rows → c < t.width
    → (pen.is_there ≡ true → (t.row ≡ Some r) × (t.column ≡ Some c)) → ((s : Style) → pen.style ≡ Some s → t.style ≡ Some s)
    → Might (cell_commands r c pen (First symbol style) columns) t u → Puts symbol (in_style style (at_place r c t)) u
cell-may r c pen symbol style columns t u h g there same might =
    let one = Might-split (move_commands (pen.is_there && (length symbol == 1)) r c) (style_commands pen.style style ++ (Put symbol columns ∷ [])) t u might in
    let two = Might-split (style_commands pen.style style) (Put symbol columns ∷ []) one.0 u one.1.1 in
    let three = Might-first (Put symbol columns) [] two.0 u two.1.1 in
    let moved : one.0 ≡ at_place r c t = move-may (pen.is_there && (length symbol == 1)) r c t one.0 h g (λ e. there (and_parts pen.is_there (length symbol == 1) e).0) one.1.0 in
    let set : two.0 ≡ in_style style one.0 = set-may pen.style style one.0 two.0 (λ s e. ap (λ (x : Display). x.style) moved ∙ same s e) two.1.0 in
    let last : u ≡ three.0 = Might-none three.0 u three.1.1 in
    subst (λ (x : Display). Puts symbol x u) (set ∙ ap (in_style style) moved) (subst (Puts symbol two.0) (sym last) three.1.0)

-- ---- a pass over a row

-- only row `r` has changed
pub record SameBut (r : ℕ) (t u : Display) : Type 0 where
  pub wide : u.width ≡ t.width
  pub high : length u.rows ≡ length t.rows
  pub others : (k : ℕ) → k ≢ r → get_or u.rows k [] ≡ get_or t.rows k []
  pub wraps : u.wraps ≡ t.wraps

SameBut-none : (r : ℕ) (t u : Display) → u ≡ t → SameBut r t u
SameBut-none r t u e = record {
  wide = ap (λ (x : Display). x.width) e;
  high = ap (λ (x : Display). length x.rows) e;
  others = λ k h. ap (λ (x : Display). get_or x.rows k []) e;
  wraps = ap (λ (x : Display). x.wraps) e;
}

SameBut-more : (r : ℕ) (t m u : Display) → SameBut r t m → SameBut r m u → SameBut r t u
SameBut-more r t m u a b = record {
  wide = b.wide ∙ a.wide;
  high = b.high ∙ a.high;
  others = λ k h. b.others k h ∙ a.others k h;
  wraps = b.wraps ∙ a.wraps;
}

-- the symbols of one byte of these cells stand from a column on, and those before it stay
pub record Lettered (r column : ℕ) (cells : List StyledCell) (t u : Display) : Type 0 where
  pub keep : (k c : ℕ) (s : Style) → k < column → ShowsByte t r k c s → ShowsByte u r k c s
  pub puts : (k c : ℕ) (s : Style) → k < length cells → get_or cells k (First [] s) ≡ First (c ∷ []) s → ShowsByte u r (column + k) c s

pub record Passed (pass : Pass) (r column : ℕ) (cells : List StyledCell) (t u : Display) : Type 0 where
  pub same : SameBut r t u
  pub letters : pass ≡ Letters → Lettered r column cells t u

-- what the last pass puts at a cell is the cell, and a symbol of one byte
letter-is : (there : Bool) (p : StyledCell) (symbol : List ℕ) (style : Style) → passed Letters there p ≡ First symbol style → (p ≡ First symbol style) × ((length symbol == 1) ≡ true)
letter-is there Later symbol style e = absurd (cc)
letter-is there (First s st) symbol style e = at (length s == 1) refl e
  where
    at : (b : Bool) → (length s == 1) ≡ b → (if b then First s st else Later) ≡ First symbol style → (First s st ≡ First symbol style) × ((length symbol == 1) ≡ true)
    at true one f = let same : s ≡ symbol = cc in (f, ap (λ (x : List ℕ). length x == 1) (sym same) ∙ one)
    at false one f = absurd (cc)

no-letter : (there : Bool) (p : StyledCell) (c : ℕ) (s : Style) → passed Letters there p ≡ Later → p ≡ First (c ∷ []) s → ⊥
no-letter there p c s e f = let is : passed Letters there (First (c ∷ []) s) ≡ Later = ap (passed Letters there) (sym f) ∙ e in absurd (cc)

puts-later : (r column : ℕ) (there : Bool) (p : StyledCell) (ps : List StyledCell) (t u : Display) → Lettered r (column + 1) ps t u → passed Letters there p ≡ Later
    → (k c : ℕ) (s : Style) → k < suc (length ps) → get_or (p ∷ ps) k (First [] s) ≡ First (c ∷ []) s → ShowsByte u r (column + k) c s
puts-later r column there p ps t u more f zero c s below read = absurd (no-letter there p c s f read)
puts-later r column there p ps t u more f (suc k) c s below read =
    let n : column + 1 + k ≡ column + suc k = omega arith in subst (λ (m : ℕ). ShowsByte u r m c s) n (more.puts k c s (omega arith) read)

puts-first : (r column b : ℕ) (style : Style) (p : StyledCell) (ps : List StyledCell) (m u : Display) → Lettered r (column + 1) ps m u → ShowsByte m r column b style → p ≡ First (b ∷ []) style
    → (k c : ℕ) (s : Style) → k < suc (length ps) → get_or (p ∷ ps) k (First [] s) ≡ First (c ∷ []) s → ShowsByte u r (column + k) c s
puts-first r column b style p ps m u more shows f zero c s below read =
    let both : ◌≡◌ {A = StyledCell} (First (b ∷ []) style) (First (c ∷ []) s) = sym f ∙ read in
    let byte : b ≡ c = cc in
    let styles : style ≡ s = cc in
    let n : column ≡ column + 0 = omega arith in
    subst (λ (k : ℕ). ShowsByte u r k c s) n (more.keep column c s (omega arith) (subst (λ (x : Style). ShowsByte m r column c x) styles (subst (λ (x : ℕ). ShowsByte m r column x style) byte shows)))
puts-first r column b style p ps m u more shows f (suc k) c s below read =
    let n : column + 1 + k ≡ column + suc k = omega arith in subst (λ (x : ℕ). ShowsByte u r x c s) n (more.puts k c s (omega arith) read)

module _ (r w : ℕ) where
  pub pass-may : (pass : Pass) (cells : List StyledCell) (column : ℕ) (pen : Pen) (t u : Display) → t.width ≡ w → r < length t.rows → column + length cells ≤ w → StayFrom w column cells → t.wraps ≡ Some false
      → (pen.is_there ≡ true → 0 < length cells → (t.row ≡ Some r) × (t.column ≡ Some column)) → ((s : Style) → pen.style ≡ Some s → t.style ≡ Some s)
      → Might (pass_commands pass r column pen cells) t u → Passed pass r column cells t u
  unfolding pass_commands
  pass-may pass [] column pen t u wide high long stay off there same might =
      let e = Might-none t u might in
      record {
        same = SameBut-none r t u e;
        letters = λ is. record {
          keep = λ k c s h shows. subst (λ (x : Display). ShowsByte x r k c s) (sym e) shows;
          puts = λ k c s h read. absurd (omega arith);
        };
      }
  pass-may pass (p ∷ ps) column pen t u wide high long stay off there same might =
      at (passed pass pen.is_there p) refl might (λ pen' m wide' high' off' there' same' might'. pass-may pass ps (column + 1) pen' m u wide' high' (omega arith) (rest-stays w column p ps stay) off' there' same' might')
    where
      at : (q : StyledCell) → passed pass pen.is_there p ≡ q → Might (cell_commands r column pen q (columns_in pass (laters ps)) ++ pass_commands pass r (column + 1) (pen_after pen q) ps) t u
          → ((pen' : Pen) (m : Display) → m.width ≡ w → r < length m.rows → m.wraps ≡ Some false → (pen'.is_there ≡ true → 0 < length ps → (m.row ≡ Some r) × (m.column ≡ Some (column + 1)))
          → ((s : Style) → pen'.style ≡ Some s → m.style ≡ Some s) → Might (pass_commands pass r (column + 1) pen' ps) m u → Passed pass r (column + 1) ps m u)
          → Passed pass r column (p ∷ ps) t u
      at Later e h next =
          let rest = next (pen_after pen Later) t wide high off (λ f some. absurd (cc)) same h in
          record {
            same = rest.same;
            letters = λ is. let more = rest.letters is in record {
              keep = λ k c s below shows. more.keep k c s (omega arith) shows;
              puts = puts-later r column pen.is_there p ps t u more (subst (λ (x : Pass). passed x pen.is_there p ≡ Later) is e);
            };
          }
      at (First symbol style) e h next =
          let halves = Might-split (cell_commands r column pen (First symbol style) (columns_in pass (laters ps))) (pass_commands pass r (column + 1) (pen_after pen (First symbol style)) ps) t u h in
          let m = halves.0 in
          let start = in_style style (at_place r column t) in
          let put : Puts symbol start m = cell-may r column pen symbol style (columns_in pass (laters ps)) t m high (omega (arith, wide, long)) (λ f. there f (omega arith)) same halves.1.0 in
          let on : stays_on_row t.width column symbol ≡ true = subst (λ (n : ℕ). stays_on_row n column symbol ≡ true) (sym wide) (pass-stays w column pass pen.is_there p ps stay symbol style e) in
          let row : ChangesRow r start m = put.stays r column off refl refl on in
          let same_row : SameBut r t m = record { wide = row.wide; high = row.high; others = row.others; wraps = row.wraps } in
          let byte = λ (b : ℕ) (f : symbol ≡ b ∷ []). put.byte r column b style off refl refl refl high (omega (arith, wide, long)) f in
          let high' = row.high in
          let rest = next (pen_after pen (First symbol style)) m (row.wide ∙ wide) (omega (arith, high', high)) (row.wraps ∙ off)
          (λ f some. let b = one_byte symbol f in (row.at, (byte b.0 b.1).moves (omega (arith, wide, long, some)))) (λ s f. row.style ∙ f) halves.1.1 in
          record {
            same = SameBut-more r t m u same_row rest.same;
            letters = λ is.
                let more = rest.letters is in
                let letter = letter-is pen.is_there p symbol style (subst (λ (x : Pass). passed x pen.is_there p ≡ First symbol style) is e) in
                let b = one_byte symbol letter.1 in
                let puts : PutsByte r column b.0 style start m = byte b.0 b.1 in
                record {
                  keep = λ k c s below shows. more.keep k c s (omega arith) (puts.stay k c s (λ f. omega (arith, f, below)) shows);
                  puts = puts-first r column b.0 style p ps m u more puts.shows (letter.0 ∙ ap (λ (x : List ℕ). First x style) b.1);
                };
          }

  -- the three passes of a row: what the first two did to the row does not matter
  pub row-may : (cells : List StyledCell) (t u : Display) → t.width ≡ w → r < length t.rows → length cells ≤ w → StayFrom w 0 cells → t.wraps ≡ Some false → Might (row_commands r cells) t u
      → SameBut r t u × ((k c : ℕ) (s : Style) → k < length cells → get_or cells k (First [] s) ≡ First (c ∷ []) s → ShowsByte u r k c s)
  unfolding row_commands
  row-may cells t u wide high long stay off might =
      let blanks = pass_commands Blanks r 0 new_pen cells in
      let symbols = pass_commands Symbols r 0 new_pen cells in
      let letters = pass_commands Letters r 0 new_pen cells in
      let one = Might-split blanks (symbols ++ letters) t u might in
      let two = Might-split symbols letters one.0 u one.1.1 in
      let a = (pass-may Blanks cells 0 new_pen t one.0 wide high (omega (arith, long)) stay off (λ f. absurd (cc)) (λ s f. absurd (cc)) one.1.0).same in
      let a_high = a.high in
      let b = (pass-may Symbols cells 0 new_pen one.0 two.0 (a.wide ∙ wide) (omega (arith, a_high, high)) (omega (arith, long)) stay (a.wraps ∙ off) (λ f. absurd (cc)) (λ s f. absurd (cc)) two.1.0).same in
      let b_high = b.high in
      let c = pass-may Letters cells 0 new_pen two.0 u (b.wide ∙ a.wide ∙ wide) (omega (arith, a_high, b_high, high)) (omega (arith, long)) stay (b.wraps ∙ a.wraps ∙ off) (λ f. absurd (cc)) (λ s f. absurd (cc)) two.1.1 in
      let all = c.letters refl in (
        SameBut-more r t one.0 u a (SameBut-more r one.0 two.0 u b c.same),
        λ k x s below read. let n : 0 + k ≡ k = omega arith in subst (λ (m : ℕ). ShowsByte u r m x s) n (all.puts k x s below read),
      )

-- ---- all rows

shows-same : (t u : Display) (row k c : ℕ) (s : Style) → get_or u.rows row [] ≡ get_or t.rows row [] → ShowsByte t row k c s → ShowsByte u row k c s
shows-same t u row k c s e shows = ap (λ xs. get_or xs k None) e ∙ shows

-- what rows from `r` on, that are written or left out, do to a terminal
record Painted (r : ℕ) (lines : List Line) (t u : Display) : Type 0 where
  pub wide : u.width ≡ t.width
  pub high : length u.rows ≡ length t.rows
  pub wraps : u.wraps ≡ t.wraps
  pub above : (k : ℕ) → k < r → get_or u.rows k [] ≡ get_or t.rows k []
  pub below : (k : ℕ) → r + length lines ≤ k → get_or u.rows k [] ≡ get_or t.rows k []
  pub kept : (j : ℕ) (line : Line) → j < length lines → line ≡ get_or lines j line → line.is_changed ≡ false → get_or u.rows (r + j) [] ≡ get_or t.rows (r + j) []
  pub shown : (j : ℕ) (line : Line) → j < length lines → line ≡ get_or lines j line → line.is_changed ≡ true
      → (k c : ℕ) (s : Style) → k < length line.cells → get_or line.cells k (First [] s) ≡ First (c ∷ []) s → ShowsByte u (r + j) k c s

-- a line of `w` columns, of which each symbol stays on its row
abbrev IsWide : ℕ → Line → Type 0
IsWide w line = (length line.cells ≡ w) × StayFrom w 0 line.cells

-- what a row that is written or left out does to a terminal
record Lined (r : ℕ) (line : Line) (t u : Display) : Type 0 where
  pub same : SameBut r t u
  pub kept : line.is_changed ≡ false → get_or u.rows r [] ≡ get_or t.rows r []
  pub shown : line.is_changed ≡ true → (k c : ℕ) (s : Style) → k < length line.cells → get_or line.cells k (First [] s) ≡ First (c ∷ []) s → ShowsByte u r k c s

line-may : (r w : ℕ) (line : Line) (t u : Display) → t.width ≡ w → r < length t.rows → IsWide w line → t.wraps ≡ Some false → Might (line_commands r line) t u → Lined r line t u
line-may r w line t u wide high size off might = at line.is_changed refl might
  where
    at : (b : Bool) → line.is_changed ≡ b → Might (if b then row_commands r line.cells else []) t u → Lined r line t u
    at true e h = let long = size.0 in let row = row-may r w line.cells t u wide high (omega (arith, long)) size.1 off h in record { same = row.0; kept = λ f. absurd (cc); shown = λ f. row.1 }
    at false e h = let is = Might-none t u h in record { same = SameBut-none r t u is; kept = λ f. ap (λ (x : Display). get_or x.rows r []) is; shown = λ f. absurd (cc) }

painting-may : (w r : ℕ) (lines : List Line) (t u : Display) → t.width ≡ w → r + length lines ≤ length t.rows → All (IsWide w) lines → t.wraps ≡ Some false → Might (painting r lines) t u → Painted r lines t u
unfolding painting
painting-may w r [] t u wide high sizes off might =
    let is = Might-none t u might in
    let same : (k : ℕ) → get_or u.rows k [] ≡ get_or t.rows k [] = λ k. ap (λ (x : Display). get_or x.rows k []) is in
    record {
      wide = ap (λ (x : Display). x.width) is;
      high = ap (λ (x : Display). length x.rows) is;
      wraps = ap (λ (x : Display). x.wraps) is;
      above = λ k h. same k;
      below = λ k h. same k;
      kept = λ j line h read e. absurd (omega arith);
      shown = λ j line h read e. absurd (omega arith);
    }
painting-may w r (line ∷ lines) t u wide high sizes off might =
    let halves = Might-split (line_commands r line) (painting (r + 1) lines) t u might in
    let m = halves.0 in
    let first : Lined r line t m = line-may r w line t m wide (omega (arith, high)) (All-head (IsWide w) line lines sizes) off halves.1.0 in
    let same = first.same in
    let same_high = same.high in
    let rest = painting-may w (r + 1) lines m u (same.wide ∙ wide) (omega (arith, same_high, high)) (All-tail (IsWide w) line lines sizes) (same.wraps ∙ off) halves.1.1 in
    record {
      wide = rest.wide ∙ same.wide;
      high = rest.high ∙ same.high;
      wraps = rest.wraps ∙ same.wraps;
      above = λ k h. rest.above k (omega arith) ∙ same.others k (λ e. omega (arith, e, h));
      below = λ k h. rest.below k (omega (arith, h)) ∙ same.others k (λ e. omega (arith, e, h));
      kept = kept m first rest;
      shown = shown m first rest;
    }
  where
    kept : (m : Display) → Lined r line t m → Painted (r + 1) lines m u → (j : ℕ) (l : Line) → j < suc (length lines) → l ≡ get_or (line ∷ lines) j l → l.is_changed ≡ false → get_or u.rows (r + j) [] ≡ get_or t.rows (r + j) []
    kept m first rest zero l h read e =
        let n : r ≡ r + 0 = omega arith in
        let is : line.is_changed ≡ false = ap (λ (x : Line). x.is_changed) (sym read) ∙ e in
        subst (λ (k : ℕ). get_or u.rows k [] ≡ get_or t.rows k []) n (rest.above r (omega arith) ∙ first.kept is)
    kept m first rest (suc j) l h read e =
        let n : r + 1 + j ≡ r + suc j = omega arith in
        subst (λ (k : ℕ). get_or u.rows k [] ≡ get_or t.rows k []) n (rest.kept j l (omega arith) read e ∙ first.same.others (r + 1 + j) (λ f. omega (arith, f)))

    shown : (m : Display) → Lined r line t m → Painted (r + 1) lines m u → (j : ℕ) (l : Line) → j < suc (length lines) → l ≡ get_or (line ∷ lines) j l → l.is_changed ≡ true
        → (k c : ℕ) (s : Style) → k < length l.cells → get_or l.cells k (First [] s) ≡ First (c ∷ []) s → ShowsByte u (r + j) k c s
    shown m first rest zero l h read e k c s below cell =
        let n : r ≡ r + 0 = omega arith in
        let is : line.is_changed ≡ true = ap (λ (x : Line). x.is_changed) (sym read) ∙ e in
        let size : length l.cells ≡ length line.cells = ap (λ (x : Line). length x.cells) read in
        subst (λ (x : ℕ). ShowsByte u x k c s) n
        (shows-same m u r k c s (rest.above r (omega arith)) (first.shown is k c s (omega (arith, size, below)) (ap (λ (x : Line). get_or x.cells k (First [] s)) (sym read) ∙ cell)))
    shown m first rest (suc j) l h read e k c s below cell =
        let n : r + 1 + j ≡ r + suc j = omega arith in
        subst (λ (x : ℕ). ShowsByte u x k c s) n (rest.shown j l (omega arith) read e k c s below cell)

-- ---- a paint

record PaintedAll (lines : List Line) (t u : Display) : Type 0 where
  pub wide : u.width ≡ t.width
  pub high : length u.rows ≡ length t.rows
  pub wraps : t.wraps ≡ Some true → u.wraps ≡ Some true
  pub below : (k : ℕ) → length lines ≤ k → get_or u.rows k [] ≡ get_or t.rows k []
  pub kept : (j : ℕ) (line : Line) → j < length lines → line ≡ get_or lines j line → line.is_changed ≡ false → get_or u.rows j [] ≡ get_or t.rows j []
  pub shown : (j : ℕ) (line : Line) → j < length lines → line ≡ get_or lines j line → line.is_changed ≡ true
      → (k c : ℕ) (s : Style) → k < length line.cells → get_or line.cells k (First [] s) ≡ First (c ∷ []) s → ShowsByte u j k c s

none-changed : (lines : List Line) (j : ℕ) (line : Line) → list_any (λ (l : Line). l.is_changed) lines ≡ false → j < length lines → line ≡ get_or lines j line → line.is_changed ≡ true → ⊥
none-changed [] j line e h read f = omega arith
none-changed (l ∷ lines) zero line e h read f =
    let is : l.is_changed ≡ true = ap (λ (x : Line). x.is_changed) (sym read) ∙ f in
    let some : list_any (λ (x : Line). x.is_changed) (l ∷ lines) ≡ true = rw is refl in
    absurd (cc)
none-changed (l ∷ lines) (suc j) line e h read f = at l.is_changed refl (λ g. none-changed lines j line g (omega arith) read f)
  where
    at : (b : Bool) → l.is_changed ≡ b → (list_any (λ (x : Line). x.is_changed) lines ≡ false → ⊥) → ⊥
    at true is more = let some : list_any (λ (x : Line). x.is_changed) (l ∷ lines) ≡ true = rw is refl in absurd (cc)
    at false is more =
        let rest : list_any (λ (x : Line). x.is_changed) (l ∷ lines) ≡ list_any (λ (x : Line). x.is_changed) lines = rw is refl in
        more (sym rest ∙ e)

paint-may : (w : ℕ) (lines : List Line) (t u : Display) → t.width ≡ w → length lines ≤ length t.rows → All (IsWide w) lines → Might (paint_commands lines) t u → PaintedAll lines t u
unfolding paint_commands
paint-may w lines t u wide high sizes might = at (list_any (λ line. line.is_changed) lines) refl might
  where
    at : (b : Bool) → list_any (λ (line : Line). line.is_changed) lines ≡ b → Might (if b then SetWrap false ∷ (painting 0 lines ++ (SetWrap true ∷ [])) else []) t u → PaintedAll lines t u
    at true e h =
        let first = Might-first (SetWrap false) (painting 0 lines ++ (SetWrap true ∷ [])) t u h in
        let t1 : Display = record t { wraps = Some false } in
        let halves = Might-split (painting 0 lines) (SetWrap true ∷ []) t1 u (subst (λ (x : Display). Might (painting 0 lines ++ (SetWrap true ∷ [])) x u) first.1.0 first.1.1) in
        let m = halves.0 in
        let last = Might-first (SetWrap true) [] m u halves.1.1 in
        let end : u ≡ record m { wraps = Some true } = Might-none last.0 u last.1.1 ∙ last.1.0 in
        let all = painting-may w 0 lines t1 m wide (omega (arith, high)) sizes refl halves.1.0 in
        let rows : u.rows ≡ m.rows = ap (λ (x : Display). x.rows) end in
        record {
          wide = ap (λ (x : Display). x.width) end ∙ all.wide;
          high = ap (λ (x : Display). length x.rows) end ∙ all.high;
          wraps = λ f. ap (λ (x : Display). x.wraps) end;
          below = λ k g. ap (λ (xs : List (List _)). get_or xs k []) rows ∙ all.below k (omega (arith, g));
          kept = λ j line g read f. let n : 0 + j ≡ j = omega arith in
              ap (λ (xs : List (List _)). get_or xs j []) rows ∙ subst (λ (k : ℕ). get_or m.rows k [] ≡ get_or t.rows k []) n (all.kept j line g read f);
          shown = λ j line g read f k c s below cell. let n : 0 + j ≡ j = omega arith in
              shows-same m u j k c s (ap (λ (xs : List (List _)). get_or xs j []) rows) (subst (λ (x : ℕ). ShowsByte m x k c s) n (all.shown j line g read f k c s below cell));
        }
    at false e h =
        let is = Might-none t u h in
        let same : (k : ℕ) → get_or u.rows k [] ≡ get_or t.rows k [] = λ k. ap (λ (x : Display). get_or x.rows k []) is in
        record {
          wide = ap (λ (x : Display). x.width) is;
          high = ap (λ (x : Display). length x.rows) is;
          wraps = λ f. ap (λ (x : Display). x.wraps) is ∙ f;
          below = λ k g. same k;
          kept = λ j line g read f. same j;
          shown = λ j line g read f. absurd (none-changed lines j line e g read f);
        }

-- ---- what the painter keeps

update-kept : (is_all : Bool) (last : List (List StyledCell)) (lines : List Line) (k : ℕ) (line : Line) → AreUpdates is_all last lines → k < length lines → line ≡ get_or lines k line
    → is_all ≡ false → get_or last k [] ≡ line.cells → line.is_changed ≡ false
update-kept is_all last [] k line updates h read e same = absurd (omega arith)
update-kept is_all [] (l ∷ lines) k line updates h read e same = absurd updates
update-kept is_all (b ∷ last) (l ∷ lines) zero line updates h read e same =
    ap (λ (x : Line). x.is_changed) read ∙ updates.0.1 (e, ap (λ (x : Line). x.cells) (sym read) ∙ sym same)
update-kept is_all (b ∷ last) (l ∷ lines) (suc k) line updates h read e same = update-kept is_all last lines k line updates.1 (omega arith) read e same

update-left : (is_all : Bool) (last : List (List StyledCell)) (lines : List Line) (k : ℕ) (line : Line) → AreUpdates is_all last lines → k < length lines → line ≡ get_or lines k line
    → line.is_changed ≡ false → (is_all ≡ false) × (get_or last k [] ≡ line.cells)
update-left is_all last [] k line updates h read e = absurd (omega arith)
update-left is_all [] (l ∷ lines) k line updates h read e = absurd updates
update-left is_all (b ∷ last) (l ∷ lines) zero line updates h read e =
    let was = updates.0.0 (ap (λ (x : Line). x.is_changed) (sym read) ∙ e) in
    (was.0, sym was.1 ∙ ap (λ (x : Line). x.cells) (sym read))
update-left is_all (b ∷ last) (l ∷ lines) (suc k) line updates h read e = update-left is_all last lines k line updates.1 (omega arith) read e

-- what is sent for lines of `w` columns
sents-wide : (w : ℕ) (lines : List Line) → All (λ line. length line.cells ≡ w) lines → All (IsWide w) (map sent_line lines)
sents-wide w [] sizes = All-nil (IsWide w)
sents-wide w (line ∷ lines) sizes =
    let size = All-head (λ (l : Line). length l.cells ≡ w) line lines sizes in
    All-cons (IsWide w) (sent_line line) (map sent_line lines) (length-row line.cells ∙ size, row-stays w line.cells size) (sents-wide w lines (All-tail (λ (l : Line). length l.cells ≡ w) line lines sizes))

pub keeps-places : (w : ℕ) (is_all : Bool) (last lasts next : List (List StyledCell)) (lines : List Line) → All (λ line. length line.cells ≡ w) lines
    → length lines ≡ length next → ((k : ℕ) (line : Line) → k < length lines → line ≡ get_or lines k line → line.cells ≡ get_or next k [])
    → AreUpdates is_all lasts lines → (is_all ≡ false → lasts ≡ last) → (is_all ≡ false → HasSize w (length next) last) → (HasSize w (length next) last → is_all ≡ false)
    → KeepsPlaces w last next (paint_commands (map sent_line lines))
keeps-places w is_all last lasts next lines all_wide count cells updates same fits fitted = record {
  keeps = λ t u places might size row equal.
      let high = places.high in
      let all = paint-may w sents t u places.wide (omega (arith, count, sent_count, high)) sizes might in
      ⊎_elim
      (λ (h : row < length lines).
      let line = get_or lines row (record { cells = []; is_changed = false }) in
      let read : line ≡ get_or lines row line = again lines row _ h in
      let not_all = fitted size in
      all.kept row (sent_line line) (omega (arith, sent_count, h)) (sent-at row line h read) (update-kept is_all lasts lines row line updates h read not_all (ap (λ (xs : List (List StyledCell)). get_or xs row []) (same not_all) ∙ equal ∙ sym (cells row line h read))))
      (λ (h : length lines ≤ row). all.below row (omega (arith, sent_count, h)))
      (cases_lt row (length lines));
  below = λ t u places might row past.
      let high = places.high in
      let all = paint-may w sents t u places.wide (omega (arith, count, sent_count, high)) sizes might in
      all.below row (omega (arith, count, sent_count, past));
  shows = λ t u places might row inside stood column b style across cell.
      let high = places.high in
      let all = paint-may w sents t u places.wide (omega (arith, count, sent_count, high)) sizes might in
      let h : row < length lines = omega (arith, count, inside) in
      let line = get_or lines row (record { cells = []; is_changed = false }) in
      let read : line ≡ get_or lines row line = again lines row _ h in
      at t u all row stood column b style line h read inside across cell line.is_changed refl;
  sized = λ t u places might.
      let high = places.high in
      let all = paint-may w sents t u places.wide (omega (arith, count, sent_count, high)) sizes might in
      record { wide = all.wide; high = all.high };
  wraps = λ t u places might on. let high = places.high in (paint-may w sents t u places.wide (omega (arith, count, sent_count, high)) sizes might).wraps on;
}
  where
    sents : List Line
    sents = map sent_line lines

    sent_count : length (map sent_line lines) ≡ length lines
    sent_count = length-map lines sent_line

    sizes : All (IsWide w) (map sent_line lines)
    sizes = sents-wide w lines all_wide

    again : (xs : List Line) (k : ℕ) (d : Line) → k < length xs → get_or xs k d ≡ get_or xs k (get_or xs k d)
    again [] k d h = absurd (omega arith)
    again (x ∷ xs) zero d h = refl
    again (x ∷ xs) (suc k) d h = again xs k d (omega arith)

    sent-at : (row : ℕ) (line : Line) → row < length lines → line ≡ get_or lines row line → sent_line line ≡ get_or (map sent_line lines) row (sent_line line)
    sent-at row line h read = ap sent_line read ∙ sym (get_or-map sent_line lines row line (sent_line line) h)

    at : (t u : Display) → PaintedAll (map sent_line lines) t u → (row : ℕ) → (HasSize w (length next) last → ShowsRow t last row) → (column b : ℕ) (style : Style) (line : Line) → row < length lines → line ≡ get_or lines row line
        → row < length next → column < length (get_or next row []) → get_or (get_or next row []) column (First [] style) ≡ First (b ∷ []) style
        → (changed : Bool) → line.is_changed ≡ changed → ShowsByte u row column b style
    at t u all row stood column b style line h read inside across cell true e =
        let is = cells row line h read in
        let long : length line.cells ≡ length (get_or next row []) = ap (λ (ps : List StyledCell). length ps) is in
        let count' = length-row line.cells in
        all.shown row (sent_line line) (omega (arith, sent_count, h)) (sent-at row line h read) e column b style (omega (arith, long, count', across))
        (row-byte line.cells column b style (omega (arith, long, across)) (ap (λ (ps : List StyledCell). get_or ps column (First [] style)) is ∙ cell))
    at t u all row stood column b style line h read inside across cell false e =
        let left = update-left is_all lasts lines row line updates h read e in
        let size = fits left.0 in
        let was : get_or last row [] ≡ get_or next row [] = ap (λ (xs : List (List StyledCell)). get_or xs row []) (sym (same left.0)) ∙ left.1 ∙ cells row line h read in
        let high = size.high in
        let long : length (get_or last row []) ≡ length (get_or next row []) = ap (λ (ps : List StyledCell). length ps) was in
        shows-same t u row column b style (all.kept row (sent_line line) (omega (arith, sent_count, h)) (sent-at row line h read) e)
        (stood size column b style (omega (arith, long, across)) (ap (λ (ps : List StyledCell). get_or ps column (First [] style)) was ∙ cell))
