-- A letter behind the pen, in its style, is written by its byte, and leaves the pen as it is.
use Rattle.std.proofs.Common.{◌≡◌, ℕ, ◌==◌, ◌+◌, ◌<◌, ◌≤◌, Bool, true, false, List, [], ◌∷◌, ◌++◌, length, get_or, refl, sym, ap, ◌∙◌, arith, Option, Some, None}
use Rattle.std.specs.Prelude.{IfSome, IsTrue}
use Rattle.std.specs.Int.{is_in_range}
use Rattle.std.proofs.lemmas.Bool.Decides.{nat_tests}
use Rattle.std.specs.List.{flat_map}
use Rattle.scm_cells.specs.declared.style.Style.{Style}
use Rattle.scm_terminal.specs.declared.pen.Pen.{Pen}
use Rattle.scm_terminal.specs.declared.pen.Pass.{Pass}
use Rattle.scm_terminal.specs.declared.pen.Pass.TheVariants.{Letters}
use Rattle.scm_terminal.specs.Letters.{ShowsLetter}
use Rattle.scm_terminal.specs.LetterRun.{ArePushed, IsLetterHere, blank_behind, bytes_from}
use Rattle.scm_terminal.specs.Painting.{cell_commands, is_style_set, passed, pen_after}
use Rattle.scm_terminal.specs.Sent.{blank_after, sent_cell}
use Rattle.scm_terminal.specs.Style.{style_code}
use Rattle.scm_terminal.specs.StyledCell.{StyledCell, First, cell_of, symbol_of_cell}
use Rattle.scm_terminal.specs.Terminal.{bytes_of}
use Rattle.scm_terminal.proofs.ByteLemmas.{letter-is, no-blank, one-sent}
use Rattle.scm_terminal.proofs.PushLemmas.{pass-more}
use Rattle.scm_terminal.proofs.StyleLemmas.{style-same}

-- the style of the terminal, if it is known to be this one
set-is : (set : Option Style) (style : Style) → is_style_set set style ≡ true → set ≡ Some style
set-is None style e = absurd (cc e)
set-is (Some p) style e = let codes : style_code p ≡ style_code style = grind (arith, nat_tests) in ap (λ (s : Style). Some s) (style-same p style codes)

-- behind it the pen is the same
same-pen : (pen : Pen) (pass : Pass) (style : Style) (b : ℕ) → pass ≡ Letters → pen.is_there ≡ true → pen.style ≡ Some style → pen ≡ pen_after pen (passed pass pen.is_there (First (b ∷ []) style))
same-pen pen pass style b is_pass is_there set =
    rw is_pass (ap (λ (t : Bool). record { is_there = t; style = pen.style }) is_there ∙ ap (λ (s : Option Style). record { is_there = true; style = s }) set)

-- its bytes are the letter
its-bytes : (pen : Pen) (pass : Pass) (style : Style) (b row column : ℕ) → pass ≡ Letters → pen.is_there ≡ true → is_style_set pen.style style ≡ true
    → b ∷ [] ≡ flat_map bytes_of (cell_commands row column pen (passed pass pen.is_there (First (b ∷ []) style)) 0)
unfolding bytes_of
its-bytes pen pass style b row column is_pass is_there is_set = rw (is_pass, is_there, is_set) refl

-- a printable character is one of ASCII
pub ascii : (b : ℕ) → IsTrue (is_in_range 0x20 0x7E b) → b < 128
ascii b printable = grind (arith, nat_tests)

-- a letter that the cell shows, if it shows one, is put where the pen is
pub letter-put : (pen : Pen) (pass : Pass) (cell : StyledCell) (style : Style) (o : Option ℕ) → pass ≡ Letters → pen.is_there ≡ true → is_style_set pen.style style ≡ true → cell ≡ cell_of (symbol_of_cell cell) style
    → IfSome o (λ (b : ℕ). ShowsLetter cell b) → IfSome o (λ (b : ℕ). IsLetterHere pen pass cell b)
letter-put pen pass cell style None is_pass is_there is_set read shows = shows
letter-put pen pass cell style (Some b) is_pass is_there is_set read shows = record {
  is_pass = is_pass;
  is_there = is_there;
  style = style;
  is_set = is_set;
  is_it = letter-is cell style b shows read;
  ascii = ascii b shows.printable;
}

-- no cell is pushed yet
pub none-pushed : (pass : Pass) (pen : Pen) (cells : List StyledCell) (from : ℕ) (was : List ℕ) → ArePushed pass pen cells from was from was
none-pushed pass pen cells from was = λ w row blank all inv.
    let same : (from == from) ≡ true = grind (arith, nat_tests) in
    rw same inv

-- one letter more
pub one-pushed : (pass : Pass) (pen : Pen) (cells : List StyledCell) (from end : ℕ) (was now more : List ℕ) (cell : StyledCell) (b : ℕ) → from ≤ end → end < length cells → cell ≡ get_or cells end cell
    → IsLetterHere pen pass cell b → more ≡ now ++ b ∷ [] → ArePushed pass pen cells from was end now → ArePushed pass pen cells from was (end + 1) more
one-pushed pass pen cells from end was now more cell b low within read here e pushed = λ w row blank all inv.
    let next : ((end + 1) == from) ≡ false = grind (arith, nat_tests) in
    let sent : First (b ∷ []) here.style ≡ sent_cell w end (blank_behind from end blank) cell = sym (ap (sent_cell w end (blank_behind from end blank)) here.is_it ∙ one-sent w end b (blank_behind from end blank) here.style) in
    let none : None ≡ blank_after w end (blank_behind from end blank) cell = sym (ap (blank_after w end (blank_behind from end blank)) here.is_it ∙ no-blank w end b (blank_behind from end blank) here.style) in
    let step = pass-more w pass row end pen pen (blank_behind from end blank) None cells cell (First (b ∷ []) here.style) now more all within read sent none
    (same-pen pen pass here.style b here.is_pass here.is_there (set-is pen.style here.style here.is_set)) (e ∙ ap (λ t. now ++ t) (its-bytes pen pass here.style b row end here.is_pass here.is_there here.is_set)) (pushed w row blank all inv) in
    rw next step

-- the bytes of a row, with those that are pushed
pub behind-pushed : (pass : Pass) (pen : Pen) (cells : List StyledCell) (from end w row : ℕ) (blank : Option Style) (was now all : List ℕ) → from < end → ArePushed pass pen cells from was end now
    → was ++ bytes_from w pass row from pen blank cells ≡ all → now ++ bytes_from w pass row end pen None cells ≡ all
behind-pushed pass pen cells from end w row blank was now all past pushed inv =
    let apart : (end == from) ≡ false = grind (arith, nat_tests) in
    rw apart at (pushed w row blank all inv)

-- and with none
pub as-before : (pass : Pass) (pen : Pen) (cells : List StyledCell) (from end w row : ℕ) (blank : Option Style) (was now all : List ℕ) → end ≡ from → ArePushed pass pen cells from was end now
    → was ++ bytes_from w pass row from pen blank cells ≡ all → now ++ bytes_from w pass row from pen blank cells ≡ all
as-before pass pen cells from end w row blank was now all same pushed inv =
    let equal : (end == from) ≡ true = grind (arith, nat_tests) in
    let held = rw equal at (pushed w row blank all inv) in
    ap (λ (k : ℕ). now ++ bytes_from w pass row k pen blank cells) (sym same) ∙ held
