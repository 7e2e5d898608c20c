-- A letter is sent as it is, no blanks follow it, and the first two passes put nothing of it.
use Rattle.std.proofs.Common.{◌≡◌, ℕ, ◌+◌, ◌<◌, ◌≤◌, Bool, true, false, List, [], ◌∷◌, length, get_or, refl, sym, ap, subst, ◌∙◌, arith, Option, Some, None}
use Rattle.std.proofs.lemmas.List.{get_or_default}
use Rattle.scm_cells.specs.declared.style.Style.{Style}
use Rattle.scm_terminal.specs.declared.pen.Pass.TheVariants.{Blanks, Symbols}
use Rattle.scm_terminal.specs.Letters.{ShowsByte, ShowsLetter}
use Rattle.scm_terminal.specs.Painting.{passed}
use Rattle.scm_terminal.specs.PassedOver.{IsPassedOver}
use Rattle.scm_terminal.specs.Sent.{blank_after, sent_cell, stays_on_row}
use Rattle.scm_terminal.specs.StyledCell.{StyledCell, First, Later, cell_of, symbol_of_cell}

pub letter-is : (cell : StyledCell) (style : Style) (b : ℕ) → ShowsLetter cell b → cell ≡ cell_of (symbol_of_cell cell) style → cell ≡ First (b ∷ []) style
letter-is cell style b shows e = e ∙ ap (λ (o : Option (List ℕ)). cell_of o style) shows.is_it

pub one-sent : (w column b : ℕ) (blank : Option Style) (style : Style) → sent_cell w column blank (First (b ∷ []) style) ≡ First (b ∷ []) style
unfolding stays_on_row
one-sent w column b blank style = refl

pub no-blank : (w column b : ℕ) (blank : Option Style) (style : Style) → blank_after w column blank (First (b ∷ []) style) ≡ None
unfolding stays_on_row
no-blank w column b blank style = refl

pub letter-sent : (w column : ℕ) (blank : Option Style) (cell : StyledCell) (style : Style) (b : ℕ) → ShowsLetter cell b → cell ≡ cell_of (symbol_of_cell cell) style
    → sent_cell w column blank cell ≡ First (b ∷ []) style
letter-sent w column blank cell style b shows e = ap (sent_cell w column blank) (letter-is cell style b shows e) ∙ one-sent w column b blank style

pub letter-blank : (w column : ℕ) (blank : Option Style) (cell : StyledCell) (style : Style) (b : ℕ) → ShowsLetter cell b → cell ≡ cell_of (symbol_of_cell cell) style
    → blank_after w column blank cell ≡ None
letter-blank w column blank cell style b shows e = ap (blank_after w column blank) (letter-is cell style b shows e) ∙ no-blank w column b blank style

-- ---- what the first two passes put

symbol-is : (text : List ℕ) (style : Style) (b : ℕ) → symbol_of_cell (First text style) ≡ Some (b ∷ []) → text ≡ b ∷ []
symbol-is text style b e = cc

blanks-pass : (b : ℕ) (style : Style) → IsPassedOver Blanks (First (b ∷ []) style)
unfolding stays_on_row
blanks-pass b style = record { puts_nothing = both; no_blanks = λ w column blank. refl }
  where
    both : (is_there : Bool) (w column : ℕ) (blank : Option Style) → passed Blanks is_there (sent_cell w column blank (First (b ∷ []) style)) ≡ Later
    both true w column blank = refl
    both false w column blank = refl

symbols-pass : (b : ℕ) (style : Style) → IsPassedOver Symbols (First (b ∷ []) style)
unfolding stays_on_row
symbols-pass b style = record { puts_nothing = λ t w column blank. refl; no_blanks = λ w column blank. refl }

pub byte-blanks : (cell : StyledCell) → ShowsByte cell → IsPassedOver Blanks cell
byte-blanks (First text style) shows = rw (symbol-is text style shows.byte shows.is_it) (blanks-pass shows.byte style)
byte-blanks Later shows = let e = shows.is_it in absurd (cc)

pub byte-symbols : (cell : StyledCell) → ShowsByte cell → IsPassedOver Symbols cell
byte-symbols (First text style) shows = rw (symbol-is text style shows.byte shows.is_it) (symbols-pass shows.byte style)
byte-symbols Later shows = let e = shows.is_it in absurd (cc)

-- a symbol of one byte, read from the list
pub byte-at : (cells : List StyledCell) (k i : ℕ) (cell : StyledCell) → i ≤ k → k < i + 1 → i < length cells → cell ≡ get_or cells i cell → ShowsByte cell → ShowsByte (get_or cells k Later)
byte-at cells k i cell low high within read shows =
    let same : i ≡ k = omega arith in
    subst (λ (n : ℕ). ShowsByte (get_or cells n Later)) same (subst ShowsByte (read ∙ sym (get_or_default cells i Later cell within)) shows)
