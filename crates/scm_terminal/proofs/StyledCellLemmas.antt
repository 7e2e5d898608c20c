-- A cell shows a symbol in a style if its text and the number of its style are the same.
use Rattle.std.proofs.Common.{◌≡◌, ℕ, Bool, true, false, ◌&&◌, ◌==◌, List, [], ◌∷◌, get_or, refl, sym, ap, ap₂, ◌∙◌, arith, IsTrue}
use Rattle.std.specs.Prelude.{◌↔◌, if◌then◌else◌, Option, Some, None, slice_get}
use Rattle.std.specs.Int.{is_in_range}
use Rattle.std.proofs.lemmas.Bool.{and_parts}
use Rattle.std.proofs.lemmas.Bool.Decides.{nat_tests}
use Rattle.std.proofs.lemmas.Option.{unwrap_or-slice_get}
use Rattle.scm_cells.specs.Cell.{Cell}
use Rattle.scm_cells.specs.Screen.{Screen}
use Rattle.scm_cells.specs.Symbols.{symbol_at, symbol_in}
use Rattle.scm_cells.specs.declared.style.Style.{Style}
use Rattle.scm_terminal.specs.Letters.{IsLetterAt}
use Rattle.scm_terminal.specs.StyledCell.{cell_in, cell_of, First, Later, letter_of, StyledCell}
use Rattle.scm_terminal.specs.Style.{plain_style, style_code}
use Rattle.scm_terminal.proofs.StyleLemmas.{style-same}

same-text : (text symbol : List ℕ) (was style : Style) → (First text was) ≡ (First symbol style) → text ≡ symbol
same-text text symbol was style e = cc

same-style : (text symbol : List ℕ) (was style : Style) → (First text was) ≡ (First symbol style) → was ≡ style
same-style text symbol was style e = cc

both : (a b : Bool) → a ≡ true → b ≡ true → (a && b) ≡ true
both a b h g = rw (h, g) refl

same_numbers : (m n : ℕ) → m ≡ n → (m == n) ≡ true
same_numbers m n e = grind (arith, nat_tests)

numbers_same : (m n : ℕ) → (m == n) ≡ true → m ≡ n
numbers_same m n e = grind (arith, nat_tests)

-- a test of the text and one of the number of the style
pub same-first : (text symbol : List ℕ) (was style : Style) (e : Bool) (m n : ℕ) (now : StyledCell) → (IsTrue e ↔ (text ≡ symbol)) → m ≡ style_code was → n ≡ style_code style → First text was ≡ now
    → (IsTrue (e && (m == n)) ↔ (now ≡ First symbol style))
same-first text symbol was style e m n now says code number view = (
  λ h. let parts = and_parts e (m == n) h in
      sym view ∙ ap₂ First (says.0 parts.0) (style-same was style (sym code ∙ numbers_same m n parts.1 ∙ number)),
  λ p. both e (m == n) (says.1 (same-text text symbol was style (view ∙ p))) (same_numbers m n (code ∙ ap style_code (same-style text symbol was style (view ∙ p)) ∙ sym number)),
)

-- the same where no symbol may begin
pub same-if-first : (is_first : Bool) (text symbol : List ℕ) (was style : Style) (e : Bool) (m n : ℕ) (now : StyledCell) → (IsTrue e ↔ (text ≡ symbol)) → m ≡ style_code was → n ≡ style_code style
    → (if is_first then First text was else Later) ≡ now
    → (IsTrue ((is_first && e) && (m == n)) ↔ (now ≡ First symbol style))
same-if-first true text symbol was style e m n now says code number view = same-first text symbol was style e m n now says code number view
same-if-first false text symbol was style e m n now says code number view = (λ h. absurd (cc), λ p. absurd (cc))

-- what a cell shows by its byte
pub shows-byte : (b : ℕ) (is_first : Bool) (text : List ℕ) (was : Style) (now : StyledCell) → is_in_range 0x20 0x7E b ≡ true
    → (if is_in_range 0x20 0x7E b then First (b ∷ []) was else if is_first then First text was else Later) ≡ now → First (b ∷ []) was ≡ now
shows-byte b is_first text was now e view = rw e at view

pub shows-text : (b : ℕ) (is_first : Bool) (text : List ℕ) (was : Style) (now : StyledCell) → is_in_range 0x20 0x7E b ≡ false
    → (if is_in_range 0x20 0x7E b then First (b ∷ []) was else if is_first then First text was else Later) ≡ now → (if is_first then First text was else Later) ≡ now
shows-text b is_first text was now e view = rw e at view

-- bytes
pub byte-decides : (a b : ℕ) → (IsTrue (a == b) ↔ ((a ∷ []) ≡ (b ∷ [])))
byte-decides a b = (λ h. ap (λ n. n ∷ []) (numbers_same a b h), λ e. same_numbers a b (cc))

not-zero : (b : ℕ) → is_in_range 0x20 0x7E b ≡ true → (0 == b) ≡ false
not-zero b e = grind (arith, nat_tests)

pub letter-decides : (text : List ℕ) (b : ℕ) → is_in_range 0x20 0x7E b ≡ true → (IsTrue (letter_of text == b) ↔ (text ≡ (b ∷ [])))
letter-decides [] b p = (λ h. absurd (let not = not-zero b p in cc), λ e. absurd (cc))
letter-decides (a ∷ []) b p = byte-decides a b
letter-decides (a ∷ (d ∷ text)) b p = (λ h. absurd (let not = not-zero b p in cc), λ e. absurd (cc))

pub letter-decided : (text : List ℕ) (b : ℕ) → is_in_range 0x20 0x7E b ≡ true → (IsTrue (letter_of text == b) ↔ ((b ∷ []) ≡ text))
letter-decided text b p = let says = letter-decides text b p in (λ h. sym (says.0 h), λ e. says.1 (sym e))

pub same-byte : (a b : ℕ) (is_first : Bool) (text : List ℕ) (was style : Style) (m n : ℕ) (now : StyledCell) → is_in_range 0x20 0x7E b ≡ true → m ≡ style_code was → n ≡ style_code style
    → (if is_in_range 0x20 0x7E a then First (a ∷ []) was else if is_first then First text was else Later) ≡ now
    → IsTrue ((a == b) && (m == n)) → now ≡ First (b ∷ []) style
same-byte a b is_first text was style m n now p code number view t =
    let parts = and_parts (a == b) (m == n) t in
    let same : a ≡ b = numbers_same a b parts.0 in
    let printable : is_in_range 0x20 0x7E a ≡ true = ap (is_in_range 0x20 0x7E) same ∙ p in
    sym (shows-byte a is_first text was now printable view)
    ∙ ap₂ (λ (k : ℕ) (s : Style). First (k ∷ []) s) same (style-same was style (sym code ∙ numbers_same m n parts.1 ∙ number))

-- a letter among the columns of a row of a grid
in-row : (rows : List (List Cell)) (row column : ℕ) → symbol_at rows row column ≡ symbol_in (get_or rows row []) column
in-row rows row column = go (slice_get rows row) refl
  where
    go : (o : Option (List Cell)) → slice_get rows row ≡ o → symbol_at rows row column ≡ symbol_in (get_or rows row []) column
    go None e = rw (sym (unwrap_or-slice_get rows row []), e) refl
    go (Some cells) e = rw (sym (unwrap_or-slice_get rows row []), e) refl

pub at-letter : (rows : List (List Cell)) (row column b : ℕ) (columns : List Cell) → columns ≡ get_or rows row [] → IsLetterAt columns column b → symbol_at rows row column ≡ Some (b ∷ [])
at-letter rows row column b columns e letter = in-row rows row column ∙ ap (λ (cells : List Cell). symbol_in cells column) (sym e) ∙ letter.is_it

pub letters-in-row : (grid : Screen) (row : ℕ) (columns : List Cell) (styles : List Style) (k : ℕ) (cell : StyledCell) → columns ≡ get_or grid.rows row [] → cell ≡ cell_of (symbol_in columns k) (get_or styles k plain_style)
    → cell ≡ cell_in styles grid row k
letters-in-row grid row columns styles k cell e shows =
    shows ∙ ap (λ (o : Option (List ℕ)). cell_of o (get_or styles k plain_style)) (ap (λ (cells : List Cell). symbol_in cells k) e ∙ sym (in-row grid.rows row k))
