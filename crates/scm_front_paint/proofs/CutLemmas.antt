-- Cuts of a grid.
use Rattle.std.proofs.Common.{◌≡◌, ◌≢◌, ℕ, zero, suc, ◌+◌, ◌-◌, ◌<◌, ◌≤◌, ◌&&◌, min, Bool, true, false, List, [], ◌∷◌, length, get_or, refl, sym, ap, ◌∙◌, subst, arith, Option, Some, None, inl, inr}
use Rattle.std.specs.Int.{is_in_range}
use Rattle.std.specs.Prelude.{◌==◌, max, nat_lt, slice_get, if◌then◌else◌}
use Rattle.std.specs.Option.{option_and_then}
use Rattle.std.proofs.lemmas.Bool.{cases_eq, cases_lt}
use Rattle.std.proofs.lemmas.Bool.Decides.{nat_tests}
use Rattle.scm_cells.specs.Cell.{Cell, ascii_of, single_byte}
use Rattle.scm_cells.specs.Screen.{Screen}
use Rattle.scm_cells.specs.Symbols.{symbol_at, symbol_in, symbol_of}
use Rattle.scm_front_paint.specs.Cut.{IsLead, IsCutRow, KeepsOthers}
use Rattle.scm_front_paint.specs.Labels.{is_title}
use Rattle.scm_front_paint.specs.Symbols.{Symbols}

-- ---- the columns before the next symbol

pub leads : (s : Symbols) (x row column : ℕ) → x ≤ column → ((c : ℕ) → x + c < column → s.at row (x + c) ≡ None)
    → (symbol : List ℕ) → s.at row column ≡ Some symbol → IsLead s x row (column - x)
leads s x row column above none symbol is = record {
  none = λ c h. none c (omega arith);
  next = λ h. (symbol, ap (λ (n : ℕ). s.at row n) (let e : x + (column - x) ≡ column = omega arith in e) ∙ is);
}

-- ---- a row that changes alone

pub keeps-on : (old middle new : Screen) (row : ℕ) → KeepsOthers old middle row → KeepsOthers middle new row → KeepsOthers old new row
keeps-on old middle new row first second = record {
  width = second.width ∙ first.width;
  height = second.height ∙ first.height;
  others = λ k away. second.others k away ∙ first.others k away;
}

pub keeps-all : (s : Screen) (row : ℕ) → KeepsOthers s s row
keeps-all s row = record { width = refl; height = refl; others = λ k away. refl }

-- a cut row stays one
pub still-cut : (old new : Screen) (s : Symbols) (x row k : ℕ) → KeepsOthers old new row → k ≢ row → IsCutRow old s x k → IsCutRow new s x k
still-cut old new s x row k g away is = record {
  lead = is.lead;
  few = is.few;
  is_lead = is.is_lead;
  symbols = λ c h. ap (λ (o : Option (List Cell)). option_and_then (λ (cells : List Cell). symbol_in cells c) o) (g.others k away) ∙ is.symbols c h;
}

-- the rows so far, and one more
pub cut-more : (old new : Screen) (s : Symbols) (x row : ℕ) → KeepsOthers old new row → IsCutRow new s x row → ((k : ℕ) → k < row → IsCutRow old s x k)
    → (k : ℕ) → k < row + 1 → IsCutRow new s x k
cut-more old new s x row g is before k h = elim (cases_eq k row) [
  | inl e ↦ subst (λ (n : ℕ). IsCutRow new s x n) (sym e) is
  | inr away ↦ still-cut old new s x row k g away (before k (omega arith))
]

-- ---- letters of two rows

letter-symbol : (cell : Cell) (b : ℕ) → ascii_of cell ≡ Some b → symbol_of cell ≡ Some (b ∷ [])
letter-symbol cell b e = go (cell.width == 1) (cell.offset == 0) cell.symbol e
  where
    byte : (t : Bool) (c : ℕ) → (if t then Some c else None) ≡ Some b → Some (c ∷ []) ≡ Some (b ∷ [])
    byte true c f = let same : c ≡ b = cc f in ap (λ (n : ℕ). Some (n ∷ [])) same
    byte false c f = absurd (cc f)

    go : (wide first : Bool) (symbol : List ℕ) → (if wide && first then single_byte symbol else None) ≡ Some b → (if first then Some symbol else None) ≡ Some (b ∷ [])
    go true true [] f = absurd (cc f)
    go true true (c ∷ []) f = byte (is_in_range 0x20 0x7E c) c f
    go true true (c ∷ (d ∷ more)) f = absurd (cc f)
    go true false symbol f = absurd (cc f)
    go false first symbol f = absurd (cc f)

pub same-letter : (own other : Cell) (b c : ℕ) → ascii_of own ≡ Some b → ascii_of other ≡ Some c → b ≡ c → symbol_of own ≡ symbol_of other
same-letter own other b c e f same =
    letter-symbol own b e ∙ ap (λ (n : ℕ). Some (n ∷ [])) same ∙ sym (letter-symbol other c f)

got : (cells : List Cell) (k : ℕ) (cell : Cell) → k < length cells → cell ≡ get_or cells k cell → slice_get cells k ≡ Some cell
got [] k cell h e = absurd (omega arith)
got (first ∷ cells) zero cell h e = ap (λ (x : Cell). Some x) (sym e)
got (first ∷ cells) (suc k) cell h e = got cells k cell (omega arith) e

read : (cells : List Cell) (k : ℕ) (cell : Cell) → k < length cells → cell ≡ get_or cells k cell → symbol_in cells k ≡ symbol_of cell
read cells k cell h e = ap (λ (o : Option Cell). option_and_then (λ (x : Cell). symbol_of x) o) (got cells k cell h e)

-- one column more
pub same-more : (columns others : List Cell) (x from column : ℕ) (own other : Cell) → column < length columns → x + column < length others
    → own ≡ get_or columns column own → other ≡ get_or others (x + column) other → symbol_of own ≡ symbol_of other
    → ((c : ℕ) → from ≤ c → c < column → symbol_in columns c ≡ symbol_in others (x + c))
    → (c : ℕ) → from ≤ c → c < column + 1 → symbol_in columns c ≡ symbol_in others (x + c)
same-more columns others x from column own other h k e f same before c low high = elim (cases_eq c column) [
  | inl is ↦
      subst (λ (n : ℕ). symbol_in columns n ≡ symbol_in others (x + n)) (sym is)
      (read columns column own h e ∙ same ∙ sym (read others (x + column) other k f))
  | inr away ↦ before c low (omega arith)
]

at-row : (rows : List (List Cell)) (row c : ℕ) → symbol_at rows row c ≡ symbol_in (get_or rows row []) c
at-row [] row c = refl
at-row (cells ∷ rows) zero c = refl
at-row (cells ∷ rows) (suc row) c = at-row rows row c

pub same-place : (rows others : List (List Cell)) (row column at place : ℕ) (own other : List Cell) → own ≡ get_or rows row [] → other ≡ get_or others at []
    → symbol_in own column ≡ symbol_in other place → symbol_at rows row column ≡ symbol_at others at place
same-place rows others row column at place own other e f same =
    at-row rows row column ∙ ap (λ (cells : List Cell). symbol_in cells column) (sym e) ∙ same ∙ ap (λ (cells : List Cell). symbol_in cells place) f
    ∙ sym (at-row others at place)

-- ---- parts of a row

-- the columns before a place, that place, and those behind it
pub same-behind : (own other : ℕ → Option (List ℕ)) (x from column next : ℕ) → own column ≡ other (x + column)
    → ((c : ℕ) → from ≤ c → c < column → own c ≡ other (x + c)) → ((c : ℕ) → column + 1 ≤ c → c < next → own c ≡ other (x + c))
    → (c : ℕ) → from ≤ c → c < next → own c ≡ other (x + c)
same-behind own other x from column next here before behind c low high = elim (cases_lt c column) [
  | inl h ↦ before c low h
  | inr h ↦ elim (cases_eq c column) [
    | inl is ↦ subst (λ (n : ℕ). own n ≡ other (x + n)) (sym is) here
    | inr away ↦ behind c (omega arith) high
  ]
]

-- the columns before a label, those of its title, and those behind it
module _ (own under title : ℕ → Option (List ℕ)) (width x lead end start stop : ℕ) (starts : start ≡ max (6 - x) lead) (stops : stop ≡ min (width - x) end) where
  abbrev over : ℕ → Option (List ℕ)
  over c = if is_title width (x + c) then title (x + c) else under (x + c)

  beside : (c : ℕ) → is_title width (x + c) ≡ false → own c ≡ under (x + c) → own c ≡ over c
  beside c not e = e ∙ sym (ap (λ (b : Bool). if b then title (x + c) else under (x + c)) not)

  within : (c : ℕ) → is_title width (x + c) ≡ true → own c ≡ title (x + c) → own c ≡ over c
  within c is e = e ∙ sym (ap (λ (b : Bool). if b then title (x + c) else under (x + c)) is)

  pub labelled-part : ((c : ℕ) → lead ≤ c → c < min start end → own c ≡ under (x + c)) → ((c : ℕ) → start ≤ c → c < stop → own c ≡ title (x + c))
      → ((c : ℕ) → max stop start ≤ c → c < end → own c ≡ under (x + c)) → (c : ℕ) → lead ≤ c → c < end → own c ≡ over c
  labelled-part before among behind c low high = elim (cases_lt c start) [
    | inl h ↦
        let left : x + c < 6 = omega (arith, h, starts, low) in
        let not : is_title width (x + c) ≡ false = grind (arith, nat_tests, left) in
        beside c not (before c low (omega (arith, h, high)))
    | inr h ↦ elim (cases_lt c stop) [
      | inl k ↦
          let right : 6 ≤ x + c = omega (arith, h, starts) in
          let inside : x + c < width = omega (arith, k, stops) in
          let is : is_title width (x + c) ≡ true = grind (arith, nat_tests, right, inside) in
          within c is (among c h k)
      | inr k ↦
          let past : width ≤ x + c = omega (arith, k, stops, high) in
          let not : is_title width (x + c) ≡ false = grind (arith, nat_tests, past) in
          beside c not (behind c (omega (arith, h, k)) high)
    ]
  ]

-- the blank columns of a row, and the others
pub cut-row : (own at : ℕ → Option (List ℕ)) (x lead end : ℕ) → ((c : ℕ) → c < lead → own c ≡ Some (32 ∷ []))
    → ((c : ℕ) → lead ≤ c → c < end → own c ≡ at (x + c)) → (c : ℕ) → c < end → own c ≡ (if nat_lt c lead then Some (32 ∷ []) else at (x + c))
cut-row own at x lead end blank rest c h = elim (cases_lt c lead) [
  | inl k ↦ let is : nat_lt c lead ≡ true = grind (arith, nat_tests, k) in blank c k ∙ sym (ap (λ (b : Bool). if b then Some (32 ∷ []) else at (x + c)) is)
  | inr k ↦ let not : nat_lt c lead ≡ false = grind (arith, nat_tests, k) in rest c k h ∙ sym (ap (λ (b : Bool). if b then Some (32 ∷ []) else at (x + c)) not)
]
