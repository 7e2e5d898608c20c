-- A terminal may show symbols of several bytes as it likes.
use Rattle.std.proofs.Common.{◌≡◌, ℕ, ◌+◌, ◌<◌, List, [], ◌∷◌, length, get_or, set, refl, sym, ap, subst, ◌∙◌, arith, Bool, true, false, Option, Some, None, length-set}
use Rattle.std.specs.Prelude.{if◌then◌else◌}
use Rattle.std.proofs.lemmas.List.{get_or-set_same, get_or-set_other}
use Rattle.scm_cells.specs.declared.style.Style.{Style}
use Rattle.scm_terminal.specs.StyledCell.{First}
use Rattle.scm_terminal.specs.Sent.{stays_on_row}
use Rattle.scm_terminal.specs.Terminal.{Spot, Command, MoveTo, SetStyle, Put, SetWrap}
use Rattle.scm_terminal.specs.AnyTerminal.{Display, ChangesRow, PutsByte, Puts, May, Showing, Leaving, row_after, display_after, step, AreWide}
use Rattle.scm_terminal.proofs.SentLemmas.{byte-stays}

-- what is unknown is not known
unlike : {A : Type 0} (o : Option A) (x : A) → o ≡ None → o ≡ Some x → ⊥
unlike o x e f = absurd (cc)

alike : {A : Type 0} (o : Option A) (x y : A) → o ≡ Some x → o ≡ Some y → x ≡ y
alike o x y e f = cc

stays : (row : ℕ) (t : Display) → t.row ≡ Some row → ChangesRow row t t
stays row t e = record { wide = refl; high = refl; others = λ k h. refl; at = e; style = refl; wraps = refl }

puts-kept : (showing : Showing) (symbol : List ℕ) (r c : ℕ) (st : Style) (t : Display) → t.row ≡ Some r → t.column ≡ Some c → t.style ≡ Some st → AreWide t
    → Puts symbol t (record t { rows = set t.rows r (row_after showing symbol c st (get_or t.rows r [])); column = Some (c + 1) })
puts-kept showing symbol r c st t at_row at_column in_style wide =
    let old = get_or t.rows r [] in
    let new = row_after showing symbol c st old in
    let u : Display = record t { rows = set t.rows r new; column = Some (c + 1) } in
    record {
      stays = λ row column off e at on. let same : r ≡ row = alike t.row r row at_row e in record {
        wide = refl;
        high = length-set t.rows r new;
        others = λ k h. get_or-set_other t.rows r k new [] (λ f. h (f ∙ same));
        at = e;
        style = refl;
        wraps = refl;
      };
      byte = λ row column b style off e f g above before is.
          let rows : r ≡ row = alike t.row r row at_row e in
          let columns : c ≡ column = alike t.column c column at_column f in
          let styles : st ≡ style = alike t.style st style in_style g in
          subst (λ (k : ℕ). PutsByte k column b style t u) rows
          (subst (λ (k : ℕ). PutsByte r k b style t u) columns
          (subst (λ (s : Style). PutsByte r c b s t u) styles
          (byte b is (subst (λ (k : ℕ). k < length t.rows) (sym rows) above) (subst (λ (k : ℕ). k < t.width) (sym columns) before))));
    }
  where
    byte : (b : ℕ) → symbol ≡ b ∷ [] → r < length t.rows → c < t.width
        → PutsByte r c b st t (record t { rows = set t.rows r (row_after showing symbol c st (get_or t.rows r [])); column = Some (c + 1) })
    byte b is above before =
        let old = get_or t.rows r [] in
        let new = row_after showing symbol c st old in
        let made : new ≡ set old c (Some (First (b ∷ []) st)) = ap (λ (s : List ℕ). row_after showing s c st old) is in
        let row : get_or (set t.rows r new) r [] ≡ set old c (Some (First (b ∷ []) st)) = get_or-set_same t.rows r new [] above ∙ made in
        let size = wide r above in
        record {
          shows = ap (λ (xs : List Spot). get_or xs c None) row ∙ get_or-set_same old c (Some (First (b ∷ []) st)) None (omega (arith, size, before));
          stay = λ k x s other shows. ap (λ (xs : List Spot). get_or xs k None) row ∙ get_or-set_other old c k (Some (First (b ∷ []) st)) None other ∙ shows;
          moves = λ h. refl;
        }

-- a symbol that may leave its row has several bytes
puts-left : (symbol : List ℕ) (c : ℕ) (t u : Display) → t.column ≡ Some c → stays_on_row t.width c symbol ≡ false → Puts symbol t u
puts-left symbol c t u at_column left = record {
  stays = λ row column off e at on. absurd (no column at on);
  byte = λ row column b style off e at g above before is.
      absurd (no column at (subst (λ (s : List ℕ). stays_on_row t.width column s ≡ true) (sym is) (byte-stays t.width column b)));
}
  where
    no : (column : ℕ) → t.column ≡ Some column → stays_on_row t.width column symbol ≡ true → ⊥
    no column at on =
        let same : c ≡ column = alike t.column c column at_column at in
        let here : stays_on_row t.width c symbol ≡ true = subst (λ (k : ℕ). stays_on_row t.width k symbol ≡ true) (sym same) on in
        absurd (cc)

puts-known : (showing : Showing) (leaving : Leaving) (symbol : List ℕ) (r c : ℕ) (st : Style) (t : Display) → t.row ≡ Some r → t.column ≡ Some c → t.style ≡ Some st → AreWide t
    → Puts symbol t (display_after showing leaving symbol (Some r) (Some c) (Some st) t)
puts-known showing leaving symbol r c st t at_row at_column in_style wide = by (stays_on_row t.width c symbol) refl
  where
    by : (b : Bool) → stays_on_row t.width c symbol ≡ b
        → Puts symbol t (if b then record t { rows = set t.rows r (row_after showing symbol c st (get_or t.rows r [])); column = Some (c + 1) } else leaving symbol t)
    by true on = puts-kept showing symbol r c st t at_row at_column in_style wide
    by false left = puts-left symbol c t (leaving symbol t) at_column left

puts-any : (showing : Showing) (leaving : Leaving) (symbol : List ℕ) (a b : Option ℕ) (s : Option Style) (t : Display) → t.row ≡ a → t.column ≡ b → t.style ≡ s → AreWide t
    → Puts symbol t (display_after showing leaving symbol a b s t)
puts-any showing leaving symbol None b s t e f g wide = record {
  stays = λ row column off h at on. stays row t h;
  byte = λ row column x style off h i j above before is. absurd (unlike t.row row e h);
}
puts-any showing leaving symbol (Some r) None s t e f g wide = record {
  stays = λ row column off h at on. stays row t h;
  byte = λ row column x style off h i j above before is. absurd (unlike t.column column f i);
}
puts-any showing leaving symbol (Some r) (Some c) None t e f g wide = record {
  stays = λ row column off h at on. stays row t h;
  byte = λ row column x style off h i j above before is. absurd (unlike t.style style g j);
}
puts-any showing leaving symbol (Some r) (Some c) (Some st) t e f g wide = puts-known showing leaving symbol r c st t e f g wide

pub steps : (showing : Showing) (leaving : Leaving) (command : Command) (t : Display) → AreWide t → May command t (step showing leaving command t)
steps showing leaving (MoveTo row column) t wide = λ h g. refl
steps showing leaving (SetStyle style) t wide = refl
steps showing leaving (Put symbol columns) t wide = puts-any showing leaving symbol t.row t.column t.style t refl refl refl wide
steps showing leaving (SetWrap wraps) t wide = refl
