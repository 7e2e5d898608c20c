-- Commands that stay on some rows do the same on a terminal that shows the same there, whatever it shows elsewhere.
use Rattle.std.proofs.Common.{◌≡◌, ℕ, ◌+◌, ◌<◌, Bool, true, false, ◌&&◌, ◌==◌, nat_lt, nat_le, List, [], ◌∷◌, length, get_or, set, refl, sym, ap, ◌∙◌, subst, arith, Option, Some, None, inl, inr}
use Rattle.std.specs.Prelude.{if◌then◌else◌}
use Rattle.std.specs.List.{All}
use Rattle.std.specs.Option.{option_and_then}
use Rattle.std.proofs.lemmas.Bool.{cases_eq}
use Rattle.std.proofs.lemmas.Bool.Decides.{nat_tests}
use Rattle.std.proofs.lemmas.List.{get_or-set_same, get_or-set_other, length-set}
use Rattle.std.proofs.lemmas.List.Elements.{All-head, All-tail}
use Rattle.scm_cells.specs.declared.style.Style.{Style}
use Rattle.scm_terminal.specs.Promise.{MovesTo}
use Rattle.scm_terminal.specs.Terminal.{Terminal, Spot, Command, MoveTo, SetStyle, Put, SetWrap, spots_of, over, put, after, after_all}

abbrev terminal : ℕ → List (List Spot) → Option (ℕ × ℕ) → Option Style → Terminal
terminal w rows cursor style = record { width = w; rows = rows; cursor = cursor; style = style }

some-is : {X : Type 0} {a b : X} → Some a ≡ Some b → a ≡ b
some-is e = cc

-- ---- terminals that show the same on the rows that `P` names

module _ (P : ℕ → Type 0) where
  -- `u` shows what `t` shows there, and the cursor of `t`, if it is known, is there, and is that of `u`
  pub record Alike (t u : Terminal) : Type 0 where
    pub wide : u.width ≡ t.width
    pub rows : (k : ℕ) → P k → get_or u.rows k [] ≡ get_or t.rows k []
    pub of_first : (k : ℕ) → P k → k < length t.rows
    pub of_second : (k : ℕ) → P k → k < length u.rows
    pub style : u.style ≡ t.style
    pub cursor : (at : ℕ × ℕ) → t.cursor ≡ Some at → (u.cursor ≡ Some at) × P at.0

  -- elsewhere `v` shows what `u` shows
  pub record Keeps (u v : Terminal) : Type 0 where
    pub wide : v.width ≡ u.width
    pub high : length v.rows ≡ length u.rows
    pub others : (k : ℕ) → (P k → ⊥) → get_or v.rows k [] ≡ get_or u.rows k []

  pub keeps-none : (u : Terminal) → Keeps u u
  keeps-none u = record { wide = refl; high = refl; others = λ k h. refl }

  pub keeps-more : (u v w : Terminal) → Keeps u v → Keeps v w → Keeps u w
  keeps-more u v w g h = record { wide = h.wide ∙ g.wide; high = h.high ∙ g.high; others = λ k n. h.others k n ∙ g.others k n }

  -- what the effect of a command does to `u`, if it makes `t2` of a terminal `t` like `u`
  pub record Follows (effect : Terminal → Option Terminal) (t t2 u : Terminal) : Type 0 where
    pub end : Terminal
    pub runs : effect u ≡ Some end
    pub alike : Alike t2 end
    pub keeps : Keeps u end
    pub sized : length t2.rows ≡ length t.rows

  -- ---- a symbol

  abbrev landed : ℕ → List (List Spot) → ℕ × ℕ → List ℕ → ℕ → Style → Terminal
  landed w rows at symbol columns style =
      terminal w (set rows at.0 (over (get_or rows at.0 []) at.1 (spots_of symbol columns style)))
      (if (length symbol == 1) && nat_lt (at.1 + columns) w then Some (at.0, at.1 + columns) else None) (Some style)

  put-is : (w : ℕ) (rows : List (List Spot)) (cursor : Option (ℕ × ℕ)) (at : ℕ × ℕ) (symbol : List ℕ) (columns : ℕ) (style : Style)
      → put symbol columns (Some at) (Some style) (terminal w rows cursor (Some style)) ≡ (if nat_le (at.1 + columns) w then Some (landed w rows at symbol columns style) else None)
  unfolding put
  put-is w rows cursor at symbol columns style = refl

  module _ (w : ℕ) (rows others : List (List Spot)) (at : ℕ × ℕ) (is : P at.0)
      (of_first : (k : ℕ) → P k → k < length rows) (of_second : (k : ℕ) → P k → k < length others)
      (same : (k : ℕ) → P k → get_or others k [] ≡ get_or rows k []) where
    row-after : (x y : List Spot) → y ≡ x → (k : ℕ) → P k → get_or (set others at.0 y) k [] ≡ get_or (set rows at.0 x) k []
    row-after x y e k h = elim (cases_eq k at.0) [
      | inl here ↦
          ap (λ (j : ℕ). get_or (set others at.0 y) j []) here ∙ get_or-set_same others at.0 y [] (of_second at.0 is) ∙ e
          ∙ sym (ap (λ (j : ℕ). get_or (set rows at.0 x) j []) here ∙ get_or-set_same rows at.0 x [] (of_first at.0 is))
      | inr away ↦ get_or-set_other others at.0 k y [] away ∙ same k h ∙ sym (get_or-set_other rows at.0 k x [] away)
    ]

    cursor-after : (c : Bool) (next a : ℕ × ℕ) → next.0 ≡ at.0 → (if c then Some next else None) ≡ Some a → P a.0
    cursor-after true next a e f =
        let is_next : next ≡ a = cc f in
        subst P (sym e ∙ ap (λ (p : ℕ × ℕ). p.0) is_next) is
    cursor-after false next a e f = absurd (cc f)

    lands : (symbol : List ℕ) (columns : ℕ) (style : Style) → Alike (landed w rows at symbol columns style) (landed w others at symbol columns style)
    lands symbol columns style = record {
      wide = refl;
      rows = row-after _ _ (ap (λ (row : List Spot). over row at.1 (spots_of symbol columns style)) (same at.0 is));
      of_first = λ k h. subst (λ (n : ℕ). k < n) (sym (length-set rows at.0 _)) (of_first k h);
      of_second = λ k h. subst (λ (n : ℕ). k < n) (sym (length-set others at.0 _)) (of_second k h);
      style = refl;
      cursor = λ a e. (e, cursor-after ((length symbol == 1) && nat_lt (at.1 + columns) w) (at.0, at.1 + columns) a refl e);
    }

    keeps-put : (cursor : Option (ℕ × ℕ)) (symbol : List ℕ) (columns : ℕ) (style : Style) → Keeps (terminal w others cursor (Some style)) (landed w others at symbol columns style)
    keeps-put cursor symbol columns style = record {
      wide = refl;
      high = length-set others at.0 _;
      others = λ k h. get_or-set_other others at.0 k _ [] (λ e. h (subst P (sym e) is));
    }

    follows-if : (b : Bool) (t2 : Terminal) (cursor : Option (ℕ × ℕ)) (symbol : List ℕ) (columns : ℕ) (style : Style)
        → nat_le (at.1 + columns) w ≡ b → (if b then Some (landed w rows at symbol columns style) else None) ≡ Some t2
        → (first : Terminal) → first.rows ≡ rows → Follows (λ u. put symbol columns (Some at) (Some style) u) first t2 (terminal w others cursor (Some style))
    follows-if true t2 cursor symbol columns style fits e first own = record {
      end = landed w others at symbol columns style;
      runs = put-is w others cursor at symbol columns style ∙ ap (λ (b : Bool). if b then Some (landed w others at symbol columns style) else None) fits;
      alike = subst (λ (t : Terminal). Alike t (landed w others at symbol columns style)) (some-is e) (lands symbol columns style);
      keeps = keeps-put cursor symbol columns style;
      sized = subst (λ (t : Terminal). length t.rows ≡ length first.rows) (some-is e) (length-set rows at.0 _ ∙ ap length (sym own));
    }
    follows-if false t2 cursor symbol columns style fits e first own = absurd (cc e)

  -- ---- a command

  abbrev in_style : Style → Terminal → Terminal
  in_style style t = record t { style = Some style }

  move-if : (t u t2 : Terminal) (row column : ℕ) (b c : Bool) → nat_lt row (length t.rows) ≡ b → nat_lt column t.width ≡ c
      → Alike t u → (row < length t.rows → P row)
      → (if b && c then Some (record t { cursor = Some (row, column) }) else None) ≡ Some t2
      → Follows (λ x. if nat_lt row (length x.rows) && nat_lt column x.width then Some (record x { cursor = Some (row, column) }) else None) t t2 u
  move-if t u t2 row column true true is_row is_column g inside e =
      let below : row < length t.rows = grind (arith, nat_tests) in
      let there = inside below in
      let row_too : nat_lt row (length u.rows) ≡ true = (let h = g.of_second row there in grind (arith, nat_tests)) in
      let column_too : nat_lt column u.width ≡ true = ap (λ (w : ℕ). nat_lt column w) g.wide ∙ is_column in
      record {
        end = record u { cursor = Some (row, column) };
        runs = rw (row_too, column_too) refl;
        alike = subst (λ (t : Terminal). Alike t (record u { cursor = Some (row, column) })) (some-is e)
            (record { wide = g.wide; rows = g.rows; of_first = g.of_first; of_second = g.of_second; style = g.style; cursor = λ at f. (f, subst P (at-row at f) there) });
        keeps = record { wide = refl; high = refl; others = λ k h. refl };
        sized = subst (λ (x : Terminal). length x.rows ≡ length t.rows) (some-is e) refl;
      }
    where
      at-row : (at : ℕ × ℕ) → Some (row, column) ≡ Some at → row ≡ at.0
      at-row at f = let is_at : (row, column) ≡ at = cc f in ap (λ (p : ℕ × ℕ). p.0) is_at
  move-if t u t2 row column true false is_row is_column g inside e = absurd (cc e)
  move-if t u t2 row column false c is_row is_column g inside e = absurd (cc e)

  -- what a symbol at the cursor does
  put-follows : (t u t2 : Terminal) (symbol : List ℕ) (columns : ℕ) (cursor : Option (ℕ × ℕ)) (style : Option Style) → t.cursor ≡ cursor → t.style ≡ style
      → Alike t u → put symbol columns cursor style t ≡ Some t2 → Follows (λ x. put symbol columns x.cursor x.style x) t t2 u
  unfolding put
  put-follows t u t2 symbol columns None style at is g e = absurd (cc e)
  put-follows t u t2 symbol columns (Some at) None is styled g e = absurd (cc e)
  put-follows t u t2 symbol columns (Some at) (Some style) is styled g e =
      let cursor = g.cursor at is in
      let own : t ≡ terminal t.width t.rows t.cursor (Some style) = ap (λ (s : Option Style). terminal t.width t.rows t.cursor s) styled in
      let other : u ≡ terminal t.width u.rows u.cursor (Some style) =
      ap (λ (w : ℕ). terminal w u.rows u.cursor u.style) g.wide ∙ ap (λ (s : Option Style). terminal t.width u.rows u.cursor s) (g.style ∙ styled) in
      let effect : (if nat_le (at.1 + columns) t.width then Some (landed t.width t.rows at symbol columns style) else None) ≡ Some t2 =
      sym (put-is t.width t.rows t.cursor at symbol columns style) ∙ ap (λ (x : Terminal). put symbol columns (Some at) (Some style) x) (sym own) ∙ e in
      let f = follows-if t.width t.rows u.rows at cursor.1 g.of_first g.of_second g.rows (nat_le (at.1 + columns) t.width) t2 u.cursor symbol columns style refl effect t refl in
      record {
        end = f.end;
        runs =
            ap (λ (c : Option (ℕ × ℕ)). put symbol columns c u.style u) cursor.0
            ∙ ap (λ (s : Option Style). put symbol columns (Some at) s u) (g.style ∙ styled)
            ∙ ap (λ (x : Terminal). put symbol columns (Some at) (Some style) x) other
            ∙ f.runs;
        alike = f.alike;
        keeps = subst (λ (x : Terminal). Keeps x f.end) (sym other) f.keeps;
        sized = f.sized;
      }

-- commands that move to rows of which `Q` is true, on a terminal of `n` rows
module _ (P Q : ℕ → Type 0) (n : ℕ) (inside : (row : ℕ) → row < n → Q row → P row) where
  one-follows : (c : Command) (t u t2 : Terminal) → Alike P t u → length t.rows ≡ n → MovesTo Q c → after c t ≡ Some t2 → Follows P (after c) t t2 u
  unfolding after
  one-follows (MoveTo row column) t u t2 g high is e =
      move-if P t u t2 row column (nat_lt row (length t.rows)) (nat_lt column t.width) refl refl g (λ h. inside row (subst (λ (m : ℕ). row < m) high h) is) e
  one-follows (SetStyle style) t u t2 g high is e = record {
    end = in_style P style u;
    runs = refl;
    alike = subst (λ (x : Terminal). Alike P x (in_style P style u)) (some-is e)
        (record { wide = g.wide; rows = g.rows; of_first = g.of_first; of_second = g.of_second; style = refl; cursor = g.cursor });
    keeps = record { wide = refl; high = refl; others = λ k h. refl };
    sized = subst (λ (x : Terminal). length x.rows ≡ length t.rows) (some-is e) refl;
  }
  one-follows (Put symbol columns) t u t2 g high is e = put-follows P t u t2 symbol columns t.cursor t.style refl refl g e
  one-follows (SetWrap wraps) t u t2 g high is e = record {
    end = u;
    runs = refl;
    alike = subst (λ (x : Terminal). Alike P x u) (some-is e) g;
    keeps = keeps-none P u;
    sized = subst (λ (x : Terminal). length x.rows ≡ length t.rows) (some-is e) refl;
  }

  pub all-follow : (cs : List Command) (t u t2 : Terminal) → Alike P t u → length t.rows ≡ n → All (MovesTo Q) cs → after_all cs t ≡ Some t2 → Follows P (after_all cs) t t2 u
  unfolding after_all
  all-follow [] t u t2 g high moves e = record {
    end = u;
    runs = refl;
    alike = subst (λ (x : Terminal). Alike P x u) (some-is e) g;
    keeps = keeps-none P u;
    sized = subst (λ (x : Terminal). length x.rows ≡ length t.rows) (some-is e) refl;
  }
  all-follow (c ∷ cs) t u t2 g high moves e = go (after c t) refl e (λ middle. all-follow cs middle)
    where
      go : (o : Option Terminal) → after c t ≡ o → option_and_then (after_all cs) o ≡ Some t2
          → ((middle u t2 : Terminal) → Alike P middle u → length middle.rows ≡ n → All (MovesTo Q) cs → after_all cs middle ≡ Some t2 → Follows P (after_all cs) middle t2 u)
          → Follows P (after_all (c ∷ cs)) t t2 u
      go None is f more = absurd (cc f)
      go (Some middle) is f more =
          let one = one-follows c t u middle g high (All-head (MovesTo Q) c cs moves) is in
          let rest = more middle one.end t2 one.alike (one.sized ∙ high) (All-tail (MovesTo Q) c cs moves) f in
          record {
            end = rest.end;
            runs = ap (option_and_then (after_all cs)) one.runs ∙ rest.runs;
            alike = rest.alike;
            keeps = keeps-more P u one.end rest.end one.keeps rest.keeps;
            sized = rest.sized ∙ one.sized;
          }
