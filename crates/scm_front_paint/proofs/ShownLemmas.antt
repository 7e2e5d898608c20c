-- The styles of a row, with words set off, in a theme.
use Rattle.std.proofs.Common.{◌≡◌, ℕ, ◌+◌, ◌<◌, ◌≤◌, ◌&&◌, Bool, true, false, List, length, take, get_or, set, map, refl, sym, ap, ◌∙◌, subst, arith, ⊎_elim}
use Rattle.std.specs.Prelude.{nat_le, nat_lt, ◌||◌, if◌then◌else◌}
use Rattle.std.specs.List.{list_any, range_with_len}
use Rattle.std.proofs.lemmas.Bool.{cases_eq}
use Rattle.std.proofs.lemmas.Bool.Decides.{nat_tests}
use Rattle.std.proofs.lemmas.List.Folds.{list_any_more}
use Rattle.std.proofs.lemmas.List.{get_or-map, length-map, get_or-set_other, get_or-set_same}
use Rattle.std.proofs.lemmas.List.FromFn.{fill_by_all, get_or-range_with_len, length-range_with_len}
use Rattle.scm_cells.specs.declared.style.Style.{Style}
use Rattle.scm_terminal.specs.Style.{plain_style}
use Rattle.scm_front_paint.specs.declared.themes.Theme.{Theme}
use Rattle.scm_front_paint.specs.declared.columns.Columns.{Columns}
use Rattle.scm_front_paint.specs.declared.runs.Run.{Run}
use Rattle.scm_front_paint.specs.declared.restyling.Effect.{Effect}
use Rattle.scm_front_paint.specs.declared.restyling.Effect.TheVariants.{SetOff}
use Rattle.scm_front_paint.specs.Range.{underlined_if}
use Rattle.scm_front_paint.specs.Restyling.{restyled_by, style_after}
use Rattle.scm_front_paint.specs.Syntax.{with_runs}
use Rattle.scm_front_paint.specs.Themes.{themed}
use Rattle.scm_front_paint.specs.Words.{has_column, set_off, with_words}

-- styles that were restyled place by place
pub restyled : (theme : Theme) (found runs : List Run) (columns own : List Columns) (is_in has : Bool) (style : ℕ → Style) (n : ℕ) (mid new : List Style) → found ≡ runs → columns ≡ own → is_in ≡ has
    → mid ≡ map style (range_with_len 0 n) → length new ≡ length mid
    → ((c : ℕ) → c < length mid → get_or new c plain_style ≡ themed theme (underlined_if is_in (with_words columns c (with_runs found c (get_or mid c plain_style)))))
    → new ≡ map (λ (c : ℕ). themed theme (underlined_if has (with_words own c (with_runs runs c (style c))))) (range_with_len 0 n)
restyled theme found runs columns own is_in has style n mid new g e f m long each =
    let mid_long : length mid ≡ n = ap length m ∙ length-map (range_with_len 0 n) style ∙ length-range_with_len 0 n in
    fill_by_all (λ (c : ℕ). themed theme (underlined_if has (with_words own c (with_runs runs c (style c))))) new n plain_style (long ∙ mid_long) (λ c h.
    let inside : c < length (range_with_len 0 n) = subst (λ (k : ℕ). c < k) (sym (length-range_with_len 0 n)) h in
    let is : get_or mid c plain_style ≡ style c =
    ap (λ (xs : List Style). get_or xs c plain_style) m ∙ get_or-map style (range_with_len 0 n) c 0 plain_style inside
    ∙ ap style (get_or-range_with_len 0 n c 0 h ∙ omega arith) in
    each c (subst (λ (k : ℕ). c < k) (sym mid_long) h) ∙ ap (λ (s : Style). themed theme (underlined_if is_in (with_words columns c (with_runs found c s)))) is
    ∙ ap (λ (rs : List Run). themed theme (underlined_if is_in (with_words columns c (with_runs rs c (style c))))) g
    ∙ ap (λ (cs : List Columns). themed theme (underlined_if is_in (with_words cs c (with_runs runs c (style c))))) e
    ∙ ap (λ (b : Bool). themed theme (underlined_if b (with_words own c (with_runs runs c (style c))))) f)

-- ---- place by place

-- no place was restyled
pub no-place : (effect : Effect) (from c : ℕ) (style : Style) → style ≡ style_after effect from from c style
no-place effect from c style =
    let none : (nat_le from c && nat_lt c from) ≡ false = grind (arith, nat_tests) in
    rw none refl

-- the places of a run to which a loop came are those of the run, as far as there are styles
pub run-done : (effect : Effect) (from column end c : ℕ) (style : Style) → (from ≤ c → c < end → c < column) → (from ≤ c → c < column → c < end)
    → style_after effect from column c style ≡ style_after effect from end c style
run-done effect from column end c style fewer more =
    let same : (nat_le from c && nat_lt c column) ≡ (nat_le from c && nat_lt c end) = both (nat_le from c) refl in
    rw same refl
  where
    both : (b : Bool) → nat_le from c ≡ b → (b && nat_lt c column) ≡ (b && nat_lt c end)
    both false e = refl
    both true e =
        let low : from ≤ c = grind (arith, nat_tests) in
        within (nat_lt c column) (nat_lt c end) refl refl low
      where
        within : (p q : Bool) → nat_lt c column ≡ p → nat_lt c end ≡ q → from ≤ c → p ≡ q
        within true true e0 e1 low = refl
        within false false e0 e1 low = refl
        within true false e0 e1 low = let in_column : c < column = grind (arith, nat_tests) in let in_end = more low in_column in absurd (grind (arith, nat_tests))
        within false true e0 e1 low = let in_end : c < end = grind (arith, nat_tests) in let in_column = fewer low in_end in absurd (grind (arith, nat_tests))

module _ (effect : Effect) (olds styles : List Style) (first i : ℕ) (from to : Style) where
  -- one place more
  pub one-more : first ≤ i → i < length styles
      → ((c : ℕ) → get_or styles c plain_style ≡ style_after effect first i c (get_or olds c plain_style))
      → from ≡ get_or styles i plain_style → to ≡ restyled_by effect from
      → (c : ℕ) → get_or (set styles i to) c plain_style ≡ style_after effect first (i + 1) c (get_or olds c plain_style)
  one-more low h before is made c = ⊎_elim
      (λ e.
      let here : (nat_le first i && nat_lt i (i + 1)) ≡ true = grind (arith, nat_tests) in
      let not_yet : (nat_le first i && nat_lt i i) ≡ false = grind (arith, nat_tests) in
      let old = rw not_yet at (before i) in
      let new : get_or (set styles i to) i plain_style ≡ style_after effect first (i + 1) i (get_or olds i plain_style) =
      get_or-set_same styles i to plain_style h ∙ made ∙ ap (restyled_by effect) (is ∙ old) ∙ rw here refl in
      subst (λ (n : ℕ). get_or (set styles i to) n plain_style ≡ style_after effect first (i + 1) n (get_or olds n plain_style)) (sym e) new)
      (λ away.
      let same : (nat_le first c && nat_lt c i) ≡ (nat_le first c && nat_lt c (i + 1)) = grind (arith, nat_tests) in
      get_or-set_other styles i c to plain_style away ∙ before c ∙ ap (λ (b : Bool). if b then restyled_by effect (get_or olds c plain_style) else get_or olds c plain_style) same)
      (cases_eq c i)

-- ---- run by run

-- one run of words more
pub set_off-more : (columns : List Columns) (i : ℕ) (d : Columns) (c : ℕ) (style : Style) → i < length columns
    → style_after SetOff (get_or columns i d).start (get_or columns i d).end c (with_words (take i columns) c style) ≡ with_words (take (i + 1) columns) c style
set_off-more columns i d c style within =
    go (list_any (has_column c) (take i columns)) (has_column c (get_or columns i d))
    ∙ ap (λ (b : Bool). set_off b style) (sym (list_any_more (has_column c) columns i d within))
  where
    go : (a b : Bool) → (if b then set_off true (set_off a style) else set_off a style) ≡ set_off (a || b) style
    go true true = refl
    go true false = refl
    go false true = refl
    go false false = refl
