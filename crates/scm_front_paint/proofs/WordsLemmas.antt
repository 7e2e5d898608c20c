-- The words that differ in two lines.
use Rattle.std.proofs.Common.{◌≡◌, ℕ, zero, suc, ◌+◌, ◌<◌, Bool, true, false, List, [], ◌∷◌, ◌++◌, length, map, get_or, refl, sym, ap, ◌∙◌, subst, arith, Option, None, Some, inl, inr}
use Rattle.std.specs.Prelude.{if◌then◌else◌}
use Rattle.std.proofs.lemmas.Bool.{cases_lt}
use Rattle.std.proofs.lemmas.List.{get_or_append_left, get_or_push, get_or-map, length-map, length_push}
use Rattle.scm_diff.specs.Words.{AreSpans, AreSpansFrom}
use Rattle.scm_diff.specs.declared.words.WordSpan.{WordSpan}
use Rattle.scm_front_paint.specs.declared.columns.Columns.{Columns}
use Rattle.scm_front_paint.specs.LineValue.{LineValue}
use Rattle.scm_record.specs.Frames.{columns_of, scene_of}
use Rattle.scm_record.specs.Live.{Live}
use Rattle.scm_record.specs.ShownLines.{line_on}
use Rattle.scm_types.specs.declared.keys.LineKey.{LineKey}
use Rattle.scm_front_paint.specs.Words.{AreColumnsFor, AreWords, HasBorders, files_with_pairs, is_bare, pair_of_line, pair_on}
use Rattle.scm_front_paint.specs.WordsView.{columns_in}

borders-from : (old new : List ℕ) (i j : ℕ) (spans : List WordSpan) (d : WordSpan) → AreSpansFrom old new i j spans → (k : ℕ) → k < length spans → HasBorders old new (get_or spans k d)
borders-from old new i j [] d are k h = absurd (omega arith)
borders-from old new i j (s ∷ ss) d are zero h = record {
  old_first = are.0.old_first.character;
  old_last = are.0.old_last.character;
  new_first = are.0.new_first.character;
  new_last = are.0.new_last.character;
}
borders-from old new i j (s ∷ ss) d are (suc k) h = borders-from old new s.old_end s.new_end ss d are.1 k (omega arith)

-- each differing part has borders of characters
pub borders : (old new : List ℕ) (spans : List WordSpan) (d : WordSpan) → AreSpans old new spans → (k : ℕ) → k < length spans → HasBorders old new (get_or spans k d)
borders old new spans d are k h = borders-from old new 0 0 spans d are k h

-- ---- rows

-- the pair of a line, among the files that have pairs
pub pair-is : (l : Live) (row : ℕ) → pair_of_line (files_with_pairs l) (line_on l row) ≡ pair_on l row
pair-is l row = go (is_bare l) (line_on l row)
  where
    go : (b : Bool) (line : Option LineKey) → pair_of_line (if b then l.session.shown.state.files else []) line ≡ (if b then pair_of_line l.session.shown.state.files line else None)
    go true line = refl
    go false None = refl
    go false (Some key) = refl

-- a row more
pub more-rows : (l : Live) (old new : List (Option LineValue)) (x : Option LineValue) (row : ℕ) → new ≡ old ++ x ∷ [] → length old ≡ row
    → ((k : ℕ) → k < length old → AreColumnsFor (columns_of l.kind) (pair_on l k) (columns_in (get_or old k None))) → AreColumnsFor (columns_of l.kind) (pair_on l row) (columns_in x)
    → (k : ℕ) → k < length new → AreColumnsFor (columns_of l.kind) (pair_on l k) (columns_in (get_or new k None))
more-rows l old new x row e many before here k h = elim (cases_lt k (length old)) [
  | inl below ↦
      subst (λ (o : Option LineValue). AreColumnsFor (columns_of l.kind) (pair_on l k) (columns_in o))
      (sym (ap (λ (list : List (Option LineValue)). get_or list k None) e ∙ get_or_append_left old (x ∷ []) None k below)) (before k below)
  | inr past ↦
      let long : length new ≡ length old + 1 = ap (λ (list : List (Option LineValue)). length list) e ∙ length_push old x in
      let is : k ≡ row = omega arith in
      subst (λ (n : ℕ). AreColumnsFor (columns_of l.kind) (pair_on l n) (columns_in (get_or new n None))) (sym is)
      (subst (λ (o : Option LineValue). AreColumnsFor (columns_of l.kind) (pair_on l row) (columns_in o))
      (sym (ap (λ (list : List (Option LineValue)). get_or list row None) e ∙ get_or_push old x None row many)) here)
]

-- all rows
pub are-words : (l : Live) (items : List (Option LineValue)) (row : ℕ) → length items ≡ row → row ≡ length (scene_of l.kind l.session).frame.rows
    → ((k : ℕ) → k < length items → AreColumnsFor (columns_of l.kind) (pair_on l k) (columns_in (get_or items k None))) → AreWords l (map columns_in items)
are-words l items row many high on = record {
  many = length-map items columns_in ∙ many ∙ high;
  on = λ k h.
      let inside : k < length items = subst (λ (n : ℕ). k < n) (length-map items columns_in) h in
      subst (λ (columns : List Columns). AreColumnsFor (columns_of l.kind) (pair_on l k) columns) (sym (get_or-map columns_in items k None [] inside)) (on k inside);
}
