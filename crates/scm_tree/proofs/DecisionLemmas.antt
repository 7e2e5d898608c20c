-- What becomes of each path.
use Rattle.std.proofs.Common.{◌≡◌, ℕ, ◌+◌, ◌<◌, List, [], ◌∷◌, ◌++◌, length, get_or, Bool, true, false, ◌&&◌, cond, eqb, eqb-true, Option, Some, refl, arith, sym, subst, ◌∙◌, ap, ◌⊎◌, inl, inr}
use Rattle.std.specs.Prelude.{is_some, nat_lt}
use Rattle.std.specs.List.{All}
use Rattle.std.proofs.Math.ListN.{get_or-append}
use Rattle.std.proofs.Math.Seq.{get_or-append_seam}
use Rattle.std.proofs.lemmas.Bool.{and_parts, cases_lt, false≢true}
use Rattle.std.proofs.lemmas.List.{length-append}
use Rattle.std.proofs.lemmas.List.Elements.{All-contains}
use Rattle.scm_tree.specs.declared.row.Version.{Version}
use Rattle.scm_tree.specs.declared.row.Row.{Row}
use Rattle.scm_tree.specs.declared.scan.Refusal.{Refusal}
use Rattle.scm_tree.specs.Rows.{chosen}
use Rattle.scm_tree.specs.Refusals.{is_refused}
use Rattle.scm_tree.proofs.LawLemmas.{is-result, its-own}
use Rattle.scm_tree.specs.declared.place.Entry.{Entry}
use Rattle.scm_tree.specs.declared.place.Mark.{Mark}
use Rattle.scm_tree.specs.declared.place.Wish.{Wish}
use Rattle.scm_tree.specs.declared.decision.Moved.{Moved}
use Rattle.scm_tree.specs.declared.decision.Outcome.{Outcome}
use Rattle.scm_tree.specs.declared.decision.Decision.{Decision}
use Rattle.scm_tree.specs.Holds.{HaveSame}
use Rattle.scm_tree.specs.Places.{entry_path, entry_version}
use Rattle.scm_tree.specs.Merge.{IsMarked, IsUnmarked, row_current, row_goal, row_path}
use Rattle.scm_tree.specs.Renames.{is_one, is_one_of}
use Rattle.scm_tree.specs.Decisions.{AreOutcomes, IsAtOne, IsDecision, IsMoved, IsOutcome, IsPromise, is_shown, outcome_after, outcome_path}
use Rattle.scm_tree.proofs.HoldsLemmas.{same_each, same_trans}

-- ---- an outcome more

pub no_outcomes : (rows : List Row) (refused : List (Option Refusal)) → AreOutcomes rows refused 0 []
no_outcomes rows refused = record { long = refl; each = λ k d h. absurd (not_below k h) }
  where
    not_below : (k : ℕ) → k < 0 → ⊥
    not_below k h = omega arith

pub outcomes_more : (rows : List Row) (refused : List (Option Refusal)) (i : ℕ) (outcomes : List Outcome) (o : Outcome) → AreOutcomes rows refused i outcomes → IsOutcome rows refused i o → AreOutcomes rows refused (i + 1) (outcomes ++ o ∷ [])
outcomes_more rows refused i outcomes o s is = record {
  long = let l = s.long in length-append outcomes (o ∷ []) ∙ ap (λ (n : ℕ). n + 1) l;
  each = λ k d h. elim (cases_lt k i) [
    | inl m ↦ (let l = s.long in
        let n : k < length outcomes = omega arith in
        subst (λ (x : Outcome). IsOutcome rows refused k x) (sym (get_or-append outcomes (o ∷ []) d k n)) (s.each k d m))
    | inr m ↦ (let e : k ≡ i = omega arith in
        let f : k ≡ length outcomes = e ∙ sym s.long in
        let x : get_or (outcomes ++ o ∷ []) k d ≡ o = ap (λ (n : ℕ). get_or (outcomes ++ o ∷ []) n d) f ∙ get_or-append_seam outcomes o [] d in
        subst (λ (y : Outcome). IsOutcome rows refused k y) (sym x) (subst (λ (n : ℕ). IsOutcome rows refused n o) (sym e) is))
  ];
}

pub all_outcomes : (rows : List Row) (refused : List (Option Refusal)) (i : ℕ) (outcomes : List Outcome) → AreOutcomes rows refused i outcomes → i ≡ length rows → AreOutcomes rows refused (length rows) outcomes
all_outcomes rows refused i outcomes s e = subst (λ (n : ℕ). AreOutcomes rows refused n outcomes) e s

-- ---- what a decision promises

-- the outcomes have what the rows have, if the choice leaves that
pub outcomes_have : (rows : List Row) (refused : List (Option Refusal)) (outcomes : List Outcome) (at : Row → Option Version) → AreOutcomes rows refused (length rows) outcomes → All (λ (r : Row). chosen (is_refused refused) r ≡ at r) rows → HaveSame row_path at rows outcome_path outcome_after outcomes
outcomes_have rows refused outcomes at s same =
    same_each row_path at rows outcome_path outcome_after outcomes s.long (λ k d e h. ((s.each k e h).path d, (s.each k e h).after d ∙ same k d h))

pick_same : (t : Bool) (now wanted v : Option Version) → now ≡ v → wanted ≡ v → cond t now wanted ≡ v
pick_same true now wanted v e f = e
pick_same false now wanted v e f = f

chosen_goal : (left_out : ℕ → Bool) (r : Row) → left_out r.file ≡ false → r.wanted ≡ r.goal → chosen left_out r ≡ r.goal
chosen_goal left_out r n e = rw n e

one_chosen : (t : Bool) (a b c d : Option Version) → is_one (is_some a) (is_some c) ≡ true → is_one (is_some b) (is_some d) ≡ true → is_one (is_some (cond t a b)) (is_some (cond t c d)) ≡ true
one_chosen true a b c d e f = e
one_chosen false a b c d e f = f

rename_at_one : (refused : List (Option Refusal)) (p q : Row) → is_one_of p q ≡ true → is_one (is_some (chosen (is_refused refused) p)) (is_some (chosen (is_refused refused) q)) ≡ true
rename_at_one refused p q e =
    let parts = and_parts (eqb p.file q.file && is_one (is_some p.current) (is_some q.current)) (is_one (is_some p.wanted) (is_some q.wanted)) e in
    let first = and_parts (eqb p.file q.file) (is_one (is_some p.current) (is_some q.current)) parts.0 in
    let same : p.file ≡ q.file = eqb-true p.file q.file first.0 in
    ap (λ (n : ℕ). is_one (is_some (chosen (is_refused refused) p)) (is_some (cond (is_refused refused n) q.current q.wanted))) (sym same)
    ∙ one_chosen (is_refused refused p.file) p.current p.wanted q.current q.wanted first.1 parts.1

moved_at_one : (rows : List Row) (refused : List (Option Refusal)) (m : Moved) → IsMoved rows m → IsAtOne rows refused m
moved_at_one rows refused m s = record {
  old = s.old;
  new = s.new;
  old_is = s.old_is;
  new_is = s.new_is;
  one = λ d. rename_at_one refused (get_or rows s.old d) (get_or rows s.new d) (s.is_rename.is_one d);
}

-- the file of a mark is a shown one, so a row of no shown file has no mark
mark_shown : (count : ℕ) (marks : List Mark) (r : Row) → All (λ (m : Mark). is_shown count m ≡ true) marks → IsMarked marks r → nat_lt r.file count ≡ true
mark_shown count marks r fits s =
    let m : Mark = s.is_there.0 in
    let e : m.wish ≡ s.wish = some_same m.wish s.wish s.is_there.1.2 in
    ap (λ (n : ℕ). nat_lt n count) s.file ∙ ap (λ (w : Wish). nat_lt w.file count) (sym e)
    ∙ All-contains (λ (m : Mark). is_shown count m ≡ true) marks m fits s.is_there.1.0
  where
    some_same : (a b : Wish) → Some a ≡ Some b → a ≡ b
    some_same a b h = cc

hidden_row : (count : ℕ) (marks : List Mark) (left_out : Bool) (r : Row) → All (λ (m : Mark). is_shown count m ≡ true) marks → IsMarked marks r ⊎ IsUnmarked count marks r → nat_lt r.file count ≡ false → cond left_out r.current r.wanted ≡ r.current
hidden_row count marks left_out r fits s h = elim s [
  | inl m ↦ absurd (false≢true (sym h ∙ mark_shown count marks r fits m))
  | inr u ↦ pick_same left_out r.current r.wanted r.current refl u.wanted
]

pub promised : (count : ℕ) (old new : List Entry) (marks : List Mark) (moved : List Moved) (d : Decision) → IsDecision count old new marks moved d → IsPromise count old new moved d
promised count old new marks moved d s =
    let result = is-result (count + 1) d.rows.items d.refused.items s.fits s.refused in
    record {
      is_tree = result.is_tree;
      nothing_marked = λ h.
          same_trans entry_path entry_version old row_path row_current d.rows.items outcome_path outcome_after d.outcomes.items s.rows.current
          (outcomes_have d.rows.items d.refused.items d.outcomes.items row_current s.outcomes
          (λ k e m. pick_same (is_refused d.refused.items (get_or d.rows.items k e).file) (get_or d.rows.items k e).current (get_or d.rows.items k e).wanted (get_or d.rows.items k e).current refl (h k e m)));
      everything_marked = λ h.
          same_trans entry_path entry_version new row_path row_goal d.rows.items outcome_path outcome_after d.outcomes.items s.rows.goal
          (outcomes_have d.rows.items d.refused.items d.outcomes.items row_goal s.outcomes
          (λ k e m. chosen_goal (is_refused d.refused.items) (get_or d.rows.items k e) (result.nothing_refused h (get_or d.rows.items k e).file) (h k e m)));
      own = λ k e m. its-own (is_refused d.refused.items) (get_or d.rows.items k e);
      hidden_stays = λ k e m. hidden_row count marks (is_refused d.refused.items (get_or d.rows.items k e).file) (get_or d.rows.items k e) s.shown (s.rows.marked k e m);
      renames = λ k e m. moved_at_one d.rows.items d.refused.items (get_or moved k e) (s.renames k e m);
    }
