-- The places of two trees and marks.
use Rattle.std.proofs.Common.{◌≡◌, ℕ, ◌+◌, ◌<◌, ◌≤◌, List, [], ◌∷◌, ◌++◌, length, take, get_or, true, ◌||◌, Option, Some, None, refl, arith, sym, subst, ap, ◌⊎◌, inl, inr}
use Rattle.std.proofs.lemmas.Bool.{false≢true}
use Rattle.std.proofs.lemmas.List.{take_all, take_more}
use Rattle.std.specs.Cmp.{IsStrictWeakOrder}
use Rattle.std.specs.List.Sorted.{IsPermutation, IsSortedBy}
use Rattle.scm_tree.specs.declared.row.Version.{Version}
use Rattle.scm_tree.specs.Paths.{is_before}
use Rattle.scm_tree.proofs.PathLemmas.{before_chain, before_one_way}
use Rattle.scm_tree.specs.declared.place.Entry.{Entry}
use Rattle.scm_tree.specs.declared.place.Mark.{Mark}
use Rattle.scm_tree.specs.declared.place.Wish.{Wish}
use Rattle.scm_tree.specs.declared.place.Place.{Place}
use Rattle.std.specs.Prelude.{is_some}
use Rattle.std.specs.List.{All}
use Rattle.std.proofs.lemmas.List.Elements.{All-contains, All-nil, All-push, Contains-get_or}
use Rattle.std.proofs.lemmas.List.Sorted.{Contains-permutation, IsPermutation-sym}
use Rattle.scm_tree.specs.Holds.{HaveSame}
use Rattle.scm_tree.specs.Places.{AreListed, AreSorted, HaveSameFiles, IsFilled, IsOfMark, IsOfNew, IsOfOld, entry_path, entry_version, mark_path, mark_wish, place_current, place_goal, place_path, place_wish}
use Rattle.scm_tree.proofs.HoldsLemmas.{same_moved, same_more, same_nothing, same_push, same_trans, some_of}

pub listed_none : AreListed [] [] [] []
listed_none = record {
  current = same_nothing entry_path entry_version place_path place_current;
  goal = same_nothing entry_path entry_version place_path place_goal;
  wish = same_nothing mark_path mark_wish place_path place_wish;
  filled = All-nil IsFilled;
}

any_some : {A B C : Type 0} (a : Option A) (b : Option B) (c : Option C) → (is_some a ≡ true) ⊎ ((is_some b ≡ true) ⊎ (is_some c ≡ true)) → (is_some a || is_some b || is_some c) ≡ true
any_some (Some x) b c h = refl
any_some None (Some y) c h = refl
any_some None None (Some z) h = refl
any_some None None None h = absurd (elim h [
  | inl e ↦ false≢true e
  | inr g ↦ (elim g [
    | inl e ↦ false≢true e
    | inr e ↦ false≢true e
  ])
])

filled_old : (old : List Entry) (i : ℕ) (x : Place) → i < length old → IsOfOld old i x → IsFilled x
filled_old old i x h is = any_some x.current x.goal x.wish (inl (ap (λ (o : Option Version). is_some o) (is.current (some_of old i h))))

filled_new : (new : List Entry) (i : ℕ) (x : Place) → i < length new → IsOfNew new i x → IsFilled x
filled_new new i x h is = any_some x.current x.goal x.wish (inr (inl (ap (λ (o : Option Version). is_some o) (is.goal (some_of new i h)))))

filled_mark : (marks : List Mark) (i : ℕ) (x : Place) → i < length marks → IsOfMark marks i x → IsFilled x
filled_mark marks i x h is = any_some x.current x.goal x.wish (inr (inr (ap (λ (o : Option Wish). is_some o) (is.wish (some_of marks i h)))))

filled_moved : (xs ys : List Place) → All IsFilled xs → IsPermutation xs ys → All IsFilled ys
filled_moved xs ys s m = λ k d h. All-contains IsFilled xs (get_or ys k d) s (Contains-permutation ys xs (get_or ys k d) (IsPermutation-sym xs ys m) (Contains-get_or ys k d h))

pub listed_old : (old new : List Entry) (marks : List Mark) (xs : List Place) (i : ℕ) (x : Place) → AreListed (take i old) new marks xs → i < length old → IsOfOld old i x → AreListed (take (i + 1) old) new marks (xs ++ x ∷ [])
listed_old old new marks xs i x s h is =
    let d : Entry = some_of old i h in
    let e : take (i + 1) old ≡ take i old ++ get_or old i d ∷ [] = take_more old i d h in
    let pushed : HaveSame entry_path entry_version (take i old ++ get_or old i d ∷ []) place_path place_current (xs ++ x ∷ []) =
    same_push entry_path entry_version (take i old) place_path place_current xs (get_or old i d) x (is.path d) (is.current d) s.current in
    record {
      current = subst (λ (es : List Entry). HaveSame entry_path entry_version es place_path place_current (xs ++ x ∷ [])) (sym e) pushed;
      goal = same_more entry_path entry_version new place_path place_goal xs x is.goal s.goal;
      wish = same_more mark_path mark_wish marks place_path place_wish xs x is.wish s.wish;
      filled = All-push IsFilled xs x s.filled (filled_old old i x h is);
    }

pub listed_new : (old new : List Entry) (marks : List Mark) (xs : List Place) (i : ℕ) (x : Place) → AreListed old (take i new) marks xs → i < length new → IsOfNew new i x → AreListed old (take (i + 1) new) marks (xs ++ x ∷ [])
listed_new old new marks xs i x s h is =
    let d : Entry = some_of new i h in
    let e : take (i + 1) new ≡ take i new ++ get_or new i d ∷ [] = take_more new i d h in
    let pushed : HaveSame entry_path entry_version (take i new ++ get_or new i d ∷ []) place_path place_goal (xs ++ x ∷ []) =
    same_push entry_path entry_version (take i new) place_path place_goal xs (get_or new i d) x (is.path d) (is.goal d) s.goal in
    record {
      current = same_more entry_path entry_version old place_path place_current xs x is.current s.current;
      goal = subst (λ (es : List Entry). HaveSame entry_path entry_version es place_path place_goal (xs ++ x ∷ [])) (sym e) pushed;
      wish = same_more mark_path mark_wish marks place_path place_wish xs x is.wish s.wish;
      filled = All-push IsFilled xs x s.filled (filled_new new i x h is);
    }

pub listed_mark : (old new : List Entry) (marks : List Mark) (xs : List Place) (i : ℕ) (x : Place) → AreListed old new (take i marks) xs → i < length marks → IsOfMark marks i x → AreListed old new (take (i + 1) marks) (xs ++ x ∷ [])
listed_mark old new marks xs i x s h is =
    let d : Mark = some_of marks i h in
    let e : take (i + 1) marks ≡ take i marks ++ get_or marks i d ∷ [] = take_more marks i d h in
    let pushed : HaveSame mark_path mark_wish (take i marks ++ get_or marks i d ∷ []) place_path place_wish (xs ++ x ∷ []) =
    same_push mark_path mark_wish (take i marks) place_path place_wish xs (get_or marks i d) x (is.path d) (is.wish d) s.wish in
    record {
      current = same_more entry_path entry_version old place_path place_current xs x is.current s.current;
      goal = same_more entry_path entry_version new place_path place_goal xs x is.goal s.goal;
      wish = subst (λ (ms : List Mark). HaveSame mark_path mark_wish ms place_path place_wish (xs ++ x ∷ [])) (sym e) pushed;
      filled = All-push IsFilled xs x s.filled (filled_mark marks i x h is);
    }

-- all of the old files were listed, or all of the new ones, or all marks
pub old_listed : (old new : List Entry) (marks : List Mark) (xs : List Place) (i : ℕ) → AreListed (take i old) new marks xs → length old ≤ i → AreListed old new marks xs
old_listed old new marks xs i s h = subst (λ (es : List Entry). AreListed es new marks xs) (take_all i old h) s

pub new_listed : (old new : List Entry) (marks : List Mark) (xs : List Place) (i : ℕ) → AreListed old (take i new) marks xs → length new ≤ i → AreListed old new marks xs
new_listed old new marks xs i s h = subst (λ (es : List Entry). AreListed old es marks xs) (take_all i new h) s

pub marks_listed : (old new : List Entry) (marks : List Mark) (xs : List Place) (i : ℕ) → AreListed old new (take i marks) xs → length marks ≤ i → AreListed old new marks xs
marks_listed old new marks xs i s h = subst (λ (ms : List Mark). AreListed old new ms xs) (take_all i marks h) s

pub listed_moved : (old new : List Entry) (marks : List Mark) (xs ys : List Place) → AreListed old new marks xs → IsPermutation xs ys → AreListed old new marks ys
listed_moved old new marks xs ys s m = record {
  current = same_moved entry_path entry_version old place_path place_current xs ys m s.current;
  goal = same_moved entry_path entry_version new place_path place_goal xs ys m s.goal;
  wish = same_moved mark_path mark_wish marks place_path place_wish xs ys m s.wish;
  filled = filled_moved xs ys s.filled m;
}

pub listed_gathered : (old new : List Entry) (marks : List Mark) (xs ys : List Place) → AreListed old new marks xs → HaveSameFiles xs ys → AreListed old new marks ys
listed_gathered old new marks xs ys s t = record {
  current = same_trans entry_path entry_version old place_path place_current xs place_path place_current ys s.current t.current;
  goal = same_trans entry_path entry_version new place_path place_goal xs place_path place_goal ys s.goal t.goal;
  wish = same_trans mark_path mark_wish marks place_path place_wish xs place_path place_wish ys s.wish t.wish;
  filled = t.filled s.filled;
}

-- ---- the order of places

pub place_order : IsStrictWeakOrder (λ (x y : Place). is_before x.path.now y.path.now)
place_order = record {
  one_way = λ x y. before_one_way x.path.now y.path.now;
  chain = λ x y z. before_chain x.path.now y.path.now z.path.now;
}

pub sorted_by : (xs : List Place) → IsSortedBy (λ (x y : Place). is_before x.path.now y.path.now) xs → AreSorted xs
sorted_by xs s = record { next = λ k d h. s k d (omega arith) h }
