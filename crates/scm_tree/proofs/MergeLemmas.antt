-- The rows of two trees and marks.
use Rattle.std.proofs.Common.{◌≡◌, ℕ, ◌+◌, ◌<◌, ◌≤◌, List, [], ◌∷◌, ◌++◌, length, get_or, Bool, true, false, not, ◌&&◌, ◌||◌, Option, Some, None, refl, arith, sym, subst, ◌∙◌, ap, ◌⊎◌, inl, inr}
use Rattle.std.specs.Prelude.{is_none, is_some}
use Rattle.std.proofs.Math.ListN.{get_or-append}
use Rattle.std.proofs.Math.Seq.{get_or-append_seam}
use Rattle.std.proofs.lemmas.Bool.{false≢true, cases_lt, cases_order}
use Rattle.std.proofs.lemmas.List.{get_or_default, length-append}
use Rattle.std.proofs.lemmas.List.Elements.{Contains-get_or}
use Rattle.scm_tree.specs.declared.row.Version.{Version}
use Rattle.scm_tree.specs.declared.row.Row.{Row}
use Rattle.scm_tree.specs.Paths.{is_before}
use Rattle.scm_tree.specs.Rows.{AreInOrder}
use Rattle.scm_tree.proofs.ElementLemmas.{at_any}
use Rattle.scm_tree.proofs.PathLemmas.{before_self}
use Rattle.scm_tree.specs.declared.place.Entry.{Entry}
use Rattle.scm_tree.specs.declared.place.Mark.{Mark}
use Rattle.scm_tree.specs.declared.place.Wish.{Wish}
use Rattle.scm_tree.specs.declared.place.Place.{Place}
use Rattle.scm_tree.specs.declared.rows.GatherError.{GatherError}
use Rattle.scm_tree.specs.declared.rows.GatherError.TheVariants.{Twice, Unknown, OutOfMemory}
use Rattle.scm_tree.specs.Holds.{HaveSame, Holds, times}
use Rattle.scm_tree.specs.GatherFaults.{IsGatherFault, IsInNoTree, IsPlaceFault, IsRowsFault, IsTwice, IsUnknown, is_unknown}
use Rattle.scm_tree.specs.Places.{AreListed, ArePlacesInOrder, entry_path, entry_version, mark_path, mark_wish, place_current, place_goal, place_path, place_wish}
use Rattle.scm_tree.specs.Merge.{AreMerged, AreRowsBelow, IsMarked, IsRowOf, IsUnmarked, file_by, row_current, row_goal, row_path, wanted_by}
use Rattle.scm_tree.proofs.TimesLemmas.{times_in_order}
use Rattle.scm_tree.proofs.HoldsLemmas.{none_some, same_each, same_trans, some_of}

-- ---- a row more

pub no_rows : (count : ℕ) (places : List Place) → AreRowsBelow count places 0 []
no_rows count places = record { long = refl; each = λ k d h. absurd (not_below k h) }
  where
    not_below : (k : ℕ) → k < 0 → ⊥
    not_below k h = omega arith

rows_more : (count : ℕ) (places : List Place) (i : ℕ) (rows : List Row) (r : Row) → AreRowsBelow count places i rows → IsRowOf count places i r → AreRowsBelow count places (i + 1) (rows ++ r ∷ [])
rows_more count places i rows r s is = record {
  long = let l = s.long in length-append rows (r ∷ []) ∙ ap (λ (n : ℕ). n + 1) l;
  each = λ k d h. elim (cases_lt k i) [
    | inl m ↦ (let l = s.long in
        let n : k < length rows = omega arith in
        subst (λ (x : Row). IsRowOf count places k x) (sym (get_or-append rows (r ∷ []) d k n)) (s.each k d m))
    | inr m ↦ (let e : k ≡ i = omega arith in
        let f : k ≡ length rows = e ∙ sym s.long in
        let x : get_or (rows ++ r ∷ []) k d ≡ r = ap (λ (n : ℕ). get_or (rows ++ r ∷ []) n d) f ∙ get_or-append_seam rows r [] d in
        subst (λ (y : Row). IsRowOf count places k y) (sym x) (subst (λ (n : ℕ). IsRowOf count places n r) (sym e) is))
  ];
}

pub row_added : (count : ℕ) (places : List Place) (i : ℕ) (rows after : List Row) (r : Row) → AreRowsBelow count places i rows → IsRowOf count places i r → after ≡ rows ++ r ∷ [] → AreRowsBelow count places (i + 1) after
row_added count places i rows after r s is e = subst (λ (rs : List Row). AreRowsBelow count places (i + 1) rs) (sym e) (rows_more count places i rows r s is)

-- a place that is in neither tree
none_both : (a b : Option Version) → (is_none a && is_none b) ≡ true → (a ≡ None) × (b ≡ None)
none_both None None e = (refl, refl)
none_both None (Some v) e = absurd (false≢true e)
none_both (Some v) b e = absurd (false≢true e)

-- whether neither tree has the place, by the answers to `is_none`
none_is : (a : Option Version) (is : Bool) → is_some a ≡ not is → is_none a ≡ is
none_is None true e = refl
none_is None false e = absurd (false≢true e)
none_is (Some v) true e = absurd (false≢true (sym e))
none_is (Some v) false e = refl

pub unknown_at : (places : List Place) (i : ℕ) (d : Place) (a b is : Bool) → i < length places → is_some (get_or places i d).current ≡ not a → is_some (get_or places i d).goal ≡ not b → (a && b) ≡ is → (e : Place) → is_unknown (get_or places i e) ≡ is
unknown_at places i d a b is h m n s =
    at_any is_unknown places i d is h (ap (λ (t : Bool). t && is_none (get_or places i d).goal) (none_is (get_or places i d).current a m) ∙ ap (λ (t : Bool). a && t) (none_is (get_or places i d).goal b n) ∙ s)

pub unknown_fault : (places : List Place) (i : ℕ) (p : List ℕ) → i < length places → ((d : Place) → is_unknown (get_or places i d) ≡ true) → ((d : Place) → (get_or places i d).path.now ≡ p) → (k : ℕ) × ((k < length places) × IsInNoTree places k p)
unknown_fault places i p h u e = (
  i,
  (
    h,
    record {
      path = e;
      current = λ d. (none_both _ _ (u d)).0;
      goal = λ d. (none_both _ _ (u d)).1;
    },
  ),
)

-- ---- the rows of all places

order_rows : (count : ℕ) (places : List Place) (rows : List Row) → ArePlacesInOrder places → AreRowsBelow count places (length places) rows → AreInOrder rows
order_rows count places rows o s = λ i j d h k.
    let l = s.long in
    let m : j < length places = omega arith in
    let n : i < length places = omega arith in
    let x : Place = some_of places j m in
    ap (λ (p : List ℕ). is_before p (get_or rows j d).path.now) ((s.each i d n).path x)
    ∙ ap (λ (p : List ℕ). is_before (get_or places i x).path.now p) ((s.each j d m).path x)
    ∙ o i j x h m

same_row_current : (count : ℕ) (places : List Place) (rows : List Row) → AreRowsBelow count places (length places) rows → HaveSame place_path place_current places row_path row_current rows
same_row_current count places rows s =
    same_each place_path place_current places row_path row_current rows s.long (λ k d e h. ((s.each k e h).path d, (s.each k e h).current d))

same_row_goal : (count : ℕ) (places : List Place) (rows : List Row) → AreRowsBelow count places (length places) rows → HaveSame place_path place_goal places row_path row_goal rows
same_row_goal count places rows s =
    same_each place_path place_goal places row_path row_goal rows s.long (λ k d e h. ((s.each k e h).path d, (s.each k e h).goal d))

-- two places of one path are one
one_place : (places : List Place) (i j : ℕ) (d : Place) → ArePlacesInOrder places → i < length places → j < length places → (get_or places i d).path.now ≡ (get_or places j d).path.now → i ≡ j
one_place places i j d o h k e = elim (cases_order i j) [
  | inl m ↦ m
  | inr (inl m) ↦ absurd (apart (get_or places i d).path.now (get_or places j d).path.now e (o i j d m k))
  | inr (inr m) ↦ absurd (apart (get_or places j d).path.now (get_or places i d).path.now (sym e) (o j i d m h))
]
  where
    apart : (p q : List ℕ) → p ≡ q → is_before p q ≡ true → ⊥
    apart p q e b = false≢true (sym (before_self q) ∙ ap (λ (x : List ℕ). is_before x q) (sym e) ∙ b)

kept_mark : (count : ℕ) (places : List Place) (rows : List Row) (p : List ℕ) (w : Wish) → AreRowsBelow count places (length places) rows → Holds place_path place_wish places p w → Holds row_path (λ (r : Row). Some r.wanted) rows p w.wanted
kept_mark count places rows p w s h =
    let k : ℕ = h.1.0.0 in
    let m : k < length places = h.1.0.1 in
    let l = s.long in
    let n : k < length rows = omega arith in
    let d : Row = some_of rows k n in
    let r : Row = get_or rows k d in
    let at : get_or places k h.0 ≡ h.0 = h.1.0.2 in
    let wish : (get_or places k h.0).wish ≡ Some w = ap (λ (x : Place). x.wish) at ∙ h.1.2 in
    let wanted : r.wanted ≡ w.wanted = (s.each k d m).wanted h.0 ∙ ap (λ (o : Option Wish). wanted_by o (get_or places k h.0).current) wish in
    (r, (Contains-get_or rows k d n, (s.each k d m).path h.0 ∙ ap (λ (x : Place). x.path.now) at ∙ h.1.1, ap (λ (v : Option Version). Some v) wanted))

marked_row : (count : ℕ) (old new : List Entry) (marks : List Mark) (places : List Place) (k : ℕ) (d : Place) (r : Row) (o : Option Wish) → ArePlacesInOrder places → AreListed old new marks places → k < length places → IsRowOf count places k r → (get_or places k d).wish ≡ o → IsMarked marks r ⊎ IsUnmarked count marks r
marked_row count old new marks places k d r None order s h is e = inr (record {
  is_none = λ w held.
      let there : Holds place_path place_wish places r.path.now w = s.wish.kept r.path.now w held in
      let at : get_or places there.1.0.0 there.0 ≡ there.0 = there.1.0.2 in
      let path : (get_or places there.1.0.0 there.0).path.now ≡ (get_or places k there.0).path.now = ap (λ (x : Place). x.path.now) at ∙ there.1.1 ∙ is.path there.0 in
      let one : there.1.0.0 ≡ k = one_place places there.1.0.0 k there.0 order there.1.0.1 h path in
      let same : get_or places k there.0 ≡ get_or places k d = get_or_default places k there.0 d h in
      none_some w (sym e ∙ ap (λ (x : Place). x.wish) (sym same) ∙ ap (λ (n : ℕ). (get_or places n there.0).wish) (sym one) ∙ ap (λ (x : Place). x.wish) at ∙ there.1.2);
  wanted = is.wanted d ∙ ap (λ (o : Option Wish). wanted_by o (get_or places k d).current) e ∙ sym (is.current d);
  file = is.file d ∙ ap (λ (o : Option Wish). file_by o count) e;
})
marked_row count old new marks places k d r (Some w) order s h is e = inl (record {
  wish = w;
  is_there = s.wish.known r.path.now w (get_or places k d, (Contains-get_or places k d h, sym (is.path d), e));
  wanted = is.wanted d ∙ ap (λ (o : Option Wish). wanted_by o (get_or places k d).current) e;
  file = is.file d ∙ ap (λ (o : Option Wish). file_by o count) e;
})

-- places in order have what the trees and the marks have, so no list has a path twice
listed_once : (old new : List Entry) (marks : List Mark) (places : List Place) (p : List ℕ) → ArePlacesInOrder places → AreListed old new marks places → IsTwice old new marks p → ⊥
listed_once old new marks places p o s t = elim t [
  | inl u ↦ (elim u [
    | inl v ↦ not_more (times entry_path entry_version old p) (times place_path place_current places p) (s.current.as_often p) (times_in_order place_path place_current places p o) v
    | inr v ↦ not_more (times entry_path entry_version new p) (times place_path place_goal places p) (s.goal.as_often p) (times_in_order place_path place_goal places p o) v
  ])
  | inr v ↦ not_more (times mark_path mark_wish marks p) (times place_path place_wish places p) (s.wish.as_often p) (times_in_order place_path place_wish places p o) v
]
  where
    not_more : (a b : ℕ) → b ≡ a → b ≤ 1 → 1 < a → ⊥
    not_more a b e h k = omega arith

-- a place that is in neither tree is one that a mark has
wished : (a b : Option Version) (o : Option Wish) → a ≡ None → b ≡ None → (is_some a || is_some b || is_some o) ≡ true → (w : Wish) × (o ≡ Some w)
wished None None (Some w) e f h = (w, refl)
wished None None None e f h = absurd (false≢true h)
wished (Some v) b o e f h = absurd (none_some v (sym e))
wished None (Some v) o e f h = absurd (none_some v (sym f))

in_no_tree : (places : List Place) (i : ℕ) (p : List ℕ) (at : Place → Option Version) (v : Version) → ArePlacesInOrder places → i < length places → ((d : Place) → (get_or places i d).path.now ≡ p) → ((d : Place) → at (get_or places i d) ≡ None) → Holds place_path at places p v → ⊥
in_no_tree places i p at v o h path none held =
    let k : ℕ = held.1.0.0 in
    let m : k < length places = held.1.0.1 in
    let is : get_or places k held.0 ≡ held.0 = held.1.0.2 in
    let e : k ≡ i = one_place places k i held.0 o m h (ap (λ (x : Place). x.path.now) is ∙ held.1.1 ∙ sym (path held.0)) in
    none_some v (sym (none held.0) ∙ ap (λ (n : ℕ). at (get_or places n held.0)) (sym e) ∙ ap at is ∙ held.1.2)

pub unknown_path : (old new : List Entry) (marks : List Mark) (places : List Place) (i : ℕ) (p : List ℕ) → ArePlacesInOrder places → AreListed old new marks places → i < length places → IsInNoTree places i p → IsUnknown old new marks p
unknown_path old new marks places i p o s h is =
    let d : Place = some_of places i h in
    let x : Place = get_or places i d in
    let w = wished x.current x.goal x.wish (is.current d) (is.goal d) (s.filled i d h) in
    record {
      wish = w.0;
      is_marked = s.wish.known p w.0 (x, (Contains-get_or places i d h, is.path d, w.1));
      not_old = λ v held. in_no_tree places i p place_current v o h is.path is.current (s.current.kept p v held);
      not_new = λ v held. in_no_tree places i p place_goal v o h is.path is.goal (s.goal.kept p v held);
    }

pub rows_fault : (old new : List Entry) (marks : List Mark) (places : List Place) (e : GatherError) → ArePlacesInOrder places → AreListed old new marks places → IsRowsFault places e → IsGatherFault old new marks e
rows_fault old new marks places OutOfMemory o s f = tt
rows_fault old new marks places (Twice p) o s f = absurd f
rows_fault old new marks places (Unknown p) o s f = unknown_path old new marks places f.0 p.now o s f.1.0 f.1.1

pub places_fault : (old new : List Entry) (marks : List Mark) (places : List Place) (e : GatherError) → AreListed old new marks places → IsPlaceFault places e → IsGatherFault old new marks e
places_fault old new marks places OutOfMemory s f = tt
places_fault old new marks places (Unknown p) s f = absurd f
places_fault old new marks places (Twice p) s f = elim f [
  | inl t ↦ (elim t [
    | inl u ↦ inl (inl (subst (λ (n : ℕ). 1 < n) (s.current.as_often p.now) u))
    | inr u ↦ inl (inr (subst (λ (n : ℕ). 1 < n) (s.goal.as_often p.now) u))
  ])
  | inr u ↦ inr (subst (λ (n : ℕ). 1 < n) (s.wish.as_often p.now) u)
]

pub rows_merged : (count : ℕ) (old new : List Entry) (marks : List Mark) (places : List Place) (rows : List Row) → ArePlacesInOrder places → AreListed old new marks places → AreRowsBelow count places (length places) rows → AreMerged count old new marks rows
rows_merged count old new marks places rows o s below = record {
  in_order = order_rows count places rows o below;
  once = λ p t. listed_once old new marks places p o s t;
  current = same_trans entry_path entry_version old place_path place_current places row_path row_current rows s.current (same_row_current count places rows below);
  goal = same_trans entry_path entry_version new place_path place_goal places row_path row_goal rows s.goal (same_row_goal count places rows below);
  there = λ k d h. let l = below.long in (below.each k d (omega arith)).there;
  marks_kept = λ p w h. kept_mark count places rows p w below (s.wish.kept p w h);
  marked = λ k d h.
      let l = below.long in
      let m : k < length places = omega arith in
      let x : Place = some_of places k m in
      marked_row count old new marks places k x (get_or rows k d) (get_or places k x).wish o s m (below.each k d m) refl;
}

pub all_rows : (count : ℕ) (places : List Place) (i : ℕ) (rows : List Row) → AreRowsBelow count places i rows → i ≡ length places → AreRowsBelow count places (length places) rows
all_rows count places i rows s e = subst (λ (n : ℕ). AreRowsBelow count places n rows) e s
