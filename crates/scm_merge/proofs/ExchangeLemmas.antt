-- Merges whose sides are exchanged.
use Rattle.std.proofs.Common.{◌≡◌, ℕ, ◌+◌, ◌≤◌, Bool, true, false, ◌||◌, Option, Some, None, min, List, [], ◌∷◌, map, refl, ap, sym, subst, ◌∙◌, arith}
use Rattle.std.specs.List.{AllByRecursion}
use Rattle.scm_diff.specs.declared.hunk.Hunk.{Hunk}
use Rattle.scm_merge.specs.declared.region.Region.{Region}
use Rattle.scm_merge.specs.Regions.{AreChanged, AreLeast, AreLeastBy, AreRegionsBy, AreRegionsFrom, IsChangedRegion, IsNextRegion, IsRegionBy, earlier, is_changed, side_place, start_from}
use Rattle.scm_merge.specs.Parts.{Agreed, AreMerged, AreMergedBy, Conflict, Outcome, are_two_same, outcomes_from, same_lines}
use Rattle.scm_merge.specs.Laws.{conflict_count, exchanged, exchanged_region}
use Rattle.scm_merge.proofs.LawLemmas.{outcomes-exchanged, regions-exchanged, same-means, same-of}

either-order : (a b : Bool) → (b || a) ≡ (a || b)
either-order true true = refl
either-order true false = refl
either-order false true = refl
either-order false false = refl

changed-exchanged : (hs ks : List Hunk) (start end : ℕ) → AreChanged hs ks start end → AreChanged ks hs start end
changed-exchanged hs ks start end c = λ q from to. either-order (is_changed hs q) (is_changed ks q) ∙ c q from to

all-exchanged : (hs ks : List Hunk) (rs : List Region) → AllByRecursion (IsChangedRegion hs ks) rs → AllByRecursion (IsChangedRegion ks hs) (map exchanged_region rs)
all-exchanged hs ks [] h = tt
all-exchanged hs ks (r ∷ rs) h = (changed-exchanged hs ks r.base_start r.base_end h.0, all-exchanged hs ks rs h.1)

earlier-order : (a b : Option ℕ) → earlier b a ≡ earlier a b
earlier-order None None = refl
earlier-order None (Some b) = refl
earlier-order (Some a) None = refl
earlier-order (Some a) (Some b) = let e : min b a ≡ min a b = omega arith in ap Some e

made-exchanged : (hs ks : List Hunk) (from : ℕ) (rs : List Region) → AreRegionsBy hs ks from rs → AreRegionsBy ks hs from (map exchanged_region rs)
made-exchanged hs ks from [] m = earlier-order (start_from from hs) (start_from from ks) ∙ m
made-exchanged hs ks from (r ∷ rs) m = (
  record {
    begins = earlier-order (start_from from hs) (start_from from ks) ∙ m.0.begins;
    order = m.0.order;
    ours_clear = m.0.theirs_clear;
    theirs_clear = m.0.ours_clear;
    first = λ place l x y. m.0.first place l y x;
    ours_ends = m.0.theirs_ends;
    theirs_ends = m.0.ours_ends;
  },
  made-exchanged hs ks (r.base_end + 1) rs m.1,
)

least-by-exchanged : (base ours theirs : List (List ℕ)) (hs ks : List Hunk) (rs : List Region) → AreLeastBy base ours theirs hs ks rs → AreLeastBy base theirs ours ks hs (map exchanged_region rs)
least-by-exchanged base ours theirs hs ks rs l = record {
  are_ours = l.are_theirs;
  are_theirs = l.are_ours;
  made = made-exchanged hs ks 0 rs l.made;
  changed = all-exchanged hs ks rs l.changed;
}

least-exchanged : (base ours theirs : List (List ℕ)) (rs : List Region) → AreLeast base ours theirs rs → AreLeast base theirs ours (map exchanged_region rs)
least-exchanged base ours theirs rs l = record {
  ours_hunks = l.theirs_hunks;
  theirs_hunks = l.ours_hunks;
  by = least-by-exchanged base ours theirs l.ours_hunks l.theirs_hunks rs l.by;
}

same-order : (xs ys : List (List ℕ)) (a b : Bool) → same_lines xs ys ≡ a → same_lines ys xs ≡ b → b ≡ a
same-order xs ys true true e f = refl
same-order xs ys false false e f = refl
same-order xs ys true false e f = sym f ∙ same-of ys xs (sym (same-means xs ys e))
same-order xs ys false true e f = sym (same-of xs ys (sym (same-means ys xs f))) ∙ e

three-order : (a b c : Bool) → (b || a || c) ≡ (a || b || c)
three-order true true c = refl
three-order true false c = refl
three-order false true c = refl
three-order false false c = refl

same-two : (base ours theirs : List (List ℕ)) → are_two_same base theirs ours ≡ are_two_same base ours theirs
same-two base ours theirs =
    ap (λ (x : Bool). same_lines theirs base || same_lines ours base || x) (same-order ours theirs (same_lines ours theirs) (same_lines theirs ours) refl refl)
    ∙ three-order (same_lines ours base) (same_lines theirs base) (same_lines ours theirs)

pub merge-exchanged : (base ours theirs : List (List ℕ)) (rs : List Region) → AreMerged base ours theirs rs → AreMerged base theirs ours (map exchanged_region rs)
merge-exchanged base ours theirs rs m = record {
  are_regions = regions-exchanged base ours theirs 0 0 0 0 rs m.are_regions;
  whole = λ e. ap (map exchanged_region) (m.whole (sym (same-two base ours theirs) ∙ e));
  least = λ e. least-exchanged base ours theirs rs (m.least (sym (same-two base ours theirs) ∙ e));
}

count-exchanged : (os : List Outcome) → conflict_count (map exchanged os) ≡ conflict_count os
count-exchanged [] = refl
count-exchanged (Agreed ls ∷ os) = count-exchanged os
count-exchanged (Conflict b o t ∷ os) = ap (λ (n : ℕ). 1 + n) (count-exchanged os)

pub conflicts-exchanged : (base ours theirs : List (List ℕ)) (rs : List Region) → conflict_count (outcomes_from base theirs ours 0 (map exchanged_region rs)) ≡ conflict_count (outcomes_from base ours theirs 0 rs)
conflicts-exchanged base ours theirs rs =
    ap conflict_count (outcomes-exchanged base ours theirs 0 rs) ∙ count-exchanged (outcomes_from base ours theirs 0 rs)

-- ---- merges by the same hunks

some-same : (a b : ℕ) → Some a ≡ Some b → a ≡ b
some-same a b e = cc

same-region : (base ours theirs : List (List ℕ)) (least i j k : ℕ) (hs ks : List Hunk) (from : ℕ) (r s : Region) → IsNextRegion base ours theirs least i j k r → IsNextRegion base ours theirs least i j k s → IsRegionBy hs ks from r → IsRegionBy hs ks from s → r ≡ s
same-region base ours theirs least i j k hs ks from r s n m f g =
    let e : r.base_start ≡ s.base_start = some-same r.base_start s.base_start (sym f.begins ∙ g.begins) in
    let fo = f.order in
    let go = g.order in
    let a : r.base_end ≤ s.base_end = f.first s.base_end (omega arith) g.ours_clear g.theirs_clear in
    let b : s.base_end ≤ r.base_end = g.first r.base_end (omega arith) f.ours_clear f.theirs_clear in
    let ends : r.base_end ≡ s.base_end = omega arith in
    let n1 = n.base_begins in
    let n2 = n.ours_begins in
    let n3 = n.theirs_begins in
    let m1 = m.base_begins in
    let m2 = m.ours_begins in
    let m3 = m.theirs_begins in
    let o : r.ours_start ≡ s.ours_start = omega arith in
    let t : r.theirs_start ≡ s.theirs_start = omega arith in
    let oe : r.ours_end ≡ s.ours_end = f.ours_ends ∙ ap (side_place 0 0 hs) ends ∙ sym g.ours_ends in
    let te : r.theirs_end ≡ s.theirs_end = f.theirs_ends ∙ ap (side_place 0 0 ks) ends ∙ sym g.theirs_ends in
    let all : ◌≡◌ {A = Region}
    (record { base_start = r.base_start; base_end = r.base_end; ours_start = r.ours_start; ours_end = r.ours_end; theirs_start = r.theirs_start; theirs_end = r.theirs_end })
    (record { base_start = s.base_start; base_end = s.base_end; ours_start = s.ours_start; ours_end = s.ours_end; theirs_start = s.theirs_start; theirs_end = s.theirs_end }) = cc in
    all

same-regions : (base ours theirs : List (List ℕ)) (least i j k : ℕ) (hs ks : List Hunk) (from : ℕ) (rs ss : List Region) → AreRegionsFrom base ours theirs least i j k rs → AreRegionsFrom base ours theirs least i j k ss → AreRegionsBy hs ks from rs → AreRegionsBy hs ks from ss → rs ≡ ss
same-regions base ours theirs least i j k hs ks from [] [] n m f g = refl
same-regions base ours theirs least i j k hs ks from [] (s ∷ ss) n m f g = let wrong : None ≡ Some s.base_start = sym f ∙ g.0.begins in cc
same-regions base ours theirs least i j k hs ks from (r ∷ rs) [] n m f g = let wrong : None ≡ Some r.base_start = sym g ∙ f.0.begins in cc
same-regions base ours theirs least i j k hs ks from (r ∷ rs) (s ∷ ss) n m f g =
    let e : r ≡ s = same-region base ours theirs least i j k hs ks from r s n.0 m.0 f.0 g.0 in
    let rest : rs ≡ ss =
    same-regions base ours theirs 1 r.base_end r.ours_end r.theirs_end hs ks (r.base_end + 1) rs ss n.1
    (subst (λ x. AreRegionsFrom base ours theirs 1 x.base_end x.ours_end x.theirs_end ss) (sym e) m.1)
    f.1
    (subst (λ x. AreRegionsBy hs ks (x.base_end + 1) ss) (sym e) g.1) in
    ap (λ x. x ∷ rs) e ∙ ap (λ xs. s ∷ xs) rest

pub one-merge : (base ours theirs : List (List ℕ)) (hs ks : List Hunk) (rs ss : List Region) → AreMergedBy base ours theirs hs ks rs → AreMergedBy base ours theirs hs ks ss → ss ≡ rs
one-merge base ours theirs hs ks rs ss m n = at (are_two_same base ours theirs) refl
  where
    at : (b : Bool) → are_two_same base ours theirs ≡ b → ss ≡ rs
    at true e = n.whole e ∙ sym (m.whole e)
    at false e = same-regions base ours theirs 0 0 0 0 hs ks 0 ss rs n.are_regions m.are_regions (n.least e).made (m.least e).made

by-exchanged : (base ours theirs : List (List ℕ)) (hs ks : List Hunk) (rs : List Region) → AreMergedBy base ours theirs hs ks rs → AreMergedBy base theirs ours ks hs (map exchanged_region rs)
by-exchanged base ours theirs hs ks rs m = record {
  are_regions = regions-exchanged base ours theirs 0 0 0 0 rs m.are_regions;
  whole = λ e. ap (map exchanged_region) (m.whole (sym (same-two base ours theirs) ∙ e));
  least = λ e. least-by-exchanged base ours theirs hs ks rs (m.least (sym (same-two base ours theirs) ∙ e));
}

pub exchanged-merge : (base ours theirs : List (List ℕ)) (hs ks : List Hunk) (rs ss : List Region) → AreMergedBy base ours theirs hs ks rs → AreMergedBy base theirs ours ks hs ss → ss ≡ map exchanged_region rs
exchanged-merge base ours theirs hs ks rs ss m n = one-merge base theirs ours ks hs (map exchanged_region rs) ss (by-exchanged base ours theirs hs ks rs m) n

pub exchanged-outcomes : (base ours theirs : List (List ℕ)) (hs ks : List Hunk) (rs ss : List Region) → AreMergedBy base ours theirs hs ks rs → AreMergedBy base theirs ours ks hs ss → outcomes_from base theirs ours 0 ss ≡ map exchanged (outcomes_from base ours theirs 0 rs)
exchanged-outcomes base ours theirs hs ks rs ss m n =
    ap (outcomes_from base theirs ours 0) (exchanged-merge base ours theirs hs ks rs ss m n) ∙ outcomes-exchanged base ours theirs 0 rs
