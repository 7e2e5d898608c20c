-- Laws of the merge of three lists of lines.
use Rattle.std.proofs.Common.{◌≡◌, ◌≢◌, ℕ, ◌+◌, ◌-◌, ◌≤◌, Bool, true, false, if◌then◌else◌, ◌||◌, List, [], ◌∷◌, ◌++◌, length, take, drop, reverse, map, refl, ap, sym, ◌∙◌, arith, append-nil, append_assoc}
use Rattle.std.specs.Prelude.{slice_range}
use Rattle.std.specs.List.{flat_map}
use Rattle.std.specs.Cmp.Lexicographic.{bytes_decides, pointwise_decides}
use Rattle.std.proofs.lemmas.List.{map-append, take_all}
use Rattle.std.proofs.Math.Seq.{drop-length}
use Rattle.scm_merge.specs.declared.region.Region.{Region}
use Rattle.scm_merge.specs.Regions.{AreRegionsFrom, IsNextRegion}
use Rattle.scm_merge.specs.Parts.{Agreed, AreMerged, Choice, Conflict, Outcome, Part, conflict_of, conflict_within, has_conflict, lines_by, lines_if, outcomes_from, outcomes_of, part_at, same_lines, shared_end, shared_start, whole_region}
use Rattle.scm_merge.specs.Laws.{IsClean, IsConflictOfThree, IsTrimmed, all_ours, all_theirs, exchanged, exchanged_region, ours_first, parts_from, theirs_first}
use Rattle.scm_merge.proofs.PartLemmas.{both-same, ours-kept, theirs-kept}
use Rattle.scm_merge.proofs.SharedLemmas.{HasEnd, end-rest, end-shared, slice-drop, start-between, start-bounds, start-exchanged, start-shared, three-pieces}

-- ---- the test of lines

pub same-means : (xs ys : List (List ℕ)) → same_lines xs ys ≡ true → xs ≡ ys
same-means xs ys = (pointwise_decides bytes_decides xs ys).0

pub same-of : (xs ys : List (List ℕ)) → xs ≡ ys → same_lines xs ys ≡ true
same-of xs ys = (pointwise_decides bytes_decides xs ys).1

pub same-self : (xs : List (List ℕ)) → same_lines xs xs ≡ true
same-self xs = same-of xs xs refl

-- ---- a conflict and the lines around it

-- the shared lines at the end
part-end : (o t : List (List ℕ)) → HasEnd (shared_start o t) (shared_end (drop (shared_start o t) o) (drop (shared_start o t) t)) o t
part-end o t = let bounds = start-bounds o t in end-shared (shared_start o t) o t bounds.0 bounds.1

pub trimmed : (b o t : List (List ℕ)) → IsTrimmed (record { base = b; ours = o; theirs = t })
trimmed b o t =
    let n = shared_start o t in
    let m = shared_end (drop n o) (drop n t) in
    let bounds = start-bounds o t in
    let last = part-end o t in
    record {
      before = take n o;
      ours = slice_range o n (length o - m);
      theirs = slice_range t n (length t - m);
      after = drop (length o - m) o;
      outcomes = refl;
      our_lines = sym (three-pieces o n m last.first);
      their_lines =
          sym (three-pieces t n m last.second)
          ∙ ap (λ xs. xs ++ (slice_range t n (length t - m) ++ drop (length t - m) t)) (sym (start-shared o t))
          ∙ ap (λ xs. take n o ++ (slice_range t n (length t - m) ++ xs)) (sym last.shared);
      begins = start-between n o t (length o - m) (length t - m) refl;
      ends = end-rest n o t bounds.0 bounds.1;
    }

-- ---- exchange of the sides

conflict-exchanged : (b o t : List (List ℕ)) → conflict_of (record { base = b; ours = t; theirs = o }) ≡ map exchanged (conflict_of (record { base = b; ours = o; theirs = t }))
conflict-exchanged b o t =
    let p : Part = record { base = b; ours = t; theirs = o } in
    let n = shared_start o t in
    let m = shared_end (drop n o) (drop n t) in
    let start : shared_start t o ≡ n = start-exchanged t o in
    let end : shared_end (drop n t) (drop n o) ≡ m = start-exchanged (reverse (drop n t)) (reverse (drop n o)) in
    let middle = Conflict b (slice_range t n (length t - m)) (slice_range o n (length o - m)) in
    ap (λ k. conflict_within p k (shared_end (drop k t) (drop k o))) start
    ∙ ap (conflict_within p n) end
    ∙ ap (λ xs. Agreed xs ∷ middle ∷ Agreed (drop (length t - m) t) ∷ []) (sym (start-shared o t))
    ∙ ap (λ xs. Agreed (take n o) ∷ middle ∷ Agreed xs ∷ []) (sym (part-end o t).shared)

one-exchanged : (b o t : List (List ℕ)) → outcomes_of (record { base = b; ours = t; theirs = o }) ≡ map exchanged (outcomes_of (record { base = b; ours = o; theirs = t }))
one-exchanged b o t = at (same_lines o b) (same_lines t b) (same_lines o t) (same_lines t o) refl refl refl refl
  where
    this : List Outcome
    this = conflict_of (record { base = b; ours = o; theirs = t })

    other : List Outcome
    other = conflict_of (record { base = b; ours = t; theirs = o })

    at : (x y z w : Bool) → same_lines o b ≡ x → same_lines t b ≡ y → same_lines o t ≡ z → same_lines t o ≡ w → (if y then Agreed o ∷ [] else (if x then Agreed t ∷ [] else (if w then Agreed t ∷ [] else other))) ≡ map exchanged (if x then Agreed t ∷ [] else (if y then Agreed o ∷ [] else (if z then Agreed o ∷ [] else this)))
    at true true z w e f g h = ap (λ ls. Agreed ls ∷ []) (same-means o b e ∙ sym (same-means t b f))
    at true false z w e f g h = refl
    at false true z w e f g h = refl
    at false false true true e f g h = ap (λ ls. Agreed ls ∷ []) (sym (same-means o t g))
    at false false false false e f g h = conflict-exchanged b o t
    at false false true false e f g h = let k : true ≡ false = sym (same-of t o (sym (same-means o t g))) ∙ h in cc
    at false false false true e f g h = let k : true ≡ false = sym (same-of o t (sym (same-means t o h))) ∙ g in cc

pub outcomes-exchanged : (base ours theirs : List (List ℕ)) (i : ℕ) (rs : List Region) → outcomes_from base theirs ours i (map exchanged_region rs) ≡ map exchanged (outcomes_from base ours theirs i rs)
outcomes-exchanged base ours theirs i [] = refl
outcomes-exchanged base ours theirs i (r ∷ rs) =
    let p = part_at base ours theirs r in
    let new = outcomes_from base theirs ours r.base_end (map exchanged_region rs) in
    let first = Agreed (slice_range base i r.base_start) in
    ap (λ os. first ∷ (os ++ new)) (one-exchanged p.base p.ours p.theirs)
    ∙ ap (λ os. first ∷ (map exchanged (outcomes_of p) ++ os)) (outcomes-exchanged base ours theirs r.base_end rs)
    ∙ ap (λ os. first ∷ os) (sym (map-append exchanged (outcomes_of p) (outcomes_from base ours theirs r.base_end rs)))

next-exchanged : (base ours theirs : List (List ℕ)) (least i j k : ℕ) (r : Region) → IsNextRegion base ours theirs least i j k r → IsNextRegion base theirs ours least i k j (exchanged_region r)
next-exchanged base ours theirs least i j k r n = record {
  run = n.run;
  enough = n.enough;
  base_begins = n.base_begins;
  ours_begins = n.theirs_begins;
  theirs_begins = n.ours_begins;
  ours_common = n.theirs_common;
  theirs_common = n.ours_common;
  base_order = n.base_order;
  ours_order = n.theirs_order;
  theirs_order = n.ours_order;
  base_within = n.base_within;
  ours_within = n.theirs_within;
  theirs_within = n.ours_within;
}

pub regions-exchanged : (base ours theirs : List (List ℕ)) (least i j k : ℕ) (rs : List Region) → AreRegionsFrom base ours theirs least i j k rs → AreRegionsFrom base theirs ours least i k j (map exchanged_region rs)
regions-exchanged base ours theirs least i j k [] h = (h.1, h.0)
regions-exchanged base ours theirs least i j k (r ∷ rs) h = (next-exchanged base ours theirs least i j k r h.0, regions-exchanged base ours theirs 1 r.base_end r.ours_end r.theirs_end rs h.1)

-- ---- conflicts have three versions

not-same : (xs ys : List (List ℕ)) → same_lines xs ys ≡ false → xs ≢ ys
not-same xs ys e q = let k : true ≡ false = sym (same-of xs ys q) ∙ e in cc

pub three-versions : (b o t : List (List ℕ)) → IsConflictOfThree (record { base = b; ours = o; theirs = t })
three-versions b o t = record {
  three = λ h. differ (same_lines o b) (same_lines t b) (same_lines o t) refl refl refl h;
  conflict = λ u v w. settled (same_lines o b) (same_lines t b) (same_lines o t) refl refl refl u v w;
}
  where
    this : List Outcome
    this = conflict_of (record { base = b; ours = o; theirs = t })

    differ : (x y z : Bool) → same_lines o b ≡ x → same_lines t b ≡ y → same_lines o t ≡ z → has_conflict (if x then Agreed t ∷ [] else (if y then Agreed o ∷ [] else (if z then Agreed o ∷ [] else this))) ≡ true → (o ≢ b) × (t ≢ b) × (o ≢ t)
    differ true y z e f g h = cc
    differ false true z e f g h = cc
    differ false false true e f g h = cc
    differ false false false e f g h = (not-same o b e, not-same t b f, not-same o t g)

    settled : (x y z : Bool) → same_lines o b ≡ x → same_lines t b ≡ y → same_lines o t ≡ z → o ≢ b → t ≢ b → o ≢ t → has_conflict (if x then Agreed t ∷ [] else (if y then Agreed o ∷ [] else (if z then Agreed o ∷ [] else this))) ≡ true
    settled true y z e f g u v w = absurd (u (same-means o b e))
    settled false true z e f g u v w = absurd (v (same-means t b f))
    settled false false true e f g u v w = absurd (w (same-means o t g))
    settled false false false e f g u v w = refl

-- ---- two equal lists

whole-slice : (xs : List (List ℕ)) → slice_range xs 0 (length xs) ≡ xs
whole-slice xs = take_all (length xs - 0) xs (omega arith)

clean-whole : (base ours theirs : List (List ℕ)) (rs : List Region) (ls : List (List ℕ)) → rs ≡ whole_region base ours theirs ∷ [] → outcomes_of (record { base = base; ours = ours; theirs = theirs }) ≡ Agreed ls ∷ [] → IsClean (outcomes_from base ours theirs 0 rs) ls
clean-whole base ours theirs rs ls e h =
    let w = whole_region base ours theirs in
    let part : part_at base ours theirs w ≡ record { base = base; ours = ours; theirs = theirs } =
    let a = whole-slice base in let b = whole-slice ours in let c = whole-slice theirs in
    ap (λ x. record { base = x; ours = slice_range ours 0 (length ours); theirs = slice_range theirs 0 (length theirs) }) a
    ∙ ap (λ x. record { base = base; ours = x; theirs = slice_range theirs 0 (length theirs) }) b
    ∙ ap (λ x. record { base = base; ours = ours; theirs = x }) c in
    let all : outcomes_from base ours theirs 0 rs ≡ Agreed [] ∷ Agreed ls ∷ Agreed [] ∷ [] =
    ap (outcomes_from base ours theirs 0) e
    ∙ ap (λ os. Agreed [] ∷ (os ++ Agreed (drop (length base) base) ∷ [])) (ap outcomes_of part ∙ h)
    ∙ ap (λ xs. Agreed [] ∷ Agreed ls ∷ Agreed xs ∷ []) (drop-length base) in
    record {
      no_conflict = ap has_conflict all;
      lines_are = λ c. ap (lines_by c) all ∙ append-nil ls;
    }

or-left : (x y z : Bool) → x ≡ true → (x || y || z) ≡ true
or-left x y z e = ap (λ v. v || y || z) e

or-middle : (x y z : Bool) → y ≡ true → (x || y || z) ≡ true
or-middle true y z e = refl
or-middle false y z e = ap (λ v. v || z) e

or-right : (x y z : Bool) → z ≡ true → (x || y || z) ≡ true
or-right true y z e = refl
or-right false true z e = refl
or-right false false z e = e

pub clean-ours-kept : (base ours theirs : List (List ℕ)) (rs : List Region) → AreMerged base ours theirs rs → ours ≡ base → IsClean (outcomes_from base ours theirs 0 rs) theirs
clean-ours-kept base ours theirs rs m e =
    let s = same-of ours base e in
    clean-whole base ours theirs rs theirs (m.whole (or-left (same_lines ours base) (same_lines theirs base) (same_lines ours theirs) s)) (ours-kept base ours theirs s)

pub clean-theirs-kept : (base ours theirs : List (List ℕ)) (rs : List Region) → AreMerged base ours theirs rs → theirs ≡ base → IsClean (outcomes_from base ours theirs 0 rs) ours
clean-theirs-kept base ours theirs rs m e = at (same_lines ours base) refl
  where
    s : same_lines theirs base ≡ true
    s = same-of theirs base e

    w : rs ≡ whole_region base ours theirs ∷ []
    w = m.whole (or-middle (same_lines ours base) (same_lines theirs base) (same_lines ours theirs) s)

    at : (x : Bool) → same_lines ours base ≡ x → IsClean (outcomes_from base ours theirs 0 rs) ours
    at true f = clean-whole base ours theirs rs ours w (ours-kept base ours theirs f ∙ ap (λ ls. Agreed ls ∷ []) (e ∙ sym (same-means ours base f)))
    at false f = clean-whole base ours theirs rs ours w (theirs-kept base ours theirs f s)

pub clean-same : (base ours theirs : List (List ℕ)) (rs : List Region) → AreMerged base ours theirs rs → ours ≡ theirs → IsClean (outcomes_from base ours theirs 0 rs) ours
clean-same base ours theirs rs m e = at (same_lines ours base) (same_lines theirs base) refl refl
  where
    s : same_lines ours theirs ≡ true
    s = same-of ours theirs e

    w : rs ≡ whole_region base ours theirs ∷ []
    w = m.whole (or-right (same_lines ours base) (same_lines theirs base) (same_lines ours theirs) s)

    at : (x y : Bool) → same_lines ours base ≡ x → same_lines theirs base ≡ y → IsClean (outcomes_from base ours theirs 0 rs) ours
    at true y f g = clean-whole base ours theirs rs ours w (ours-kept base ours theirs f ∙ ap (λ ls. Agreed ls ∷ []) (sym e))
    at false true f g = clean-whole base ours theirs rs ours w (theirs-kept base ours theirs f g)
    at false false f g = clean-whole base ours theirs rs ours w (both-same base ours theirs f g s)

-- ---- the parts are the lists

pub two-slices : (xs ls : List (List ℕ)) (i k m : ℕ) → i ≤ k → k ≤ m → ls ≡ drop m xs → slice_range xs i k ++ (slice_range xs k m ++ ls) ≡ drop i xs
two-slices xs ls i k m h g e = ap (λ ys. slice_range xs i k ++ (slice_range xs k m ++ ys)) e ∙ ap (λ ys. slice_range xs i k ++ ys) (slice-drop xs k m g) ∙ slice-drop xs i k h

pub base-of-parts : (base ours theirs : List (List ℕ)) (least i j k : ℕ) (rs : List Region) → AreRegionsFrom base ours theirs least i j k rs → flat_map (λ (p : Part). p.base) (parts_from base ours theirs i rs) ≡ drop i base
base-of-parts base ours theirs least i j k [] h = append-nil (drop i base)
base-of-parts base ours theirs least i j k (r ∷ rs) h =
    two-slices base (flat_map (λ (p : Part). p.base) (parts_from base ours theirs r.base_end rs)) i r.base_start r.base_end (let e = h.0.base_begins in omega arith) h.0.base_order
    (base-of-parts base ours theirs 1 r.base_end r.ours_end r.theirs_end rs h.1)

-- common lines, as lines of a side
pub common-slice : (base side : List (List ℕ)) (i j run s t : ℕ) → s ≡ i + run → t ≡ j + run → take run (drop i base) ≡ take run (drop j side) → slice_range base i s ≡ slice_range side j t
common-slice base side i j run s t a b e =
    let x : s - i ≡ run = omega arith in
    let y : t - j ≡ run = omega arith in
    ap (λ n. take n (drop i base)) x ∙ e ∙ ap (λ n. take n (drop j side)) (sym y)

pub ours-of-parts : (base ours theirs : List (List ℕ)) (least i j k : ℕ) (rs : List Region) → AreRegionsFrom base ours theirs least i j k rs → flat_map (λ (p : Part). p.ours) (parts_from base ours theirs i rs) ≡ drop j ours
ours-of-parts base ours theirs least i j k [] h = append-nil (drop i base) ∙ h.0
ours-of-parts base ours theirs least i j k (r ∷ rs) h =
    let more = flat_map (λ (p : Part). p.ours) (parts_from base ours theirs r.base_end rs) in
    ap (λ xs. xs ++ (slice_range ours r.ours_start r.ours_end ++ more)) (common-slice base ours i j h.0.run r.base_start r.ours_start h.0.base_begins h.0.ours_begins h.0.ours_common)
    ∙ two-slices ours more j r.ours_start r.ours_end (let e = h.0.ours_begins in omega arith) h.0.ours_order
    (ours-of-parts base ours theirs 1 r.base_end r.ours_end r.theirs_end rs h.1)

pub theirs-of-parts : (base ours theirs : List (List ℕ)) (least i j k : ℕ) (rs : List Region) → AreRegionsFrom base ours theirs least i j k rs → flat_map (λ (p : Part). p.theirs) (parts_from base ours theirs i rs) ≡ drop k theirs
theirs-of-parts base ours theirs least i j k [] h = append-nil (drop i base) ∙ h.1
theirs-of-parts base ours theirs least i j k (r ∷ rs) h =
    let more = flat_map (λ (p : Part). p.theirs) (parts_from base ours theirs r.base_end rs) in
    ap (λ xs. xs ++ (slice_range theirs r.theirs_start r.theirs_end ++ more)) (common-slice base theirs i k h.0.run r.base_start r.theirs_start h.0.base_begins h.0.theirs_begins h.0.theirs_common)
    ∙ two-slices theirs more k r.theirs_start r.theirs_end (let e = h.0.theirs_begins in omega arith) h.0.theirs_order
    (theirs-of-parts base ours theirs 1 r.base_end r.ours_end r.theirs_end rs h.1)

-- ---- the lines of outcomes

pub both-lines : (c : Choice) (os ps : List Outcome) → lines_by c (os ++ ps) ≡ lines_by c os ++ lines_by c ps
both-lines c [] ps = refl
both-lines c (Agreed ls ∷ os) ps = ap (λ xs. ls ++ xs) (both-lines c os ps) ∙ sym (append_assoc ls (lines_by c os) (lines_by c ps))
both-lines c (Conflict b o t ∷ os) ps =
    let lines = lines_if c.ours o ++ (lines_if c.base b ++ lines_if c.theirs t) in
    ap (λ xs. lines ++ xs) (both-lines c os ps) ∙ sym (append_assoc lines (lines_by c os) (lines_by c ps))

-- the lines of a conflict whose sides are settled as `x`, in the lines around it
around : (before x after : List (List ℕ)) → before ++ ((x ++ []) ++ (after ++ [])) ≡ before ++ (x ++ after)
around before x after = ap (λ ys. before ++ (ys ++ (after ++ []))) (append-nil x) ∙ ap (λ ys. before ++ (x ++ ys)) (append-nil after)

-- ---- our lines in each conflict

conflict-ours : (b o t : List (List ℕ)) → lines_by all_ours (conflict_of (record { base = b; ours = o; theirs = t })) ≡ o
conflict-ours b o t = let r = trimmed b o t in ap (lines_by all_ours) r.outcomes ∙ around r.before r.ours r.after ∙ sym r.our_lines

ours-part : (b o t : List (List ℕ)) → lines_by all_ours (outcomes_of (record { base = b; ours = o; theirs = t })) ≡ (if same_lines o b then t else o)
ours-part b o t = at (same_lines o b) (same_lines t b) (same_lines o t)
  where
    this : List Outcome
    this = conflict_of (record { base = b; ours = o; theirs = t })

    at : (x y z : Bool) → lines_by all_ours (if x then Agreed t ∷ [] else (if y then Agreed o ∷ [] else (if z then Agreed o ∷ [] else this))) ≡ (if x then t else o)
    at true y z = append-nil t
    at false true z = append-nil o
    at false false true = append-nil o
    at false false false = conflict-ours b o t

pub ours-lines : (base ours theirs : List (List ℕ)) (i : ℕ) (rs : List Region) → lines_by all_ours (outcomes_from base ours theirs i rs) ≡ flat_map ours_first (parts_from base ours theirs i rs)
ours-lines base ours theirs i [] = ap (λ x. (if x then drop i base else drop i base) ++ []) (sym (same-self (drop i base)))
ours-lines base ours theirs i (r ∷ rs) =
    let p = part_at base ours theirs r in
    let ls = slice_range base i r.base_start in
    let more = flat_map ours_first (parts_from base ours theirs r.base_end rs) in
    ap (λ xs. ls ++ xs) (both-lines all_ours (outcomes_of p) (outcomes_from base ours theirs r.base_end rs)
    ∙ ap (λ xs. xs ++ lines_by all_ours (outcomes_from base ours theirs r.base_end rs)) (ours-part p.base p.ours p.theirs)
    ∙ ap (λ xs. ours_first p ++ xs) (ours-lines base ours theirs r.base_end rs))
    ∙ ap (λ x. (if x then ls else ls) ++ (ours_first p ++ more)) (sym (same-self ls))

-- ---- their lines in each conflict

conflict-theirs : (b o t : List (List ℕ)) → lines_by all_theirs (conflict_of (record { base = b; ours = o; theirs = t })) ≡ t
conflict-theirs b o t = let r = trimmed b o t in ap (lines_by all_theirs) r.outcomes ∙ ap (λ xs. r.before ++ (r.theirs ++ xs)) (append-nil r.after) ∙ sym r.their_lines

theirs-part : (b o t : List (List ℕ)) → lines_by all_theirs (outcomes_of (record { base = b; ours = o; theirs = t })) ≡ (if same_lines t b then o else t)
theirs-part b o t = at (same_lines o b) (same_lines t b) (same_lines o t) refl refl refl
  where
    this : List Outcome
    this = conflict_of (record { base = b; ours = o; theirs = t })

    at : (x y z : Bool) → same_lines o b ≡ x → same_lines t b ≡ y → same_lines o t ≡ z → lines_by all_theirs (if x then Agreed t ∷ [] else (if y then Agreed o ∷ [] else (if z then Agreed o ∷ [] else this))) ≡ (if y then o else t)
    at true true z e f g = append-nil t ∙ same-means t b f ∙ sym (same-means o b e)
    at true false z e f g = append-nil t
    at false true z e f g = append-nil o
    at false false true e f g = append-nil o ∙ same-means o t g
    at false false false e f g = conflict-theirs b o t

pub theirs-lines : (base ours theirs : List (List ℕ)) (i : ℕ) (rs : List Region) → lines_by all_theirs (outcomes_from base ours theirs i rs) ≡ flat_map theirs_first (parts_from base ours theirs i rs)
theirs-lines base ours theirs i [] = ap (λ x. (if x then drop i base else drop i base) ++ []) (sym (same-self (drop i base)))
theirs-lines base ours theirs i (r ∷ rs) =
    let p = part_at base ours theirs r in
    let ls = slice_range base i r.base_start in
    let more = flat_map theirs_first (parts_from base ours theirs r.base_end rs) in
    ap (λ xs. ls ++ xs) (both-lines all_theirs (outcomes_of p) (outcomes_from base ours theirs r.base_end rs)
    ∙ ap (λ xs. xs ++ lines_by all_theirs (outcomes_from base ours theirs r.base_end rs)) (theirs-part p.base p.ours p.theirs)
    ∙ ap (λ xs. theirs_first p ++ xs) (theirs-lines base ours theirs r.base_end rs))
    ∙ ap (λ x. (if x then ls else ls) ++ (theirs_first p ++ more)) (sym (same-self ls))
