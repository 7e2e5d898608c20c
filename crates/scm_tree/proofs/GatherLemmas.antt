-- Places that are gathered path by path.
use Rattle.std.proofs.Common.{◌≡◌, ℕ, zero, suc, ◌+◌, ◌-◌, ◌<◌, ◌≤◌, List, [], ◌∷◌, ◌++◌, length, take, get_or, Bool, true, false, ◌||◌, Option, Some, None, eqb, refl, arith, sym, subst, ◌∙◌, ap, inl, inr}
use Rattle.std.proofs.Math.ListN.{get_or-append}
use Rattle.std.proofs.Math.Dec.{eqb-suc-zero}
use Rattle.std.proofs.Math.Seq.{get_or-append_seam}
use Rattle.std.proofs.lemmas.Bool.{false≢true, true≢false, cases_lt, or_cases}
use Rattle.std.specs.Prelude.{is_some}
use Rattle.std.specs.Option.{option_or}
use Rattle.std.specs.List.{All}
use Rattle.std.proofs.lemmas.List.{get_or_default, length-append, take_all, take_more}
use Rattle.std.proofs.lemmas.List.Elements.{All-push}
use Rattle.scm_tree.specs.Paths.{is_before}
use Rattle.scm_tree.proofs.PathLemmas.{before_total, before_trans}
use Rattle.scm_tree.specs.declared.row.Version.{Version}
use Rattle.scm_tree.specs.declared.place.Wish.{Wish}
use Rattle.scm_tree.specs.declared.place.Place.{Place}
use Rattle.scm_tree.specs.declared.rows.GatherError.{GatherError}
use Rattle.scm_tree.specs.declared.rows.GatherError.TheVariants.{Twice, Unknown, OutOfMemory}
use Rattle.scm_tree.specs.GatherFaults.{IsAddFault, IsPlaceFault}
use Rattle.scm_tree.specs.Places.{AreGathered, ArePlacesInOrder, AreSorted, HaveSameFiles, IsAdded, IsFilled, IsGathered, IsJoined, is_twice, place_current, place_goal, place_path, place_wish}
use Rattle.scm_tree.proofs.TimesLemmas.{two_there}
use Rattle.scm_tree.proofs.HoldsLemmas.{all_first, all_last, same_joined, same_push, same_refl, same_trans}

files_refl : (xs : List Place) → HaveSameFiles xs xs
files_refl xs = record {
  current = same_refl place_path place_current xs;
  goal = same_refl place_path place_goal xs;
  wish = same_refl place_path place_wish xs;
  filled = λ h. h;
}

files_trans : (xs ys zs : List Place) → HaveSameFiles xs ys → HaveSameFiles ys zs → HaveSameFiles xs zs
files_trans xs ys zs s t = record {
  current = same_trans place_path place_current xs place_path place_current ys place_path place_current zs s.current t.current;
  goal = same_trans place_path place_goal xs place_path place_goal ys place_path place_goal zs s.goal t.goal;
  wish = same_trans place_path place_wish xs place_path place_wish ys place_path place_wish zs s.wish t.wish;
  filled = λ h. t.filled (s.filled h);
}

files_push : (xs ys : List Place) (y : Place) → HaveSameFiles xs ys → HaveSameFiles (xs ++ y ∷ []) (ys ++ y ∷ [])
files_push xs ys y s = record {
  current = same_push place_path place_current xs place_path place_current ys y y refl refl s.current;
  goal = same_push place_path place_goal xs place_path place_goal ys y y refl refl s.goal;
  wish = same_push place_path place_wish xs place_path place_wish ys y y refl refl s.wish;
  filled = λ h. All-push IsFilled ys y (s.filled (all_first IsFilled xs y h)) (all_last IsFilled xs y h);
}

-- ---- the order

last_of : (done : List Place) (last d : Place) → get_or (done ++ last ∷ []) (length done) d ≡ last
last_of done last d = get_or-append_seam done last [] d

long_more : (xs : List Place) (y : Place) → length (xs ++ y ∷ []) ≡ length xs + 1
long_more xs y = length-append xs (y ∷ [])

-- each of the places comes before what comes after the last one
before_new : (done : List Place) (last y : Place) → ArePlacesInOrder (done ++ last ∷ []) → is_before last.path.now y.path.now ≡ true → (i : ℕ) (d : Place) → i < length done + 1 → is_before (get_or (done ++ last ∷ []) i d).path.now y.path.now ≡ true
before_new done last y o b i d h = elim (cases_lt i (length done)) [
  | inl k ↦ (let l = long_more done last in
      let m : length done < length (done ++ last ∷ []) = omega arith in
      before_trans (get_or (done ++ last ∷ []) i d).path.now last.path.now y.path.now
      (ap (λ (x : Place). is_before (get_or (done ++ last ∷ []) i d).path.now x.path.now) (sym (last_of done last d)) ∙ o i (length done) d k m) b)
  | inr k ↦ (let e : i ≡ length done = omega arith in
      ap (λ (n : ℕ). is_before (get_or (done ++ last ∷ []) n d).path.now y.path.now) e
      ∙ ap (λ (x : Place). is_before x.path.now y.path.now) (last_of done last d) ∙ b)
]

order_more : (xs : List Place) (y : Place) → ArePlacesInOrder xs → ((i : ℕ) (d : Place) → i < length xs → is_before (get_or xs i d).path.now y.path.now ≡ true) → ArePlacesInOrder (xs ++ y ∷ [])
order_more xs y o before = λ i j d h k. elim (cases_lt j (length xs)) [
  | inl m ↦ (let n : i < length xs = omega arith in
      ap (λ (x : Place). is_before x.path.now (get_or (xs ++ y ∷ []) j d).path.now) (get_or-append xs (y ∷ []) d i n)
      ∙ ap (λ (x : Place). is_before (get_or xs i d).path.now x.path.now) (get_or-append xs (y ∷ []) d j m)
      ∙ o i j d h m)
  | inr m ↦ (let l = long_more xs y in
      let e : j ≡ length xs = omega arith in
      let n : i < length xs = omega arith in
      ap (λ (x : Place). is_before x.path.now (get_or (xs ++ y ∷ []) j d).path.now) (get_or-append xs (y ∷ []) d i n)
      ∙ ap (λ (a : ℕ). is_before (get_or xs i d).path.now (get_or (xs ++ y ∷ []) a d).path.now) e
      ∙ ap (λ (x : Place). is_before (get_or xs i d).path.now x.path.now) (last_of xs y d)
      ∙ before i d n)
]

-- the last place may be another one of its path
path_other : (done : List Place) (last z : Place) → z.path.now ≡ last.path.now → (k : ℕ) (d : Place) → (get_or (done ++ z ∷ []) k d).path.now ≡ (get_or (done ++ last ∷ []) k d).path.now
path_other [] last z e zero d = e
path_other [] last z e (suc k) d = refl
path_other (x ∷ xs) last z e zero d = refl
path_other (x ∷ xs) last z e (suc k) d = path_other xs last z e k d

order_other : (done : List Place) (last z : Place) → z.path.now ≡ last.path.now → ArePlacesInOrder (done ++ last ∷ []) → ArePlacesInOrder (done ++ z ∷ [])
order_other done last z e o = λ i j d h k.
    let l = long_more done z in
    let m = long_more done last in
    let n : j < length (done ++ last ∷ []) = omega arith in
    ap (λ (p : List ℕ). is_before p (get_or (done ++ z ∷ []) j d).path.now) (path_other done last z e i d)
    ∙ ap (λ (p : List ℕ). is_before (get_or (done ++ last ∷ []) i d).path.now p) (path_other done last z e j d)
    ∙ o i j d h n

-- ---- a place is added

pub added_after : (done : List Place) (last y : Place) → ArePlacesInOrder (done ++ last ∷ []) → is_before last.path.now y.path.now ≡ true → IsAdded done last y (done ++ last ∷ []) y
added_after done last y o b = record {
  in_order = order_more (done ++ last ∷ []) y o (λ i d h. let l = long_more done last in before_new done last y o b i d (omega arith));
  path = refl;
  same = files_refl ((done ++ last ∷ []) ++ y ∷ []);
}

-- a place that is joined of a filled one is filled
or_filled : {A B C : Type 0} (a d : Option A) (b e : Option B) (c f : Option C) → (is_some a || is_some b || is_some c) ≡ true → (is_some (option_or a d) || is_some (option_or b e) || is_some (option_or c f)) ≡ true
or_filled (Some x) d b e c f h = refl
or_filled None None (Some y) e c f h = refl
or_filled None (Some x) (Some y) e c f h = refl
or_filled None None None None (Some z) f h = refl
or_filled None None None (Some y) (Some z) f h = refl
or_filled None (Some x) None e (Some z) f h = refl
or_filled None d None e None f h = absurd (false≢true h)

filled_joined : (x y z : Place) → IsJoined x y z → IsFilled x → IsFilled z
filled_joined x y z j h =
    ap (λ (o : Option Version). is_some o || is_some z.goal || is_some z.wish) j.current
    ∙ ap (λ (o : Option Version). is_some (option_or x.current y.current) || is_some o || is_some z.wish) j.goal
    ∙ ap (λ (o : Option Wish). is_some (option_or x.current y.current) || is_some (option_or x.goal y.goal) || is_some o) j.wish
    ∙ or_filled x.current y.current x.goal y.goal x.wish y.wish h

none_of : (a b : Bool) → (a || b) ≡ false → (a ≡ false) × (b ≡ false)
none_of true b e = absurd (true≢false e)
none_of false b e = (refl, e)

pub added_joined : (done : List Place) (last y z : Place) → ArePlacesInOrder (done ++ last ∷ []) → is_before y.path.now last.path.now ≡ false → is_before last.path.now y.path.now ≡ false → is_twice last y ≡ false → IsJoined last y z → IsAdded done last y done z
added_joined done last y z o a b n j =
    let same_path : last.path.now ≡ y.path.now = before_total last.path.now y.path.now b a in
    let third = none_of _ _ n in
    let both = none_of _ _ third.0 in
    record {
      in_order = order_other done last z j.path o;
      path = j.path ∙ same_path;
      same = record {
        current = same_joined place_path place_current done last y z j.path same_path j.current both.0;
        goal = same_joined place_path place_goal done last y z j.path same_path j.goal both.1;
        wish = same_joined place_path place_wish done last y z j.path same_path j.wish third.1;
        filled = λ h.
            let g : All IsFilled (done ++ last ∷ []) = all_first IsFilled (done ++ last ∷ []) y h in
            All-push IsFilled done z (all_first IsFilled done last g) (filled_joined last y z j (all_last IsFilled done last g));
      };
    }

-- ---- the first places

one_in_order : (y : Place) → ArePlacesInOrder ([] ++ y ∷ [])
one_in_order y = λ i j d h k. absurd (no_pair i j h k)
  where
    no_pair : (i j : ℕ) → i < j → j < 1 → ⊥
    no_pair i j h k = omega arith

pub gathered_first : (xs : List Place) (last : Place) → 0 < length xs → ((d : Place) → get_or xs 0 d ≡ last) → AreGathered xs 1 [] last
gathered_first xs last h is = record {
  in_order = one_in_order last;
  last_is = λ k d e. let z : k ≡ 0 = omega arith in ap (λ (x : Place). x.path.now) (sym (is d)) ∙ ap (λ (n : ℕ). (get_or xs n d).path.now) (sym z);
  same = subst (λ (ys : List Place). HaveSameFiles ys (last ∷ [])) (sym (first_of xs last h is)) (files_refl (last ∷ []));
}
  where
    first_of : (xs : List Place) (last : Place) → 0 < length xs → ((d : Place) → get_or xs 0 d ≡ last) → take 1 xs ≡ last ∷ []
    first_of xs last h is = take_more xs 0 last h ∙ ap (λ (x : Place). take 0 xs ++ x ∷ []) (is last)

pub gathered_begun : (xs done : List Place) (d : Place) → done ≡ [] → 0 < length xs → AreGathered xs 1 done (get_or xs 0 d)
gathered_begun xs done d e h = subst (λ (ps : List Place). AreGathered xs 1 ps (get_or xs 0 d)) (sym e) (gathered_first xs (get_or xs 0 d) h (λ x. get_or_default xs 0 x d h))

pub gathered_after : (xs : List Place) (i : ℕ) (done : List Place) (last y : Place) → AreSorted xs → AreGathered xs i done last → 0 < i → i < length xs → ((d : Place) → get_or xs i d ≡ y) → is_before y.path.now last.path.now ≡ false
gathered_after xs i done last y s g pos h is =
    let e : i - 1 + 1 ≡ i = omega arith in
    let m : i - 1 + 1 < length xs = omega arith in
    ap (λ (x : Place). is_before x.path.now last.path.now) (sym (is y))
    ∙ ap (λ (p : List ℕ). is_before (get_or xs i y).path.now p) (g.last_is (i - 1) y e)
    ∙ ap (λ (n : ℕ). is_before (get_or xs n y).path.now (get_or xs (i - 1) y).path.now) (sym e)
    ∙ s.next (i - 1) y m

pub gathered_next : (xs : List Place) (i : ℕ) (done : List Place) (last y : Place) (after : List Place) (next : Place) → AreGathered xs i done last → i < length xs → ((d : Place) → get_or xs i d ≡ y) → IsAdded done last y after next → AreGathered xs (i + 1) after next
gathered_next xs i done last y after next g h is a = record {
  in_order = a.in_order;
  last_is = λ k d e. let z : k ≡ i = omega arith in a.path ∙ ap (λ (x : Place). x.path.now) (sym (is d)) ∙ ap (λ (n : ℕ). (get_or xs n d).path.now) (sym z);
  same = subst (λ (ys : List Place). HaveSameFiles ys (after ++ next ∷ [])) (sym (taken xs i y h is))
      (files_trans (take i xs ++ y ∷ []) ((done ++ last ∷ []) ++ y ∷ []) (after ++ next ∷ []) (files_push (take i xs) (done ++ last ∷ []) y g.same) a.same);
}
  where
    taken : (xs : List Place) (i : ℕ) (y : Place) → i < length xs → ((d : Place) → get_or xs i d ≡ y) → take (i + 1) xs ≡ take i xs ++ y ∷ []
    taken xs i y h is = take_more xs i y h ∙ ap (λ (x : Place). take i xs ++ x ∷ []) (is y)

-- a place that cannot be added: one tree has two files of its path, or two marks have it
pub gathered_fault : (xs : List Place) (i : ℕ) (done : List Place) (last y : Place) (e : GatherError) → AreGathered xs i done last → i < length xs → ((d : Place) → get_or xs i d ≡ y) → IsAddFault last y e → IsPlaceFault xs e
gathered_fault xs i done last y OutOfMemory g h is f = tt
gathered_fault xs i done last y (Unknown p) g h is f = absurd f
gathered_fault xs i done last y (Twice p) g h is f =
    let t : take (i + 1) xs ≡ take i xs ++ y ∷ [] = take_more xs i y h ∙ ap (λ (x : Place). take i xs ++ x ∷ []) (is y) in
    let other : p.now ≡ y.path.now = f.0 ∙ f.1.0 in
    elim (or_cases _ _ f.1.1) [
      | inl third ↦ (elim (or_cases _ _ third) [
        | inl both ↦ inl (inl (two_there place_path place_current xs done last y i p.now t (g.same.current.as_often p.now) f.0 other both))
        | inr both ↦ inl (inr (two_there place_path place_goal xs done last y i p.now t (g.same.goal.as_often p.now) f.0 other both))
      ])
      | inr both ↦ inr (two_there place_path place_wish xs done last y i p.now t (g.same.wish.as_often p.now) f.0 other both)
    ]

-- all places were gathered
all_gathered : (xs : List Place) (i : ℕ) (done : List Place) (last : Place) → AreGathered xs i done last → length xs ≤ i → HaveSameFiles xs (done ++ last ∷ [])
all_gathered xs i done last g h = subst (λ (ys : List Place). HaveSameFiles ys (done ++ last ∷ [])) (take_all i xs h) g.same

pub gathered_whole : (xs : List Place) (i : ℕ) (done after : List Place) (last : Place) → AreGathered xs i done last → length xs ≤ i → after ≡ done ++ last ∷ [] → IsGathered xs after
gathered_whole xs i done after last g h e = subst (λ (ys : List Place). IsGathered xs ys) (sym e) (record { in_order = g.in_order; same = all_gathered xs i done last g h })

nothing_in_order : ArePlacesInOrder []
nothing_in_order = λ i j d h k. absurd (not_below j k)
  where
    not_below : (j : ℕ) → j < 0 → ⊥
    not_below j h = omega arith

pub nothing_gathered : (xs done : List Place) (t : Bool) → done ≡ [] → t ≡ eqb (length xs) 0 → t ≡ true → IsGathered xs done
nothing_gathered (x ∷ xs) done t d e f = absurd (true≢false (sym f ∙ e ∙ eqb-suc-zero (length xs)))
nothing_gathered [] done t d e f = subst (λ (ys : List Place). IsGathered [] ys) (sym d) (record { in_order = nothing_in_order; same = files_refl [] })

pub some_places : (xs : List Place) (t : Bool) → t ≡ eqb (length xs) 0 → t ≡ false → 0 < length xs
some_places [] t e f = absurd (false≢true (sym f ∙ e))
some_places (x ∷ xs) t e f = omega arith
