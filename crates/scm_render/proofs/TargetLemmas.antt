-- Looking through the boxes of a map finds what a click hits.
use Rattle.std.proofs.Common.{◌≡◌, ◌≤◌, ℕ, suc, Bool, true, false, cond, List, [], ◌∷◌, ◌++◌, refl, sym, ap, ◌∙◌, arith, inl, inr, fold, subst, append-nil, append_assoc}
use Rattle.std.specs.Prelude.{ℤ, ◌&&◌, nat_le, Option, Some, None, option_map}
use Rattle.std.specs.List.{Contains}
use Rattle.std.specs.HashMap.{HashMap, get, IsUnique, IsFromIterResult}
use Rattle.std.specs.Cmp.{IsEquivalence}
use Rattle.std.proofs.lemmas.Bool.Decides.{nat_tests}
use Rattle.std.proofs.lemmas.List.Elements.{Contains-push, Contains-push_cases, Contains-append_left}
use Rattle.std.proofs.lemmas.Map.Views.{Contains-from_lookup, lookup-from_Contains}
use Rattle.scm_cells.specs.declared.rect.Rect.{Rect}
use Rattle.scm_render.specs.Picture.{Box}
use Rattle.scm_render.specs.Places.{with_times}
use Rattle.scm_render.specs.Hits.{holds, Catches, IsLawful, second_or, box_of, latest}
use Rattle.scm_render.proofs.Latest.{IsLatest, drawn_of}
use Rattle.scm_render.proofs.LatestLemmas.{first_or_later, hit_is_latest, no_hit_is_none}
use Rattle.scm_render.proofs.MapLemmas.{drawn_in_map}
use Rattle.scm_render.specs.declared.trace.DrawnRect.{DrawnRect}
use Rattle.scm_render.specs.Target.{later_of, look, IsTargetOf, IsLastDrawn}

and_absurd : (a b : Bool) → a ≡ true → b ≡ true → (a && b) ≡ false → ⊥
and_absurd true true p q e = cc e
and_absurd true false p q e = cc q
and_absurd false b p q e = cc p

and_true : (a b : Bool) → (a && b) ≡ true → (a ≡ true) × (b ≡ true)
and_true true true e = (refl, refl)
and_true true false e = absurd (cc e)
and_true false b e = absurd (cc e)

module _ {K : Type 0} (clicks : K → Bool) (y x : ℤ) where
  abbrev IsCaught : K × DrawnRect → Type 0
  IsCaught e = Catches clicks e.0 e.1 y x

  -- the best of the boxes that were looked at
  pub record IsBest (done : List (K × DrawnRect)) (b : K × DrawnRect) : Type 0 where
    pub member : Contains done b
    pub caught : IsCaught b
    pub latest : (e : K × DrawnRect) → Contains done e → IsCaught e → e.1.timestamp ≤ b.1.timestamp

  abbrev pub Best : List (K × DrawnRect) → Option (K × DrawnRect) → Type 0
  Best done None = (e : K × DrawnRect) → Contains done e → IsCaught e → ⊥
  Best done (Some b) = IsBest done b

  not_caught : (e f : K × DrawnRect) → (clicks e.0 && holds e.1.rect y x) ≡ false → e ≡ f → IsCaught f → ⊥
  not_caught e f t s c =
      let e : (clicks f.0 && holds f.1.rect y x) ≡ false = subst (λ (k : K × DrawnRect). (clicks k.0 && holds k.1.rect y x) ≡ false) s t in
      and_absurd (clicks f.0) (holds f.1.rect y x) c.click c.inside e

  kept : (done : List (K × DrawnRect)) (o : Option (K × DrawnRect)) (e : K × DrawnRect) → Best done o → (clicks e.0 && holds e.1.rect y x) ≡ false → Best (done ++ e ∷ []) o
  kept done None e h t = λ f m c. elim (Contains-push_cases done e f m) [ inl p ↦ h f p c | inr s ↦ not_caught e f t s c ]
  kept done (Some b) e h t = record {
    member = Contains-append_left done (e ∷ []) b h.member;
    caught = h.caught;
    latest = λ f m c. elim (Contains-push_cases done e f m) [ inl p ↦ h.latest f p c | inr s ↦ absurd (not_caught e f t s c) ];
  }

  taken : (done : List (K × DrawnRect)) (o : Option (K × DrawnRect)) (e : K × DrawnRect) → Best done o → IsCaught e → Best (done ++ e ∷ []) (later_of o e)
  taken done None e h caught = record {
    member = Contains-push done e;
    caught = caught;
    latest = λ f m c. elim (Contains-push_cases done e f m) [ inl p ↦ absurd (h f p c) | inr s ↦ (let k = ap (λ (g : K × DrawnRect). g.1.timestamp) s in omega (arith, k)) ];
  }
  taken done (Some b) e h caught = go (nat_le b.1.timestamp e.1.timestamp) refl
    where
      go : (t : Bool) → nat_le b.1.timestamp e.1.timestamp ≡ t → Best (done ++ e ∷ []) (cond t (Some e) (Some b))
      go true q =
          let le : b.1.timestamp ≤ e.1.timestamp = grind (arith, nat_tests) in
          record {
            member = Contains-push done e;
            caught = caught;
            latest = λ f m c. elim (Contains-push_cases done e f m) [
              | inl p ↦ (let k = h.latest f p c in omega (arith, k, le))
              | inr s ↦ (let k = ap (λ (g : K × DrawnRect). g.1.timestamp) s in omega (arith, k))
            ];
          }
      go false q =
          let lt : e.1.timestamp ≤ b.1.timestamp = grind (arith, nat_tests) in
          record {
            member = Contains-append_left done (e ∷ []) b h.member;
            caught = h.caught;
            latest = λ f m c. elim (Contains-push_cases done e f m) [
              | inl p ↦ h.latest f p c
              | inr s ↦ (let k = ap (λ (g : K × DrawnRect). g.1.timestamp) s in omega (arith, k, lt))
            ];
          }

  best-look : (done : List (K × DrawnRect)) (o : Option (K × DrawnRect)) (e : K × DrawnRect) → Best done o → Best (done ++ e ∷ []) (look clicks y x o e)
  best-look done o e h = go (clicks e.0 && holds e.1.rect y x) refl
    where
      go : (t : Bool) → (clicks e.0 && holds e.1.rect y x) ≡ t → Best (done ++ e ∷ []) (cond t (later_of o e) o)
      go true q = let c = and_true (clicks e.0) (holds e.1.rect y x) q in taken done o e h (record { click = c.0; inside = c.1 })
      go false q = kept done o e h q

  best-all : (done rest : List (K × DrawnRect)) (o : Option (K × DrawnRect)) → Best done o → Best (done ++ rest) (fold (look clicks y x) o rest)
  best-all done [] o h = rw (append-nil done) h
  best-all done (e ∷ rest) o h = rw (← append_assoc done (e ∷ []) rest) (best-all (done ++ e ∷ []) rest (look clicks y x o e) (best-look done o e h))

none_there : {X : Type 0} (e : X) → Contains [] e → ⊥
none_there e m = absurd (omega (arith, m.1))

module _ {K S : Type 0} (same_id : K → K → Bool) (clicks : K → Bool) where
  by_best : (boxes : HashMap K DrawnRect S) (y x : ℤ) (o : Option (K × DrawnRect)) → IsLawful same_id → IsEquivalence same_id → IsUnique same_id boxes → Best clicks y x boxes.entries o
      → IsTargetOf same_id clicks boxes y x (option_map (λ (e : K × DrawnRect). e.0) o)
  by_best boxes y x None law laws unique h = λ j d e c. h (j, d) (Contains-from_lookup law.same j d boxes.entries e) c
  by_best boxes y x (Some b) law laws unique h = record {
    drawn = b.1;
    found = lookup-from_Contains laws b.0 b.1 boxes.entries unique h.member;
    catches = h.caught;
    latest_of_all = λ j d e c. h.latest (j, d) (Contains-from_lookup law.same j d boxes.entries e) c;
  }

  pub target-found : (boxes : HashMap K DrawnRect S) (y x : ℤ) → IsLawful same_id → IsEquivalence same_id → IsUnique same_id boxes
      → IsTargetOf same_id clicks boxes y x (option_map (λ (e : K × DrawnRect). e.0) (fold (look clicks y x) None boxes.entries))
  target-found boxes y x law laws unique = by_best boxes y x _ law laws unique (best-all clicks y x [] boxes.entries None (λ e m c. none_there e m))

-- ---- the list of boxes that drawing leaves, and the map that is made of it

module _ {K : Type 0} (same_id : K → K → Bool) where
  -- the box last drawn for an id, with its time and without
  rect-drawn : (t : ℕ) (i : K) (bs : List (Box K)) → option_map (λ (d : DrawnRect). d.rect) (drawn_of same_id t i bs) ≡ box_of same_id i bs
  unfolding drawn_of box_of
  rect-drawn t i [] = refl
  rect-drawn t i (b ∷ bs) = go (same_id i b.0) (drawn_of same_id (suc t) i bs) (box_of same_id i bs) (rect-drawn (suc t) i bs)
    where
      go : (s : Bool) (o : Option DrawnRect) (p : Option Rect) → option_map (λ (d : DrawnRect). d.rect) o ≡ p
          → option_map (λ (d : DrawnRect). d.rect) (second_or (cond s (Some (record { rect = b.1; timestamp = t })) None) o) ≡ second_or (cond s (Some b.1) None) p
      go s (Some d) p e = rw (sym e) refl
      go true None p e = rw (sym e) refl
      go false None p e = rw (sym e) refl

  drawn-none : (t : ℕ) (i : K) → drawn_of same_id t i [] ≡ None
  unfolding drawn_of
  drawn-none t i = refl

  -- a box of the list has the time of its place or a later one
  drawn-late : (t : ℕ) (i : K) (bs : List (Box K)) (d : DrawnRect) → drawn_of same_id t i bs ≡ Some d → t ≤ d.timestamp
  drawn-late t i [] d e = absurd (cc (drawn-none t i, e))
  drawn-late t i (b ∷ bs) d e =
      elim (first_or_later same_id t i b bs d e) [
        | inl p ↦ (let l = drawn-late (suc t) i bs d p in omega (arith, l))
        | inr p ↦ (let now = ap (λ (k : DrawnRect). k.timestamp) p.2 in omega (arith, now))
      ]

  -- two boxes of one time are of one id
  one_time : (law : IsLawful same_id) (t : ℕ) (i j : K) (bs : List (Box K)) (d e : DrawnRect) → drawn_of same_id t i bs ≡ Some d → drawn_of same_id t j bs ≡ Some e → d.timestamp ≡ e.timestamp → i ≡ j
  one_time law t i j [] d e p q same = absurd (cc (drawn-none t i, p))
  one_time law t i j (b ∷ bs) d e p q same =
      elim (first_or_later same_id t i b bs d p) [
        | inl k ↦ elim (first_or_later same_id t j b bs e q) [
          | inl l ↦ one_time law (suc t) i j bs d e k l same
          | inr l ↦ (let late = drawn-late (suc t) i bs d k in let now = ap (λ (r : DrawnRect). r.timestamp) l.2 in absurd (omega (arith, late, now, same)))
        ]
        | inr k ↦ elim (first_or_later same_id t j b bs e q) [
          | inl l ↦ (let late = drawn-late (suc t) j bs e l in let now = ap (λ (r : DrawnRect). r.timestamp) k.2 in absurd (omega (arith, late, now, same)))
          | inr l ↦ law.same i b.0 k.1 ∙ sym (law.same j b.0 l.1)
        ]
      ]

module _ {K S : Type 0} (same_id : K → K → Bool) (law : IsLawful same_id) where
  -- what the map has for an id
  pub in_map : (bs : List (Box K)) (boxes : HashMap K DrawnRect S) → IsFromIterResult same_id (with_times bs) boxes → (i : K) → get same_id boxes i ≡ drawn_of same_id 0 i bs
  in_map bs boxes made i = made.0 i ∙ drawn_in_map same_id law bs i

  -- and its rectangle
  pub rect_in_map : (bs : List (Box K)) (boxes : HashMap K DrawnRect S) → IsFromIterResult same_id (with_times bs) boxes → (i : K) → option_map (λ (d : DrawnRect). d.rect) (get same_id boxes i) ≡ box_of same_id i bs
  rect_in_map bs boxes made i = ap (option_map (λ (d : DrawnRect). d.rect)) (in_map bs boxes made i) ∙ rect-drawn same_id 0 i bs

  -- the latest box in the map that catches a point is the last in the list
  pub target-is : (clicks : K → Bool) (boxes : HashMap K DrawnRect S) (y x : ℤ) (o : Option K) → IsTargetOf same_id clicks boxes y x o → IsLastDrawn same_id clicks boxes y x o
  target-is clicks boxes y x o h bs made = go o (latest same_id clicks bs y x) refl h
    where
      go : (o l : Option K) → latest same_id clicks bs y x ≡ l → IsTargetOf same_id clicks boxes y x o → o ≡ l
      go None None e t = refl
      go None (Some i) e t =
          let k : IsLatest same_id clicks bs y x i = hit_is_latest same_id clicks law bs y x i e in
          absurd (t i k.drawn (in_map bs boxes made i ∙ k.found) k.catches)
      go (Some i) None e t = absurd (no_hit_is_none same_id clicks law bs y x e i t.drawn (sym (in_map bs boxes made i) ∙ t.found) t.catches)
      go (Some i) (Some j) e t =
          let k : IsLatest same_id clicks bs y x j = hit_is_latest same_id clicks law bs y x j e in
          let here = sym (in_map bs boxes made i) ∙ t.found in
          let after : t.drawn.timestamp ≤ k.drawn.timestamp = k.latest_of_all i t.drawn here t.catches in
          let before : k.drawn.timestamp ≤ t.drawn.timestamp = t.latest_of_all j k.drawn (in_map bs boxes made j ∙ k.found) k.catches in
          ap Some (one_time same_id law 0 i j bs t.drawn k.drawn here k.found (omega (arith, after, before)))
