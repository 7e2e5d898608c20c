-- The last box of the list that no later one replaces is the latest in the map of boxes.
use Rattle.std.proofs.Common.{◌≡◌, ℕ, ◌≤◌, List, [], ◌∷◌, refl, ap, arith, cond, true, false, Bool, ◌∙◌, sym, subst, ◌⊎◌, inl, inr}
use Rattle.std.specs.Prelude.{ℤ, suc, ◌&&◌, ◌||◌, not, Option, Some, None}
use Rattle.scm_render.specs.Picture.{Box}
use Rattle.scm_render.specs.declared.trace.DrawnRect.{DrawnRect}
use Rattle.scm_render.specs.Hits.{hit, has_id, holds, first_of_two, second_or, Catches, IsLawful}
use Rattle.scm_render.proofs.Latest.{IsLatest, drawn_of}

module _ {K : Type 0} (same_id : K → K → Bool) where
  none_drawn : (t : ℕ) (i : K) (bs : List (Box K)) → has_id same_id i bs ≡ false → drawn_of same_id t i bs ≡ None
  unfolding drawn_of has_id
  none_drawn t i [] h = refl
  none_drawn t i (b ∷ bs) h = go (same_id i b.0) h (none_drawn (suc t) i bs)
    where
      go : (s : Bool) → (s || has_id same_id i bs) ≡ false → (has_id same_id i bs ≡ false → drawn_of same_id (suc t) i bs ≡ None) → second_or (cond s (Some (record { rect = b.1; timestamp = t })) None) (drawn_of same_id (suc t) i bs) ≡ None
      go true q ih = absurd (cc q)
      go false q ih = rw (ih q) refl

  drawn_none : (t : ℕ) (i : K) (bs : List (Box K)) → drawn_of same_id t i bs ≡ None → has_id same_id i bs ≡ false
  unfolding drawn_of has_id
  drawn_none t i [] h = refl
  drawn_none t i (b ∷ bs) h = go (same_id i b.0) (drawn_of same_id (suc t) i bs) h (drawn_none (suc t) i bs)
    where
      go : (s : Bool) (o : Option DrawnRect) → second_or (cond s (Some (record { rect = b.1; timestamp = t })) None) o ≡ None → (o ≡ None → has_id same_id i bs ≡ false) → (s || has_id same_id i bs) ≡ false
      go true None q ih = absurd (cc q)
      go true (Some d) q ih = absurd (cc q)
      go false None q ih = ih refl
      go false (Some d) q ih = absurd (cc q)

  -- a drawn box is the first one or a later one
  pub first_or_later : (t : ℕ) (j : K) (b : Box K) (bs : List (Box K)) (d : DrawnRect) → drawn_of same_id t j (b ∷ bs) ≡ Some d
      → (drawn_of same_id (suc t) j bs ≡ Some d) ⊎ ((drawn_of same_id (suc t) j bs ≡ None) × (same_id j b.0 ≡ true) × (d ≡ record { rect = b.1; timestamp = t }))
  unfolding drawn_of
  first_or_later t j b bs d h = go (same_id j b.0) (drawn_of same_id (suc t) j bs) refl h
    where
      go : (s : Bool) (o : Option DrawnRect) → s ≡ s → second_or (cond s (Some (record { rect = b.1; timestamp = t })) None) o ≡ Some d → (o ≡ Some d) ⊎ ((o ≡ None) × (s ≡ true) × (d ≡ record { rect = b.1; timestamp = t }))
      go s (Some e) r q = inl q
      go true None r q = inr (refl, refl, cc q)
      go false None r q = absurd (cc q)

  later_drawn : (t : ℕ) (j : K) (b : Box K) (bs : List (Box K)) (d : DrawnRect) → drawn_of same_id (suc t) j bs ≡ Some d → drawn_of same_id t j (b ∷ bs) ≡ Some d
  unfolding drawn_of
  later_drawn t j b bs d e = rw e refl

  first_drawn : (t : ℕ) (b : Box K) (bs : List (Box K)) → same_id b.0 b.0 ≡ true → has_id same_id b.0 bs ≡ false → drawn_of same_id t b.0 (b ∷ bs) ≡ Some (record { rect = b.1; timestamp = t })
  unfolding drawn_of
  first_drawn t b bs s h = rw (s, none_drawn (suc t) b.0 bs h) refl

module _ {K : Type 0} (same_id : K → K → Bool) (is_clickable : K → Bool) where
  pub record Answer (rep : K → Bool) (t : ℕ) (bs : List (Box K)) (y x : ℤ) (i : K) : Type 0 where
    pub drawn : DrawnRect
    pub found : drawn_of same_id t i bs ≡ Some drawn
    pub catches : Catches is_clickable i drawn y x
    pub from : t ≤ drawn.timestamp
    pub latest : (j : K) (d : DrawnRect) → rep j ≡ false → drawn_of same_id t j bs ≡ Some d → Catches is_clickable j d y x → d.timestamp ≤ drawn.timestamp

  abbrev Result : (K → Bool) → ℕ → List (Box K) → ℤ → ℤ → Option K → Type 0
  Result rep t bs y x None = (j : K) (d : DrawnRect) → rep j ≡ false → drawn_of same_id t j bs ≡ Some d → Catches is_clickable j d y x → ⊥
  Result rep t bs y x (Some i) = Answer rep t bs y x i

  step : (law : IsLawful same_id) (rep : K → Bool) (t : ℕ) (b : Box K) (bs : List (Box K)) (y x : ℤ) (o : Option K) → Result rep (suc t) bs y x o
      → Result rep t (b ∷ bs) y x (first_of_two o (cond (is_clickable b.0 && (not (rep b.0 || has_id same_id b.0 bs) && holds b.1 y x)) (Some b.0) None))
  step law rep t b bs y x (Some i) ih =
      record {
        drawn = ih.drawn;
        found = later_found;
        catches = ih.catches;
        from = omega (arith, ih.from);
        latest = λ j d r e c. older j d r c (first_or_later same_id t j b bs d e);
      }
    where
      later_found : drawn_of same_id t i (b ∷ bs) ≡ Some ih.drawn
      later_found = later_drawn same_id t i b bs ih.drawn ih.found

      older : (j : K) (d : DrawnRect) → rep j ≡ false → Catches is_clickable j d y x → (drawn_of same_id (suc t) j bs ≡ Some d) ⊎ ((drawn_of same_id (suc t) j bs ≡ None) × (same_id j b.0 ≡ true) × (d ≡ record { rect = b.1; timestamp = t })) → d.timestamp ≤ ih.drawn.timestamp
      older j d r c (inl e) = ih.latest j d r e c
      older j d r c (inr q) = let e = ap (λ (k : DrawnRect). k.timestamp) q.2 in omega (arith, e, ih.from)
  step law rep t b bs y x None ih = go (is_clickable b.0) (rep b.0) (has_id same_id b.0 bs) (holds b.1 y x) refl refl refl refl
    where
      never : (j : K) (d : DrawnRect) → rep j ≡ false → drawn_of same_id t j (b ∷ bs) ≡ Some d → Catches is_clickable j d y x → (is_clickable b.0 ≡ true → rep b.0 ≡ false → has_id same_id b.0 bs ≡ false → holds b.1 y x ≡ true → ⊥) → ⊥
      never j d r e c refute = sort (first_or_later same_id t j b bs d e)
        where
          sort : (drawn_of same_id (suc t) j bs ≡ Some d) ⊎ ((drawn_of same_id (suc t) j bs ≡ None) × (same_id j b.0 ≡ true) × (d ≡ record { rect = b.1; timestamp = t })) → ⊥
          sort (inl f) = ih j d r f c
          sort (inr q) =
              let is : j ≡ b.0 = law.same j b.0 q.1 in
              let here : has_id same_id j bs ≡ false = drawn_none same_id (suc t) j bs q.0 in
              let held : holds b.1 y x ≡ true = ap (λ (k : DrawnRect). holds k.rect y x) (sym q.2) ∙ c.inside in
              refute (ap is_clickable (sym is) ∙ c.click) (ap rep (sym is) ∙ r) (ap (λ k. has_id same_id k bs) (sym is) ∙ here) held

      latest_of : (j : K) (d : DrawnRect) → rep j ≡ false → Catches is_clickable j d y x → (drawn_of same_id (suc t) j bs ≡ Some d) ⊎ ((drawn_of same_id (suc t) j bs ≡ None) × (same_id j b.0 ≡ true) × (d ≡ record { rect = b.1; timestamp = t })) → d.timestamp ≤ t
      latest_of j d r c (inl e) = absurd (ih j d r e c)
      latest_of j d r c (inr q) = let e = ap (λ (k : DrawnRect). k.timestamp) q.2 in omega (arith, e)

      go : (c r h l : Bool) → is_clickable b.0 ≡ c → rep b.0 ≡ r → has_id same_id b.0 bs ≡ h → holds b.1 y x ≡ l → Result rep t (b ∷ bs) y x (cond (c && (not (r || h) && l)) (Some b.0) None)
      go true false false true ec er eh el =
          record {
            drawn = record { rect = b.1; timestamp = t };
            found = first_drawn same_id t b bs (law.self b.0) eh;
            catches = record { click = ec; inside = el };
            from = omega arith;
            latest = λ j d r e c. latest_of j d r c (first_or_later same_id t j b bs d e);
          }
      go true false false false ec er eh el = λ j d r e c. never j d r e c (λ p q u v. cc)
      go true false true l ec er eh el = λ j d r e c. never j d r e c (λ p q u v. cc)
      go true true h l ec er eh el = λ j d r e c. never j d r e c (λ p q u v. cc)
      go false r' h l ec er eh el = λ j d r e c. never j d r e c (λ p q u v. cc)

  result : (law : IsLawful same_id) (rep : K → Bool) (t : ℕ) (bs : List (Box K)) (y x : ℤ) → Result rep t bs y x (hit same_id is_clickable rep bs y x)
  unfolding hit drawn_of
  result law rep t [] y x = λ j d r e c. cc e
  result law rep t (b ∷ bs) y x = step law rep t b bs y x (hit same_id is_clickable rep bs y x) (result law rep (suc t) bs y x)

  -- the latest in the map is the last of the list that no later box of its id replaces
  pub hit_is_latest : (law : IsLawful same_id) (bs : List (Box K)) (y x : ℤ) (i : K) → hit same_id is_clickable (λ k. false) bs y x ≡ Some i → IsLatest same_id is_clickable bs y x i
  hit_is_latest law bs y x i e =
      let a : Answer (λ k. false) 0 bs y x i = subst (Result (λ k. false) 0 bs y x) e (result law (λ k. false) 0 bs y x) in
      record { drawn = a.drawn; found = a.found; catches = a.catches; latest_of_all = λ j d f c. a.latest j d refl f c }

  pub no_hit_is_none : (law : IsLawful same_id) (bs : List (Box K)) (y x : ℤ) → hit same_id is_clickable (λ k. false) bs y x ≡ None → (j : K) (d : DrawnRect) → drawn_of same_id 0 j bs ≡ Some d → Catches is_clickable j d y x → ⊥
  no_hit_is_none law bs y x e j d f c = subst (Result (λ k. false) 0 bs y x) e (result law (λ k. false) 0 bs y x) j d refl f c
