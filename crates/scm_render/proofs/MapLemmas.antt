-- The map of boxes that a frame answers, and the list of boxes that drawing leaves.
use Rattle.std.proofs.Common.{◌≡◌, ℕ, ◌+◌, List, [], ◌∷◌, refl, sym, ap, ◌∙◌, cond, true, false, Bool, add-one, ◌<◌, ◌≤◌, ◌++◌, length, drop, get_or, drop-cons, append_assoc, append-nil, add_assoc}
use Rattle.std.proofs.lemmas.List.{drop_all}
use Rattle.std.specs.Prelude.{Option, Some, None, suc}
use Rattle.std.specs.Map.{update, update_all}
use Rattle.scm_render.specs.Picture.{Box}
use Rattle.scm_render.specs.Places.{with_times, with_times_from}
use Rattle.scm_render.specs.Hits.{IsLawful, second_or}
use Rattle.scm_render.proofs.Latest.{drawn_of}
use Rattle.scm_render.specs.declared.trace.DrawnRect.{DrawnRect}

module _ {K : Type 0} (same_id : K → K → Bool) (law : IsLawful same_id) where
  turned : (i j : K) → same_id i j ≡ same_id j i
  turned i j = go (same_id i j) (same_id j i) refl refl
    where
      go : (a b : Bool) → same_id i j ≡ a → same_id j i ≡ b → a ≡ b
      go true true p q = refl
      go false false p q = refl
      go true false p q = cc (law.same i j p, law.self j, law.self i, p, q)
      go false true p q = cc (law.same j i q, law.self j, law.self i, p, q)

  inner : (s : Bool) (d : DrawnRect) (f o : Option DrawnRect) → second_or (cond s (Some d) f) o ≡ second_or f (second_or (cond s (Some d) None) o)
  inner true d f (Some e) = refl
  inner true d f None = refl
  inner false d f (Some e) = refl
  inner false d f None = refl

  by_map : (t : ℕ) (bs : List (Box K)) (f : K → Option DrawnRect) (q : K) → update_all same_id f (with_times_from t bs) q ≡ second_or (f q) (drawn_of same_id t q bs)
  unfolding drawn_of with_times_from
  by_map t [] f q = refl
  by_map t (b ∷ bs) f q =
      let d : DrawnRect = record { rect = b.1; timestamp = t } in
      by_map (t + 1) bs (update same_id f b.0 (Some d)) q
      ∙ rw (add-one, turned b.0 q) (inner (same_id q b.0) d (f q) (drawn_of same_id (suc t) q bs))

  none_or : (o : Option DrawnRect) → second_or None o ≡ o
  none_or (Some d) = refl
  none_or None = refl

  -- what the map has for an id is the box last drawn for it
  pub drawn_in_map : (bs : List (Box K)) (q : K) → update_all same_id (λ k. None) (with_times bs) q ≡ drawn_of same_id 0 q bs
  drawn_in_map bs q = by_map 0 bs (λ k. None) q ∙ none_or (drawn_of same_id 0 q bs)

module _ {K : Type 0} where
  -- one box more
  pub timed_from-more : (t : ℕ) (bs : List (Box K)) (i n : ℕ) (b d : Box K) (done all : List (K × DrawnRect)) → i < length bs → n ≡ t + i → b ≡ get_or bs i d
      → done ++ with_times_from (t + i) (drop i bs) ≡ all → (done ++ (b.0, record { rect = b.1; timestamp = n }) ∷ []) ++ with_times_from (t + (i + 1)) (drop (i + 1) bs) ≡ all
  unfolding with_times_from
  timed_from-more t bs i n b d done all h k e p =
      let cut : drop i bs ≡ b ∷ drop (i + 1) bs = rw (add-one, e) (drop-cons bs i d h) in
      let one : K × DrawnRect = (b.0, record { rect = b.1; timestamp = t + i }) in
      ap (λ m. (done ++ (b.0, record { rect = b.1; timestamp = m }) ∷ []) ++ with_times_from (t + (i + 1)) (drop (i + 1) bs)) k
      ∙ append_assoc done (one ∷ []) (with_times_from (t + (i + 1)) (drop (i + 1) bs))
      ∙ ap (λ n. done ++ one ∷ with_times_from n (drop (i + 1) bs)) (sym (add_assoc t i 1))
      ∙ ap (λ w. done ++ with_times_from (t + i) w) (sym cut) ∙ p

  pub timed_from-end : (t : ℕ) (bs : List (Box K)) (i : ℕ) (done all : List (K × DrawnRect)) → length bs ≤ i → done ++ with_times_from (t + i) (drop i bs) ≡ all → done ≡ all
  unfolding with_times_from
  timed_from-end t bs i done all h p = sym (append-nil done) ∙ ap (λ w. done ++ with_times_from (t + i) w) (sym (drop_all i bs h)) ∙ p
