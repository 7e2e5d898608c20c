-- The boxes of keys are on the rows of the keys' places: pictures put together, one below the other and one within the other.
use Rattle.std.proofs.Common.{◌≡◌, ℕ, ◌<◌, Bool, true, false, List, [], ◌∷◌, ◌++◌, refl, sym, ap, ◌∙◌, subst}
use Rattle.std.specs.Prelude.{pos, ◌||◌, if◌then◌else◌, Some, None, option_map}
use Rattle.scm_render.specs.Picture.{Box, followed_by, part, box_rect}
use Rattle.scm_render.specs.Hits.{IsLawful, has_id, second_or, first_of_two, box_of}
use Rattle.scm_render.proofs.HitLemmas.{Each, not_true, two_none}
use Rattle.scm_types.specs.declared.keys.SelectionKey.{SelectionKey}
use Rattle.scm_widgets.specs.declared.ids.ComponentId.{ComponentId}
use Rattle.scm_widgets.specs.declared.ids.ComponentId.TheVariants as ids
use Rattle.scm_widgets.specs.Clicks.{is_clickable}
use Rattle.scm_types.specs.Keys.{numbers_of, is_key}
use Rattle.scm_widgets.specs.Pictures.{IdPicture}
use Rattle.scm_document.specs.Places.{Place}
use Rattle.scm_view.specs.Window.{rows_of_box}
use Rattle.scm_document.specs.DocumentRows.{rows_of_place, rows_of_key}
use Rattle.scm_widgets.proofs.DrawsStrips.{none_of}
use Rattle.scm_overlay.proofs.MenuLemmas.{differ}
use Rattle.scm_view.proofs.OwnerLemmas.{is_item}
use Rattle.scm_widgets.proofs.SameLemmas.{numbers-same, numbers-self, key_at, key-back}
use Rattle.scm_widgets.proofs.IdBoxLemmas.{second_none, box_of-append, box_of-absent, box_of-first, box_of-other, box_of-before}
use Rattle.scm_document.proofs.PlaceLemmas.{AllHaveRows, some-rows, rows-append}

-- ---- keys and places

key-same : (a b : SelectionKey) → is_key a b ≡ true → a ≡ b
key-same a b e = sym (key-back a) ∙ ap key_at (numbers-same (numbers_of a) (numbers_of b) e) ∙ key-back b

pub key-self : (a : SelectionKey) → is_key a a ≡ true
key-self a = numbers-self (numbers_of a)

pub all-append : (ps qs : List Place) → AllHaveRows ps → AllHaveRows qs → AllHaveRows (ps ++ qs)
all-append [] qs h k = k
all-append (p ∷ ps) qs h k = (h.0, all-append ps qs h.1 k)

-- ---- the boxes of keys

module _ (same : ComponentId → ComponentId → Bool) where
  -- the boxes of a picture's keys are on the rows of places, and it has no other keys
  pub record Places (m : IdPicture) (ps : List Place) : Type 0 where
    pub at : (k : SelectionKey) → option_map rows_of_box (box_of same (ids.SelectableItem k) m.boxes) ≡ rows_of_key k ps
    pub rows : AllHaveRows ps

  -- no box is of a key
  abbrev pub IsKeyless : IdPicture → Type 0
  IsKeyless m = (k : SelectionKey) → has_id same (ids.SelectableItem k) m.boxes ≡ false

  pub places_keyless : (m : IdPicture) → IsKeyless m → Places m []
  unfolding rows_of_key
  places_keyless m none = record { at = λ k. ap (option_map rows_of_box) (box_of-absent same (ids.SelectableItem k) m.boxes (none k)); rows = tt }

  pub places_beside : (a b : IdPicture) (ps : List Place) → Places a ps → IsKeyless b → Places (followed_by a b) ps
  unfolding followed_by
  places_beside a b ps h none = record { at = λ k. ap (option_map rows_of_box) (box_of-before same (ids.SelectableItem k) a.boxes b.boxes (none k)) ∙ h.at k; rows = h.rows }

  after-none : (i : ComponentId) (cs bs : List (Box ComponentId)) → has_id same i cs ≡ false → box_of same i (cs ++ bs) ≡ box_of same i bs
  after-none i cs bs e = box_of-append same i cs bs ∙ ap (λ o. second_or o (box_of same i bs)) (box_of-absent same i cs e) ∙ second_none (box_of same i bs)

  pub places_after : (a b : IdPicture) (ps : List Place) → IsKeyless a → Places b ps → Places (followed_by a b) ps
  unfolding followed_by
  places_after a b ps none h = record { at = λ k. ap (option_map rows_of_box) (after-none (ids.SelectableItem k) a.boxes b.boxes (none k)) ∙ h.at k; rows = h.rows }

  -- the same boxes
  pub places_as : (a b : IdPicture) (ps : List Place) → a.boxes ≡ b.boxes → Places a ps → Places b ps
  places_as a b ps e h = record { at = λ k. rw (sym e) (h.at k); rows = h.rows }

module _ (same : ComponentId → ComponentId → Bool) (law : IsLawful same) where
  -- an id of one of the boxes is of their kind
  kind-of : (P : ComponentId → Type 0) (i : ComponentId) (bs : List (Box ComponentId)) → Each P bs → has_id same i bs ≡ true → P i
  unfolding has_id
  kind-of P i [] h e = absurd (cc e)
  kind-of P i (b ∷ bs) h e = (elim (same i b.0) as (λ t. same i b.0 ≡ t → (has_id same i bs ≡ true → P i) → (t || has_id same i bs) ≡ true → P i) [ true ↦ (λ q more r. subst P (sym (law.same i b.0 q)) h.0) | false ↦ (λ q more r. more r) ]) refl (kind-of P i bs h.1) e

  -- one below another, with ids of two kinds
  pub places_below : (P Q : ComponentId → Type 0) (a b : IdPicture) (ps qs : List Place) → Each P a.boxes → Each Q b.boxes → ((i : ComponentId) → P i → Q i → ⊥)
      → Places same a ps → Places same b qs → Places same (followed_by a b) (ps ++ qs)
  unfolding followed_by
  places_below P Q a b ps qs ha hb differ pa pb = record { at = λ k. go k (has_id same (ids.SelectableItem k) a.boxes) refl; rows = all-append ps qs pa.rows pb.rows }
    where
      go : (k : SelectionKey) (t : Bool) → has_id same (ids.SelectableItem k) a.boxes ≡ t → option_map rows_of_box (box_of same (ids.SelectableItem k) (a.boxes ++ b.boxes)) ≡ rows_of_key k (ps ++ qs)
      go k true e =
          let mine : P (ids.SelectableItem k) = kind-of P (ids.SelectableItem k) a.boxes ha e in
          let other : has_id same (ids.SelectableItem k) b.boxes ≡ false = not_true (has_id same (ids.SelectableItem k) b.boxes) (λ f. differ (ids.SelectableItem k) mine (kind-of Q (ids.SelectableItem k) b.boxes hb f)) in
          let none : rows_of_key k qs ≡ None = sym (pb.at k) ∙ ap (option_map rows_of_box) (box_of-absent same (ids.SelectableItem k) b.boxes other) in
          ap (option_map rows_of_box) (box_of-before same (ids.SelectableItem k) a.boxes b.boxes other) ∙ pa.at k
          ∙ sym (rows-append k ps qs pa.rows ∙ ap (first_of_two (rows_of_key k ps)) none ∙ two_none (rows_of_key k ps))
      go k false e =
          let none : rows_of_key k ps ≡ None = sym (pa.at k) ∙ ap (option_map rows_of_box) (box_of-absent same (ids.SelectableItem k) a.boxes e) in
          ap (option_map rows_of_box) (after-none same (ids.SelectableItem k) a.boxes b.boxes e) ∙ pb.at k
          ∙ sym (rows-append k ps qs pa.rows ∙ ap (λ o. first_of_two o (rows_of_key k qs)) none)

  -- the component of a key around its parts
  pub places_part : (m : IdPicture) (j : SelectionKey) (top n : ℕ) (ps : List Place) → Places same m ps → has_id same (ids.SelectableItem j) m.boxes ≡ false → (box_rect m).y ≡ pos top → (box_rect m).height ≡ n → 0 < n
      → Places same (part (ids.SelectableItem j) m) (record { key = j; top = top; rows = n } ∷ ps)
  unfolding part rows_of_key
  places_part m j top n ps pm none y rows some = record { at = λ k. go k (is_key k j) refl; rows = (some, pm.rows) }
    where
      own : rows_of_box (box_rect m) ≡ (top, n)
      own = rw (y, rows) refl

      go : (k : SelectionKey) (t : Bool) → is_key k j ≡ t → option_map rows_of_box (box_of same (ids.SelectableItem k) ((ids.SelectableItem j, box_rect m) ∷ m.boxes))
          ≡ (if t then rows_of_place (record { key = j; top = top; rows = n }) else rows_of_key k ps)
      go k true e =
          let is : k ≡ j = key-same k j e in
          subst (λ i. option_map rows_of_box (box_of same (ids.SelectableItem i) ((ids.SelectableItem j, box_rect m) ∷ m.boxes)) ≡ rows_of_place (record { key = j; top = top; rows = n })) (sym is)
          (ap (option_map rows_of_box) (box_of-first same (ids.SelectableItem j) (box_rect m) m.boxes (law.self (ids.SelectableItem j)) none) ∙ ap Some own ∙ sym (some-rows (record { key = j; top = top; rows = n }) some))
      go k false e =
          let other : same (ids.SelectableItem k) (ids.SelectableItem j) ≡ false = differ same law _ _ (λ q. let eq : k ≡ j = cc q in cc (ap (is_key k) (sym eq), key-self k, e)) in
          ap (option_map rows_of_box) (box_of-other same (ids.SelectableItem k) (ids.SelectableItem j) (box_rect m) m.boxes other) ∙ pm.at k

  -- a component of no key around parts
  pub places_still : (m : IdPicture) (i : ComponentId) (ps : List Place) → is_item i ≡ false → Places same m ps → Places same (part i m) ps
  unfolding part
  places_still m i ps e h = record {
    at = λ k. ap (option_map rows_of_box) (box_of-other same (ids.SelectableItem k) i (box_rect m) m.boxes (differ same law (ids.SelectableItem k) i (λ q. cc (ap is_item q, e)))) ∙ h.at k;
    rows = h.rows;
  }

  -- boxes whose ids are of no key
  pub keyless_of : (m : IdPicture) → Each (λ i. is_item i ≡ false) m.boxes → IsKeyless same m
  keyless_of m h k = none_of same is_clickable (λ i. is_item i ≡ false) (ids.SelectableItem k) m.boxes (λ j e. differ same law (ids.SelectableItem k) j (λ q. cc (ap is_item q, e))) h
