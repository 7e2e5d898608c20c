-- The box that was drawn last for an id, in lists of boxes.
use Rattle.std.proofs.Common.{◌≡◌, Bool, true, false, cond, List, [], ◌∷◌, ◌++◌, refl, sym, ap, ◌∙◌}
use Rattle.std.specs.Prelude.{◌||◌, Option, Some, None}
use Rattle.scm_cells.specs.declared.rect.Rect.{Rect}
use Rattle.scm_render.specs.Picture.{Box}
use Rattle.scm_render.specs.Hits.{has_id, second_or, box_of}

pub second_none : {A : Type 0} (o : Option A) → second_or None o ≡ o
second_none None = refl
second_none (Some r) = refl

pub second_assoc : {A : Type 0} (a b c : Option A) → second_or a (second_or b c) ≡ second_or (second_or a b) c
second_assoc a b None = refl
second_assoc a b (Some r) = refl

module _ {K : Type 0} (same : K → K → Bool) where
  pub box_of-append : (i : K) (cs bs : List (Box K)) → box_of same i (cs ++ bs) ≡ second_or (box_of same i cs) (box_of same i bs)
  unfolding box_of
  box_of-append i [] bs = sym (second_none (box_of same i bs))
  box_of-append i (c ∷ cs) bs = ap (second_or (cond (same i c.0) (Some c.1) None)) (box_of-append i cs bs) ∙ second_assoc (cond (same i c.0) (Some c.1) None) (box_of same i cs) (box_of same i bs)

  pub box_of-absent : (i : K) (bs : List (Box K)) → has_id same i bs ≡ false → box_of same i bs ≡ None
  unfolding box_of has_id
  box_of-absent i [] e = refl
  box_of-absent i (b ∷ bs) e = go (same i b.0) e (box_of-absent i bs)
    where
      go : (t : Bool) → (t || has_id same i bs) ≡ false → (has_id same i bs ≡ false → box_of same i bs ≡ None) → second_or (cond t (Some b.1) None) (box_of same i bs) ≡ None
      go true q ih = absurd (cc q)
      go false q ih = rw (ih q) refl

  -- a box that no later one replaces
  pub box_of-first : (i : K) (r : Rect) (bs : List (Box K)) → same i i ≡ true → has_id same i bs ≡ false → box_of same i ((i, r) ∷ bs) ≡ Some r
  unfolding box_of
  box_of-first i r bs self e = rw (self, box_of-absent i bs e) refl

  -- a box of another id
  pub box_of-other : (i j : K) (r : Rect) (bs : List (Box K)) → same i j ≡ false → box_of same i ((j, r) ∷ bs) ≡ box_of same i bs
  unfolding box_of
  box_of-other i j r bs e = rw e (second_none (box_of same i bs))

  -- boxes of other ids after it
  pub box_of-before : (i : K) (cs bs : List (Box K)) → has_id same i bs ≡ false → box_of same i (cs ++ bs) ≡ box_of same i cs
  box_of-before i cs bs e = box_of-append i cs bs ∙ ap (second_or (box_of same i cs)) (box_of-absent i bs e)
