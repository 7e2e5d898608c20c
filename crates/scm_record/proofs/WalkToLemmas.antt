-- Walks over a list of keys without repeats, key by key, down or up.
use Rattle.std.proofs.Common.{◌≡◌, Bool, true, false, cond, List, [], ◌∷◌, ◌++◌, refl, sym, ap, ◌∙◌, subst, append_assoc, Option, Some, None}
use Rattle.std.specs.Prelude.{slice_get, filter, reverse}
use Rattle.std.specs.Option.{unwrap_or}
use Rattle.std.proofs.lemmas.Grind.{reverse_onto}
use Rattle.std.proofs.lemmas.List.{reverse-append}
use Rattle.scm_types.specs.declared.file.File.{File}
use Rattle.scm_types.specs.declared.keys.SelectionKey.{SelectionKey}
use Rattle.scm_selection.specs.KeySet.{is_key}
use Rattle.scm_selection.specs.KeyLists.{files_keys}
use Rattle.scm_selection.specs.Moves.{next_key, keys_behind}
use Rattle.scm_selection.specs.KeysAround.{is_key_of, keys_before, keys_after}
use Rattle.scm_selection.proofs.PartLemmas.{parted_on, parted, parted-append}
use Rattle.scm_selection.proofs.RelationLemmas.{next_part, behind, next-is, behind-is, kept-parts, key-same}
use Rattle.scm_selection.proofs.WalkLemmas.{Once, once-turned, step-stays, step-goes}
use Rattle.scm_selection.proofs.KeyOrderLemmas.{key-self}

-- a step to the next key of the list
module _ (ks : List SelectionKey) (once : Once ks) (a b : SelectionKey) (rest : List SelectionKey) (is : keys_behind ks a ≡ b ∷ rest) where
  stepped : (r : Option (List SelectionKey × List SelectionKey)) → behind r ≡ b ∷ rest → (o : SelectionKey) → next_part a o r ≡ b
  stepped None e o = cc
  stepped (Some p) e o = ap (λ (l : List SelectionKey). unwrap_or (slice_get l 0) a) e

  -- it is the next one
  pub step-next : (o : SelectionKey) → next_key ks a o ≡ b
  step-next o = next-is ks a o ∙ stepped (parted (is_key a) ks) (sym (behind-is ks a) ∙ is) o

  left-by : (x : Bool) → is_key a (next_key ks a a) ≡ x → keys_behind ks b ≡ rest
  left-by true e =
      let none : keys_behind ks a ≡ [] = step-stays ks once a e in
      cc
  left-by false e =
      let goes : b ∷ rest ≡ next_key ks a a ∷ keys_behind ks (next_key ks a a) = sym is ∙ step-goes ks once a e in
      let same : next_key ks a a ≡ b = step-next a in
      let left : rest ≡ keys_behind ks (next_key ks a a) = cc in
      sym (left ∙ ap (keys_behind ks) same)

  -- and the others come after it
  pub step-left : keys_behind ks b ≡ rest
  step-left = left-by (is_key a (next_key ks a a)) refl

-- ---- a key of the list, cut there

abbrev ahead-of : Option (List SelectionKey × List SelectionKey) → List SelectionKey
ahead-of None = []
ahead-of (Some p) = p.0

pub cut : (k : SelectionKey) (ks before after : List SelectionKey) → parted (is_key k) ks ≡ Some (before, after) → ks ≡ before ++ (k ∷ after)
cut k [] before after e = absurd (cc e)
cut k (x ∷ xs) before after e = go (is_key k x) refl (parted (is_key k) xs) refl (cut k xs) e
  where
    go : (b : Bool) → is_key k x ≡ b → (r : Option (List SelectionKey × List SelectionKey)) → parted (is_key k) xs ≡ r → ((before after : List SelectionKey) → parted (is_key k) xs ≡ Some (before, after) → xs ≡ before ++ (k ∷ after)) → parted_on b x xs r ≡ Some (before, after) → x ∷ xs ≡ before ++ (k ∷ after)
    go true t r h more e =
        let same : k ≡ x = key-same k x t in
        let first : [] ≡ before = ap ahead-of e in
        let rest : xs ≡ after = ap behind e in
        rw (← first, ← rest, same) refl
    go false t None h more e = absurd (cc e)
    go false t (Some p) h more e =
        let first : x ∷ p.0 ≡ before = ap ahead-of e in
        let rest : p.1 ≡ after = ap behind e in
        rw (← first, ← rest) (ap (λ js. x ∷ js) (more p.0 p.1 h))

-- what comes before and after a key of the files that is kept
pub kept-at : (test : SelectionKey → Bool) (fs : List File) (key : SelectionKey) → is_key_of fs key ≡ true → test key ≡ true
    → parted (is_key key) (filter test (files_keys 0 fs)) ≡ Some (filter test (keys_before fs key), filter test (keys_after fs key))
kept-at test fs key a b = kept-parts test fs key ∙ rw (a, b) refl

-- ---- the first key, down and up

module _ (first : SelectionKey) (rest : List SelectionKey) (once : Once (first ∷ rest)) where
  -- all others come after the first one
  pub behind-first : keys_behind (first ∷ rest) first ≡ rest
  behind-first = behind-is (first ∷ rest) first ∙ rw (key-self first) refl

  -- a key that is not the first one is among the others
  other-parts : (key : SelectionKey) → is_key key first ≡ false → (before after : List SelectionKey) → parted (is_key key) (first ∷ rest) ≡ Some (before, after)
      → (xs : List SelectionKey) × (ys : List SelectionKey) × (parted (is_key key) rest ≡ Some (xs, ys))
  other-parts key away before after e = go (parted (is_key key) rest) refl (rw away at e)
    where
      go : (r : Option (List SelectionKey × List SelectionKey)) → parted (is_key key) rest ≡ r → parted_on false first rest r ≡ Some (before, after) → (xs : List SelectionKey) × (ys : List SelectionKey) × (parted (is_key key) rest ≡ Some (xs, ys))
      go None h e = absurd (cc e)
      go (Some p) h e = (p.0, p.1, h)

-- ---- keys that pass a test

-- each key of the list passes
abbrev pub AllPass : (SelectionKey → Bool) → List SelectionKey → Type 0
AllPass test [] = Unit {0}
AllPass test (k ∷ ks) = (test k ≡ true) × AllPass test ks

kept-pass : (b : Bool) (test : SelectionKey → Bool) (k : SelectionKey) (ks : List SelectionKey) → test k ≡ b → AllPass test ks → AllPass test (cond b (k ∷ ks) ks)
kept-pass true test k ks e h = (e, h)
kept-pass false test k ks e h = h

pub filter-pass : (test : SelectionKey → Bool) (ks : List SelectionKey) → AllPass test (filter test ks)
filter-pass test [] = tt
filter-pass test (k ∷ ks) = kept-pass (test k) test k (filter test ks) refl (filter-pass test ks)

append-pass : (test : SelectionKey → Bool) (xs ys : List SelectionKey) → AllPass test xs → AllPass test ys → AllPass test (xs ++ ys)
append-pass test [] ys h g = g
append-pass test (x ∷ xs) ys h g = (h.0, append-pass test xs ys h.1 g)

turn-cons : (x : SelectionKey) (xs : List SelectionKey) → reverse (x ∷ xs) ≡ reverse xs ++ (x ∷ [])
turn-cons x xs = reverse_onto xs x []

pub reverse-pass : (test : SelectionKey → Bool) (ks : List SelectionKey) → AllPass test ks → AllPass test (reverse ks)
reverse-pass test [] h = tt
reverse-pass test (k ∷ ks) h =
    subst (AllPass test) (sym (turn-cons k ks)) (append-pass test (reverse ks) (k ∷ []) (reverse-pass test ks h.1) (h.0, tt))

behind-pass : (test q : SelectionKey → Bool) (ks : List SelectionKey) → AllPass test ks → AllPass test (behind (parted q ks))
behind-pass test q [] h = tt
behind-pass test q (k ∷ ks) h = go (q k) (parted q ks) (behind-pass test q ks h.1)
  where
    go : (b : Bool) (r : Option (List SelectionKey × List SelectionKey)) → AllPass test (behind r) → AllPass test (behind (parted_on b k ks r))
    go true r g = h.1
    go false None g = tt
    go false (Some p) g = g

-- ---- walks

-- a walk from key to key of the list, each of which passes
pub data Walks (test : SelectionKey → Bool) (ks : List SelectionKey) : SelectionKey → SelectionKey → Type 0 where
  arrived : {a : SelectionKey} → Walks test ks a a
  walks : {a b c : SelectionKey} {rest : List SelectionKey} → keys_behind ks a ≡ b ∷ rest → test b ≡ true → Walks test ks b c → Walks test ks a c

module _ (test : SelectionKey → Bool) (ks : List SelectionKey) (once : Once ks) where
  walk-on : (a b : SelectionKey) (ys zs : List SelectionKey) → keys_behind ks a ≡ ys ++ (b ∷ zs) → AllPass test (ys ++ (b ∷ zs)) → Walks test ks a b
  walk-on a b [] zs is all = walks is all.0 arrived
  walk-on a b (y ∷ ys) zs is all = walks is all.0 (walk-on y b ys zs (step-left ks once a y (ys ++ (b ∷ zs)) is) all.1)

  -- to a key that comes later
  pub walk-to : AllPass test ks → (a b : SelectionKey) (ys zs : List SelectionKey) → keys_behind ks a ≡ ys ++ (b ∷ zs) → Walks test ks a b
  walk-to all a b ys zs is =
      walk-on a b ys zs is (subst (AllPass test) (sym (behind-is ks a) ∙ is) (behind-pass test (is_key a) ks all))

module _ (test : SelectionKey → Bool) (first : SelectionKey) (rest : List SelectionKey) (once : Once (first ∷ rest)) (all : AllPass test (first ∷ rest)) where
  -- down from the first key
  pub walk-down : (key : SelectionKey) (before after : List SelectionKey) → parted (is_key key) (first ∷ rest) ≡ Some (before, after) → Walks test (first ∷ rest) first key
  walk-down key before after e = go (is_key key first) refl
    where
      go : (x : Bool) → is_key key first ≡ x → Walks test (first ∷ rest) first key
      go true t = subst (λ (k : SelectionKey). Walks test (first ∷ rest) first k) (sym (key-same key first t)) arrived
      go false t =
          let p = other-parts first rest once key t before after e in
          walk-to test (first ∷ rest) once all first key p.0 p.1 (behind-first first rest once ∙ cut key rest p.0 p.1 p.2)

  ends-first : (key : SelectionKey) (us vs : List SelectionKey) (r : Option (List SelectionKey × List SelectionKey)) → parted (is_key key) us ≡ r
      → (ws : List SelectionKey) × (behind (parted (is_key key) (us ++ (key ∷ (vs ++ (first ∷ []))))) ≡ ws ++ (first ∷ []))
  ends-first key us vs None e =
      let found : parted (is_key key) (key ∷ (vs ++ (first ∷ []))) ≡ Some ([], vs ++ (first ∷ [])) = rw (key-self key) refl in
      (vs, ap behind (parted-append (is_key key) us (key ∷ (vs ++ (first ∷ [])))) ∙ rw (e, found) refl)
  ends-first key us vs (Some p) e =
      (p.1 ++ (key ∷ vs), ap behind (parted-append (is_key key) us (key ∷ (vs ++ (first ∷ [])))) ∙ rw e (sym (append_assoc p.1 (key ∷ vs) (first ∷ []))))

  turned-at : (key : SelectionKey) (xs ys : List SelectionKey) → rest ≡ xs ++ (key ∷ ys) → reverse (first ∷ rest) ≡ reverse ys ++ (key ∷ (reverse xs ++ (first ∷ [])))
  turned-at key xs ys e =
      turn-cons first rest
      ∙ ap (λ l. reverse l ++ (first ∷ [])) e
      ∙ ap (λ l. l ++ (first ∷ [])) (reverse-append xs (key ∷ ys))
      ∙ ap (λ l. (l ++ reverse xs) ++ (first ∷ [])) (turn-cons key ys)
      ∙ append_assoc (reverse ys ++ (key ∷ [])) (reverse xs) (first ∷ [])
      ∙ append_assoc (reverse ys) (key ∷ []) (reverse xs ++ (first ∷ []))

  -- up to the first key
  pub walk-up : (key : SelectionKey) (before after : List SelectionKey) → parted (is_key key) (first ∷ rest) ≡ Some (before, after) → Walks test (reverse (first ∷ rest)) key first
  walk-up key before after e = go (is_key key first) refl
    where
      go : (x : Bool) → is_key key first ≡ x → Walks test (reverse (first ∷ rest)) key first
      go true t = subst (λ (k : SelectionKey). Walks test (reverse (first ∷ rest)) k first) (sym (key-same key first t)) arrived
      go false t =
          let p = other-parts first rest once key t before after e in
          let q = ends-first key (reverse p.1) (reverse p.0) (parted (is_key key) (reverse p.1)) refl in
          walk-to test (reverse (first ∷ rest)) (once-turned (first ∷ rest) once) (reverse-pass test (first ∷ rest) all) key first q.0 []
          (behind-is (reverse (first ∷ rest)) key ∙ ap (λ l. behind (parted (is_key key) l)) (turned-at key p.0 p.1 (cut key rest p.0 p.1 p.2)) ∙ q.1)
