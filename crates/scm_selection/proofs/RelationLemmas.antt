-- The moves on lists, by the keys before and after the selection.
use Rattle.std.proofs.Common.{◌≡◌, ℕ, zero, suc, ◌+◌, ◌<◌, Bool, true, false, cond, not, ◌&&◌, List, [], ◌∷◌, length, drop, refl, ap, sym, ◌∙◌, arith, nat_eq, nat_lt, Option, Some, None}
use Rattle.std.specs.Prelude.{slice_get, find, filter, if◌then◌else◌}
use Rattle.std.specs.Option.{option_or, unwrap_or}
use Rattle.std.specs.List.{position_or_len}
use Rattle.std.proofs.lemmas.List.{drop_all}
use Rattle.std.proofs.lemmas.Bool.Decides.{nat_tests, Decides-eqb}
use Rattle.scm_types.specs.declared.file.File.{File}
use Rattle.scm_types.specs.declared.keys.SelectionKey.{SelectionKey}
use Rattle.scm_types.specs.declared.keys.SelectionKey.TheVariants as keys
use Rattle.scm_selection.specs.KeySet.{is_key, numbers_of, same_numbers}
use Rattle.scm_selection.specs.KeyLists.{files_keys}
use Rattle.scm_selection.specs.Moves.{is_same_kind, next_at, previous_at, next_key, previous_key, keys_behind}
use Rattle.scm_selection.specs.KeysAround.{find_last, is_key_of, keys_before, keys_after}
use Rattle.scm_selection.proofs.PartLemmas.{parted_on, parted, if_there, parts}

-- the index of the first key that passes, and what follows from it
module _ (q : SelectionKey → Bool) where
  abbrev pub IsPlaced : Option (List SelectionKey × List SelectionKey) → List SelectionKey → ℕ → Type 0
  IsPlaced None ks place = place ≡ length ks
  IsPlaced (Some p) ks place = (place ≡ length p.0) × (length p.0 < length ks) × (slice_get ks (length p.0 + 1) ≡ slice_get p.1 0) × (drop (length p.0 + 1) ks ≡ p.1) × ((j : ℕ) → length p.0 ≡ suc j → slice_get ks j ≡ find_last (λ _. true) p.0)

  still : (a : Option SelectionKey) (y k : SelectionKey) → option_or (option_or a (Some y)) (Some k) ≡ option_or a (Some y)
  still None y k = refl
  still (Some x) y k = refl

  before_step : (k : SelectionKey) (ks before : List SelectionKey) → ((j : ℕ) → length before ≡ suc j → slice_get ks j ≡ find_last (λ _. true) before) → (j : ℕ) → suc (length before) ≡ suc j → slice_get (k ∷ ks) j ≡ find_last (λ _. true) (k ∷ before)
  before_step k ks [] h zero e = refl
  before_step k ks [] h (suc j) e = absurd (omega (arith, e))
  before_step k ks (y ∷ ys) h zero e = absurd (omega (arith, e))
  before_step k ks (y ∷ ys) h (suc j) e = h j (omega (arith, e)) ∙ sym (still (find_last (λ _. true) ys) y k)

  placed_step : (b : Bool) (k : SelectionKey) (ks : List SelectionKey) (r : Option (List SelectionKey × List SelectionKey)) (place : ℕ) → IsPlaced r ks place → IsPlaced (parted_on b k ks r) (k ∷ ks) (cond (not b) (1 + place) 0)
  placed_step true k ks r place h = (refl, omega arith, refl, refl, λ j e. absurd (omega (arith, e)))
  placed_step false k ks None place h = omega (arith, h)
  placed_step false k ks (Some p) place h =
      let n : suc (length p.0) + 1 ≡ suc (length p.0 + 1) = omega arith in
      ((let e = h.0 in omega (arith, e)), (let l = h.1 in omega (arith, l)), rw n h.2, rw n h.3, before_step k ks p.0 h.4)

  pub placed : (ks : List SelectionKey) → IsPlaced (parted q ks) ks (position_or_len q ks)
  placed [] = refl
  placed (k ∷ ks) = placed_step (q k) k ks (parted q ks) (position_or_len q ks) (placed ks)

abbrev pub next_part : SelectionKey → SelectionKey → Option (List SelectionKey × List SelectionKey) → SelectionKey
next_part sel o None = o
next_part sel o (Some p) = unwrap_or (slice_get p.1 0) sel

pub next-is : (ks : List SelectionKey) (sel o : SelectionKey) → next_key ks sel o ≡ next_part sel o (parted (is_key sel) ks)
next-is ks sel o = go (parted (is_key sel) ks) (position_or_len (is_key sel) ks) (placed (is_key sel) ks)
  where
    go : (r : Option (List SelectionKey × List SelectionKey)) (place : ℕ) → IsPlaced (is_key sel) r ks place → next_at ks sel o (cond (nat_lt place (length ks)) (Some place) None) ≡ next_part sel o r
    go None place h =
        let out : nat_lt place (length ks) ≡ false = grind (arith, nat_tests) in rw out refl
    go (Some p) place h =
        let l = h.1 in
        let e = h.0 in
        let inside : nat_lt (length p.0) (length ks) ≡ true = grind (arith, nat_tests) in
        rw (e, inside, h.2) refl

-- the same for a part of the keys
abbrev pub kept : Bool → (SelectionKey → Bool) → Option (List SelectionKey × List SelectionKey) → Option (List SelectionKey × List SelectionKey)
kept b test None = None
kept false test (Some p) = None
kept true test (Some p) = Some (filter test p.0, filter test p.1)

kept-none : (test : SelectionKey → Bool) (r : Option (List SelectionKey × List SelectionKey)) → kept false test r ≡ None
kept-none test None = refl
kept-none test (Some p) = refl

kept_step : (q test : SelectionKey → Bool) (v a b : Bool) (k : SelectionKey) (ks : List SelectionKey) (r : Option (List SelectionKey × List SelectionKey)) → q k ≡ a → test k ≡ b → (a ≡ true → b ≡ v) → parted q (filter test ks) ≡ kept v test r → parted q (filter test (k ∷ ks)) ≡ kept v test (parted_on a k ks r)
kept_step q test true true true k ks r qa tb same ih = rw (tb, qa) refl
kept_step q test true true false k ks r qa tb same ih = absurd (cc (same refl))
kept_step q test false true true k ks r qa tb same ih = absurd (cc (same refl))
kept_step q test false true false k ks r qa tb same ih = rw tb (ih ∙ kept-none test r)
kept_step q test v false true k ks None qa tb same ih = rw (tb, qa, ih) refl
kept_step q test true false true k ks (Some p) qa tb same ih = rw (tb, qa, ih) refl
kept_step q test false false true k ks (Some p) qa tb same ih = rw (tb, qa, ih) refl
kept_step q test v false false k ks None qa tb same ih = rw tb ih
kept_step q test true false false k ks (Some p) qa tb same ih = rw tb ih
kept_step q test false false false k ks (Some p) qa tb same ih = rw tb ih

pub kept-is : (q test : SelectionKey → Bool) (v : Bool) → ((k : SelectionKey) → q k ≡ true → test k ≡ v) → (ks : List SelectionKey) → parted q (filter test ks) ≡ kept v test (parted q ks)
kept-is q test v same [] = refl
kept-is q test v same (k ∷ ks) = kept_step q test v (q k) (test k) k ks (parted q ks) refl refl (same k) (kept-is q test v same ks)

first-step : (b : Bool) (k : SelectionKey) (ks : List SelectionKey) (r : Option SelectionKey) → slice_get ks 0 ≡ r → slice_get (cond b (k ∷ ks) ks) 0 ≡ cond b (Some k) r
first-step true k ks r e = refl
first-step false k ks r e = e

first-kept : (test : SelectionKey → Bool) (ks : List SelectionKey) → slice_get (filter test ks) 0 ≡ find test ks
first-kept test [] = refl
first-kept test (k ∷ ks) = first-step (test k) k (filter test ks) (find test ks) (first-kept test ks)

last-step : (b : Bool) (k : SelectionKey) (ks : List SelectionKey) (r s : Option SelectionKey) → r ≡ s → find_last (λ _. true) ks ≡ r → find_last (λ _. true) (cond b (k ∷ ks) ks) ≡ option_or s (if b then Some k else None)
last-step true k ks r s e h = rw (h, e) refl
last-step false k ks r None e h = h ∙ e
last-step false k ks r (Some x) e h = h ∙ e

last-kept : (test : SelectionKey → Bool) (ks : List SelectionKey) → find_last (λ _. true) (filter test ks) ≡ find_last test ks
last-kept test [] = refl
last-kept test (k ∷ ks) = last-step (test k) k (filter test ks) (find_last test ks) (find_last test ks) refl (last-kept test ks)

abbrev pub previous_part : SelectionKey → SelectionKey → Option (List SelectionKey × List SelectionKey) → SelectionKey
previous_part sel o None = o
previous_part sel o (Some p) = unwrap_or (find_last (λ _. true) p.0) sel

pub previous-is : (ks : List SelectionKey) (sel o : SelectionKey) → previous_key ks sel o ≡ previous_part sel o (parted (is_key sel) ks)
previous-is ks sel o = go (parted (is_key sel) ks) (position_or_len (is_key sel) ks) (placed (is_key sel) ks)
  where
    at : (before : List SelectionKey) → ((j : ℕ) → length before ≡ suc j → slice_get ks j ≡ find_last (λ _. true) before) → previous_at ks sel o (Some (length before)) ≡ unwrap_or (find_last (λ _. true) before) sel
    at [] h = refl
    at (y ∷ ys) h = ap (λ r. unwrap_or r sel) (h (length ys) refl)

    go : (r : Option (List SelectionKey × List SelectionKey)) (place : ℕ) → IsPlaced (is_key sel) r ks place → previous_at ks sel o (cond (nat_lt place (length ks)) (Some place) None) ≡ previous_part sel o r
    go None place h =
        let out : nat_lt place (length ks) ≡ false = grind (arith, nat_tests) in rw out refl
    go (Some p) place h =
        let l = h.1 in
        let e = h.0 in
        let inside : nat_lt (length p.0) (length ks) ≡ true = grind (arith, nat_tests) in
        rw (e, inside) (at p.0 h.4)

abbrev pub behind : Option (List SelectionKey × List SelectionKey) → List SelectionKey
behind None = []
behind (Some p) = p.1

pub behind-is : (ks : List SelectionKey) (sel : SelectionKey) → keys_behind ks sel ≡ behind (parted (is_key sel) ks)
behind-is ks sel = go (parted (is_key sel) ks) (position_or_len (is_key sel) ks) (placed (is_key sel) ks)
  where
    go : (r : Option (List SelectionKey × List SelectionKey)) (place : ℕ) → IsPlaced (is_key sel) r ks place → drop (place + 1) ks ≡ behind r
    go None place h = drop_all (place + 1) ks (omega (arith, h))
    go (Some p) place h = let e = h.0 in rw e h.3

-- ---- keys with the same numbers are the same

numbers-same : (ms ns : List ℕ) → same_numbers ms ns ≡ true → ms ≡ ns
numbers-same [] [] e = refl
numbers-same [] (n ∷ ns) e = absurd (cc e)
numbers-same (m ∷ ms) [] e = absurd (cc e)
numbers-same (m ∷ ms) (n ∷ ns) e = go (nat_eq m n) refl (numbers-same ms ns) e
  where
    go : (b : Bool) → nat_eq m n ≡ b → (same_numbers ms ns ≡ true → ms ≡ ns) → (b && same_numbers ms ns) ≡ true → m ∷ ms ≡ n ∷ ns
    go true p more q =
        let same : m ≡ n = (Decides-eqb m n).0 p in
        let rest : ms ≡ ns = more q in
        rw (same, rest) refl
    go false p more q = absurd (cc q)

abbrev key_at : List ℕ → SelectionKey
key_at [] = keys.None
key_at (k ∷ []) = keys.None
key_at (k ∷ (c ∷ [])) = keys.None
key_at (k ∷ (c ∷ (f ∷ []))) = keys.File (record { commit_idx = c; file_idx = f })
key_at (k ∷ (c ∷ (f ∷ (s ∷ [])))) = keys.Section (record { commit_idx = c; file_idx = f; section_idx = s })
key_at (k ∷ (c ∷ (f ∷ (s ∷ (l ∷ ns))))) = keys.Line (record { commit_idx = c; file_idx = f; section_idx = s; line_idx = l })

key-back : (k : SelectionKey) → key_at (numbers_of k) ≡ k
key-back keys.None = refl
key-back (keys.File k) = refl
key-back (keys.Section k) = refl
key-back (keys.Line k) = refl

pub key-same : (a b : SelectionKey) → is_key a b ≡ true → a ≡ b
key-same a b e = sym (key-back a) ∙ ap key_at (numbers-same (numbers_of a) (numbers_of b) e) ∙ key-back b

-- ---- the moves, where the selection is a key of the files that is kept, and where it isn't

module _ (test : SelectionKey → Bool) (fs : List File) (sel : SelectionKey) where
  pub kept-parts : parted (is_key sel) (filter test (files_keys 0 fs)) ≡ kept (test sel) test (if_there (is_key_of fs sel) (keys_before fs sel) (keys_after fs sel))
  kept-parts = kept-is (is_key sel) test (test sel) (λ k e. ap test (sym (key-same sel k e))) (files_keys 0 fs) ∙ ap (kept (test sel) test) (parts fs sel)

  away : (a b : Bool) (before after : List SelectionKey) → (a && b) ≡ false → kept b test (if_there a before after) ≡ None
  away true true before after e = absurd (cc e)
  away true false before after e = refl
  away false b before after e = refl

  there : is_key_of fs sel ≡ true → test sel ≡ true → parted (is_key sel) (filter test (files_keys 0 fs)) ≡ Some (filter test (keys_before fs sel), filter test (keys_after fs sel))
  there a b = kept-parts ∙ rw (a, b) refl

  whole : (b : Bool) → is_key_of fs sel ≡ b → parted (is_key sel) (files_keys 0 fs) ≡ if_there b (keys_before fs sel) (keys_after fs sel)
  whole b e = parts fs sel ∙ rw e refl

  pub next-there : (o : SelectionKey) → is_key_of fs sel ≡ true → test sel ≡ true → unwrap_or (find test (keys_after fs sel)) sel ≡ next_key (filter test (files_keys 0 fs)) sel o
  next-there o a b = sym (next-is (filter test (files_keys 0 fs)) sel o ∙ ap (next_part sel o) (there a b) ∙ ap (λ r. unwrap_or r sel) (first-kept test (keys_after fs sel)))

  pub next-away : (o : SelectionKey) → (is_key_of fs sel && test sel) ≡ false → o ≡ next_key (filter test (files_keys 0 fs)) sel o
  next-away o e = sym (next-is (filter test (files_keys 0 fs)) sel o ∙ ap (next_part sel o) (kept-parts ∙ away (is_key_of fs sel) (test sel) (keys_before fs sel) (keys_after fs sel) e))

  pub previous-there : (o : SelectionKey) → is_key_of fs sel ≡ true → test sel ≡ true → unwrap_or (find_last test (keys_before fs sel)) sel ≡ previous_key (filter test (files_keys 0 fs)) sel o
  previous-there o a b = sym (previous-is (filter test (files_keys 0 fs)) sel o ∙ ap (previous_part sel o) (there a b) ∙ ap (λ r. unwrap_or r sel) (last-kept test (keys_before fs sel)))

  pub previous-away : (o : SelectionKey) → (is_key_of fs sel && test sel) ≡ false → o ≡ previous_key (filter test (files_keys 0 fs)) sel o
  previous-away o e = sym (previous-is (filter test (files_keys 0 fs)) sel o ∙ ap (previous_part sel o) (kept-parts ∙ away (is_key_of fs sel) (test sel) (keys_before fs sel) (keys_after fs sel) e))

  pub inner-there : is_key_of fs sel ≡ true → unwrap_or (find test (keys_after fs sel)) sel ≡ unwrap_or (find test (keys_behind (files_keys 0 fs) sel)) sel
  inner-there a = sym (ap (λ ks. unwrap_or (find test ks) sel) (behind-is (files_keys 0 fs) sel ∙ ap behind (whole true a)))

  pub inner-away : is_key_of fs sel ≡ false → sel ≡ unwrap_or (find test (keys_behind (files_keys 0 fs) sel)) sel
  inner-away a = sym (ap (λ ks. unwrap_or (find test ks) sel) (behind-is (files_keys 0 fs) sel ∙ ap behind (whole false a)))

-- ---- two filters are one

filter_step : (a b : Bool) (k : SelectionKey) (p : SelectionKey → Bool) (ks : List SelectionKey) (js : List SelectionKey) → p k ≡ b → filter p ks ≡ js → filter p (cond a (k ∷ ks) ks) ≡ cond (a && b) (k ∷ js) js
filter_step true true k p ks js e h = rw (e, h) refl
filter_step true false k p ks js e h = rw e h
filter_step false b k p ks js e h = h

pub filter-filter : (p q : SelectionKey → Bool) (ks : List SelectionKey) → filter p (filter q ks) ≡ filter (λ k. q k && p k) ks
filter-filter p q [] = refl
filter-filter p q (k ∷ ks) = filter_step (q k) (p k) k p (filter q ks) (filter (λ j. q j && p j) ks) refl (filter-filter p q ks)

pub kind-self : (fs : List File) (sel : SelectionKey) → is_key_of fs sel ≡ true → is_same_kind sel sel ≡ true
kind-self fs keys.None e = absurd (cc e)
kind-self fs (keys.File k) e = refl
kind-self fs (keys.Section k) e = refl
kind-self fs (keys.Line k) e = refl

pub kind-away : (a b c : Bool) → (a && b) ≡ false → (a && (b && c)) ≡ false
kind-away true true c e = absurd (cc e)
kind-away true false c e = refl
kind-away false b c e = refl

pub and-left : (a b : Bool) → (a && b) ≡ true → a ≡ true
and-left true b e = refl
and-left false b e = absurd (cc e)

pub and-right : (a b : Bool) → (a && b) ≡ true → b ≡ true
and-right true b e = e
and-right false b e = absurd (cc e)
