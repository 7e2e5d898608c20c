-- Names that a file system takes for another name.
use Rattle.std.proofs.Common.{◌≡◌, ℕ, zero, suc, ◌+◌, ◌-◌, ◌<◌, ◌≤◌, List, [], ◌∷◌, length, drop, get_or, Bool, true, false, cond, eqb, ltb, refl, arith, sym, ◌∙◌, ap, add-one, ◌⊎◌, inl, inr, eq-eqb, ne_eqb, eqb-true, ltb-true, lt-ltb}
use Rattle.std.proofs.Math.Seq.{drop-cons}
use Rattle.std.proofs.Math.ListN.{drop_of_length-le}
use Rattle.std.proofs.lemmas.Bool.{false≢true, cases_lt}
use Rattle.scm_tree.specs.declared.folding.Compared.{Compared}
use Rattle.scm_tree.specs.Folding.{IsNext, small, begins_ignorable, is_letter, letters, is_same, begins, is_dot_or_blank, is_passed}

-- ---- lists

drop_at : (p : List ℕ) (i : ℕ) → i < length p → drop i p ≡ get_or p i 0 ∷ drop (i + 1) p
drop_at p i h = rw add-one (drop-cons p i 0 h)

cond_eq : (x y : ℕ) (t u : Bool) → x ≡ y → cond (eqb x y) t u ≡ t
cond_eq x y t u e = rw (eq-eqb x y e) refl

cond_ne : (x y : ℕ) (t u : Bool) → (x ≡ y → ⊥) → cond (eqb x y) t u ≡ u
cond_ne x y t u n = rw (ne_eqb x y n) refl

cond_true : (t : Bool) (xs ys : List ℕ) → t ≡ true → cond t xs ys ≡ xs
cond_true true xs ys e = refl
cond_true false xs ys e = absurd (false≢true e)

cond_false : (t : Bool) (xs ys : List ℕ) → t ≡ false → cond t xs ys ≡ ys
cond_false true xs ys e = absurd (false≢true (sym e))
cond_false false xs ys e = refl

-- ---- the letters that HFS+ compares

skipped : (skip b : ℕ) (bs : List ℕ) → 0 < skip → letters skip (b ∷ bs) ≡ letters (skip - 1) bs
unfolding letters
skipped zero b bs h = absurd (omega arith)
skipped (suc n) b bs h = let e : suc n - 1 ≡ n = omega arith in rw e refl

pub letters_skip : (name : List ℕ) (skip i : ℕ) → 0 < skip → i < length name → letters skip (drop i name) ≡ letters (skip - 1) (drop (i + 1) name)
letters_skip name skip i h k = rw (drop_at name i k) (skipped skip (get_or name i 0) (drop (i + 1) name) h)

ignored : (b : ℕ) (bs : List ℕ) → begins_ignorable (b ∷ bs) ≡ true → letters 0 (b ∷ bs) ≡ letters 2 bs
unfolding letters
ignored b bs e = cond_true (begins_ignorable (b ∷ bs)) (letters 2 bs) (small b ∷ letters 0 bs) e

pub letters_ignored : (name : List ℕ) (i : ℕ) → i < length name → begins_ignorable (drop i name) ≡ true → letters 0 (drop i name) ≡ letters 2 (drop (i + 1) name)
letters_ignored name i k e =
    let d : drop i name ≡ get_or name i 0 ∷ drop (i + 1) name = drop_at name i k in
    ap (letters 0) d ∙ ignored (get_or name i 0) (drop (i + 1) name) (sym (ap begins_ignorable d) ∙ e)

counted : (b : ℕ) (bs : List ℕ) → begins_ignorable (b ∷ bs) ≡ false → letters 0 (b ∷ bs) ≡ small b ∷ letters 0 bs
unfolding letters
counted b bs e = cond_false (begins_ignorable (b ∷ bs)) (letters 2 bs) (small b ∷ letters 0 bs) e

letters_counted : (name : List ℕ) (i : ℕ) → i < length name → begins_ignorable (drop i name) ≡ false → letters 0 (drop i name) ≡ small (get_or name i 0) ∷ letters 0 (drop (i + 1) name)
letters_counted name i k e =
    let d : drop i name ≡ get_or name i 0 ∷ drop (i + 1) name = drop_at name i k in
    ap (letters 0) d ∙ counted (get_or name i 0) (drop (i + 1) name) (sym (ap begins_ignorable d) ∙ e)

same_cons : (x y : ℕ) (xs ys : List ℕ) → x ≡ y → is_same (x ∷ xs) (y ∷ ys) ≡ is_same xs ys
unfolding is_same
same_cons x y xs ys e = cond_eq x y (is_same xs ys) false e

differ_cons : (x y : ℕ) (xs ys : List ℕ) → (x ≡ y → ⊥) → is_same (x ∷ xs) (y ∷ ys) ≡ false
unfolding is_same
differ_cons x y xs ys n = cond_ne x y (is_same xs ys) false n

pub letters_same : (word name : List ℕ) (i count : ℕ) → i < length name → count < length word → begins_ignorable (drop i name) ≡ false → small (get_or name i 0) ≡ get_or word count 0 → is_same (letters 0 (drop i name)) (drop count word) ≡ is_same (letters 0 (drop (i + 1) name)) (drop (count + 1) word)
letters_same word name i count h k off e =
    rw (letters_counted name i h off, drop_at word count k)
    (same_cons (small (get_or name i 0)) (get_or word count 0) (letters 0 (drop (i + 1) name)) (drop (count + 1) word) e)

longer : (x : ℕ) (xs : List ℕ) → is_same (x ∷ xs) [] ≡ false
unfolding is_same
longer x xs = refl

differs : (word name : List ℕ) (i count : ℕ) → begins_ignorable (drop i name) ≡ false → i < length name → ((count < length word) ⊎ (length word ≤ count)) → (count < length word → small (get_or name i 0) ≡ get_or word count 0 → ⊥) → is_same (letters 0 (drop i name)) (drop count word) ≡ false
differs word name i count off h (inl k) n =
    rw (letters_counted name i h off, drop_at word count k)
    (differ_cons (small (get_or name i 0)) (get_or word count 0) (letters 0 (drop (i + 1) name)) (drop (count + 1) word) (n k))
differs word name i count off h (inr k) n =
    rw (letters_counted name i h off, drop_of_length-le word k) (longer (small (get_or name i 0)) (letters 0 (drop (i + 1) name)))

pub letters_differ : (word name : List ℕ) (i count : ℕ) → i < length name → begins_ignorable (drop i name) ≡ false → (count < length word → small (get_or name i 0) ≡ get_or word count 0 → ⊥) → is_same (letters 0 (drop i name)) (drop count word) ≡ false
letters_differ word name i count h off n = differs word name i count off h (cases_lt count (length word)) n

none_same : (word : List ℕ) (count : ℕ) → count ≤ length word → ((count < length word) ⊎ (length word ≤ count)) → is_same [] (drop count word) ≡ eqb count (length word)
unfolding is_same
none_same word count h (inl k) = rw (drop_at word count k, ne_eqb count (length word) (λ e. omega arith)) refl
none_same word count h (inr k) = let e : count ≡ length word = omega arith in rw (drop_of_length-le word k, eq-eqb count (length word) e) refl

no_letters : (skip : ℕ) → letters skip [] ≡ []
unfolding letters
no_letters zero = refl
no_letters (suc n) = refl

pub letters_end : (word name : List ℕ) (i skip count : ℕ) → length name ≤ i → count ≤ length word → is_same (letters skip (drop i name)) (drop count word) ≡ eqb count (length word)
letters_end word name i skip count h k = rw (drop_of_length-le name h, no_letters skip) (none_same word count k (cases_lt count (length word)))

pub next_skip : (word name : List ℕ) (i : ℕ) (at : Compared) → i < length name → at.count ≤ length word → 0 < at.skip → IsNext word name i at (record { skip = at.skip - 1; count = at.count })
next_skip word name i at h k s = record {
  same = ap (λ (l : List ℕ). is_same l (drop at.count word)) (letters_skip name at.skip i s h);
  within = k;
}

unskipped : (word name : List ℕ) (i : ℕ) (at : Compared) → at.skip ≤ 0 → is_same (letters at.skip (drop i name)) (drop at.count word) ≡ is_same (letters 0 (drop i name)) (drop at.count word)
unskipped word name i at s = let e : at.skip ≡ 0 = omega arith in ap (λ (n : ℕ). is_same (letters n (drop i name)) (drop at.count word)) e

pub next_ignored : (word name : List ℕ) (i : ℕ) (at : Compared) → i < length name → at.count ≤ length word → at.skip ≤ 0 → begins_ignorable (drop i name) ≡ true → IsNext word name i at (record { skip = 2; count = at.count })
next_ignored word name i at h k s e = record {
  same = unskipped word name i at s ∙ ap (λ (l : List ℕ). is_same l (drop at.count word)) (letters_ignored name i h e);
  within = k;
}

both : (t u : Bool) → cond t u false ≡ true → (t ≡ true) × (u ≡ true)
both true u e = (refl, e)
both false u e = absurd (false≢true e)

letter_within : (word : List ℕ) (count b : ℕ) → is_letter word count b ≡ true → count < length word
letter_within word count b e = ltb-true count (length word) (both (ltb count (length word)) (eqb (small b) (get_or word count 0)) e).0

letter_same : (word : List ℕ) (count b : ℕ) → is_letter word count b ≡ true → small b ≡ get_or word count 0
letter_same word count b e = eqb-true (small b) (get_or word count 0) (both (ltb count (length word)) (eqb (small b) (get_or word count 0)) e).1

letter_is : (word : List ℕ) (count b : ℕ) → count < length word → small b ≡ get_or word count 0 → is_letter word count b ≡ true
letter_is word count b h e = rw (lt-ltb count (length word) h, eq-eqb (small b) (get_or word count 0) e) refl

pub next_letter : (word name : List ℕ) (i : ℕ) (at : Compared) → i < length name → at.skip ≤ 0 → begins_ignorable (drop i name) ≡ false → is_letter word at.count (get_or name i 0) ≡ true → IsNext word name i at (record { skip = 0; count = at.count + 1 })
next_letter word name i at h s off e =
    let w : at.count < length word = letter_within word at.count (get_or name i 0) e in
    record {
      same = unskipped word name i at s ∙ letters_same word name i at.count h w off (letter_same word at.count (get_or name i 0) e);
      within = omega arith;
    }

pub no_next : (word name : List ℕ) (i : ℕ) (at : Compared) → i < length name → at.skip ≤ 0 → begins_ignorable (drop i name) ≡ false → is_letter word at.count (get_or name i 0) ≡ false → is_same (letters at.skip (drop i name)) (drop at.count word) ≡ false
no_next word name i at h s off e =
    unskipped word name i at s
    ∙ letters_differ word name i at.count h off (λ w f. false≢true (sym e ∙ letter_is word at.count (get_or name i 0) w f))

pub nothing_past : (bytes : List ℕ) (i : ℕ) → length bytes ≤ i → drop i bytes ≡ []
nothing_past bytes i h = drop_of_length-le bytes h

-- ---- names that begin with a word

begins_cons : (w b : ℕ) (ws bs : List ℕ) → small b ≡ w → begins (w ∷ ws) (b ∷ bs) ≡ begins ws bs
unfolding begins
begins_cons w b ws bs e = cond_eq (small b) w (begins ws bs) false e

begins_other : (w b : ℕ) (ws bs : List ℕ) → (small b ≡ w → ⊥) → begins (w ∷ ws) (b ∷ bs) ≡ false
unfolding begins
begins_other w b ws bs n = cond_ne (small b) w (begins ws bs) false n

pub begins_same : (word name : List ℕ) (i : ℕ) → i < length word → i < length name → small (get_or name i 0) ≡ get_or word i 0 → begins (drop i word) (drop i name) ≡ begins (drop (i + 1) word) (drop (i + 1) name)
begins_same word name i h k e =
    rw (drop_at word i h, drop_at name i k) (begins_cons (get_or word i 0) (get_or name i 0) (drop (i + 1) word) (drop (i + 1) name) e)

pub begins_differs : (word name : List ℕ) (i : ℕ) → i < length word → i < length name → (small (get_or name i 0) ≡ get_or word i 0 → ⊥) → begins (drop i word) (drop i name) ≡ false
begins_differs word name i h k n =
    rw (drop_at word i h, drop_at name i k) (begins_other (get_or word i 0) (get_or name i 0) (drop (i + 1) word) (drop (i + 1) name) n)

pub begins_past : (word name : List ℕ) (i : ℕ) → i < length word → length name ≤ i → begins (drop i word) (drop i name) ≡ false
unfolding begins
begins_past word name i h k = rw (drop_at word i h, drop_of_length-le name k) refl

pub begins_end : (word name : List ℕ) (i : ℕ) → length word ≤ i → begins (drop i word) (drop i name) ≡ true
unfolding begins
begins_end word name i h = rw (drop_of_length-le word h) refl

-- ---- the end of a name on NTFS

pub passed_colon : (end : List ℕ) (i : ℕ) → i < length end → get_or end i 0 ≡ 58 → is_passed (drop i end) ≡ true
unfolding is_passed
passed_colon end i h e = rw (drop_at end i h, eq-eqb (get_or end i 0) 58 e) refl

blank_step : (b : ℕ) (t u : Bool) → is_dot_or_blank b ≡ t → (b ≡ 58 → ⊥) → cond (eqb b 58) true (cond (is_dot_or_blank b) u false) ≡ cond t u false
blank_step b t u e n = rw (ne_eqb b 58 n, e) refl

pub passed_blank : (end : List ℕ) (i : ℕ) → i < length end → (get_or end i 0 ≡ 58 → ⊥) → is_dot_or_blank (get_or end i 0) ≡ true → is_passed (drop i end) ≡ is_passed (drop (i + 1) end)
unfolding is_passed
passed_blank end i h n e = rw (drop_at end i h) (blank_step (get_or end i 0) true (is_passed (drop (i + 1) end)) e n)

pub passed_other : (end : List ℕ) (i : ℕ) → i < length end → (get_or end i 0 ≡ 58 → ⊥) → is_dot_or_blank (get_or end i 0) ≡ false → is_passed (drop i end) ≡ false
unfolding is_passed
passed_other end i h n e = rw (drop_at end i h) (blank_step (get_or end i 0) false (is_passed (drop (i + 1) end)) e n)

pub passed_end : (end : List ℕ) (i : ℕ) → length end ≤ i → is_passed (drop i end) ≡ true
unfolding is_passed
passed_end end i h = rw (drop_of_length-le end h) refl
