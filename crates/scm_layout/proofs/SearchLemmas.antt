-- A bisection finds the element that has a row, where the rows follow one another.
use Rattle.std.proofs.Common.{◌≡◌, ℕ, zero, suc, ◌+◌, ◌-◌, ◌<◌, ◌≤◌, nat_le, nat_lt, ◌&&◌, Bool, true, false, List, [], ◌∷◌, Some, None, length, get_or, cond, refl, ap, sym, subst, ◌∙◌, arith}
use Rattle.std.specs.Prelude.{if◌then◌else◌}
use Rattle.std.specs.List.{prefix_len}
use Rattle.std.specs.List.Sorted.{IsNonDecreasingBy, IsPartitionPoint}
use Rattle.std.proofs.lemmas.List.Sums.{prefix_len_is}
use Rattle.std.proofs.lemmas.Bool.Decides.{nat_tests}
use Rattle.scm_types.specs.declared.keys.FileKey.{FileKey}
use Rattle.scm_types.specs.declared.keys.SelectionKey.{SelectionKey}
use Rattle.scm_types.specs.declared.section.Section.{Section}
use Rattle.scm_layout.specs.declared.file_rows.FileRows.{FileRows}
use Rattle.scm_layout.specs.declared.section_rows.SectionRows.{SectionRows}
use Rattle.scm_layout.specs.Rows.{is_first_open, is_open, sections_rows, stacked, visible_height}
use Rattle.scm_layout.specs.Searches.{FilesFollow, FollowFrom, SectionsFollow, count_to, index_on}

-- a partition point is how many pass at the front
pub point-is : {A : Type 0} (p : A → Bool) (xs : List A) (n : ℕ) → n ≤ length xs → IsPartitionPoint (λ x. p x ≡ true) (λ x. p x ≡ false) xs n → n ≡ prefix_len p xs
point-is p [] n h q = omega arith
point-is p (x ∷ xs) n h q = sym (prefix_len_is p (x ∷ xs) n x h (λ k low. q.0 k x (omega arith) low) (λ more. q.1 n x (omega arith) more))

module _ {A : Type 0} (top end : A → ℕ) (row : ℕ) where
  -- none begins on the row or above where the first begins below it
  none-above : (t : ℕ) (xs : List A) → FollowFrom top end t xs → row < t → count_to top row xs ≡ 0
  none-above t [] h below = refl
  none-above t (x ∷ xs) h below = go (nat_le (top x) row) refl
    where
      go : (b : Bool) → nat_le (top x) row ≡ b → cond b (1 + count_to top row xs) 0 ≡ 0
      go true e =
          let at : top x ≡ t = h.0 in
          let above : top x ≤ row = grind (arith, nat_tests) in
          absurd (omega arith)
      go false e = refl

  -- then none has the row
  pub on-none : (t i : ℕ) (xs : List A) → FollowFrom top end t xs → count_to top row xs ≡ 0 → index_on top end row i xs ≡ None
  on-none t i [] h e = refl
  on-none t i (x ∷ xs) h e = go (nat_le (top x) row) refl e (λ c. on-none (end x) (suc i) xs h.2 c)
    where
      go : (b : Bool) → nat_le (top x) row ≡ b → cond b (1 + count_to top row xs) 0 ≡ 0 → (count_to top row xs ≡ 0 → index_on top end row (suc i) xs ≡ None)
          → (if b && nat_lt row (end x) then Some i else index_on top end row (suc i) xs) ≡ None
      go true a e more = absurd (omega arith)
      go false a e more =
          let at : top x ≡ t = h.0 in
          let low : t ≤ end x = h.1 in
          let below : row < top x = grind (arith, nat_tests) in
          more (none-above (end x) xs h.2 (omega arith))

  -- else only the last of those may have it
  pub on-last : (t i n : ℕ) (d : A) (xs : List A) → FollowFrom top end t xs → count_to top row xs ≡ suc n
      → index_on top end row i xs ≡ (if nat_lt row (end (get_or xs n d)) then Some (i + n) else None)
  on-last t i n d [] h e = absurd (omega arith)
  on-last t i n d (x ∷ xs) h e = go (nat_le (top x) row) refl (nat_lt row (end x)) refl e (λ m c. on-last (end x) (suc i) m d xs h.2 c)
    where
      later : (m : ℕ) → count_to top row xs ≡ m → n ≡ m → nat_lt row (end x) ≡ false → ((m : ℕ) → count_to top row xs ≡ suc m → index_on top end row (suc i) xs ≡ (if nat_lt row (end (get_or xs m d)) then Some (suc i + m) else None))
          → index_on top end row (suc i) xs ≡ (if nat_lt row (end (get_or (x ∷ xs) n d)) then Some (i + n) else None)
      later zero c k past more =
          subst (λ (j : ℕ). index_on top end row (suc i) xs ≡ (if nat_lt row (end (get_or (x ∷ xs) j d)) then Some (i + j) else None)) (sym k)
          (on-none (end x) (suc i) xs h.2 c ∙ ap (λ b. if b then Some (i + 0) else None) (sym past))
      later (suc m) c k past more =
          let next : suc i + m ≡ i + suc m = omega arith in
          subst (λ (j : ℕ). index_on top end row (suc i) xs ≡ (if nat_lt row (end (get_or (x ∷ xs) j d)) then Some (i + j) else None)) (sym k)
          (more m c ∙ ap (λ j. if nat_lt row (end (get_or xs m d)) then Some j else None) next)

      first : (m : ℕ) → m ≡ 0 → nat_lt row (end x) ≡ true → Some i ≡ (if nat_lt row (end (get_or (x ∷ xs) m d)) then Some (i + m) else None)
      first m k within =
          let same : i ≡ i + 0 = omega arith in
          subst (λ (j : ℕ). Some i ≡ (if nat_lt row (end (get_or (x ∷ xs) j d)) then Some (i + j) else None)) (sym k)
          (ap Some same ∙ ap (λ b. if b then Some (i + 0) else None) (sym within))

      go : (b : Bool) → nat_le (top x) row ≡ b → (c : Bool) → nat_lt row (end x) ≡ c → cond b (1 + count_to top row xs) 0 ≡ suc n → ((m : ℕ) → count_to top row xs ≡ suc m → index_on top end row (suc i) xs ≡ (if nat_lt row (end (get_or xs m d)) then Some (suc i + m) else None))
          → (if b && c then Some i else index_on top end row (suc i) xs) ≡ (if nat_lt row (end (get_or (x ∷ xs) n d)) then Some (i + n) else None)
      go false a c f e more = absurd (omega arith)
      go true a true f e more =
          let within : row < end x = grind (arith, nat_tests) in
          let none : count_to top row xs ≡ 0 = none-above (end x) xs h.2 within in
          first n (omega arith) f
      go true a false f e more = later (count_to top row xs) refl (omega arith) f more

module _ {A : Type 0} (top end : A → ℕ) where
  from-at : (t j : ℕ) (d : A) (xs : List A) → FollowFrom top end t xs → j < length xs → t ≤ top (get_or xs j d)
  from-at t j d [] h within = absurd (omega arith)
  from-at t zero d (x ∷ xs) h within = let at : top x ≡ t = h.0 in omega arith
  from-at t (suc j) d (x ∷ xs) h within =
      let low : t ≤ end x = h.1 in
      omega (arith, from-at (end x) j d xs h.2 (omega arith))

  -- the rows do not fall
  pub follow-rise : (t : ℕ) (xs : List A) → FollowFrom top end t xs → IsNonDecreasingBy top xs
  follow-rise t [] h i j d le within = absurd (omega (arith, within))
  follow-rise t (x ∷ xs) h zero zero d le within = omega arith
  follow-rise t (x ∷ xs) h zero (suc j) d le within =
      let at : top x ≡ t = h.0 in
      let low : t ≤ end x = h.1 in
      omega (arith, from-at (end x) j d xs h.2 (omega (arith, within)))
  follow-rise t (x ∷ xs) h (suc i) zero d le within = absurd (omega (arith, le))
  follow-rise t (x ∷ xs) h (suc i) (suc j) d le within = follow-rise (end x) xs h.2 i j d (omega (arith, le)) (omega (arith, within))

-- the rows of files one below the other follow one another
stacked-follow : (top : ℕ) (rs : List FileRows) → FollowFrom (λ (r : FileRows). r.top) (λ (r : FileRows). r.end) top (stacked top rs)
unfolding stacked
stacked-follow top [] = tt
stacked-follow top (r ∷ rs) = (refl, omega arith, stacked-follow (top + (r.end - r.top)) rs)

pub files-follow : (top : ℕ) (rs : List FileRows) → FilesFollow (stacked top rs)
files-follow top rs = record { top = top; follow = stacked-follow top rs }

rows-follow : (ks : List SelectionKey) (k : FileKey) (total i top : ℕ) (before : Bool) (ss : List Section) → FollowFrom (λ (r : SectionRows). r.top) (λ (r : SectionRows). r.end) top (sections_rows ks k total i top before ss)
unfolding sections_rows
rows-follow ks k total i top before [] = tt
rows-follow ks k total i top before (s ∷ ss) =
    (refl, omega arith, rows-follow ks k total (suc i) (top + visible_height ks k total i before s (is_first_open ks k (suc i) ss)) (is_open ks k i s) ss)

pub sections-follow : (ks : List SelectionKey) (k : FileKey) (total : ℕ) (ss : List Section) → SectionsFollow (sections_rows ks k total 0 0 false ss)
sections-follow ks k total ss = record { top = 0; follow = rows-follow ks k total 0 0 false ss }
