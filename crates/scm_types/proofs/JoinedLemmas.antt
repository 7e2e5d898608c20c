-- Lines that are joined one after another.
use Rattle.std.proofs.Common.{◌≡◌, ℕ, ◌+◌, ◌≤◌, ◌<◌, Bool, true, false, not, List, [], ◌∷◌, ◌++◌, length, drop, get_or, refl, ap, sym, ◌∙◌, append_assoc, append-nil, arith, ◌||◌, nat_lt, length-append}
use Rattle.std.proofs.lemmas.Bool.Decides.{nat_tests}
use Rattle.std.specs.List.{concat}
use Rattle.std.proofs.lemmas.List.{drop_more, drop_all}
use Rattle.std.proofs.lemmas.List.Folds.{concat-append}
use Rattle.scm_types.specs.declared.line.SectionChangedLine.{SectionChangedLine}
use Rattle.scm_types.specs.Joined.{Joined, with_lines}
use Rattle.scm_types.specs.Split.{changed_lines, takes}

joined-same : (a b : Joined) → a.text ≡ b.text → a.has_line ≡ b.has_line → a ≡ b
joined-same a b t h = let e : ◌≡◌ {A = Joined} (record { text = a.text; has_line = a.has_line }) (record { text = b.text; has_line = b.has_line }) = cc in e

or-none : (b : Bool) → (b || false) ≡ b
or-none true = refl
or-none false = refl

pub joined-nothing : (j : Joined) → with_lines j [] ≡ j
joined-nothing j = joined-same (with_lines j []) j (append-nil j.text) (or-none j.has_line)

some-append : (b : Bool) (m n : ℕ) → ((b || nat_lt 0 m) || nat_lt 0 n) ≡ (b || nat_lt 0 (m + n))
some-append true m n = refl
some-append false m n = grind (arith, nat_tests)

pub joined-append : (j : Joined) (xs ys : List (List ℕ)) → with_lines (with_lines j xs) ys ≡ with_lines j (xs ++ ys)
joined-append j xs ys = joined-same (with_lines (with_lines j xs) ys) (with_lines j (xs ++ ys))
    (append_assoc j.text (concat xs) (concat ys) ∙ ap (λ t. j.text ++ t) (sym (concat-append xs ys)))
    (some-append j.has_line (length xs) (length ys) ∙ ap (λ n. j.has_line || nat_lt 0 n) (sym (length-append xs ys)))

-- the lines that elements of a list give: part x is what one element gives
module _ {A : Type 0} (lines : List A → List (List ℕ)) (part : A → List (List ℕ)) where
  -- what is left to join, where k is j after the lines of the next element
  pub joined-on : ((x : A) (xs : List A) → lines (x ∷ xs) ≡ part x ++ lines xs) → (j k start : Joined) (xs : List A) (i : ℕ) (x : A) → i < length xs → x ≡ get_or xs i x → k ≡ with_lines j (part x) → with_lines j (lines (drop i xs)) ≡ start → with_lines k (lines (drop (i + 1) xs)) ≡ start
  joined-on law j k start xs i x h r e left =
      let next : drop i xs ≡ x ∷ drop (i + 1) xs = rw (drop_more xs i x h, ← r) refl in
      let all : lines (drop i xs) ≡ part x ++ lines (drop (i + 1) xs) = rw next (law x (drop (i + 1) xs)) in
      rw (e, joined-append j (part x) (lines (drop (i + 1) xs)), ← all) left

  -- nothing is left at the end
  pub joined-end : lines [] ≡ [] → (j start : Joined) (xs : List A) (i : ℕ) → length xs ≤ i → with_lines j (lines (drop i xs)) ≡ start → j ≡ start
  joined-end none j start xs i h left =
      let all : lines (drop i xs) ≡ [] = rw (drop_all i xs h) none in
      sym (joined-nothing j) ∙ ap (with_lines j) (sym all) ∙ left

-- a changed line, where the side takes it or not
pub changed-more : (side : Bool) (x : SectionChangedLine) (xs : List SectionChangedLine) → changed_lines side (x ∷ xs) ≡ changed_lines side (x ∷ []) ++ changed_lines side xs
changed-more side x xs = elim (takes side x) as (λ b. takes side x ≡ b → changed_lines side (x ∷ xs) ≡ changed_lines side (x ∷ []) ++ changed_lines side xs) [ true ↦ (λ e. rw e refl) | false ↦ (λ e. rw e refl) ] refl

pub changed-taken : (side : Bool) (x : SectionChangedLine) → takes side x ≡ true → changed_lines side (x ∷ []) ≡ x.line ∷ []
changed-taken side x e = rw e refl

pub changed-left : (side : Bool) (x : SectionChangedLine) → takes side x ≡ false → changed_lines side (x ∷ []) ≡ []
changed-left side x e = rw e refl

pub not_true : (b : Bool) → true ≡ not b → b ≡ false
not_true true e = cc
not_true false e = refl

pub not_false : (b : Bool) → false ≡ not b → b ≡ true
not_false true e = refl
not_false false e = cc
