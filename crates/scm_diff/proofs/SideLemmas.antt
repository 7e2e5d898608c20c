-- A text that is joined line by line.
use Rattle.std.proofs.Common.{◌≡◌, ℕ, ◌+◌, ◌-◌, ◌<◌, ◌≤◌, List, [], ◌∷◌, ◌++◌, length, take, drop, get_or, Bool, true, false, not, if◌then◌else◌, refl, ap, sym, ◌∙◌, append-nil, append_assoc}
use Rattle.std.proofs.lemmas.Bool.{eqb-true}
use Rattle.std.proofs.lemmas.List.{drop_more, drop_all}
use Rattle.scm_diff.specs.Sides.{TextSoFar, closed_text, has_line_end, nothing_yet, text_of, with_line, with_line_end, with_lines}
use Rattle.scm_diff.proofs.LineLemmas.{end-pushed}

-- ---- whether a text ends with a line end

cut-end : (s : List ℕ) → has_line_end s ≡ true → (front : List ℕ) × (s ≡ front ++ 10 ∷ [])
cut-end [] e = cc
cut-end (b ∷ []) e = ([], ap (λ x. x ∷ []) (eqb-true b 10 e))
cut-end (b ∷ c ∷ bs) e = let rest = cut-end (c ∷ bs) e in (b ∷ rest.0, ap (λ xs. b ∷ xs) rest.1)

pub ends-decided : (s : List ℕ) (r : Bool) → (r ≡ true → s ≡ take (length s - 1) s ++ (10 ∷ [])) × ((front : List ℕ) → s ≡ front ++ (10 ∷ []) → r ≡ true) → r ≡ has_line_end s
ends-decided s r d = at r (has_line_end s) refl refl
  where
    at : (a b : Bool) → r ≡ a → has_line_end s ≡ b → a ≡ b
    at true true p q = refl
    at false false p q = refl
    at true false p q = sym (sym q ∙ ap has_line_end (d.0 p) ∙ end-pushed (take (length s - 1) s))
    at false true p q = let found = cut-end s q in sym p ∙ d.1 found.0 found.1

-- ---- lines that are added one after another

closed-line : (j : TextSoFar) (l : List ℕ) → closed_text (with_line j l) ≡ closed_text j ++ with_line_end l
closed-line j l = at (has_line_end l)
  where
    at : (t : Bool) → (if not t then (closed_text j ++ l) ++ 10 ∷ [] else closed_text j ++ l) ≡ closed_text j ++ (if t then l else l ++ 10 ∷ [])
    at true = refl
    at false = append_assoc (closed_text j) l (10 ∷ [])

joined-from : (j : TextSoFar) (l : List ℕ) (ls : List (List ℕ)) → (with_lines j (l ∷ ls)).text ≡ closed_text j ++ text_of (l ∷ ls)
joined-from j l [] = ap (λ xs. closed_text j ++ xs) (sym (append-nil l))
joined-from j l (m ∷ ls) =
    joined-from (with_line j l) m ls
    ∙ ap (λ xs. xs ++ text_of (m ∷ ls)) (closed-line j l)
    ∙ append_assoc (closed_text j) (with_line_end l) (text_of (m ∷ ls))

-- lines that are added one after another are joined
pub text-joined : (ls : List (List ℕ)) → (with_lines nothing_yet ls).text ≡ text_of ls
text-joined [] = refl
text-joined (l ∷ ls) = joined-from nothing_yet l ls

with_lines-append : (j : TextSoFar) (xs ys : List (List ℕ)) → with_lines j (xs ++ ys) ≡ with_lines (with_lines j xs) ys
with_lines-append j [] ys = refl
with_lines-append j (x ∷ xs) ys = with_lines-append (with_line j x) xs ys

-- the lines that elements of a list give: part x is what one element gives
module _ {A : Type 0} (lines : List A → List (List ℕ)) (part : A → List (List ℕ)) where
  pub added-on : ((x : A) (xs : List A) → lines (x ∷ xs) ≡ part x ++ lines xs) → (j k start : TextSoFar) (xs : List A) (i : ℕ) (x : A) → i < length xs → x ≡ get_or xs i x → k ≡ with_lines j (part x) → with_lines j (lines (drop i xs)) ≡ start → with_lines k (lines (drop (i + 1) xs)) ≡ start
  added-on law j k start xs i x h r e left =
      let next : drop i xs ≡ x ∷ drop (i + 1) xs = rw (drop_more xs i x h, ← r) refl in
      let all : lines (drop i xs) ≡ part x ++ lines (drop (i + 1) xs) = rw next (law x (drop (i + 1) xs)) in
      rw (e, ← with_lines-append j (part x) (lines (drop (i + 1) xs)), ← all) left

  pub added-end : lines [] ≡ [] → (j start : TextSoFar) (xs : List A) (i : ℕ) → length xs ≤ i → with_lines j (lines (drop i xs)) ≡ start → j ≡ start
  added-end none j start xs i h left =
      let all : lines (drop i xs) ≡ [] = rw (drop_all i xs h) none in
      ap (with_lines j) (sym all) ∙ left
