-- The lines of a text, and lines joined to a text.
use Rattle.std.proofs.Common.{◌≡◌, ◌≢◌, ℕ, zero, suc, ◌<◌, ◌==◌, List, [], ◌∷◌, ◌++◌, length, take, drop, get_or, Bool, true, false, if◌then◌else◌, refl, ap, sym, ◌∙◌, arith, eq-eqb, append-nil}
use Rattle.std.proofs.lemmas.Bool.{eqb-true}
use Rattle.std.specs.List.{concat, AllByRecursion}
use Rattle.scm_embed.specs.Lines.{last_line, lines_of, with_first}
use Rattle.scm_diff.specs.Sides.{has_line_end, with_line_end, with_line_ends, text_of, IsLine}

-- ---- a cut at the first line end

not_end : (b : ℕ) → b ≢ 10 → (b == 10) ≡ false
not_end b ne = cases (b == 10) refl
  where
    cases : (t : Bool) → (b == 10) ≡ t → (b == 10) ≡ false
    cases true e = absurd (ne (eqb-true b 10 e))
    cases false e = e

cons-line : (b : ℕ) (bs : List ℕ) → (b == 10) ≡ true → lines_of (b ∷ bs) ≡ (b ∷ []) ∷ lines_of bs
cons-line b bs e = rw e refl

cons-first : (b : ℕ) (bs : List ℕ) → (b == 10) ≡ false → lines_of (b ∷ bs) ≡ with_first b (lines_of bs)
cons-first b bs e = rw e refl

-- the first line ends with the first line end, and the others follow
pub cut_at_end : (s : List ℕ) (k : ℕ) → k < length s → get_or s k 0 ≡ 10 → ((i : ℕ) → i < k → get_or s i 0 ≢ 10) → lines_of s ≡ take (suc k) s ∷ lines_of (drop (suc k) s)
cut_at_end [] k h e f = absurd (omega arith)
cut_at_end (b ∷ bs) zero h e f = cons-line b bs (eq-eqb b 10 e)
cut_at_end (b ∷ bs) (suc k) h e f =
    cons-first b bs (not_end b (f 0 (omega arith)))
    ∙ ap (with_first b) (cut_at_end bs k (omega arith) e (λ i lt. f (suc i) (omega arith)))

-- without a line end there is one line, or none
pub no_end : (s : List ℕ) → ((i : ℕ) → i < length s → get_or s i 0 ≢ 10) → lines_of s ≡ last_line s
no_end [] f = refl
no_end (b ∷ bs) f =
    cons-first b bs (not_end b (f 0 (omega arith)))
    ∙ ap (with_first b) (no_end bs (λ i lt. f (suc i) (omega arith)))
    ∙ first-last b bs
  where
    first-last : (b : ℕ) (bs : List ℕ) → with_first b (last_line bs) ≡ (b ∷ bs) ∷ []
    first-last b [] = refl
    first-last b (x ∷ xs) = refl

-- ---- each line of a text is a line

line-first : (b : ℕ) (l : List ℕ) → (b == 10) ≡ false → IsLine l → IsLine (b ∷ l)
line-first b l e h = cons-first b l e ∙ ap (with_first b) h

line-one : (b : ℕ) → IsLine (b ∷ [])
line-one b = cases (b == 10)
  where
    cases : (t : Bool) → (if t then (b ∷ []) ∷ [] else (b ∷ []) ∷ []) ≡ (b ∷ []) ∷ []
    cases true = refl
    cases false = refl

all-first : (b : ℕ) (ls : List (List ℕ)) → (b == 10) ≡ false → AllByRecursion IsLine ls → AllByRecursion IsLine (with_first b ls)
all-first b [] e h = (line-one b, tt)
all-first b (l ∷ ls) e h = (line-first b l e h.0, h.1)

all-at : (b : ℕ) (bs : List ℕ) (t : Bool) → (b == 10) ≡ t → AllByRecursion IsLine (lines_of bs) → AllByRecursion IsLine (if t then (b ∷ []) ∷ lines_of bs else with_first b (lines_of bs))
all-at b bs true e h = (line-one b, h)
all-at b bs false e h = all-first b (lines_of bs) e h

pub lines_are_lines : (s : List ℕ) → AllByRecursion IsLine (lines_of s)
lines_are_lines [] = tt
lines_are_lines (b ∷ bs) = all-at b bs (b == 10) refl (lines_are_lines bs)

-- ---- the lines of a text, joined, are the text

concat-first : (b : ℕ) (ls : List (List ℕ)) → concat (with_first b ls) ≡ b ∷ concat ls
concat-first b [] = refl
concat-first b (l ∷ ls) = refl

concat-at : (b : ℕ) (bs : List ℕ) (t : Bool) → concat (lines_of bs) ≡ bs → concat (if t then (b ∷ []) ∷ lines_of bs else with_first b (lines_of bs)) ≡ b ∷ bs
concat-at b bs true h = ap (λ xs. b ∷ xs) h
concat-at b bs false h = concat-first b (lines_of bs) ∙ ap (λ xs. b ∷ xs) h

pub concat-lines_of : (s : List ℕ) → concat (lines_of s) ≡ s
concat-lines_of [] = refl
concat-lines_of (b ∷ bs) = concat-at b bs (b == 10) (concat-lines_of bs)

-- a byte before a line
end-first : (b : ℕ) (l : List ℕ) → (b == 10) ≡ false → with_line_end (b ∷ l) ≡ b ∷ with_line_end l
end-first b [] e = rw e refl
end-first b (x ∷ xs) e = cases (has_line_end (x ∷ xs))
  where
    cases : (t : Bool) → (if t then b ∷ x ∷ xs else b ∷ ((x ∷ xs) ++ 10 ∷ [])) ≡ b ∷ (if t then x ∷ xs else (x ∷ xs) ++ 10 ∷ [])
    cases true = refl
    cases false = refl

ends-first : (b : ℕ) (ls : List (List ℕ)) → (b == 10) ≡ false → with_line_ends (with_first b ls) ≡ with_first b (with_line_ends ls)
ends-first b [] e = refl
ends-first b (l ∷ []) e = refl
ends-first b (l ∷ m ∷ ls) e = ap (λ x. x ∷ with_line_ends (m ∷ ls)) (end-first b l e)

ends-line : (b : ℕ) (ls : List (List ℕ)) → (b == 10) ≡ true → with_line_ends ls ≡ ls → with_line_ends ((b ∷ []) ∷ ls) ≡ (b ∷ []) ∷ ls
ends-line b [] e h = refl
ends-line b (m ∷ ls) e h = rw e (ap (λ xs. (b ∷ []) ∷ xs) h)

ends-at : (b : ℕ) (bs : List ℕ) (t : Bool) → (b == 10) ≡ t → with_line_ends (lines_of bs) ≡ lines_of bs → with_line_ends (if t then (b ∷ []) ∷ lines_of bs else with_first b (lines_of bs)) ≡ (if t then (b ∷ []) ∷ lines_of bs else with_first b (lines_of bs))
ends-at b bs true e h = ends-line b (lines_of bs) e h
ends-at b bs false e h = ends-first b (lines_of bs) e ∙ ap (with_first b) h

-- no line end is added to the lines of a text
pub ends-lines_of : (s : List ℕ) → with_line_ends (lines_of s) ≡ lines_of s
ends-lines_of [] = refl
ends-lines_of (b ∷ bs) = ends-at b bs (b == 10) refl (ends-lines_of bs)

-- the lines of a text, joined with line ends, are the text
pub text_of-lines_of : (s : List ℕ) → text_of (lines_of s) ≡ s
text_of-lines_of s = ap concat (ends-lines_of s) ∙ concat-lines_of s

-- ---- joined lines stay lines

some-line : (b : ℕ) (bs : List ℕ) → lines_of (b ∷ bs) ≢ []
some-line b bs = cases (b == 10) (lines_of bs)
  where
    cases : (t : Bool) (ls : List (List ℕ)) → (if t then (b ∷ []) ∷ ls else with_first b ls) ≢ []
    cases true ls e = cc
    cases false [] e = cc
    cases false (l ∷ ls) e = cc

first-append : (b : ℕ) (ls ms : List (List ℕ)) → ls ≢ [] → with_first b (ls ++ ms) ≡ with_first b ls ++ ms
first-append b [] ms ne = absurd (ne refl)
first-append b (l ∷ ls) ms ne = refl

-- a text that ends with a line end, and what follows
pub lines_of-append : (a t : List ℕ) → has_line_end a ≡ true → lines_of (a ++ t) ≡ lines_of a ++ lines_of t
lines_of-append [] t e = cc
lines_of-append (b ∷ []) t e = cons-line b t e ∙ sym (ap (λ ls. ls ++ lines_of t) (cons-line b [] e))
lines_of-append (b ∷ c ∷ bs) t e = at (b == 10) refl (lines_of-append (c ∷ bs) t e)
  where
    at : (k : Bool) → (b == 10) ≡ k → lines_of ((c ∷ bs) ++ t) ≡ lines_of (c ∷ bs) ++ lines_of t → lines_of (b ∷ ((c ∷ bs) ++ t)) ≡ lines_of (b ∷ c ∷ bs) ++ lines_of t
    at true k h = cons-line b ((c ∷ bs) ++ t) k ∙ ap (λ ls. (b ∷ []) ∷ ls) h ∙ sym (ap (λ ls. ls ++ lines_of t) (cons-line b (c ∷ bs) k))
    at false k h = cons-first b ((c ∷ bs) ++ t) k ∙ ap (with_first b) h ∙ first-append b (lines_of (c ∷ bs)) (lines_of t) (some-line c bs) ∙ sym (ap (λ ls. ls ++ lines_of t) (cons-first b (c ∷ bs) k))

rest-is-line : (b c : ℕ) (bs : List ℕ) (ls : List (List ℕ)) → with_first b ls ≡ (b ∷ c ∷ bs) ∷ [] → ls ≡ (c ∷ bs) ∷ []
rest-is-line b c bs [] e = cc
rest-is-line b c bs (l ∷ ls) e = cc

-- a line without its line end, with one added
line-ended : (l : List ℕ) → IsLine l → has_line_end l ≡ false → IsLine (l ++ 10 ∷ [])
line-ended [] h e = cc
line-ended (b ∷ []) h e = line-first b (10 ∷ []) e refl
line-ended (b ∷ c ∷ bs) h e = at (b == 10) refl (λ rest. line-ended (c ∷ bs) rest e)
  where
    at : (k : Bool) → (b == 10) ≡ k → (IsLine (c ∷ bs) → IsLine ((c ∷ bs) ++ 10 ∷ [])) → IsLine (b ∷ ((c ∷ bs) ++ 10 ∷ []))
    at true k more = let wrong : (b ∷ []) ∷ lines_of (c ∷ bs) ≡ (b ∷ c ∷ bs) ∷ [] = sym (cons-line b (c ∷ bs) k) ∙ h in cc
    at false k more = line-first b ((c ∷ bs) ++ 10 ∷ []) k (more (rest-is-line b c bs (lines_of (c ∷ bs)) (sym (cons-first b (c ∷ bs) k) ∙ h)))

pub end-pushed : (l : List ℕ) → has_line_end (l ++ 10 ∷ []) ≡ true
end-pushed [] = refl
end-pushed (b ∷ []) = refl
end-pushed (b ∷ c ∷ bs) = end-pushed (c ∷ bs)

ended-at : (l : List ℕ) (t : Bool) → has_line_end l ≡ t → IsLine l → IsLine (if t then l else l ++ 10 ∷ []) × (has_line_end (if t then l else l ++ 10 ∷ []) ≡ true)
ended-at l true e h = (h, e)
ended-at l false e h = (line-ended l h e, end-pushed l)

-- each line of lines that are joined is a line of the text, and the text has no other
pub lines_of-text_of : (ls : List (List ℕ)) → AllByRecursion IsLine ls → lines_of (text_of ls) ≡ with_line_ends ls
lines_of-text_of [] h = refl
lines_of-text_of (l ∷ []) h = ap lines_of (append-nil l) ∙ h.0
lines_of-text_of (l ∷ m ∷ ls) h =
    let ended = ended-at l (has_line_end l) refl h.0 in
    lines_of-append (with_line_end l) (text_of (m ∷ ls)) ended.1
    ∙ ap (λ xs. xs ++ lines_of (text_of (m ∷ ls))) ended.0
    ∙ ap (λ xs. with_line_end l ∷ xs) (lines_of-text_of (m ∷ ls) h.1)
