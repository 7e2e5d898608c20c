-- Windows of lines: after all lines of a side, a window has those from its first one on.
use Rattle.std.proofs.Common.{◌≡◌, ℕ, zero, suc, ◌+◌, ◌-◌, ◌≤◌, ◌<◌, Bool, true, false, List, [], ◌∷◌, ◌++◌, length, take, drop, nat_lt, if◌then◌else◌, refl, ap, sym, ◌∙◌, append_assoc, append-nil, arith, length-append}
use Rattle.std.proofs.lemmas.Bool.Decides.{nat_tests}
use Rattle.scm_pager.specs.declared.lines.SideLine.{SideLine}
use Rattle.scm_pager.specs.WindowView.{Shown}
use Rattle.scm_pager.specs.Windows.{after_line, after_all_lines, capped, capped_length, cleared, empty_window}

-- ---- lines

-- lines after lines
pub after-append : (w : Shown) (xs ys : List SideLine) → after_all_lines (after_all_lines w xs) ys ≡ after_all_lines w (xs ++ ys)
after-append w [] ys = refl
after-append w (x ∷ xs) ys = after-append (after_line w x) xs ys

-- a window begins where it began, whatever it took
cleared-line : (w : Shown) (x : SideLine) → cleared (after_line w x) ≡ cleared w
cleared-line w x = steps (nat_lt 0 w.before) (nat_lt (length w.rows) w.height)
  where
    steps : (a b : Bool)
        → cleared (if a then record w { before = w.before - 1; count = capped (w.count + 1) }
        else if b then record w { rows = w.rows ++ (x ∷ []); count = capped (w.count + 1) }
        else record w { count = capped (w.count + 1) })
        ≡ cleared w
    steps true b = refl
    steps false true = refl
    steps false false = refl

pub cleared-lines : (w : Shown) (xs : List SideLine) → cleared (after_all_lines w xs) ≡ cleared w
cleared-lines w [] = refl
cleared-lines w (x ∷ xs) = cleared-lines (after_line w x) xs ∙ cleared-line w x

-- ---- how many there are

count-line : (w : Shown) (x : SideLine) → (after_line w x).count ≡ capped (w.count + 1)
count-line w x = steps (nat_lt 0 w.before) (nat_lt (length w.rows) w.height)
  where
    steps : (a b : Bool)
        → (if a then record w { before = w.before - 1; count = capped (w.count + 1) }
        else if b then record w { rows = w.rows ++ (x ∷ []); count = capped (w.count + 1) }
        else record w { count = capped (w.count + 1) }).count
        ≡ capped (w.count + 1)
    steps true b = refl
    steps false true = refl
    steps false false = refl

pub count-lines : (w : Shown) (xs : List SideLine) (n : ℕ) → w.count ≡ capped n → (after_all_lines w xs).count ≡ capped (n + length xs)
count-lines w [] n e = let all : n ≡ n + 0 = omega arith in e ∙ ap capped all
count-lines w (x ∷ xs) n e =
    let next : (after_line w x).count ≡ capped (n + 1) = rw (count-line w x, e) (omega arith) in
    rw (count-lines (after_line w x) xs (n + 1) next) (omega arith)

-- ---- which are shown

abbrev no_line : List SideLine
no_line = []

none-left : (n k : ℕ) → take n (drop k no_line) ≡ no_line
none-left zero zero = refl
none-left zero (suc k) = refl
none-left (suc n) zero = refl
none-left (suc n) (suc k) = refl

-- lines from the next one on, while there is room
rows-from : (top before height count : ℕ) (rows xs : List SideLine) → length rows ≤ height
    → (after_all_lines (record { top = top; before = before; height = height; count = count; rows = rows }) xs).rows
    ≡ rows ++ take (height - length rows) (drop before xs)
rows-from top before height count rows [] h = sym (append-nil rows) ∙ ap (λ (l : List SideLine). rows ++ l) (sym (none-left (height - length rows) before))
rows-from top (suc before) height count rows (x ∷ xs) h =
    later (nat_lt 0 (suc before)) (suc before - 1) (grind (arith, nat_tests)) (omega arith) (rows-from top before height (capped (count + 1)) rows xs h)
  where
    -- a line that comes before the first one
    later : (b : Bool) (k : ℕ) → b ≡ true → k ≡ before
        → (after_all_lines (record { top = top; before = before; height = height; count = capped (count + 1); rows = rows }) xs).rows ≡ rows ++ take (height - length rows) (drop before xs)
        → (after_all_lines (if b then record { top = top; before = k; height = height; count = capped (count + 1); rows = rows }
        else if nat_lt (length rows) height then record { top = top; before = suc before; height = height; count = capped (count + 1); rows = rows ++ (x ∷ []) }
        else record { top = top; before = suc before; height = height; count = capped (count + 1); rows = rows }) xs).rows
        ≡ rows ++ take (height - length rows) (drop before xs)
    later true k e f ih =
        ap (λ (n : ℕ). (after_all_lines (record { top = top; before = n; height = height; count = capped (count + 1); rows = rows }) xs).rows) f ∙ ih
    later false k e f ih = cc
rows-from top zero height count rows (x ∷ xs) h =
    steps (nat_lt (length rows) height) refl
    (λ (all : List SideLine) (l : length all ≤ height). rows-from top zero height (capped (count + 1)) all xs l)
  where
    one-more : length (rows ++ (x ∷ [])) ≡ length rows + 1
    one-more = length-append rows (x ∷ [])

    steps : (b : Bool) → nat_lt (length rows) height ≡ b
        → ((all : List SideLine) → length all ≤ height
        → (after_all_lines (record { top = top; before = zero; height = height; count = capped (count + 1); rows = all }) xs).rows ≡ all ++ take (height - length all) xs)
        → (after_all_lines (if b then record { top = top; before = zero; height = height; count = capped (count + 1); rows = rows ++ (x ∷ []) }
        else record { top = top; before = zero; height = height; count = capped (count + 1); rows = rows }) xs).rows
        ≡ rows ++ take (height - length rows) (x ∷ xs)
    steps true e ih =
        let room : length rows < height = grind (arith, nat_tests) in
        let fits : length (rows ++ (x ∷ [])) ≤ height = rw one-more (omega arith) in
        let left : height - length rows ≡ suc (height - length (rows ++ (x ∷ []))) = rw one-more (omega arith) in
        ih (rows ++ (x ∷ [])) fits
        ∙ append_assoc rows (x ∷ []) (take (height - length (rows ++ (x ∷ []))) xs)
        ∙ ap (λ (n : ℕ). rows ++ take n (x ∷ xs)) (sym left)
    steps false e ih =
        let full : height ≤ length rows = grind (arith, nat_tests) in
        let none : height - length rows ≡ 0 = omega arith in
        ih rows h ∙ ap (λ (n : ℕ). rows ++ take n xs) none ∙ ap (λ (n : ℕ). rows ++ take n (x ∷ xs)) (sym none)

-- ---- a new window, after all lines

pub new-count : (top height : ℕ) (xs : List SideLine) → (after_all_lines (empty_window top height) xs).count ≡ capped_length xs
new-count top height xs = let all : 0 + length xs ≡ length xs = omega arith in count-lines (empty_window top height) xs 0 refl ∙ ap capped all

pub new-rows : (top height : ℕ) (xs : List SideLine) → (after_all_lines (empty_window top height) xs).rows ≡ take height (drop top xs)
new-rows top height xs =
    let all : height - 0 ≡ height = omega arith in
    rows-from top top height 0 [] xs (omega arith) ∙ ap (λ (n : ℕ). take n (drop top xs)) all
