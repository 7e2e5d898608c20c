-- A loop that writes over each element of a list what a function makes of it at its place.
use Rattle.std.proofs.Common.{◌≡◌, ℕ, zero, suc, ◌+◌, ◌<◌, ◌≤◌, List, [], ◌∷◌, ◌++◌, length, take, drop, get_or, set, refl, ap, arith, add-one}

abbrev pub map_from : {X : Type 0} → (ℕ → X → X) → ℕ → List X → List X
map_from f i [] = []
map_from f i (x ∷ xs) = f i x ∷ map_from f (suc i) xs

-- the list after the elements before index `i` are written
abbrev pub so_far : {X : Type 0} → (ℕ → X → X) → List X → ℕ → List X
so_far f xs i = take i (map_from f 0 xs) ++ drop i xs

all-from : {X : Type 0} (f : ℕ → X → X) (k : ℕ) (xs : List X) (i : ℕ) → length xs ≤ i → take i (map_from f k xs) ++ drop i xs ≡ map_from f k xs
all-from f k [] zero h = refl
all-from f k [] (suc i) h = refl
all-from f k (x ∷ xs) zero h = absurd (omega arith)
all-from f k (x ∷ xs) (suc i) h = ap (λ t. f k x ∷ t) (all-from f (suc k) xs i (omega arith))

pub so_far-all : {X : Type 0} (f : ℕ → X → X) (xs : List X) (i : ℕ) → length xs ≤ i → so_far f xs i ≡ map_from f 0 xs
so_far-all f xs i h = all-from f 0 xs i h

read-from : {X : Type 0} (f : ℕ → X → X) (k : ℕ) (xs : List X) (i : ℕ) (d : X) → i < length xs → get_or (take i (map_from f k xs) ++ drop i xs) i d ≡ get_or xs i d
read-from f k [] i d h = absurd (omega arith)
read-from f k (x ∷ xs) zero d h = refl
read-from f k (x ∷ xs) (suc i) d h = read-from f (suc k) xs i d (omega arith)

more-from : {X : Type 0} (f : ℕ → X → X) (k j : ℕ) (xs : List X) (i : ℕ) (d : X) → i < length xs → j ≡ k + i
    → set (take i (map_from f k xs) ++ drop i xs) i (f j (get_or xs i d)) ≡ take (suc i) (map_from f k xs) ++ drop (suc i) xs
more-from f k j [] i d h e = absurd (omega arith)
more-from f k j (x ∷ xs) zero d h e = let same : j ≡ k = omega arith in ap (λ n. f n x ∷ xs) same
more-from f k j (x ∷ xs) (suc i) d h e = ap (λ t. f k x ∷ t) (more-from f (suc k) j xs i d (omega arith) (omega arith))

pub so_far-more : {X : Type 0} (f : ℕ → X → X) (xs ys : List X) (i : ℕ) (d y : X) → i < length xs → ys ≡ so_far f xs i → y ≡ f i (get_or ys i d) → set ys i y ≡ so_far f xs (i + 1)
so_far-more f xs ys i d y h e w =
    rw (w, e, read-from f 0 xs i d h, add-one) (more-from f 0 i xs i d h (omega arith))
