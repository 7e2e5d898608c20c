-- What a change of one element leaves of a list.
use Rattle.std.proofs.Common.{◌≡◌, ◌≢◌, ℕ, zero, suc, ◌<◌, ◌≤◌, List, [], ◌∷◌, length, map, get_or, refl, ap, arith}
use Rattle.std.specs.Prelude.{slice_set, slice_get, option_map}
use Rattle.scm_types.specs.Edits.{modify}

pub length-modify : {A : Type 0} (f : A → A) (xs : List A) (i : ℕ) → length (modify f xs i) ≡ length xs
length-modify f [] i = refl
length-modify f (x ∷ xs) zero = refl
length-modify f (x ∷ xs) (suc i) = ap suc (length-modify f xs i)

-- a write to the element is such a change
pub slice_set-modify : {A : Type 0} (f : A → A) (xs : List A) (i : ℕ) (d : A) → i < length xs → slice_set xs i (f (get_or xs i d)) ≡ modify f xs i
slice_set-modify f [] i d h = absurd (omega arith)
slice_set-modify f (x ∷ xs) zero d h = refl
slice_set-modify f (x ∷ xs) (suc i) d h = ap (λ ys. x ∷ ys) (slice_set-modify f xs i d (omega arith))

-- past the end nothing changes
pub modify-past : {A : Type 0} (f : A → A) (xs : List A) (i : ℕ) → length xs ≤ i → modify f xs i ≡ xs
modify-past f [] i h = refl
modify-past f (x ∷ xs) zero h = absurd (omega arith)
modify-past f (x ∷ xs) (suc i) h = ap (λ ys. x ∷ ys) (modify-past f xs i (omega arith))

-- what the elements show, where the change of an element shows as a change of what it shows
pub map-modify : {A B : Type 0} (view : A → B) (f : A → A) (g : B → B) (xs : List A) (i : ℕ) → ((x : A) → view (f x) ≡ g (view x)) → map view (modify f xs i) ≡ modify g (map view xs) i
map-modify view f g [] i e = refl
map-modify view f g (x ∷ xs) zero e = ap (λ y. y ∷ map view xs) (e x)
map-modify view f g (x ∷ xs) (suc i) e = ap (λ ys. view x ∷ ys) (map-modify view f g xs i e)

-- the same for a write
pub map-slice_set : {A B : Type 0} (view : A → B) (g : B → B) (xs : List A) (i : ℕ) (d w : A) → i < length xs → view w ≡ g (view (get_or xs i d)) → map view (slice_set xs i w) ≡ modify g (map view xs) i
map-slice_set view g [] i d w h e = absurd (omega arith)
map-slice_set view g (x ∷ xs) zero d w h e = ap (λ y. y ∷ map view xs) e
map-slice_set view g (x ∷ xs) (suc i) d w h e = ap (λ ys. view x ∷ ys) (map-slice_set view g xs i d w (omega arith) e)

-- what stays for all that the change does not show to
pub map-modify-same : {A B : Type 0} (view : A → B) (f : A → A) (xs : List A) (i : ℕ) → ((x : A) → view (f x) ≡ view x) → map view (modify f xs i) ≡ map view xs
map-modify-same view f [] i e = refl
map-modify-same view f (x ∷ xs) zero e = ap (λ y. y ∷ map view xs) (e x)
map-modify-same view f (x ∷ xs) (suc i) e = ap (λ ys. view x ∷ ys) (map-modify-same view f xs i e)

-- the element at the index
pub slice_get-modify : {A : Type 0} (f : A → A) (xs : List A) (i : ℕ) → slice_get (modify f xs i) i ≡ option_map f (slice_get xs i)
slice_get-modify f [] i = refl
slice_get-modify f (x ∷ xs) zero = refl
slice_get-modify f (x ∷ xs) (suc i) = slice_get-modify f xs i

-- and the others
pub slice_get-modify-other : {A : Type 0} (f : A → A) (xs : List A) (i j : ℕ) → i ≢ j → slice_get (modify f xs i) j ≡ slice_get xs j
slice_get-modify-other f [] i j h = refl
slice_get-modify-other f (x ∷ xs) zero zero h = absurd (h refl)
slice_get-modify-other f (x ∷ xs) zero (suc j) h = refl
slice_get-modify-other f (x ∷ xs) (suc i) zero h = refl
slice_get-modify-other f (x ∷ xs) (suc i) (suc j) h = slice_get-modify-other f xs i j (λ e. h (ap suc e))

-- a write to the element of what f gives of it
pub slice_set-changed : {A : Type 0} (f : A → A) (xs : List A) (i : ℕ) (d w : A) → i < length xs → w ≡ f (get_or xs i d) → slice_set xs i w ≡ modify f xs i
slice_set-changed f xs i d w h e = rw e (slice_set-modify f xs i d h)
