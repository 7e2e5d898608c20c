-- Lists that change element by element.
use Rattle.std.proofs.Common.{◌≡◌, ℕ, zero, suc, ◌+◌, ◌<◌, List, [], ◌∷◌, ◌++◌, length, map, take, drop, get_or, set, refl, ap, sym, ◌∙◌, add-one, drop-cons, arith}
use Rattle.scm_types.specs.Edits.{modify}
use Rattle.scm_layout.specs.Recounts.{zipped}

-- what stands at an index that was not reached
zipped-unreached : {A B : Type 0} (f : A → B → A) (xs : List A) (ys : List B) (i : ℕ) (d : A) → get_or (zipped f xs (take i ys)) i d ≡ get_or xs i d
zipped-unreached f xs ys zero d = refl
zipped-unreached f xs [] (suc i) d = refl
zipped-unreached f [] (y ∷ ys) (suc i) d = refl
zipped-unreached f (x ∷ xs) (y ∷ ys) (suc i) d = zipped-unreached f xs ys i d

zipped-next : {A B : Type 0} (f : A → B → A) (xs : List A) (ys : List B) (i : ℕ) (d : A) (e : B) → i < length xs → i < length ys
    → set (zipped f xs (take i ys)) i (f (get_or xs i d) (get_or ys i e)) ≡ zipped f xs (take (suc i) ys)
zipped-next f (x ∷ xs) (y ∷ ys) zero d e h k = refl
zipped-next f (x ∷ xs) (y ∷ ys) (suc i) d e h k = ap (λ zs. f x y ∷ zs) (zipped-next f xs ys i d e (omega arith) (omega arith))
zipped-next f _ _ i d e h k = absurd (omega arith)

-- the next step of a loop
pub zipped-more : {A B : Type 0} (f : A → B → A) (xs zs : List A) (ys : List B) (i : ℕ) (d z : A) (y : B) → i < length xs → i < length ys
    → zs ≡ zipped f xs (take i ys) → y ≡ get_or ys i y → z ≡ f (get_or zs i d) y → set zs i z ≡ zipped f xs (take (i + 1) ys)
zipped-more f xs zs ys i d z y h k made by next =
    let here : get_or zs i d ≡ get_or xs i d = ap (λ ws. get_or ws i d) made ∙ zipped-unreached f xs ys i d in
    let step : set (zipped f xs (take i ys)) i (f (get_or xs i d) (get_or ys i y)) ≡ zipped f xs (take (i + 1) ys) = rw add-one (zipped-next f xs ys i d y h k) in
    ap (λ ws. set ws i z) made ∙ ap (λ w. set (zipped f xs (take i ys)) i w) (next ∙ ap (λ w. f w y) here ∙ ap (λ w. f (get_or xs i d) w) by) ∙ step

-- the element that the next step changes
pub zipped-at : {A B : Type 0} (f : A → B → A) (xs zs : List A) (ys : List B) (i : ℕ) (d : A) → zs ≡ zipped f xs (take i ys) → get_or zs i d ≡ get_or xs i d
zipped-at f xs zs ys i d made = ap (λ ws. get_or ws i d) made ∙ zipped-unreached f xs ys i d

-- where each becomes what the other list makes of it
pub zipped-map : {A B : Type 0} (g : B → A) (xs : List A) (ys : List B) → length xs ≡ length ys → zipped (λ x y. g y) xs ys ≡ map g ys
zipped-map g [] [] h = refl
zipped-map g (x ∷ xs) (y ∷ ys) h = ap (λ zs. g y ∷ zs) (zipped-map g xs ys (omega arith))
zipped-map g _ _ h = absurd (omega arith)

-- the element at an index, whatever stands for one past the end, and those after it
pub cut : {A : Type 0} (xs : List A) (i : ℕ) (x : A) → i < length xs → drop i xs ≡ get_or xs i x ∷ drop (i + 1) xs
cut xs i x h = rw add-one (drop-cons xs i x h)

-- the element at an index and those after it
pub cut-at : {A : Type 0} (xs : List A) (i : ℕ) (x : A) → i < length xs → x ≡ get_or xs i x → drop i xs ≡ x ∷ drop (i + 1) xs
cut-at xs i x h at = cut xs i x h ∙ ap (λ y. y ∷ drop (i + 1) xs) (sym at)

-- a loop that makes a list: the next one goes from what is left to what is made
pub made-more : {A B : Type 0} (f : B → A) (made : List A) (ys : List B) (i : ℕ) (y : B) → i < length ys → y ≡ get_or ys i y
    → (made ++ f y ∷ []) ++ map f (drop (i + 1) ys) ≡ made ++ map f (drop i ys)
made-more f [] ys i y h at =
    let more : drop i ys ≡ get_or ys i y ∷ drop (i + 1) ys = rw add-one (drop-cons ys i y h) in
    ap (λ w. f w ∷ map f (drop (i + 1) ys)) at ∙ ap (map f) (sym more)
made-more f (x ∷ xs) ys i y h at = ap (λ zs. x ∷ zs) (made-more f xs ys i y h at)

-- a write to a list of what `view` makes, of what it makes of a changed element
pub set-modify : {A B : Type 0} (view : A → B) (change : A → A) (xs : List A) (i : ℕ) (y : A) → i < length xs → y ≡ get_or (modify change xs i) i y
    → set (map view xs) i (view y) ≡ map view (modify change xs i)
set-modify view change [] i y h at = absurd (omega arith)
set-modify view change (x ∷ xs) zero y h at = ap (λ w. view w ∷ map view xs) at
set-modify view change (x ∷ xs) (suc i) y h at = ap (λ ws. view x ∷ ws) (set-modify view change xs i y (omega arith) at)
