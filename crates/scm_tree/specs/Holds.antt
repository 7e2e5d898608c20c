-- Lists that have the same values at each path.
use Rattle.std.specs.Prelude.{◌≡◌, ℕ, List, Bool, ◌&&◌, Option, Some, is_some, nat_eq}
use Rattle.std.specs.Cmp.Lexicographic.{pointwise}
use Rattle.std.specs.List.{Contains, count_by}

-- whether an element of the list has path `p`, and the value `v` there
abbrev pub Holds : {X V : Type 0} → (X → List ℕ) → (X → Option V) → List X → List ℕ → V → Type 0
Holds {X} {V} path at xs p v = (x : X) × ((Contains xs x) × (path x ≡ p) × (at x ≡ Some v))

-- whether the element has path `p`, and a value there
abbrev pub is_at : {X V : Type 0} → (X → List ℕ) → (X → Option V) → List ℕ → X → Bool
is_at path at p x = pointwise nat_eq p (path x) && is_some (at x)

-- how many elements of the list have path `p`, and a value there
abbrev pub times : {X V : Type 0} → (X → List ℕ) → (X → Option V) → List X → List ℕ → ℕ
times path at xs p = count_by (is_at path at p) xs

-- Both lists have the same values at each path: none of `xs` is lost in `ys`, none is made up, and none is there more often.
pub record HaveSame {X Y V : Type 0} (path : X → List ℕ) (at : X → Option V) (xs : List X) (path_in : Y → List ℕ) (at_in : Y → Option V) (ys : List Y) : Type 0 where
  pub kept : (p : List ℕ) (v : V) → Holds path at xs p v → Holds path_in at_in ys p v
  pub known : (p : List ℕ) (v : V) → Holds path_in at_in ys p v → Holds path at xs p v
  pub as_often : (p : List ℕ) → times path_in at_in ys p ≡ times path at xs p
