-- Elements of a list that are there.
use Rattle.std.proofs.Common.{◌≡◌, ℕ, ◌<◌, List, length, get_or, ◌∙◌, ap}
use Rattle.std.proofs.lemmas.List.{get_or_default}

-- what holds of an element holds whatever stands for one past the end
pub at_any : {X Y : Type 0} (f : X → Y) (xs : List X) (i : ℕ) (d : X) (y : Y) → i < length xs → f (get_or xs i d) ≡ y → (e : X) → f (get_or xs i e) ≡ y
at_any f xs i d y h s e = ap f (get_or_default xs i e d h) ∙ s
