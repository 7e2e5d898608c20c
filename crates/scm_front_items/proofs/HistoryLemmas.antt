-- Steps that are kept within the bounds.
use Rattle.std.proofs.Common.{◌≡◌, ◌==◌, ℕ, suc, Bool, true, false, List, [], ◌∷◌, length, drop, true≢false, refl, sym, ap, ◌∙◌, subst, arith}
use Rattle.std.specs.Prelude.{IsTrue}
use Rattle.scm_front_items.specs.declared.runs.Step.{Step}
use Rattle.scm_front_items.specs.Histories.{bounded, fits}

-- steps that fit stay
pub bounded-fits : (steps : List Step) → fits steps ≡ true → bounded steps ≡ steps
bounded-fits [] e = refl
bounded-fits (s ∷ ss) e = rw e refl

-- and so does nothing
pub bounded-none : (steps : List Step) (len : ℕ) → length steps ≡ len → true ≡ (len == 0) → bounded steps ≡ steps
bounded-none [] len e f = refl
bounded-none (s ∷ ss) len e f =
    let some : (length (s ∷ ss) == 0) ≡ false = grind arith in
    absurd (true≢false (f ∙ ap (λ (n : ℕ). n == 0) (sym e) ∙ some))

-- else the oldest is dropped
pub bounded-less : (steps : List Step) → fits steps ≡ false → bounded steps ≡ bounded (drop 1 steps)
bounded-less [] e = refl
bounded-less (s ∷ ss) e = rw e refl

-- ---- what is kept

fit-later : (s : Step) (ss : List Step) (b : Bool) → fits (s ∷ ss) ≡ b → IsTrue (fits (bounded ss)) → IsTrue (fits (bounded (s ∷ ss)))
fit-later s ss true e later = subst (λ (list : List Step). IsTrue (fits list)) (sym (bounded-fits (s ∷ ss) e)) e
fit-later s ss false e later = subst (λ (list : List Step). IsTrue (fits list)) (sym (bounded-less (s ∷ ss) e)) later

pub bounded-is-fit : (steps : List Step) → IsTrue (fits (bounded steps))
bounded-is-fit [] = refl
bounded-is-fit (s ∷ ss) = fit-later s ss (fits (s ∷ ss)) refl (bounded-is-fit ss)

newest-later : (s : Step) (ss : List Step) (b : Bool) → fits (s ∷ ss) ≡ b → ((n : ℕ) × (bounded ss ≡ drop n ss)) → (n : ℕ) × (bounded (s ∷ ss) ≡ drop n (s ∷ ss))
newest-later s ss true e later = (0, bounded-fits (s ∷ ss) e)
newest-later s ss false e later = (suc later.0, bounded-less (s ∷ ss) e ∙ later.1)

pub bounded-newest : (steps : List Step) → (n : ℕ) × (bounded steps ≡ drop n steps)
bounded-newest [] = (0, refl)
bounded-newest (s ∷ ss) = newest-later s ss (fits (s ∷ ss)) refl (bounded-newest ss)
