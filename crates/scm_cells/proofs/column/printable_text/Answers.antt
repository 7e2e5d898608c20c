use Rattle.std.proofs.Common.{◌≡◌, ◌∙◌, ◌+◌, ◌-◌, ◌<◌, ◌≤◌, ℕ, zero, suc, List, [], ◌∷◌, get_or, ap, arith}
use Rattle.std.proofs.lemmas.Bool.Decides.{nat_tests}
use Rattle.scm_cells.proofs.column.printable_text.Goals as goal

-- numbers in order: as many as the last argument, from `first`
ascending : ℕ → ℕ → List ℕ
ascending first zero = []
ascending first (suc n) = first ∷ ascending (suc first) n

get_or-ascending : (first n i : ℕ) → i < n → get_or (ascending first n) i 0 ≡ first + i
unfolding ascending
get_or-ascending first zero i h = absurd (omega arith)
get_or-ascending first (suc n) zero h = let same : first ≡ first + 0 = omega arith in same
get_or-ascending first (suc n) (suc i) h = get_or-ascending (suc first) n i (omega arith) ∙ omega arith

pub returns : goal.returns
unfolding ascending
returns c =
    let low : 32 ≤ c.args.code = grind (arith, nat_tests) in
    let high : c.args.code ≤ 126 = grind (arith, nat_tests) in
    c.character_at.ensures ∙ ap (λ b. b ∷ []) (get_or-ascending 32 95 (c.args.code - 32) (omega arith) ∙ omega arith)
