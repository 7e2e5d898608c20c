-- How many lines sections have.
use Rattle.std.proofs.Common.{◌≡◌, ℕ, ◌+◌, List, [], ◌∷◌, Bool, ap, sym, ◌∙◌, arith}
use Rattle.std.specs.List.{sum_by}
use Rattle.std.proofs.lemmas.List.Sums.{sum_by-cons}
use Rattle.scm_types.specs.declared.section.Section.{Section}
use Rattle.scm_open_session.specs.LinePlaces.{capped, lines_in}

-- the number behind sections, if there are `count` lines before them
abbrev pub counted : Bool → ℕ → List Section → ℕ
counted is_new count [] = count
counted is_new count (s ∷ ss) = counted is_new (capped (count + lines_in is_new s)) ss

twice : (a b c : ℕ) → capped (capped (a + b) + c) ≡ capped (a + (b + c))
twice a b c = omega arith

once : (n : ℕ) → capped n ≡ capped (capped n)
once n = omega arith

counted-is : (is_new : Bool) (count : ℕ) (ss : List Section) → count ≡ capped count → counted is_new count ss ≡ capped (count + sum_by (lines_in is_new) ss)
counted-is is_new count [] e = omega (e, arith)
counted-is is_new count (s ∷ ss) e =
    counted-is is_new (capped (count + lines_in is_new s)) ss (once (count + lines_in is_new s)) ∙ twice count (lines_in is_new s) (sum_by (lines_in is_new) ss)
    ∙ ap (λ (n : ℕ). capped (count + n)) (sym (sum_by-cons (lines_in is_new) s ss))

pub counted_all : (is_new : Bool) (ss : List Section) → counted is_new 0 ss ≡ capped (sum_by (lines_in is_new) ss)
counted_all is_new ss = counted-is is_new 0 ss (omega arith) ∙ omega arith
