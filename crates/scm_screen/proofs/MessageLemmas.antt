-- The rows of a message.
use Rattle.std.proofs.Common.{◌≡◌, ℕ, zero, suc, ◌==◌, false, ◌||◌, List, [], ◌∷◌, refl, arith, Some, None}
use Rattle.std.specs.Prelude.{if◌then◌else◌, slice_get}
use Rattle.scm_types.specs.declared.state.Commit.{Commit}
use Rattle.scm_strips.specs.Shows.{MessageRow, MarginRow}
use Rattle.scm_view.specs.ViewState.{commit_at}
use Rattle.scm_screen.specs.DocumentRows.{message_rows, row_in}

-- each row of a message, by its number
pub message_in : (m : List ℕ) (row : ℕ) → row_in (message_rows 0 (Some m)) row ≡ (if row == 2 then Some (MessageRow 0 m) else if row == 1 || row == 3 then Some MarginRow else None)
message_in m zero = refl
message_in m (suc zero) = refl
message_in m (suc (suc zero)) = refl
message_in m (suc (suc (suc zero))) = refl
message_in m (suc (suc (suc (suc n)))) =
    let two : (suc (suc (suc (suc n))) == 2) ≡ false = grind arith in
    let one : (suc (suc (suc (suc n))) == 1) ≡ false = grind arith in
    let three : (suc (suc (suc (suc n))) == 3) ≡ false = grind arith in
    rw (two, one, three) refl

-- no rows have no row
pub none_in : (row : ℕ) → row_in [] row ≡ None
none_in zero = refl
none_in (suc row) = refl

-- the first commit, if there is one
pub no-commit : (cs : List Commit) → slice_get cs 0 ≡ None → (commit_at 0 cs).message ≡ None
unfolding commit_at
no-commit [] e = refl
no-commit (c ∷ cs) e = absurd (cc e)

pub first-commit : (cs : List Commit) (c : Commit) → slice_get cs 0 ≡ Some c → commit_at 0 cs ≡ c
unfolding commit_at
first-commit [] c e = absurd (cc e)
first-commit (x ∷ xs) c e = cc
