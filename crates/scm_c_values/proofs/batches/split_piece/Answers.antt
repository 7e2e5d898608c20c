use Rattle.std.proofs.Common.{List, ℕ, arith}
use Rattle.std.specs.Borrow.{Bor}
use Rattle.scm_c_values.proofs.PieceLemmas.{cut_none, cut_some}
use Rattle.scm_c_values.proofs.batches.split_piece.Goals as goal

pub returns-clause-none : goal.returns-clause-none
returns-clause-none c = cut_none c.split_once.result c.args.words.now _ (c.split_once.ensures.byte (omega arith) (λ w o found. found))

pub returns-clause-some : goal.returns-clause-some
returns-clause-some c =
    cut_some (λ (p : Bor (List ℕ) × Bor (List ℕ)). p.0.now) (λ (p : Bor (List ℕ) × Bor (List ℕ)). p.1.now) c.split_once.result c.args.words.now
    (c.split_once.ensures.byte (omega arith) (λ w o found. found))
