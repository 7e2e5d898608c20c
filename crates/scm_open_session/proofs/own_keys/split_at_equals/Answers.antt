use Rattle.std.proofs.Common.{List, ℕ, arith}
use Rattle.std.specs.Borrow.{Bor}
use Rattle.scm_open_session.proofs.KeyPieceLemmas.{equals_back, equals_front, equals_none, equals_some}
use Rattle.scm_open_session.proofs.own_keys.split_at_equals.Goals as goal

pub returns-clause-none : goal.returns-clause-none
returns-clause-none c = equals_none c.split_once.result c.args.piece.now _ (c.split_once.ensures.byte (omega arith) (λ w o found. found))

pub returns-clause-some : goal.returns-clause-some
returns-clause-some c =
    equals_some (λ (p : Bor (List ℕ) × Bor (List ℕ)). p.0.now) (λ (p : Bor (List ℕ) × Bor (List ℕ)). p.1.now) c.split_once.result c.args.piece.now
    (c.split_once.ensures.byte (omega arith) (λ w o found. found))

pub returns-clause-front : goal.returns-clause-front
returns-clause-front c =
    equals_front (λ (p : Bor (List ℕ) × Bor (List ℕ)). p.0.now) (λ (p : Bor (List ℕ) × Bor (List ℕ)). p.1.now) c.split_once.result c.args.piece.now
    (c.split_once.ensures.byte (omega arith) (λ w o found. found))

pub returns-clause-back : goal.returns-clause-back
returns-clause-back c =
    equals_back (λ (p : Bor (List ℕ) × Bor (List ℕ)). p.0.now) (λ (p : Bor (List ℕ) × Bor (List ℕ)). p.1.now) c.split_once.result c.args.piece.now
    (c.split_once.ensures.byte (omega arith) (λ w o found. found))
