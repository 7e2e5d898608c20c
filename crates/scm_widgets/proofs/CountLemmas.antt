-- How much is drawn: on one row, call after call, and on rows below one another.
use Rattle.std.proofs.Common.{◌≡◌, ℕ, ◌+◌, ◌*◌, ap, arith}
use Rattle.std.specs.Prelude.{◌-◌}
use Rattle.scm_cells.specs.Counts.{Counts, added}
use Rattle.scm_render.proofs.CountLemmas.{counts-then, counts-more, counts-end}
use Rattle.scm_widgets.specs.Counts.{drawn}

-- ---- calls alone

pub calls-then : (c d e : Counts) (m n : ℕ) → d ≡ added c (drawn 0 m) → e ≡ added d (drawn 0 n) → e ≡ added c (drawn 0 (m + n))
calls-then c d e m n p q = counts-then c d e (drawn 0 m) (drawn 0 n) p q

pub calls-more : (c d e : Counts) (left one more whole : ℕ) → left ≡ one + more → added d (drawn 0 left) ≡ added c (drawn 0 whole) → e ≡ added d (drawn 0 one) → added e (drawn 0 more) ≡ added c (drawn 0 whole)
calls-more c d e left one more whole k h p = counts-more c d e (drawn 0 left) (drawn 0 one) (drawn 0 more) (drawn 0 whole) (ap (drawn 0) k) h p

pub calls-end : (c d : Counts) (left whole : ℕ) → left ≡ 0 → added d (drawn 0 left) ≡ added c (drawn 0 whole) → d ≡ added c (drawn 0 whole)
calls-end c d left whole k h = counts-end c d (drawn 0 left) (drawn 0 whole) (ap (drawn 0) k) h

pub calls-first : (c : Counts) (k n : ℕ) → added c (drawn 0 (k * (n - 0))) ≡ added c (drawn 0 (k * n))
calls-first c k n = let same : n - 0 ≡ n = omega arith in ap (λ m. added c (drawn 0 (k * m))) same
