-- How much was drawn, call after call.
use Rattle.std.proofs.Common.{◌≡◌, ℕ, zero, suc, ◌+◌, ◌≤◌, refl, sym, ap, ◌∙◌, arith, true, false, Bool}
use Rattle.std.specs.Prelude.{nat_lt, ◌^◌, ◌-◌, if◌then◌else◌, Result, Ok, Err, OnOk}
use Rattle.scm_cells.specs.Counts.{Counts, no_counts, plus, saturating_suc, saturating_plus, added}

raised-sum : (a b n : ℕ) → saturating_plus b (saturating_plus a n) ≡ saturating_plus (a + b) n
unfolding saturating_plus
raised-sum zero b n =
    let same : b ≡ 0 + b = omega arith in
    ap (λ m. saturating_plus m n) same
raised-sum (suc a) b n =
    let more : suc a + b ≡ suc (a + b) = omega arith in
    raised-sum a b (saturating_suc n) ∙ ap (λ m. saturating_plus m n) (sym more)

-- nothing more was drawn
pub added-none : (c : Counts) → added c no_counts ≡ c
unfolding added saturating_plus
added-none c = refl

-- more was drawn, and then more
pub added-twice : (c a b : Counts) → added (added c a) b ≡ added c (plus a b)
unfolding added
added-twice c a b =
    let e : ◌≡◌ {A = Counts} (record { rows = saturating_plus b.rows (saturating_plus a.rows c.rows); calls = saturating_plus b.calls (saturating_plus a.calls c.calls) })
    (record { rows = saturating_plus (a.rows + b.rows) c.rows; calls = saturating_plus (a.calls + b.calls) c.calls }) = cc (raised-sum a.rows b.rows c.rows, raised-sum a.calls b.calls c.calls) in e

pub counts-then : (c d e : Counts) (a b : Counts) → d ≡ added c a → e ≡ added d b → e ≡ added c (plus a b)
counts-then c d e a b p q = q ∙ ap (λ w. added w b) p ∙ added-twice c a b

-- a count is raised by no more than the times
raised-most : (n : ℕ) → saturating_suc n ≤ n + 1
raised-most n = go (nat_lt n (2 ^ 64 - 1))
  where
    go : (b : Bool) → (if b then n + 1 else n) ≤ n + 1
    go true = omega arith
    go false = omega arith

pub raised_by-most : (k n : ℕ) → saturating_plus k n ≤ n + k
unfolding saturating_plus
raised_by-most zero n = omega arith
raised_by-most (suc k) n = omega (arith, raised_by-most k (saturating_suc n), raised-most n)

-- since a screen was cleared, each count is at most what was drawn
pub counts-most : (c a : Counts) → c ≡ added no_counts a → (c.rows ≤ a.rows) × (c.calls ≤ a.calls)
unfolding added
counts-most c a e =
    let rows = raised_by-most a.rows 0 in
    let calls = raised_by-most a.calls 0 in
    (rw e (omega (arith, rows)), rw e (omega (arith, calls)))

-- more was drawn, and then nothing more where a call that may fail succeeds
pub counted-before : {T E : Type 0} (r : Result T E) (c d e a : Counts) → d ≡ added c a → OnOk r (e ≡ added d no_counts) → OnOk r (e ≡ added c a)
counted-before (Ok v) c d e a p q = q ∙ added-none d ∙ p
counted-before (Err f) c d e a p q = tt

-- ---- a loop

-- all is drawn but what is left
pub counts-more : (c d e : Counts) (left a more whole : Counts) → left ≡ plus a more → added d left ≡ added c whole → e ≡ added d a → added e more ≡ added c whole
counts-more c d e left a more whole k h p = ap (λ w. added w more) p ∙ added-twice d a more ∙ ap (added d) (sym k) ∙ h

pub counts-end : (c d : Counts) (left whole : Counts) → left ≡ no_counts → added d left ≡ added c whole → d ≡ added c whole
counts-end c d left whole k h = sym (added-none d) ∙ ap (added d) (sym k) ∙ h
