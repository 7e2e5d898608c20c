use Rattle.std.proofs.Common.{◌≡◌, ℕ, length, get_or, ltb, ◌∙◌, sym, ap, arith}
use Rattle.scm_tree.specs.Paths.{rank}
use Rattle.scm_tree.proofs.PathLemmas.{before_differs, before_end, before_past, before_step}
use Rattle.scm_tree.proofs.path.is_before.Goals as goal

pub loop-i-preserved : goal.loop-i-preserved
loop-i-preserved c = c.loop-i.invariant ∙ before_step c.args.path.now c.args.other.now c.loop-i.i c.loop-i-test.true c.if-i-other.false c.if-byte-other.false

pub returns-then-i-other : goal.returns-then-i-other
returns-then-i-other c = sym (c.loop-i.invariant ∙ before_past c.args.path.now c.args.other.now c.loop-i.i c.loop-i-test.true c.if-i-other.true)

pub returns-then-byte-other : goal.returns-then-byte-other
returns-then-byte-other c =
    ap (λ (n : ℕ). ltb n c.rank-then-byte-other.result) c.rank.ensures ∙ ap (λ (n : ℕ). ltb (rank (get_or c.args.path.now c.loop-i.i 0)) n) c.rank-then-byte-other.ensures
    ∙ sym (c.loop-i.invariant ∙ before_differs c.args.path.now c.args.other.now c.loop-i.i c.loop-i-test.true c.if-i-other.false c.if-byte-other.true)

pub returns : goal.returns
returns c =
    let e : c.loop-i.i ≡ length c.args.path.now = omega arith in
    ap (λ (n : ℕ). ltb n (length c.args.other.now)) (sym e) ∙ sym (c.loop-i.invariant ∙ before_end c.args.path.now c.args.other.now c.loop-i.i c.loop-i-test.false)
