use Rattle.std.proofs.Common.{◌≡◌, ◌<◌, ◌≤◌, ℕ, length, eqb, get_or, ◌∙◌, sym, ap, arith}
use Rattle.scm_tree.proofs.PathLemmas.{inside_differs, inside_end, inside_past, inside_step}
use Rattle.scm_tree.proofs.path.is_inside.Goals as goal

pub loop-i-preserved : goal.loop-i-preserved
loop-i-preserved c = c.loop-i.invariant ∙ inside_step c.args.path.now c.args.other.now c.loop-i.i c.loop-i-test.true c.if-i-other.false c.if-byte-other.false

pub returns-then-i-other : goal.returns-then-i-other
returns-then-i-other c = sym (c.loop-i.invariant ∙ inside_past c.args.path.now c.args.other.now c.loop-i.i c.if-i-other.true)

pub returns-then-byte-other : goal.returns-then-byte-other
returns-then-byte-other c = sym (c.loop-i.invariant ∙ inside_differs c.args.path.now c.args.other.now c.loop-i.i c.loop-i-test.true c.if-i-other.false c.if-byte-other.true)

pub returns-then-path-other : goal.returns-then-path-other
returns-then-path-other c =
    let e : c.loop-i.i ≡ length c.args.path.now = omega arith in
    let h : c.loop-i.i < length c.args.other.now = omega arith in
    ap (λ (n : ℕ). eqb (get_or c.args.other.now n 0) 47) (sym e) ∙ sym (c.loop-i.invariant ∙ inside_end c.args.path.now c.args.other.now c.loop-i.i c.loop-i-test.false h)

pub returns-else-path-other : goal.returns-else-path-other
returns-else-path-other c = let h : length c.args.other.now ≤ c.loop-i.i = omega arith in sym (c.loop-i.invariant ∙ inside_past c.args.path.now c.args.other.now c.loop-i.i h)
