use Rattle.std.proofs.Common.{arith, sym, ◌∙◌}
use Rattle.scm_types.proofs.SplitLemmas.{tail_more, tail_cut}
use Rattle.scm_diff.proofs.sides.tail_of.Goals as goal
use Rattle.scm_diff.proofs.sides.tail_of.Goals.{then-is_binary, else-is_binary}

pub loop-i-preserved : goal.loop-i-preserved
loop-i-preserved c =
    let xs = c.args.sections.now in
    let i = c.loop-i.i in
    let x = c.index-sections-i.result in
    elim c.if-is_binary.branch [
      | then-is_binary w ↦
          (let b = sym c.is_binary.ensures ∙ w.if-is_binary.true in
          record {
            in_range = omega arith;
            tail = rw w.start-is (tail_cut xs i x c.loop-i-test.true c.index-sections-i.is b);
          })
      | else-is_binary w ↦
          (let b = sym c.is_binary.ensures ∙ w.if-is_binary.false in
          record {
            in_range = omega arith;
            tail = rw w.start-is (tail_more xs i c.loop-i.start x c.loop-i-test.true c.index-sections-i.is c.loop-i.invariant.in_range b c.loop-i.invariant.tail);
          })
    ]
