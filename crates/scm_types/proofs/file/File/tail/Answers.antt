use Rattle.std.proofs.Common.{arith, refl, sym, ◌∙◌}
use Rattle.scm_types.proofs.SplitLemmas.{tail_more, tail_cut, binary_new, binary_stays}
use Rattle.scm_types.proofs.file.File.tail.Goals as goal
use Rattle.scm_types.proofs.file.File.tail.Goals.{then-is_binary, else-is_binary}

pub loop-i-preserved : goal.loop-i-preserved
loop-i-preserved c =
    let xs = c.as_slice-sections.result.now in
    let i = c.loop-i.i in
    let x = c.index-sections-i.result in
    elim c.if-is_binary.branch [
      | then-is_binary w ↦
          (let b = sym c.is_binary.ensures ∙ w.if-is_binary.true in
          record {
            in_range = omega arith;
            binary = rw (w.binary-is, binary_new xs i x c.loop-i-test.true c.index-sections-i.is b) refl;
            tail = rw w.start-is (tail_cut xs i x c.loop-i-test.true c.index-sections-i.is b);
          })
      | else-is_binary w ↦
          (let b = sym c.is_binary.ensures ∙ w.if-is_binary.false in
          record {
            in_range = omega arith;
            binary = rw (w.binary-is, binary_stays xs i x c.loop-i-test.true c.index-sections-i.is b) c.loop-i.invariant.binary;
            tail = rw w.start-is (tail_more xs i c.loop-i.start x c.loop-i-test.true c.index-sections-i.is c.loop-i.invariant.in_range b c.loop-i.invariant.tail);
          })
    ]
