use Rattle.std.proofs.Common.{arith, length}
use Rattle.scm_diff.proofs.PairLemmas.{merge-added, merge-all, merge-pair, merge-removed}
use Rattle.scm_diff.proofs.merge.merge_by.Goals as goal
use Rattle.scm_diff.proofs.merge.merge_by.Goals.{in-Some+in_ok-push_lines+in_ok-push_line+in_ok-push_line-2, in_default+in_ok-push_line-3}

pub loop-i-preserved : goal.loop-i-preserved
loop-i-preserved c =
    let r = c.args.removed.now in
    let a = c.args.added.now in
    let i = c.loop-i.i in
    let next = c.loop-i.next in
    let x = c.index-removed-i.result in
    let ls = c.loop-i.lines.items in
    elim c.match-partner_of.branch [
      | in-Some+in_ok-push_lines+in_ok-push_line+in_ok-push_line-2 w ↦
          (let j = w.in-Some.j in
          let half = merge-added r a i next j ls w.push_lines.new.lines.items c.loop-i.invariant.merged w.in-Some.ensures.some.0 w.in_ok-push_lines.ensures in
          record {
            merged = rw (w.lines-is, w.next-is) (merge-pair r a i j x w.index-added-j.result w.push_lines.new.lines.items w.push_line.new.lines.items w.push_line-in-Some.new.lines.items half c.loop-i-test.true w.in-Some.ensures.some.1 c.index-removed-i.is w.index-added-j.is w.in_ok-push_line.ensures w.in_ok-push_line-2.ensures);
            within = let h = w.in-Some.ensures.some.1 in omega arith;
          })
      | in_default+in_ok-push_line-3 w ↦
          record {
            merged = rw (w.lines-is, w.next-is) (merge-removed r a i next x ls w.push_line-in_default.new.lines.items c.loop-i.invariant.merged c.loop-i-test.true c.index-removed-i.is w.in_ok-push_line-3.ensures);
            within = omega arith;
          }
    ]

pub returns : goal.returns
returns c =
    let r = c.args.removed.now in
    let a = c.args.added.now in
    let whole = merge-added r a c.loop-i.i c.loop-i.next (length a) c.loop-i.lines.items c.push_lines-2.new.lines.items c.loop-i.invariant.merged c.loop-i.invariant.within c.in_ok-push_lines-2.ensures in
    merge-all r a c.loop-i.i (length a) c.push_lines-2.new.lines.items whole c.loop-i-test.false (omega arith) c.requires
