use Rattle.std.proofs.Common.{◌≡◌, max, arith}
use Rattle.scm_merge.proofs.RegionLemmas.{reaches-no-further}
use Rattle.scm_merge.proofs.regions.absorbed.Goals as goal

pub returns-then-is_due-clause-needed : goal.returns-then-is_due-clause-needed
returns-then-is_due-clause-needed c = λ place l x y.
    let end = c.args.growth.end in
    let reached = c.passed-cursor.result.base in
    let e : c.max.result ≡ max end reached = omega (arith, c.max.ensures) in
    let a = c.requires.needed place l x y in
    reaches-no-further end reached c.max.result place e a (c.passed-cursor.ensures.needed place a x)

pub returns-then-is_due-2-clause-needed : goal.returns-then-is_due-2-clause-needed
returns-then-is_due-2-clause-needed c = λ place l x y.
    let end = c.args.growth.end in
    let reached = c.passed-cursor-then-is_due-2.result.base in
    let e : c.max-then-is_due-2.result ≡ max end reached = omega (arith, c.max-then-is_due-2.ensures) in
    let a = c.requires.needed place l x y in
    reaches-no-further end reached c.max-then-is_due-2.result place e a (c.passed-cursor-then-is_due-2.ensures.needed place a y)
