use Rattle.std.proofs.Common.{arith}
use Rattle.std.proofs.lemmas.Fmt.{decimal_nonempty}
use Rattle.scm_document.proofs.WidthLemmas.{decimal-short, decimal-last, decimal-more}
use Rattle.scm_strips.proofs.widths.decimal_width.Goals as goal

pub overflow_add-count : goal.overflow_add-count
overflow_add-count c =
    let most = decimal-short c.args.number c.ranges.number.fits in
    omega (arith, most, c.loop-rest.invariant.count, decimal_nonempty c.loop-rest.rest c.loop-rest.invariant.fits)

pub loop-rest-preserved : goal.loop-rest-preserved
loop-rest-preserved c =
    let next = decimal-more c.loop-rest.rest (omega (arith, c.loop-rest-test.true)) c.loop-rest.invariant.fits in
    record { fits = omega (arith, c.loop-rest.invariant.fits); count = omega (arith, next, c.loop-rest.invariant.count) }

pub returns-clause-value : goal.returns-clause-value
returns-clause-value c =
    let last = decimal-last c.loop-rest.rest (omega (arith, c.loop-rest-test.false)) in
    omega (arith, last, c.loop-rest.invariant.count)

pub returns-clause-most : goal.returns-clause-most
returns-clause-most c =
    let last = decimal-last c.loop-rest.rest (omega (arith, c.loop-rest-test.false)) in
    omega (arith, last, c.loop-rest.invariant.count, decimal-short c.args.number c.ranges.number.fits)
