use Rattle.std.proofs.Common.{◌<◌, ◌-◌, string_bytes, arith, length, refl}
use Rattle.scm_terminal.proofs.LetterRunLemmas.{as-before, behind-pushed}
use Rattle.scm_terminal.proofs.PushLemmas.{pass-far, pass-more, pass-all}
use Rattle.scm_terminal.proofs.row.push_pass.Goals as goal

pub places-preserved-then-column-end : goal.places-preserved-then-column-end
places-preserved-then-column-end c =
    let column = c.places.column in
    let end = c.end_of_passed-end.result in
    let ahead : column < end = c.if-column-end.true in
    pass-far (length c.args.cells.now) c.args.pass c.args.row column end ((end - column) - 1) c.places.pen c.past-pen.result c.places.blank c.args.cells.now _ _
    (omega arith) c.end_of_passed-end.ensures.high c.past-pen.ensures c.end_of_passed-end.ensures.passed c.places.invariant

pub places-preserved-then-column-end-2 : goal.places-preserved-then-column-end-2
places-preserved-then-column-end-2 c =
    behind-pushed c.args.pass c.places.pen c.args.cells.now c.places.column c.in_ok-end.end (length c.args.cells.now) c.args.row c.places.blank (string_bytes c.places.text) (string_bytes c.push_letters.new.text) _
    c.if-column-end-2.true c.in_ok-end.ensures.pushed c.places.invariant

pub places-preserved : goal.places-preserved
places-preserved c =
    let low = c.in_ok-end.ensures.low in
    let here = c.if-column-end-2.false in
    let held = as-before c.args.pass c.places.pen c.args.cells.now c.places.column c.in_ok-end.end (length c.args.cells.now) c.args.row c.places.blank (string_bytes c.places.text) (string_bytes c.push_letters.new.text) _
    (omega arith) c.in_ok-end.ensures.pushed c.places.invariant in
    pass-more (length c.args.cells.now) c.args.pass c.args.row c.places.column c.places.pen c.in_ok-after.after.pen c.places.blank c.in_ok-after.after.blank c.args.cells.now c.index-cells-column.result _ _ _ _ c.places-test.true c.index-cells-column.is
    refl c.in_ok-after.ensures.blank c.in_ok-after.ensures.pen c.in_ok-after.ensures.bytes held

pub returns : goal.returns
returns c = let past = c.places-test.false in pass-all (length c.args.cells.now) c.args.pass c.args.row c.places.column c.places.pen c.places.blank c.args.cells.now _ _ (omega arith) c.places.invariant
