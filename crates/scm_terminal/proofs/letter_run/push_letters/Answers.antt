use Rattle.std.proofs.Common.{◌++◌, ◌∙◌, ap, string_bytes, arith}
use Rattle.scm_terminal.proofs.LetterRunLemmas.{none-pushed, one-pushed}
use Rattle.scm_terminal.proofs.letter_run.push_letters.Goals as goal

pub letters-init : goal.letters-init
letters-init c = record {
  low = omega arith;
  high = c.requires.from;
  pushed = none-pushed c.args.pass c.args.pen.now c.args.cells.now c.args.from (string_bytes c.args.text.now);
}

pub letters-preserved : goal.letters-preserved
letters-preserved c =
    let held = c.letters.invariant in
    let low = held.low in
    let before = c.letters-test.true in
    record {
      low = omega arith;
      high = omega arith;
      pushed = one-pushed c.args.pass c.args.pen.now c.args.cells.now c.args.from c.letters.end (string_bytes c.args.text.now) (string_bytes c.letters.text) _ c.index-cells-end.result c.in-Some.byte low before c.index-cells-end.is c.in-Some.ensures (c.in_ok-push-in-Some.ensures.bytes ∙ ap (λ t. string_bytes c.letters.text ++ t) (c.in_ok-push-in-Some.ensures.ascii c.in-Some.ensures.ascii)) held.pushed;
    }
