use Rattle.std.proofs.Common.{◌<◌, ◌∙◌, length, get_or, refl, arith}
use Rattle.std.proofs.lemmas.List.{get_or_default, length-set}
use Rattle.scm_terminal.specs.Style.{plain_style}
use Rattle.scm_front_paint.proofs.ShownLemmas.{no-place, one-more, run-done}
use Rattle.scm_front_paint.proofs.restyling.restyle_run.Goals as goal

pub places-init : goal.places-init
places-init c = record {
  low = omega arith;
  high = omega arith;
  long = refl;
  known = c.known_of-known.ensures;
  each = λ k. no-place c.args.effect.now c.args.from k (get_or c.args.styles.now k plain_style);
}

pub places-preserved : goal.places-preserved
places-preserved c =
    let held = c.places.invariant in
    let styles = c.places.styles in
    let i = c.places.column in
    let made = c.known_after-known in
    let before = c.places-test.true in
    let within : i < length styles = omega arith in
    let set_long = length-set styles i c.last_of.result in
    let long = held.long in
    let low = held.low in
    record {
      low = omega arith;
      high = omega arith;
      long = omega arith;
      known = made.ensures.restyled;
      each = one-more c.args.effect.now c.args.styles.now styles c.args.from i made.result.first.from c.last_of.result low within held.each
          (made.ensures.from ∙ c.index-styles-column.is ∙ get_or_default styles i _ plain_style within) (c.last_of.ensures ∙ made.ensures.restyled.0);
    }

pub returns-clause-each : goal.returns-clause-each
returns-clause-each c = λ k within.
    let held = c.places.invariant in
    let high = held.high in
    let past = c.places-test.false in
    held.each k ∙ run-done c.args.effect.now c.args.from c.places.column c.args.end k (get_or c.args.styles.now k plain_style) (λ low less. omega arith) (λ low less. omega arith)
