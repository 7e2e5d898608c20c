use Rattle.std.proofs.Common.{◌<◌, ◌∙◌, length, arith}
use Rattle.std.proofs.lemmas.List.{length-set}
use Rattle.scm_terminal.specs.Style.{plain_style}
use Rattle.scm_record.proofs.PaintedLemmas.{fill-more, fill-keeps}
use Rattle.scm_record.proofs.live.painted.fill_run.Goals as goal

pub places-preserved : goal.places-preserved
places-preserved c =
    let styles = c.places.styles in
    let i = c.places.place in
    let held = c.places.invariant in
    let low = held.low in
    let long = held.long in
    let within : i < length styles = omega (arith, c.requires.end) in
    let set_long = length-set styles i c.args.style in
    record {
      low = omega arith;
      high = omega arith;
      long = omega arith;
      before = λ k h. fill-keeps styles c.args.from i c.args.style plain_style low k h ∙ held.before k h;
      within = λ k from h. fill-more styles c.args.from i c.args.style plain_style within held.within k from h;
    }
