use Rattle.std.proofs.Common.{◌≡◌, List, ◌∙◌, ap, get_or, take, take_all, arith}
use Rattle.scm_terminal.specs.Style.{plain_style}
use Rattle.scm_front_paint.specs.declared.restyling.Effect.TheVariants.{SetOff}
use Rattle.scm_front_paint.specs.declared.columns.Columns.{Columns}
use Rattle.scm_front_paint.specs.Restyling.{style_after}
use Rattle.scm_front_paint.specs.Words.{with_words}
use Rattle.scm_front_paint.proofs.ShownLemmas.{set_off-more}
use Rattle.scm_front_paint.proofs.restyling.set_off_words.Goals as goal

pub loop-run-preserved : goal.loop-run-preserved
loop-run-preserved c =
    let held = c.loop-run.invariant in
    let long = held.long in
    let made = c.restyle_run.ensures in
    let made_long = made.length in
    record {
      long = omega arith;
      each = λ k within.
          made.each k (omega arith)
          ∙ ap (style_after SetOff _ _ k) (held.each k within)
          ∙ set_off-more c.args.columns.now c.loop-run.run-index _ k (get_or c.args.styles.now k plain_style) (omega arith);
    }

pub returns : goal.returns
returns c =
    let held = c.loop-run.invariant in
    let all : take c.loop-run.run-index c.args.columns.now ≡ c.args.columns.now = take_all c.loop-run.run-index c.args.columns.now (omega arith) in
    record {
      length = held.long;
      each = λ k within. held.each k within ∙ ap (λ (cs : List Columns). with_words cs k (get_or c.args.styles.now k plain_style)) all;
    }
