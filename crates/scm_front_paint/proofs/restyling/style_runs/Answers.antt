use Rattle.std.proofs.Common.{◌≡◌, List, ◌∙◌, ap, get_or, take, take_all, arith}
use Rattle.scm_terminal.specs.Style.{plain_style}
use Rattle.scm_front_paint.specs.declared.restyling.Effect.TheVariants.{InSyntax}
use Rattle.scm_front_paint.specs.declared.runs.Run.{Run}
use Rattle.scm_front_paint.specs.Restyling.{style_after}
use Rattle.scm_front_paint.specs.Syntax.{in_run, with_runs}
use Rattle.scm_front_paint.proofs.SyntaxLemmas.{one-run}
use Rattle.scm_front_paint.proofs.restyling.style_runs.Goals as goal

pub loop-run-preserved : goal.loop-run-preserved
loop-run-preserved c =
    let held = c.loop-run.invariant in
    let long = held.long in
    let made = c.restyle_run.ensures in
    let made_long = made.length in
    let run = c.run-item.result in
    record {
      long = omega arith;
      each = λ k within.
          made.each k (omega arith)
          ∙ ap (style_after (InSyntax run.style) run.columns.start run.columns.end k) (held.each k within)
          ∙ ap (λ (r : Run). in_run r k (with_runs (take c.loop-run.run-index c.args.runs.now) k (get_or c.args.styles.now k plain_style))) c.run-item.is
          ∙ one-run c.args.runs.now c.loop-run.run-index run k (get_or c.args.styles.now k plain_style) (omega arith);
    }

pub returns : goal.returns
returns c =
    let held = c.loop-run.invariant in
    let all : take c.loop-run.run-index c.args.runs.now ≡ c.args.runs.now = take_all c.loop-run.run-index c.args.runs.now (omega arith) in
    record {
      length = held.long;
      each = λ k within. held.each k within ∙ ap (λ (runs : List Run). with_runs runs k (get_or c.args.styles.now k plain_style)) all;
    }
