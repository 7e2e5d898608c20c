use Rattle.std.proofs.Common.{◌≡◌, List, ◌∙◌, ap, ap₂, take, take_all, arith}
use Rattle.scm_cells.specs.declared.style.Style.{Style}
use Rattle.scm_front_paint.specs.declared.runs.Run.{Run}
use Rattle.scm_front_paint.specs.Syntax.{in_run, with_runs}
use Rattle.scm_front_paint.proofs.SyntaxLemmas.{one-run}
use Rattle.scm_front_paint.proofs.runs.with_runs.Goals as goal

pub loop-run-preserved : goal.loop-run-preserved
loop-run-preserved c =
    c.in_run-style.ensures
    ∙ ap₂ (λ (run : Run) (style : Style). in_run run c.args.column style) c.run-item.is c.loop-run.invariant
    ∙ one-run c.args.runs.now c.loop-run.run-index c.run-item.result c.args.column c.args.style (omega arith)

pub returns : goal.returns
returns c =
    let all : take c.loop-run.run-index c.args.runs.now ≡ c.args.runs.now = take_all c.loop-run.run-index c.args.runs.now (omega arith) in
    c.loop-run.invariant ∙ ap (λ (runs : List Run). with_runs runs c.args.column c.args.style) all
