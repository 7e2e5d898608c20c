use Rattle.std.proofs.Common.{rules, List, ap, ◌∙◌}
use Rattle.std.specs.Prelude.{not}
use Rattle.std.proofs.lemmas.Fn.{filter_same}
use Rattle.scm_front_items.specs.declared.runs.Run.{Run}
use Rattle.scm_front_items.specs.Steps.{changed_runs, is_as_run}
use Rattle.scm_front_items.proofs.steps.changed_runs.Goals as goal

pub returns : goal.returns
returns c =
    c.from.ensures
    ∙ filter_same _ (λ (r : Run). not (is_as_run c.args.files.now r)) _ (λ x b f' k. search rules) _ _ c.retain.ensures.filtered
    ∙ ap (λ (list : List Run). changed_runs c.args.files.now list) c.into_inner-runs.ensures
