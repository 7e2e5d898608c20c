use Rattle.std.proofs.Common.{List, ◌++◌, sym, ap, ◌∙◌}
use Rattle.std.proofs.lemmas.Result.{on_ok_weaker}
use Rattle.scm_front_paint.specs.declared.labels.Label.{Label}
use Rattle.scm_front_paint.specs.Labels.{with_label}
use Rattle.scm_front_paint.proofs.FoundLemmas.{put-first, put-second}
use Rattle.scm_front_paint.proofs.section_labels.SectionLabels.set.Goals as goal

pub returns-then-is_own-clause-ok : goal.returns-then-is_own-clause-ok
returns-then-is_own-clause-ok c =
    let own = c.self.inside.own in
    let named = c.self.inside.named in
    on_ok_weaker c.set.result
    (λ e. ap (λ (labels : List Label). labels ++ named) e
    ∙ put-first c.args.label own named (sym c.is_own.ensures ∙ c.if-is_own.true)
    ∙ ap (λ (labels : List Label). with_label c.args.label labels) c.self.view_is)
    c.set.ensures.ok

pub returns-else-is_own-clause-ok : goal.returns-else-is_own-clause-ok
returns-else-is_own-clause-ok c =
    let own = c.self.inside.own in
    let named = c.self.inside.named in
    on_ok_weaker c.set-else-is_own.result
    (λ e. ap (λ (labels : List Label). own ++ labels) e
    ∙ put-second c.args.label own named (sym c.is_own.ensures ∙ c.if-is_own.false)
    ∙ ap (λ (labels : List Label). with_label c.args.label labels) c.self.view_is)
    c.set-else-is_own.ensures.ok
