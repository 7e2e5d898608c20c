use Rattle.std.proofs.Common.{List, ◌++◌, subst}
use Rattle.std.proofs.lemmas.Result.{on_err_weaker, on_ok_weaker}
use Rattle.scm_front_paint.specs.declared.labels.Label.{Label}
use Rattle.scm_front_paint.specs.Headings.{AreNamed, AreSomeNamed}
use Rattle.scm_front_paint.proofs.FoundLemmas.{are-named, are-some-named}
use Rattle.scm_front_paint.proofs.section_labels.SectionLabels.name.Goals as goal

pub returns-clause-ok : goal.returns-clause-ok
returns-clause-ok c =
    let files = c.args.files.now in
    let own = c.self.inside.own in
    let new = c.push_labels.new.labels in
    on_ok_weaker c.push_labels.result
    (λ e. subst (λ (old : List Label). AreNamed files old (own ++ new)) c.self.view_is (are-named files own c.self.inside.named new e))
    c.push_labels.ensures.ok

pub returns-clause-some : goal.returns-clause-some
returns-clause-some c =
    let files = c.args.files.now in
    let own = c.self.inside.own in
    let new = c.push_labels.new.labels in
    on_err_weaker c.push_labels.result
    (λ g. subst (λ (old : List Label). AreSomeNamed files old (own ++ new)) c.self.view_is (are-some-named files own c.self.inside.named new g))
    c.push_labels.ensures.some
