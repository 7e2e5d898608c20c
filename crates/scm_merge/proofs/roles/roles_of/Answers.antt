use Rattle.std.proofs.Common.{◌+◌, ◌++◌, List, ap, drop, sym, ◌∙◌}
use Rattle.std.proofs.Math.ListN.{drop_of_length-le}
use Rattle.scm_types.specs.declared.section.Section.{Section}
use Rattle.scm_merge.specs.Roles.{roles_from}
use Rattle.scm_merge.proofs.MarkingLemmas.{drop-more}
use Rattle.scm_merge.proofs.roles.roles_of.Goals as goal

pub loop-section-preserved : goal.loop-section-preserved
loop-section-preserved c =
    let ss = c.args.sections.now in
    let k = c.loop-section.section-index in
    let begun = c.loop-section.begun in
    record {
      roles = c.in_ok-begun.ensures.goes_on (drop (k + 1) ss)
          ∙ ap (λ (rest : List Section). c.loop-section.roles.items ++ roles_from begun.seen begun.is_taken rest) (sym (drop-more ss k c.section-item.result c.loop-section-test.true c.section-item.is))
          ∙ c.loop-section.invariant.roles;
      seen_small = c.in_ok-begun.ensures.seen_small;
    }

pub returns : goal.returns
returns c =
    let begun = c.loop-section.begun in
    c.in_ok-push_settled.ensures
    ∙ ap (λ (rest : List Section). c.loop-section.roles.items ++ roles_from begun.seen begun.is_taken rest) (sym (drop_of_length-le c.args.sections.now c.loop-section-test.false))
    ∙ c.loop-section.invariant.roles
